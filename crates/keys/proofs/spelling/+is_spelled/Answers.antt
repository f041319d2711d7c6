use Rattle.keys.proofs.VehicleDigits.{last_digit, no_digits}
use Rattle.std.proofs.Common.{rules}
use Rattle.keys.proofs.spelling.+is_spelled.Goals as goal

pub returns-then-characters-eq0 : goal.returns-then-characters-eq0
returns-then-characters-eq0 t c = search (rules, no_digits c.args.characters c.args.number c.if-characters-eq0.true)

pub returns-then-is_vehicle_digit : goal.returns-then-is_vehicle_digit
returns-then-is_vehicle_digit t c = search (rules, last_digit c.args.characters c.args.number c.if-characters-eq0.false)

pub returns-else-is_vehicle_digit : goal.returns-else-is_vehicle_digit
returns-else-is_vehicle_digit t c = search (rules, last_digit c.args.characters c.args.number c.if-characters-eq0.false)
