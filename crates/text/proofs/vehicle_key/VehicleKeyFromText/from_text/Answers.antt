use Rattle.std.proofs.Common.{◌≡◌, Some, sym, ap, ◌∙◌, arith}
use Rattle.std.proofs.lemmas.Grind.{common_steps}
use Rattle.text.specs.VehicleKeys.{key_of, vehicle_key_of}
use Rattle.text.proofs.VehicleTexts.{first_read, key_again, second_read}
use Rattle.text.proofs.vehicle_key.VehicleKeyFromText.from_text.Goals as goal

pub returns-clause-answer : goal.returns-clause-answer
unfolding vehicle_key_of
returns-clause-answer c =
    let told : Some (c.in_ok-number.field-0, c.in_ok-number-2.field-0) ≡ vehicle_key_of c.args.s.now = grind (arith, common_steps, first_read, second_read) in
    sym (key_again _) ∙ ap key_of told
