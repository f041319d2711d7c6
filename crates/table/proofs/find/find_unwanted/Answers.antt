use Rattle.std.proofs.Common.{not, rules, tests}
use Rattle.std.proofs.lemmas.Iterator.{YieldsList-from_slice}
use Rattle.ledger.specs.Places.{free, is_wanted}
use Rattle.table.proofs.Finding.{finds_from_position}
use Rattle.table.proofs.find.find_unwanted.Goals as goal

pub returns : goal.returns
returns g c = record { answer = finds_from_position free (λ p. not (is_wanted c.args.reports.now p.state)) _ _ _ c.position.ensures.ran (YieldsList-from_slice c.args.places.now cc) (λ x b q k. search (rules, tests)) }
