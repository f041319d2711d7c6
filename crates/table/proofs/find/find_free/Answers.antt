use Rattle.std.proofs.Common.{rules, tests}
use Rattle.std.proofs.lemmas.Iterator.{YieldsList-from_slice}
use Rattle.ledger.specs.Places.{free, is_free}
use Rattle.table.proofs.Finding.{finds_from_position}
use Rattle.table.proofs.find.find_free.Goals as goal

pub returns : goal.returns
returns g c = record { answer = finds_from_position free (λ p. is_free p.state) _ _ _ c.position.ensures.ran (YieldsList-from_slice c.args.places.now cc) (λ x b q k. search (rules, tests)) }
