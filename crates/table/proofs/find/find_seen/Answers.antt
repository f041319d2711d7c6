use Rattle.std.proofs.Common.{rules, tests}
use Rattle.std.proofs.lemmas.Iterator.{YieldsList-from_slice}
use Rattle.ledger.specs.Places.{free}
use Rattle.table.proofs.Finding.{finds_from_position}
use Rattle.table.specs.Reads.{is_seen_of}
use Rattle.table.proofs.find.find_seen.Goals as goal

pub returns : goal.returns
returns g c = record { answer = finds_from_position free (λ p. is_seen_of g.K.Key.order c.args.stamp c.args.key p.state) _ _ _ c.position.ensures.ran (YieldsList-from_slice c.args.places.now cc) (λ x b q k. search (rules, tests)) }
