use Rattle.std.proofs.Common.{◌≡◌, ◌++◌, map, take, drop}
use Rattle.engine.specs.Agreement.{Agree, AgreeBut}
use Rattle.ledger.specs.Steps.{place_aged}
use Rattle.table.specs.Ageing.{within}
use Rattle.engine.proofs.age.age_places.Given as goal

abbrev pub invariant-loop-n : goal.invariant-loop-n
invariant-loop-n g l = record {
  aged : l.places ≡ map (place_aged (λ finish. within l.limit finish) l.reports) (take l.n l.initial.places) ++ drop l.n l.initial.places;
  keeps : ∥ Agree (g.I.Index.slots l.initial.index) l.initial.places ∥₁ → ∥ AgreeBut l.lost (g.I.Index.slots l.index) l.places ∥₁;
}
