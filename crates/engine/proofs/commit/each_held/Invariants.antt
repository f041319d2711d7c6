use Rattle.std.proofs.Common.{◌≡◌, List, fold, take}
use Rattle.engine.specs.Agreement.{Agree, AgreeBut}
use Rattle.engine.specs.Each.{KeepsEach, Makes}
use Rattle.ledger.specs.declared.place.Place.{Place}
use Rattle.table.specs.declared.row.HeldKey.{HeldKey}
use Rattle.engine.proofs.commit.each_held.Given as goal

abbrev pub invariant-loop-held : goal.invariant-loop-held
invariant-loop-held g l = record {
  folded : (run : List (Place g.row.I-Key.Denot) → HeldKey → List (Place g.row.I-Key.Denot)) → Makes (goal.F-post g l.step) run → l.places ≡ fold run l.initial.places (take l.held-index l.held-items);
  keeps : KeepsEach (goal.F-post g l.step) g.I.Index.slots → ∥ Agree (g.I.Index.slots l.initial.index) l.initial.places ∥₁ → ∥ AgreeBut l.lost (g.I.Index.slots l.index) l.places ∥₁;
}
