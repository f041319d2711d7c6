use Rattle.std.proofs.Common.{◌≡◌, length, take}
use Rattle.engine.specs.Walking.{Marks}
use Rattle.engine.specs.Limits.{max_places}
use Rattle.engine.proofs.walk.mark_seen.Given as goal

abbrev pub invariant-loop-place : goal.invariant-loop-place
invariant-loop-place g l =
    (length l.marks ≡ max_places)
    × Marks g.I.Key.Key.order (g.I.Index.slots l.index) (take l.place-index l.places) l.stamp l.marks
