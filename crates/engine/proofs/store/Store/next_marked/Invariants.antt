use Rattle.std.proofs.Common.{◌≡◌, ℕ, Option}
use Rattle.engine.specs.Agreement.{Agree}
use Rattle.engine.specs.Walking.{Marks}
use Rattle.index.specs.Ordered.{least}
use Rattle.table.specs.Reads.{is_visible}
use Rattle.engine.proofs.Cursor.{Cursor, left_of}
use Rattle.engine.proofs.store.Store.next_marked.Given as goal

-- the walk has come to the least key beyond some key, and has passed over no visible one
abbrev pub invariant-loop-key : goal.invariant-loop-key
invariant-loop-key g l = record {
  come : (from : Option g.row.I-Key.Denot) × (l.at ≡ least g.I.Key.Key.order from (g.I.Index.slots l.self.index));
  cursor : (stamp : ℕ) → Agree (g.I.Index.slots l.self.index) l.self.table.places.items →
      Marks g.I.Key.Key.order (g.I.Index.slots l.self.index) l.self.table.places.items stamp l.marks →
      Cursor g.I.Key.Key.order (g.I.Index.slots l.self.index) (is_visible g.I.Key.Key.order l.self.table.places.items stamp) l.fn.after l.at;
}

abbrev pub decreases-loop-key : goal.decreases-loop-key
decreases-loop-key g l = left_of g.I.Key.Key.order (g.I.Index.slots l.self.index) l.at
