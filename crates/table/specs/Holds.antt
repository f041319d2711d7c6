-- Which job holds which key. An entry holds the key that its place carries: the place of its draft, else of the current version.
use Rattle.std.specs.Prelude.{ℕ, Bool, false, not, ◌&&◌, List, Some, None, Option, ◌==◌}
use Rattle.std.specs.declared.cmp.Ordering.{Ordering}
use Rattle.ledger.specs.Places.{carries}
use Rattle.ledger.specs.Words.{any, first, when}
use Rattle.ledger.specs.declared.place.Place.{Place}
use Rattle.table.specs.Lists.{position}
use Rattle.table.specs.Rows.{entries_of, place_of, draft_in}
use Rattle.table.specs.Views.{at}
use Rattle.table.specs.declared.row.HeldKey.{HeldKey}
use Rattle.table.specs.declared.row.Row.{Row}

module _ {K : Type 0} (order : K → K → Ordering) (places : List (Place K)) (key : K) where
  -- is there the place, and does it carry the key?
  abbrev pub carries_at : Option ℕ → Bool
  carries_at None = false
  carries_at (Some n) = carries order key (at places n)

  -- does the entry hold the key?
  abbrev pub holds_key : HeldKey → Bool
  holds_key e = carries_at (place_of e)

  -- the position of the entry for the key among those in use
  abbrev pub entry_at : Row → Option ℕ
  entry_at row = position holds_key (entries_of row)

  -- does the job of the row hold the key?
  abbrev pub row_holds : Row → Bool
  row_holds row = any holds_key (entries_of row)

  -- the running number of an open job other than this one that holds the key
  abbrev pub other_holder : ℕ → List Row → Option ℕ
  other_holder t = first (λ row. when (not (row.ticket == t) && row_holds row) row.ticket)

  -- the place of the draft at the key of the row's job
  abbrev pub draft_at : Row → Option ℕ
  draft_at row = draft_in (entries_of row) (entry_at row)
