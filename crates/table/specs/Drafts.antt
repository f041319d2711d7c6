-- Puts and removes: the place that a draft takes, and the table afterwards.
-- Which of several free places a new draft takes is left open.
use Rattle.std.specs.Prelude.{◌≡◌, ℕ, ◌<◌, true, List, [], ◌∷◌, length, Some, None, Option, slice_index_or, slice_set}
use Rattle.std.specs.declared.cmp.Ordering.{Ordering}
use Rattle.keys.specs.Refusals.{Code}
use Rattle.ledger.specs.Places.{after, free, is_free}
use Rattle.ledger.specs.declared.call.TicketId.{TicketId}
use Rattle.ledger.specs.declared.place.Place.{Place}
use Rattle.ledger.specs.declared.place.PlaceEvent.{PlaceEvent}
use Rattle.ledger.specs.declared.place.PlaceEvent.TheVariants.{Put, Remove}
use Rattle.table.specs.Ageing.{ready}
use Rattle.table.specs.Checks.{is_current_of, job_open, not_held, place_left, row_left, row_of, shelf_fits, something_there}
use Rattle.table.specs.Holds.{draft_at, entry_at}
use Rattle.table.specs.Reads.{FindsPlace}
use Rattle.table.specs.Rows.{noted}
use Rattle.table.specs.Views.{View, at, with_places, with_row}
use Rattle.table.specs.declared.row.Row.{Row}

-- what the event makes of one of the places
abbrev pub turned : {K : Type 0} → PlaceEvent K → ℕ → List (Place K) → List (Place K)
turned event n places = slice_set places n (after (slice_index_or places n free) event)

-- a place that a new draft may take
abbrev pub Room : {K : Type 0} → View K → ℕ → Type 0
Room v n = (n < length v.places) × (is_free (at (ready v) n) ≡ true)

-- the place of a job's draft at the key, and the table once it is there: the one that it has, or a new one, which is noted in its row
pub data Placed {K : Type 0} (order : K → K → Ordering) (v w : View K) (row : Row) (key : K) (n : ℕ) : Type 0 where
  again : draft_at order v.places key row ≡ Some n → w ≡ v → Placed order v w row key n
  newly : (current : Option ℕ) → draft_at order v.places key row ≡ None → FindsPlace (is_current_of order key) v.places current → Room v n
      → w ≡ with_row (with_places v (ready v)) (noted (entry_at order v.places key row) (record { draft = Some n; current = current }) row)
      → Placed order v w row key n

module _ {K : Type 0} (order : K → K → Ordering) where
  abbrev pub put_checks : View K → ℕ → TicketId → K → List (Option Code)
  put_checks v shelf t key =
      job_open v t ∷ shelf_fits v shelf ∷ not_held order v t key ∷ row_left order v t key ∷ place_left order v t key ∷ []

  abbrev pub remove_checks : View K → TicketId → K → List (Option Code)
  remove_checks v t key =
      job_open v t ∷ not_held order v t key ∷ something_there order v t key ∷ row_left order v t key ∷ place_left order v t key ∷ []

  -- the event happens at the place of the job's draft
  abbrev pub Drafts : View K → View K → TicketId → K → PlaceEvent K → ℕ → Type 0
  Drafts v w t key event n = (u : View K) × Placed order v u (row_of v t) key n × (w ≡ with_places u (turned event n u.places))

  -- what a granted put leaves of the table and the shelf
  abbrev pub Puts : {R : Type 0} → View K → View K → List R → List R → TicketId → K → R → Type 0
  Puts v w shelf shelf' t key item = (n : ℕ) × Drafts v w t key (Put key t.number) n × (shelf' ≡ slice_set shelf n item)

  -- what a granted remove leaves of the table
  abbrev pub Removes : View K → View K → TicketId → K → Type 0
  Removes v w t key = (n : ℕ) × Drafts v w t key (Remove key t.number) n
