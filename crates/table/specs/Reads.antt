-- What reports and jobs find at a key: the place of the version, and its record on the shelf.
-- A place is told by what it holds, never by which of several it is.
use Rattle.std.specs.Prelude.{◌≡◌, ℕ, Bool, ◌&&◌, List, [], ◌∷◌, Some, None, Option}
use Rattle.std.specs.declared.cmp.Ordering.{Ordering}
use Rattle.keys.specs.Refusals.{Code}
use Rattle.ledger.specs.Laws.{Least}
use Rattle.ledger.specs.Places.{carries, free, is_seen_at}
use Rattle.ledger.specs.Words.{any, beyond, when}
use Rattle.ledger.specs.declared.call.TicketId.{TicketId}
use Rattle.ledger.specs.declared.place.Place.{Place}
use Rattle.ledger.specs.declared.place.PlaceState.{PlaceState}
use Rattle.std.specs.List.{slice_get}
use Rattle.std.specs.Option.{option_map, unwrap_or}
use Rattle.table.specs.Checks.{is_current_of, is_unstamped, job_open, not_held, report_open, row_left_to_look, row_of, shelf_fits}
use Rattle.table.specs.Holds.{draft_at, entry_at}
use Rattle.table.specs.Lists.{Finds}
use Rattle.table.specs.Rows.{noted}
use Rattle.table.specs.Views.{View, at, open_report, with_row}
use Rattle.table.specs.declared.row.Row.{Row}

-- a place that passes the test, or none where no place passes
abbrev pub FindsPlace : {K : Type 0} → (PlaceState K → Bool) → List (Place K) → Option ℕ → Type 0
FindsPlace test = Finds free (λ p. test p.state)

-- the record of the place, if there is a place
abbrev pub record_at : {R : Type 0} → List R → Option ℕ → Option R
record_at shelf None = None
record_at shelf (Some n) = slice_get shelf n

-- the stamp that the report sees; its ticket has been checked where this is used
abbrev pub sight : {K : Type 0} → View K → TicketId → ℕ
sight v t = unwrap_or (option_map (λ r. r.stamp) (open_report v t)) 0

module _ {K : Type 0} where
  abbrev pub read_checks : View K → ℕ → TicketId → List (Option Code)
  read_checks v shelf t = report_open v t ∷ shelf_fits v shelf ∷ []

  abbrev pub walk_checks : View K → TicketId → List (Option Code)
  walk_checks v t = report_open v t ∷ []

module _ {K : Type 0} (order : K → K → Ordering) where
  abbrev pub look_checks : View K → ℕ → TicketId → K → List (Option Code)
  look_checks v shelf t key = job_open v t ∷ shelf_fits v shelf ∷ not_held order v t key ∷ row_left_to_look order v t key ∷ []

  -- is it what a report with the stamp sees at the key?
  abbrev pub is_seen_of : ℕ → K → PlaceState K → Bool
  is_seen_of stamp key p = is_seen_at stamp p && carries order key p

  -- would read answer a record?
  abbrev pub is_visible : List (Place K) → ℕ → K → Bool
  is_visible places stamp key = any (λ p. is_seen_of stamp key p.state) places

  -- what a granted read answers
  abbrev pub Reads : {R : Type 0} → View K → List R → TicketId → K → Option R → Type 0
  Reads v shelf t key answer =
      (n : Option ℕ) × FindsPlace (is_seen_of (sight v t) key) v.places n × (answer ≡ record_at shelf n)

  -- what a granted walk answers: the least key, greater than the given one, for which read would answer a record, or none
  abbrev pub Walks : View K → TicketId → Option K → Option K → Type 0
  Walks v t after answer = Least order (λ key. is_visible v.places (sight v t) key && beyond order after key) answer

  -- the place of the record that a job finds at the key, by that of its draft: its own record, none for its own mark, else the current version
  abbrev pub Sees : List (Place K) → K → Option ℕ → Option ℕ → Type 0
  Sees places key (Some d) n = n ≡ when (is_unstamped (at places d)) d
  Sees places key None n = FindsPlace (is_current_of order key) places n

-- the job holds the key of the place that it found, by a new entry if it has none for it
abbrev pub held : {K : Type 0} → View K → Row → Option ℕ → Option ℕ → View K
held v row (Some i) place = v
held v row None None = v
held v row None (Some n) = with_row v (noted None (record { draft = None; current = Some n }) row)

-- what a granted look answers and leaves
pub record Looks {K R : Type 0} (order : K → K → Ordering) (v w : View K) (shelf : List R) (t : TicketId) (key : K) (answer : Option R) : Type 0 where
  pub place : Option ℕ
  pub sees : Sees order v.places key (draft_at order v.places key (row_of v t)) place
  pub answers : answer ≡ record_at shelf place
  pub after : w ≡ held v (row_of v t) (entry_at order v.places key (row_of v t)) place
