-- What holds of the table of every store that came from an opening: opening gives it, every call keeps it, granted or refused.
-- An entry names the only place, or none, that has what it says; so what a call does at these places it does wherever it should.
use Rattle.std.specs.Prelude.{◌≡◌, ℕ, ◌<◌, ◌≤◌, true, ◌⊎◌, List, [], ◌∷◌, map, length, Some, None, Option, ◌≢◌}
use Rattle.std.specs.List.{flat_map, AllByRecursion}
use Rattle.ledger.specs.declared.place.Place.{Place}
use Rattle.ledger.specs.declared.place.PlaceState.{PlaceState}
use Rattle.ledger.specs.Limits.{last_stamp, row_entries}
use Rattle.ledger.specs.Places.{key_of, is_draft_of, is_current}
use Rattle.ledger.specs.Control.{Job}
use Rattle.table.specs.declared.row.HeldKey.{HeldKey}
use Rattle.table.specs.declared.row.Row.{Row}
use Rattle.table.specs.Lists.{with_ticket}
use Rattle.table.specs.Rows.{entries_of}
use Rattle.table.specs.Views.{View, at, report_number, row_number}
use Rattle.bridge.specs.States.{key_held, jobs_in}

-- no two of a list are the same
abbrev pub Apart : {X : Type 0} → List X → Type 0
Apart [] = Unit {0}
Apart (x ∷ xs) = AllByRecursion (λ y. x ≢ y) xs × Apart xs

-- some element has the property
abbrev pub SomeOf : {X : Type 0} → (X → Type 0) → List X → Type 0
SomeOf P [] = ⊥
SomeOf P (x ∷ xs) = P x ⊎ SomeOf P xs

-- running numbers that were given out: no two the same, all below the next one
abbrev pub GivenOut : ℕ → List ℕ → Type 0
GivenOut next tickets = Apart tickets × AllByRecursion (λ t. t < next) tickets

-- a draft of the job at the key
abbrev pub DraftOf : {K : Type 0} → ℕ → K → PlaceState K → Type 0
DraftOf job key p = (is_draft_of job p ≡ true) × (key_of p ≡ Some key)

-- the current version of the key
abbrev pub CurrentOf : {K : Type 0} → K → PlaceState K → Type 0
CurrentOf key p = (is_current p ≡ true) × (key_of p ≡ Some key)

-- the number of the only place that has the property, or none where no place has it
abbrev pub Names : {K : Type 0} → (PlaceState K → Type 0) → List (Place K) → Option ℕ → Type 0
Names P places None = (n : ℕ) → P (at places n) → ⊥
Names P places (Some n) = P (at places n) × ((m : ℕ) → P (at places m) → m ≡ n)

-- an entry of the job holds a key, and names the job's draft at the key and the key's current version
pub record EntryFits {K : Type 0} (places : List (Place K)) (job : ℕ) (e : HeldKey) : Type 0 where
  pub key : K
  pub holds : key_held places e ≡ Some key
  pub draft : Names (DraftOf job key) places e.draft
  pub current : Names (CurrentOf key) places e.current

-- each used entry of a row fits the places
pub record RowFits {K : Type 0} (places : List (Place K)) (row : Row) : Type 0 where
  pub entries : AllByRecursion (EntryFits places row.ticket) (entries_of row)
  pub used : row.used ≤ row_entries
  pub long : length row.entries ≡ row_entries

-- a row, if there is one, with an entry for the draft at the place
abbrev pub Notes : ℕ → Option Row → Type 0
Notes n None = ⊥
Notes n (Some row) = SomeOf (λ e. e.draft ≡ Some n) (entries_of row)

-- all keys that some jobs hold
abbrev pub all_keys : {K : Type 0} → List (Job K) → List K
all_keys = flat_map (λ j. j.keys)

-- the rows of the open jobs against the places
pub record Rows {K : Type 0} (places : List (Place K)) (jobs : List Row) : Type 0 where
  pub fit : AllByRecursion (RowFits places) jobs
  -- no key is held twice
  pub apart : Apart (all_keys (jobs_in places jobs))
  -- each draft is noted in its job's row
  pub noted : (n t : ℕ) (k : K) → DraftOf t k (at places n) → Notes n (with_ticket row_number t jobs)

pub record Sound {K : Type 0} (v : View K) : Type 0 where
  pub stamp : v.stamp ≤ last_stamp
  pub reports : GivenOut v.next (map report_number v.reports)
  pub jobs : GivenOut v.next (map row_number v.jobs)
  pub rows : Rows v.places v.jobs
