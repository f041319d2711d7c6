-- What a walk works with: a mark for each number of the index, whether a report sees a version of the number's key.
use Rattle.std.specs.Prelude.{◌≡◌, ℕ, ◌<◌, Bool, true, false, cond, List, length, Some, None, Option, slice_index_or, slice_set}
use Rattle.std.specs.declared.cmp.Ordering.{Ordering}
use Rattle.index.specs.Slots.{Maps, number_of}
use Rattle.ledger.specs.Places.{is_seen_at, key_of}
use Rattle.ledger.specs.declared.place.Place.{Place}
use Rattle.ledger.specs.declared.place.PlaceState.{PlaceState}
use Rattle.table.specs.Reads.{is_visible}

-- the marks with one more, if a number is given
abbrev pub marked : Option ℕ → List Bool → List Bool
marked None marks = marks
marked (Some m) marks = slice_set marks m true

-- the key of the place, if a report with the stamp sees the place
abbrev pub seen_key : {K : Type 0} → ℕ → PlaceState K → Option K
seen_key stamp p = cond (is_seen_at stamp p) (key_of p) None

module _ {K : Type 0} (order : K → K → Ordering) (slots : List (Option K)) where
  -- the number of the key, if there is a key
  abbrev pub number_at : Option K → Option ℕ
  number_at None = None
  number_at (Some key) = number_of order slots key

  -- each mark is right; a number past the marks has none
  abbrev pub Marks : List (Place K) → ℕ → List Bool → Type 0
  Marks places stamp marks = (m : ℕ) (key : K) → Maps slots m key → m < length marks → slice_index_or marks m false ≡ is_visible order places stamp key
