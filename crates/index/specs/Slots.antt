-- What an index means: a list of slots, one for each number below the capacity, with the key that has the number or none.
-- What each call answers and leaves is a function of this list alone.
use Rattle.std.specs.Prelude.{◌≡◌, ℕ, zero, suc, List, [], ◌∷◌, replicate, Some, None, Ok, Err, Option, Result, slice_set}
use Rattle.std.specs.declared.cmp.Ordering.{Ordering}
use Rattle.keys.specs.Orders.{ranked}
use Rattle.keys.specs.Refusals.{Code, plain}
use Rattle.std.specs.List.{slice_get}

-- the number has the key
abbrev pub Maps : {K : Type 0} → List (Option K) → ℕ → K → Type 0
Maps slots n key = slice_get slots n ≡ Some (Some key)

-- no key has two numbers
abbrev pub Apart : {K : Type 0} → List (Option K) → Type 0
Apart {K} slots = (m n : ℕ) (key : K) → Maps slots m key → Maps slots n key → m ≡ n

-- slots without a key
abbrev pub empty : {K : Type 0} → ℕ → List (Option K)
empty capacity = replicate capacity None

-- a number found in the slots behind the first one
abbrev pub behind_first : Option ℕ → Option ℕ
behind_first None = None
behind_first (Some n) = Some (suc n)

-- the number of the key, or none
abbrev pub number_of : {K : Type 0} → (K → K → Ordering) → List (Option K) → K → Option ℕ
number_of order [] key = None
number_of order (None ∷ slots) key = behind_first (number_of order slots key)
number_of order (Some k ∷ slots) key =
    ranked (order key k) (behind_first (number_of order slots key)) (Some zero) (behind_first (number_of order slots key))

-- how many keys have a number
abbrev pub count_of : {K : Type 0} → List (Option K) → ℕ
count_of [] = 0
count_of (None ∷ slots) = count_of slots
count_of (Some key ∷ slots) = suc (count_of slots)

-- what add answers, by the slot of the number (none past the capacity) and the number that the key has
abbrev pub add_by : {K : Type 0} → Option (Option K) → Option ℕ → Result (Unit {0}) Code
add_by None found = Err (plain 14)
add_by (Some (Some key)) found = Err (plain 15)
add_by (Some None) (Some n) = Err (plain 16)
add_by (Some None) None = Ok tt

-- what adding the key with the number answers
abbrev pub add_answer : {K : Type 0} → (K → K → Ordering) → List (Option K) → K → ℕ → Result (Unit {0}) Code
add_answer order slots key n = add_by (slice_get slots n) (number_of order slots key)

-- what discard answers, by the slot of the number
abbrev pub discard_by : {K : Type 0} → Option (Option K) → Result (Unit {0}) Code
discard_by None = Err (plain 17)
discard_by (Some None) = Err (plain 17)
discard_by (Some (Some key)) = Ok tt

-- what discarding the number answers
abbrev pub discard_answer : {K : Type 0} → List (Option K) → ℕ → Result (Unit {0}) Code
discard_answer slots n = discard_by (slice_get slots n)

-- the slots at exit: changed where the call was granted, as they were where it was refused
abbrev pub if_granted : {X : Type 0} → Result (Unit {0}) Code → X → X → X
if_granted (Ok u) changed before = changed
if_granted (Err code) changed before = before

-- the slots after the key was added with the number
abbrev pub added : {K : Type 0} → (K → K → Ordering) → List (Option K) → K → ℕ → List (Option K)
added order slots key n = if_granted (add_answer order slots key n) (slice_set slots n (Some key)) slots

-- the slots after the number was discarded
abbrev pub discarded : {K : Type 0} → List (Option K) → ℕ → List (Option K)
discarded slots n = if_granted (discard_answer slots n) (slice_set slots n None) slots
