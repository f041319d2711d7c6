-- The index against the places: it maps exactly the keys of the places that are not free.
-- The number of a key is one of the places that carry it; which of several is left open.
use Rattle.std.specs.Prelude.{◌≡◌, ℕ, ◌<◌, ◌≤◌, Bool, false, ◌||◌, List, length, is_ok, Some, None, Option, slice_index_or, slice_set}
use Rattle.std.specs.declared.cmp.Ordering.{Ordering}
use Rattle.index.specs.Slots.{Maps, added, discard_answer, discarded}
use Rattle.ledger.specs.Places.{key_of}
use Rattle.ledger.specs.declared.place.Place.{Place}
use Rattle.table.specs.Views.{at}

-- every key that a place carries has a number
abbrev pub Listed : {K : Type 0} → List (Option K) → List (Place K) → Type 0
Listed {K} slots places = (n : ℕ) (key : K) → key_of (at places n) ≡ Some key → (m : ℕ) × Maps slots m key

-- the two agree; while a call frees places, a key may have lost its number to a freed place, and gets another before the call ends
pub record AgreeBut {K : Type 0} (lost : Bool) (slots : List (Option K)) (places : List (Place K)) : Type 0 where
  -- there is a number for each place
  pub enough : length places ≤ length slots
  -- the place of a number carries its key
  pub numbered : (n : ℕ) (key : K) → Maps slots n key → key_of (at places n) ≡ Some key
  -- unless one has lost its number
  pub listed : lost ≡ false → Listed slots places

-- index and places agree, and no key has lost its number
abbrev pub Agree : {K : Type 0} → List (Option K) → List (Place K) → Type 0
Agree = AgreeBut false

-- the slots of the index once it was told what the place with the number carries
abbrev pub told_of : {K : Type 0} → (K → K → Ordering) → List (Option K) → ℕ → Option K → List (Option K)
told_of order slots n (Some key) = added order slots key n
told_of order slots n None = discarded slots n

-- has a key lost its number by that?
abbrev pub loses : {K : Type 0} → List (Option K) → ℕ → Option K → Bool
loses slots n (Some key) = false
loses slots n None = is_ok (discard_answer slots n)

-- what a call does to index and places: where they agree, they do so afterwards
abbrev pub Keeps : {K : Type 0} → List (Option K) → List (Place K) → List (Option K) → List (Place K) → Type 0
Keeps slots places slots' places' = ∥ Agree slots places ∥₁ → ∥ Agree slots' places' ∥₁

-- the same of a part of a call, which tells whether a key has lost its number
abbrev pub KeepsBut : {K : Type 0} → Bool → List (Option K) → List (Place K) → List (Option K) → List (Place K) → Type 0
KeepsBut lost slots places slots' places' = (before : Bool) → ∥ AgreeBut before slots places ∥₁ → ∥ AgreeBut (before || lost) slots' places' ∥₁

-- the same of a part of a call that changes one place alone, whatever the other places are
abbrev pub KeepsAt : {K : Type 0} → Bool → ℕ → List (Option K) → Place K → List (Option K) → Place K → Type 0
KeepsAt {K} lost n slots place slots' place' =
    (places : List (Place K)) → n < length places → place ≡ slice_index_or places n place → KeepsBut lost slots places slots' (slice_set places n place')
