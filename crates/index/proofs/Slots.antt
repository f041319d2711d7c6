-- Laws of the slots of an index, for the indexes and for who stands on one.
-- A key is new to the slots where no number has it, so setting a free slot to a new key keeps keys apart, and so does
-- clearing a slot. Where keys are apart, number_of answers the one number of a key; it walks the slots from the first,
-- and the first that it meets is then the only one. An add or discard is granted just where the slot and the key
-- allow it, which is what turns the answers and the slots at exit into facts about two slots.
use Rattle.std.proofs.Common.{◌≡◌, ℕ, zero, suc, ◌≤◌, ◌⊎◌, List, [], ◌∷◌, length, set, Some, None, Ok, Option, Result, Ordering, Equal, sym, refl, ap, ◌∙◌, subst, inl, inr, ⊎_elim, arith}
use Rattle.keys.specs.Orders.{Total}
use Rattle.keys.specs.Refusals.{Code}
use Rattle.std.specs.List.{slice_get}
use Rattle.std.proofs.lemmas.Bool.{cases_eq}
use Rattle.index.specs.Slots.{Maps, Apart, empty, behind_first, number_of, count_of, add_by, add_answer, discard_by, discard_answer, if_granted, added, discarded}
use Rattle.std.proofs.lemmas.Option.{slice_get_within}
use Rattle.index.proofs.Nth.{nth_set_same, nth_set_other}
use Rattle.index.proofs.Ranked.{equal_or_not}

-- no number has the key
abbrev pub New : {K : Type 0} → List (Option K) → K → Type 0
New slots key = (n : ℕ) → Maps slots n key → ⊥

-- How many keys there are.

pub count_within : {K : Type 0} (slots : List (Option K)) → count_of slots ≤ length slots
count_within [] = omega arith
count_within (None ∷ slots) = let h : count_of slots ≤ length slots = count_within slots in omega arith
count_within (Some k ∷ slots) = let h : count_of slots ≤ length slots = count_within slots in omega arith

pub count_empty : (K : Type 0) (n : ℕ) → count_of (empty {K = K} n) ≡ 0
count_empty K zero = refl
count_empty K (suc n) = count_empty K n

pub count_more : {K : Type 0} (slots : List (Option K)) (n : ℕ) (key : K) → slice_get slots n ≡ Some None → count_of (set slots n (Some key)) ≡ suc (count_of slots)
count_more [] n key e = cc
count_more (None ∷ slots) zero key e = refl
count_more (Some k ∷ slots) zero key e = cc
count_more (None ∷ slots) (suc n) key e = count_more slots n key e
count_more (Some k ∷ slots) (suc n) key e = ap suc (count_more slots n key e)

pub count_fewer : {K : Type 0} (slots : List (Option K)) (n : ℕ) (key : K) → Maps slots n key → suc (count_of (set slots n None)) ≡ count_of slots
count_fewer [] n key e = cc
count_fewer (None ∷ slots) zero key e = cc
count_fewer (Some k ∷ slots) zero key e = refl
count_fewer (None ∷ slots) (suc n) key e = count_fewer slots n key e
count_fewer (Some k ∷ slots) (suc n) key e = ap suc (count_fewer slots n key e)

-- What is kept apart.

pub one_key : {K : Type 0} (slots : List (Option K)) (n : ℕ) (a b : K) → Maps slots n a → Maps slots n b → a ≡ b
one_key slots n a b p q = cc

pub empty_new : {K : Type 0} (capacity : ℕ) (key : K) → New (empty capacity) key
empty_new zero key n e = cc
empty_new (suc c) key zero e = cc
empty_new (suc c) key (suc n) e = empty_new c key n e

pub empty_apart : (K : Type 0) (capacity : ℕ) → Apart (empty {K = K} capacity)
empty_apart K capacity m n key p q = absurd (empty_new capacity key m p)

-- a key that stands in the slots after one was cleared stood there before, and not in that slot
pub maps_cleared : {K : Type 0} (slots : List (Option K)) (n m : ℕ) (key : K) → Maps (set slots n None) m key → Maps slots m key × (m ≡ n → ⊥)
maps_cleared {K} slots n m key h = (sym (nth_set_other slots n m None other) ∙ h, other)
  where
    other : m ≡ n → ⊥
    other e = empty_there slots n (subst (λ (j : ℕ). Maps (set slots n None) j key) e h)
      where
        empty_there : (xs : List (Option K)) (i : ℕ) → Maps (set xs i None) i key → ⊥
        empty_there [] i p = cc
        empty_there (x ∷ xs) zero p = cc
        empty_there (x ∷ xs) (suc i) p = empty_there xs i p

pub cleared_apart : {K : Type 0} (slots : List (Option K)) (n : ℕ) → Apart slots → Apart (set slots n None)
cleared_apart slots n apart i j key p q = apart i j key (maps_cleared slots n i key p).0 (maps_cleared slots n j key q).0

-- the slot of a number is set to a key: that key stands there, the others stand where they stood
pub maps_set : {K : Type 0} (slots : List (Option K)) (n m : ℕ) (a key : K) → slice_get slots n ≡ Some None → Maps (set slots n (Some a)) m key →
    ((m ≡ n) × (key ≡ a)) ⊎ ((m ≡ n → ⊥) × Maps slots m key)
maps_set {K} slots n m a key free h =
    ⊎_elim
    (λ (e : m ≡ n).
    let here : slice_get (set slots n (Some a)) n ≡ Some (Some a) = nth_set_same slots n (Some a) (slice_get_within slots n None free) in
    let there : slice_get (set slots n (Some a)) n ≡ Some (Some key) = subst (λ (j : ℕ). Maps (set slots n (Some a)) j key) e h in
    inl (e, cc))
    (λ (ne : m ≡ n → ⊥). inr (ne, sym (nth_set_other slots n m (Some a) ne) ∙ h))
    (cases_eq m n)

pub set_apart : {K : Type 0} (slots : List (Option K)) (n : ℕ) (a : K) → slice_get slots n ≡ Some None → New slots a → Apart slots → Apart (set slots n (Some a))
set_apart slots n a free new apart i j key p q =
    ⊎_elim
    (λ s. ⊎_elim (λ t. s.0 ∙ sym t.0) (λ t. absurd (new j (subst (Maps slots j) s.1 t.1))) (maps_set slots n j a key free q))
    (λ s. ⊎_elim (λ t. absurd (new i (subst (Maps slots i) t.1 s.1))) (λ t. apart i j key s.1 t.1) (maps_set slots n j a key free q))
    (maps_set slots n i a key free p)

-- The number of a key.

later_apart : {K : Type 0} (slot : Option K) (slots : List (Option K)) → Apart (slot ∷ slots) → Apart slots
later_apart slot slots apart m n key p q = let e : suc m ≡ suc n = apart (suc m) (suc n) key p q in omega arith

behind_maps : {K : Type 0} (slot : Option K) (slots : List (Option K)) (key : K) (n : ℕ) (found : Option ℕ) → ((m : ℕ) → Some m ≡ found → Maps slots m key) →
    Some n ≡ behind_first found → Maps (slot ∷ slots) n key
behind_maps slot slots key n None f e = cc
behind_maps slot slots key n (Some m) f e = let next : suc m ≡ n = cc in subst (λ (j : ℕ). Maps (slot ∷ slots) j key) next (f m refl)

module _ {K : Type 0} (order : K → K → Ordering) (total : Total order) where
  pub number_hit : (slots : List (Option K)) (n : ℕ) (key : K) → Apart slots → Maps slots n key → Some n ≡ number_of order slots key
  number_hit [] n key apart e = cc
  number_hit (None ∷ slots) zero key apart e = cc
  number_hit (None ∷ slots) (suc n) key apart e = ap behind_first (number_hit slots n key (later_apart None slots apart) e)
  number_hit (Some k ∷ slots) zero key apart e =
      let same : key ≡ k = cc in
      equal_or_not (λ (r : Option ℕ). Some zero ≡ r) (order key k) _ _ (λ _. refl)
      (λ ne. absurd (ne (subst (λ (x : K). order key x ≡ Equal) same (total.itself key))))
  number_hit (Some k ∷ slots) (suc n) key apart e =
      equal_or_not (λ (r : Option ℕ). Some (suc n) ≡ r) (order key k) _ _
      (λ eq. let z : zero ≡ suc n = apart zero (suc n) key (ap (λ (x : K). Some (Some x)) (sym (total.same key k eq))) e in absurd (omega arith))
      (λ _. ap behind_first (number_hit slots n key (later_apart (Some k) slots apart) e))

  pub number_miss : (slots : List (Option K)) (key : K) → New slots key → None ≡ number_of order slots key
  number_miss [] key new = refl
  number_miss (None ∷ slots) key new = ap behind_first (number_miss slots key (λ n e. new (suc n) e))
  number_miss (Some k ∷ slots) key new =
      equal_or_not (λ (r : Option ℕ). None ≡ r) (order key k) _ _
      (λ eq. absurd (new zero (ap (λ (x : K). Some (Some x)) (sym (total.same key k eq)))))
      (λ _. ap behind_first (number_miss slots key (λ n e. new (suc n) e)))

  pub number_maps : (slots : List (Option K)) (key : K) (n : ℕ) → Some n ≡ number_of order slots key → Maps slots n key
  number_maps [] key n e = cc
  number_maps (None ∷ slots) key n e = behind_maps None slots key n _ (number_maps slots key) e
  number_maps (Some k ∷ slots) key n e =
      equal_or_not (λ (r : Option ℕ). Some n ≡ r → Maps (Some k ∷ slots) n key) (order key k) _ _
      (λ eq f. let first : zero ≡ n = cc in subst (λ (j : ℕ). Maps (Some k ∷ slots) j key) first (ap (λ (x : K). Some (Some x)) (sym (total.same key k eq))))
      (λ _. behind_maps (Some k) slots key n _ (number_maps slots key))
      e

  pub number_new : (slots : List (Option K)) (key : K) → Apart slots → None ≡ number_of order slots key → New slots key
  number_new slots key apart e n h = let hit : Some n ≡ number_of order slots key = number_hit slots n key apart h in cc

  -- A granted add and a granted discard, and what the calls keep.

  pub add_keeps_apart : (slots : List (Option K)) (key : K) (n : ℕ) → Apart slots → Apart (added order slots key n)
  add_keeps_apart slots key n apart = go (slice_get slots n) refl (number_of order slots key) refl
    where
      go : (slot : Option (Option K)) → slice_get slots n ≡ slot → (found : Option ℕ) → found ≡ number_of order slots key →
          Apart (if_granted (add_by slot found) (set slots n (Some key)) slots)
      go None s found f = apart
      go (Some (Some k)) s found f = apart
      go (Some None) s (Some m) f = apart
      go (Some None) s None f = set_apart slots n key s (number_new slots key apart f) apart

pub discard_keeps_apart : {K : Type 0} (slots : List (Option K)) (n : ℕ) → Apart slots → Apart (discarded slots n)
discard_keeps_apart {K} slots n apart = go (slice_get slots n)
  where
    go : (slot : Option (Option K)) → Apart (if_granted (discard_by slot) (set slots n None) slots)
    go None = apart
    go (Some None) = apart
    go (Some (Some key)) = cleared_apart slots n apart

-- an add is granted where the slot is free and the key has no number, and then the slot is set
pub add_granted : {K : Type 0} (order : K → K → Ordering) (slots : List (Option K)) (key : K) (n : ℕ) → slice_get slots n ≡ Some None → None ≡ number_of order slots key →
    (Ok tt ≡ add_answer order slots key n) × (set slots n (Some key) ≡ added order slots key n)
add_granted order slots key n free none' =
    let grant : Ok tt ≡ add_answer order slots key n = rw (free, ← none') in
    (grant, ap (λ (r : Result (Unit {0}) Code). if_granted r (set slots n (Some key)) slots) grant)

-- a discard is granted where a key has the number, and then the slot is cleared
pub discard_granted : {K : Type 0} (slots : List (Option K)) (n : ℕ) (key : K) → Maps slots n key →
    (Ok tt ≡ discard_answer slots n) × (set slots n None ≡ discarded slots n)
discard_granted slots n key there =
    let grant : Ok tt ≡ discard_answer slots n = rw there in
    (grant, ap (λ (r : Result (Unit {0}) Code). if_granted r (set slots n None) slots) grant)

-- what a granted add tells
pub add_told : {K : Type 0} (order : K → K → Ordering) (slots : List (Option K)) (key : K) (n : ℕ) → Ok tt ≡ add_answer order slots key n →
    (slice_get slots n ≡ Some None) × (None ≡ number_of order slots key)
add_told {K} order slots key n = go (slice_get slots n) (number_of order slots key)
  where
    go : (slot : Option (Option K)) (found : Option ℕ) → Ok tt ≡ add_by slot found → (slot ≡ Some None) × (None ≡ found)
    go None found e = cc
    go (Some (Some k)) found e = cc
    go (Some None) (Some m) e = cc
    go (Some None) None e = (refl, refl)
