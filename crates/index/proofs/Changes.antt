-- What add and discard leave of the slots, for who stands on an index: the capacity, the count, and the numbers of the keys.
-- A refused call leaves the slots as they were, so what is said of every call is shown for the granted one alone. The number of a
-- key that the call does not speak of is the same, since the slots before and after map the same numbers to it.
use Rattle.std.proofs.Common.{◌≡◌, ℕ, suc, List, length, set, Some, None, Ok, Err, Option, Result, Ordering, sym, refl, ap, ◌∙◌, subst, ⊎_elim, arith}
use Rattle.keys.specs.Orders.{Total}
use Rattle.keys.specs.Refusals.{Code}
use Rattle.std.specs.List.{slice_get}
use Rattle.std.proofs.lemmas.List.{length-set}
use Rattle.index.specs.Slots.{Apart, Maps, add_answer, added, count_of, discard_answer, discarded, if_granted, number_of}
use Rattle.std.proofs.lemmas.Option.{slice_get_within}
use Rattle.index.proofs.Nth.{nth_set_other, nth_set_same}
use Rattle.index.proofs.Slots.{add_granted, add_keeps_apart, add_told, count_fewer, count_more, discard_granted, discard_keeps_apart, maps_cleared, maps_set, number_hit, number_maps, number_miss, number_new}

-- what holds of the slots and of the changed slots holds at exit
at_exit : {X : Type 0} (P : X → Type 0) (r : Result (Unit {0}) Code) (changed before : X) → (r ≡ Ok tt → P changed) → P before → P (if_granted r changed before)
at_exit P (Ok u) changed before f p = f refl
at_exit P (Err code) changed before f p = p

pub length_added : {K : Type 0} (order : K → K → Ordering) (slots : List (Option K)) (key : K) (n : ℕ) → length (added order slots key n) ≡ length slots
length_added order slots key n = at_exit (λ s. length s ≡ length slots) (add_answer order slots key n) _ _ (λ _. length-set slots n (Some key)) refl

pub length_discarded : {K : Type 0} (slots : List (Option K)) (n : ℕ) → length (discarded slots n) ≡ length slots
length_discarded slots n = at_exit (λ s. length s ≡ length slots) (discard_answer slots n) _ _ (λ _. length-set slots n None) refl

-- A granted add and a granted discard.

pub maps_added : {K : Type 0} (order : K → K → Ordering) (slots : List (Option K)) (key : K) (n : ℕ) → Ok tt ≡ add_answer order slots key n → Maps (added order slots key n) n key
maps_added {K} order slots key n grant =
    let free = add_told order slots key n grant in
    subst (λ (s : List (Option K)). Maps s n key) (add_granted order slots key n free.0 free.1).1 (nth_set_same slots n (Some key) (slice_get_within slots n None free.0))

pub count_added : {K : Type 0} (order : K → K → Ordering) (slots : List (Option K)) (key : K) (n : ℕ) → Ok tt ≡ add_answer order slots key n → count_of (added order slots key n) ≡ suc (count_of slots)
count_added order slots key n grant =
    let free = add_told order slots key n grant in
    sym (ap count_of (add_granted order slots key n free.0 free.1).1) ∙ count_more slots n key free.0

pub count_discarded : {K : Type 0} (slots : List (Option K)) (n : ℕ) (key : K) → Maps slots n key → suc (count_of (discarded slots n)) ≡ count_of slots
count_discarded slots n key there = sym (ap (λ s. suc (count_of s)) (discard_granted slots n key there).1) ∙ count_fewer slots n key there

module _ {K : Type 0} (order : K → K → Ordering) (total : Total order) where
  -- slots that map the same numbers to the key answer the same number for it
  pub same_number : (before after : List (Option K)) (key : K) → Apart before → Apart after → ((n : ℕ) → Maps before n key → Maps after n key) → ((n : ℕ) → Maps after n key → Maps before n key) →
      number_of order after key ≡ number_of order before key
  same_number before after key apart apart' to from = go (number_of order before key) refl
    where
      go : (r : Option ℕ) → r ≡ number_of order before key → number_of order after key ≡ r
      go None e = sym (number_miss order total after key (λ n there. number_new order total before key apart e n (from n there)))
      go (Some n) e = sym (number_hit order total after n key apart' (to n (number_maps order total before key n e)))

  pub number_added : (slots : List (Option K)) (key : K) (n : ℕ) → Apart slots → Ok tt ≡ add_answer order slots key n → number_of order (added order slots key n) key ≡ Some n
  number_added slots key n apart grant =
      sym (number_hit order total (added order slots key n) n key (add_keeps_apart order total slots key n apart) (maps_added order slots key n grant))

  pub number_added_other : (slots : List (Option K)) (key other : K) (n : ℕ) → Apart slots → (other ≡ key → ⊥) → number_of order (added order slots key n) other ≡ number_of order slots other
  number_added_other slots key other n apart ne =
      at_exit (λ s. Apart s → number_of order s other ≡ number_of order slots other) (add_answer order slots key n) (set slots n (Some key)) slots
      (λ grant kept. same_number slots (set slots n (Some key)) other apart kept
      (λ m there. nth_set_other slots n m (Some key) (λ e. let z : ◌≡◌ {A = ℕ} 0 1 = clash m (add_told order slots key n (sym grant)).0 there e in omega arith) ∙ there)
      (λ m there. ⊎_elim (λ s. absurd (ne s.1)) (λ s. s.1) (maps_set slots n m key other (add_told order slots key n (sym grant)).0 there)))
      (λ _. refl)
      (add_keeps_apart order total slots key n apart)
    where
      clash : (m : ℕ) → slice_get slots n ≡ Some None → Maps slots m other → m ≡ n → ◌≡◌ {A = ℕ} 0 1
      clash m free there e = cc

  pub number_discarded : (slots : List (Option K)) (n : ℕ) (key : K) → Apart slots → Maps slots n key → None ≡ number_of order (discarded slots n) key
  number_discarded slots n key apart there =
      subst (λ (s : List (Option K)). None ≡ number_of order s key) (discard_granted slots n key there).1
      (number_miss order total (set slots n None) key (λ m h. let old = maps_cleared slots n m key h in old.1 (apart m n key old.0 there)))

  pub number_discarded_other : (slots : List (Option K)) (n : ℕ) (other : K) → Apart slots → (Maps slots n other → ⊥) → number_of order (discarded slots n) other ≡ number_of order slots other
  number_discarded_other slots n other apart ne =
      at_exit (λ s. Apart s → number_of order s other ≡ number_of order slots other) (discard_answer slots n) (set slots n None) slots
      (λ grant kept. same_number slots (set slots n None) other apart kept
      (λ m there. nth_set_other slots n m None (λ e. ne (subst (λ (j : ℕ). Maps slots j other) e there)) ∙ there)
      (λ m there. (maps_cleared slots n m other there).0))
      (λ _. refl)
      (discard_keeps_apart slots n apart)
