-- Marking the numbers of visible keys, place by place. A place that the report sees marks the number of its key, which is the
-- only number of that key and of no other; so after each place the mark of a number says whether some place so far shows its key.
use Rattle.std.proofs.Common.{◌≡◌, ℕ, zero, suc, ◌+◌, ◌<◌, Bool, true, false, cond, ◌&&◌, ◌||◌, List, [], ◌∷◌, ◌++◌, length, get_or, take, replicate, IfSome, Some, None, Option, Ordering, Less, Equal, Greater, sym, refl, ap, ◌∙◌, subst, ⊎_elim, arith}
use Rattle.engine.specs.Walking.{Marks, marked, number_at, seen_key}
use Rattle.index.proofs.Slots.{number_hit, number_maps, one_key}
use Rattle.index.specs.Slots.{Apart, Maps, number_of}
use Rattle.keys.specs.Orders.{Total}
use Rattle.ledger.specs.Places.{carries, free, is_key, is_seen_at, key_of}
use Rattle.ledger.specs.Words.{any, same}
use Rattle.ledger.specs.declared.place.Place.{Place}
use Rattle.ledger.specs.declared.place.PlaceState.{PlaceState}
use Rattle.std.proofs.lemmas.List.{get_or-replicate, get_or-set_other, get_or-set_same, length-set, take_more}
use Rattle.std.proofs.lemmas.Bool.{and_parts, both_ways, or_cases}
use Rattle.std.proofs.Math.Bool.{or-false, or-true, or_assoc}
use Rattle.std.specs.Ordering.{is_eq}
use lib.ListN.{length-replicate}
use Rattle.table.specs.Reads.{is_seen_of, is_visible}
use Rattle.table.specs.Views.{at}

any_push : {X : Type 0} (test : X → Bool) (xs : List X) (x : X) → any test (xs ++ x ∷ []) ≡ (any test xs || test x)
any_push test [] x = or-false (test x)
any_push test (y ∷ ys) x = rw (any_push test ys x) (sym (or_assoc (test y) (any test ys) (test x)))

pub kept_length : (number : Option ℕ) (marks : List Bool) → length (marked number marks) ≡ length marks
kept_length None marks = refl
kept_length (Some m) marks = length-set marks m true

seen_as_key : {K : Type 0} (order : K → K → Ordering) (stamp : ℕ) (key : K) (s : PlaceState K) → is_seen_of order stamp key s ≡ is_key order key (seen_key stamp s)
seen_as_key {K} order stamp key s = go (is_seen_at stamp s)
  where
    go : (b : Bool) → (b && is_key order key (key_of s)) ≡ is_key order key (cond b (key_of s) None)
    go true = refl
    go false = refl

module _ {K : Type 0} (order : K → K → Ordering) (total : Total order) (slots : List (Option K)) where
  -- what one mark does for a key with its number
  one_mark : (o : Option K) → IfSome o (λ _. Apart slots) → (marks : List Bool) (m : ℕ) (key : K) → Maps slots m key → m < length marks →
      get_or (marked (number_at order slots o) marks) m false ≡ (get_or marks m false || is_key order key o)
  one_mark None apart marks m key e below = sym (or-false (get_or marks m false))
  one_mark (Some k) apart marks m key e below = go (order k key) refl
    where
      other : (k ≡ key → ⊥) → (number : Option ℕ) → number ≡ number_of order slots k → get_or (marked number marks) m false ≡ (get_or marks m false || false)
      other ne None f = sym (or-false (get_or marks m false))
      other ne (Some j) f =
          get_or-set_other marks j m true false (λ x. ne (one_key slots m k key (subst (λ (i : ℕ). Maps slots i k) (sym x) (number_maps order total slots k j f)) e)) ∙ sym (or-false (get_or marks m false))

      this : k ≡ key → get_or (marked (number_of order slots k) marks) m false ≡ (get_or marks m false || true)
      this x =
          ap (λ number. get_or (marked number marks) m false) (sym (number_hit order total slots m k apart (subst (Maps slots m) (sym x) e)))
          ∙ (get_or-set_same marks m true false below ∙ sym (or-true (get_or marks m false)))

      differ : (o : Ordering) → order k key ≡ o → (o ≡ Equal → ⊥) → k ≡ key → ⊥
      differ o e never x = never (sym e ∙ subst (λ (y : K). order k y ≡ Equal) x (total.itself k))

      go : (o : Ordering) → order k key ≡ o → get_or (marked (number_of order slots k) marks) m false ≡ (get_or marks m false || same order k key)
      go Equal q = rw q (this (total.same k key q))
      go Less q = rw q (other (differ Less q (λ x. cc)) (number_of order slots k) refl)
      go Greater q = rw q (other (differ Greater q (λ x. cc)) (number_of order slots k) refl)

  pub marks_more : (stamp : ℕ) (places : List (Place K)) (n : ℕ) (p : Place K) (marks : List Bool) → n < length places → p ≡ get_or places n p → IfSome (seen_key stamp p.state) (λ _. Apart slots) →
      Marks order slots (take n places) stamp marks → Marks order slots (take (n + 1) places) stamp (marked (number_at order slots (seen_key stamp p.state)) marks)
  marks_more stamp places n p marks below read apart right m key e within =
      let short : m < length marks = subst (λ (l : ℕ). m < l) (kept_length (number_at order slots (seen_key stamp p.state)) marks) within in
      let test : Place K → Bool = λ q. is_seen_of order stamp key q.state in
      one_mark (seen_key stamp p.state) apart marks m key e short
      ∙ (ap (λ b. b || is_key order key (seen_key stamp p.state)) (right m key e short)
      ∙ (ap (λ b. is_visible order (take n places) stamp key || b) (sym (seen_as_key order stamp key p.state))
      ∙ (sym (any_push test (take n places) p)
      ∙ ap (any test) (ap (λ q. take n places ++ q ∷ []) read ∙ sym (take_more places n p below)))))

  pub marks_none : (stamp size : ℕ) → Marks order slots [] stamp (replicate size false)
  marks_none stamp size m key e within = get_or-replicate size m false false (let l = length-replicate size false in omega arith)

any_some : {X : Type 0} (test : X → Bool) (d : X) (xs : List X) → any test xs ≡ true → (n : ℕ) × (test (get_or xs n d) ≡ true)
any_some test d [] e = absurd (both_ways false refl e)
any_some test d (x ∷ xs) e = ⊎_elim (λ on. (zero, on)) (λ later. let n = any_some test d xs later in (suc n.0, n.1)) (or_cases (test x) (any test xs) e)

-- a key that is visible is carried by a place
pub visible_carried : {K : Type 0} (order : K → K → Ordering) → Total order → (places : List (Place K)) (stamp : ℕ) (key : K) → is_visible order places stamp key ≡ true → (n : ℕ) × (key_of (at places n) ≡ Some key)
visible_carried {K} order total places stamp key on =
    let n = any_some (λ p. is_seen_of order stamp key p.state) free places on in
    (n.0, carried (key_of (at places n.0)) (and_parts (is_seen_at stamp (at places n.0)) (carries order key (at places n.0)) n.1).1)
  where
    same_key : (k : K) (o : Ordering) → order k key ≡ o → is_eq o ≡ true → k ≡ key
    same_key k Less q e = absurd (both_ways false refl e)
    same_key k Equal q e = total.same k key q
    same_key k Greater q e = absurd (both_ways false refl e)

    carried : (o : Option K) → is_key order key o ≡ true → o ≡ Some key
    carried None e = absurd (both_ways false refl e)
    carried (Some k) e = ap Some (same_key k (order k key) refl e)
