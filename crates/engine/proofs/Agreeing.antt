-- The index keeps up with the places.
-- Every number stays right: a place that takes a key up has no number yet or one of that very key, so adding the key with its
-- number is granted or finds the key numbered already; a place that becomes free gives its number back. A number that was given
-- back is the only way for a key to lose its own, and adding every carried key once more makes that good.
use Rattle.std.proofs.Common.{◌≡◌, ℕ, zero, suc, ◌+◌, ◌<◌, ◌≤◌, Bool, false, ◌||◌, List, [], ◌∷◌, length, set, is_ok, Some, None, Option, Ordering, sym, refl, ap, ◌∙◌, subst, ⊎_elim, arith}
use Rattle.engine.specs.Agreement.{Agree, AgreeBut, KeepsAt, loses, told_of}
use Rattle.std.proofs.lemmas.Option.{slice_get_within}
use Rattle.index.proofs.Nth.{nth_set_same, nth_set_other}
use Rattle.index.proofs.Slots.{maps_cleared, maps_set, number_maps}
use Rattle.index.specs.Slots.{Maps, add_by, added, discard_answer, discard_by, discarded, if_granted, number_of}
use Rattle.keys.specs.Orders.{Total}
use Rattle.ledger.specs.Places.{after, free, key_of}
use Rattle.ledger.specs.declared.place.Place.{Place}
use Rattle.ledger.specs.declared.place.PlaceEvent.{PlaceEvent}
use Rattle.std.proofs.lemmas.List.{get_or_read, get_or-set_other, get_or-set_same, length-set, set-get_or}
use Rattle.std.proofs.lemmas.Bool.{cases_eq}
use Rattle.std.proofs.Math.Bool.{or_comm}
use Rattle.std.proofs.Math.Logic.{∥∥₁_map}
use Rattle.std.specs.List.{slice_get}
use Rattle.table.specs.Views.{at}
use Rattle.engine.proofs.KeysKept.{key_kept}

-- a place that carries a key is one of the places
pub carries_below : {K : Type 0} (places : List (Place K)) (n : ℕ) (key : K) → key_of (at places n) ≡ Some key → n < length places
carries_below [] n key e = cc
carries_below (p ∷ places) zero key e = omega arith
carries_below (p ∷ places) (suc n) key e = let h : n < length places = carries_below places n key e in omega arith

at_set_same : {K : Type 0} (places : List (Place K)) (n : ℕ) (p : Place K) → n < length places → at (set places n p) n ≡ p.state
at_set_same places n p below = ap (λ q. q.state) (get_or-set_same places n p free below)

at_set_other : {K : Type 0} (places : List (Place K)) (n j : ℕ) (p : Place K) → (j ≡ n → ⊥) → at (set places n p) j ≡ at places j
at_set_other places n j p ne = ap (λ q. q.state) (get_or-set_other places n j p free ne)

module _ {K : Type 0} (order : K → K → Ordering) (total : Total order) (slots : List (Option K)) (places : List (Place K)) (n : ℕ) (key : K)
    (enough : length places ≤ length slots) (numbered : (m : ℕ) (k : K) → Maps slots m k → key_of (at places m) ≡ Some k) (here : key_of (at places n) ≡ Some key) where
  -- what is so once the key of a place was added with the place's number
  pub record Added (after : List (Option K)) : Type 0 where
    pub long : length after ≡ length slots
    pub right : (m : ℕ) (k : K) → Maps after m k → key_of (at places m) ≡ Some k
    pub grows : (m : ℕ) (k : K) → Maps slots m k → Maps after m k
    pub has_number : (m : ℕ) × Maps after m key

  by_slot : (slot : Option (Option K)) → slice_get slots n ≡ slot → (found : Option ℕ) → found ≡ number_of order slots key →
      Added (if_granted (add_by slot found) (set slots n (Some key)) slots)
  by_slot None s found f = absurd (past slots n s (let l = carries_below places n key here in omega arith))
    where
      past : (xs : List (Option K)) (i : ℕ) → slice_get xs i ≡ None → i < length xs → ⊥
      past [] i e l = omega arith
      past (x ∷ xs) zero e l = cc
      past (x ∷ xs) (suc i) e l = past xs i e (omega arith)
  by_slot (Some (Some k)) s found f =
      record { long = refl; right = numbered; grows = λ m q e. e; has_number = (n, let h = numbered n k s in cc) }
  by_slot (Some None) s (Some m) f = record { long = refl; right = numbered; grows = λ j q e. e; has_number = (m, number_maps order total slots key m f) }
  by_slot (Some None) s None f = record {
    long = length-set slots n (Some key);
    right = λ m k e. ⊎_elim
        (λ x. subst (λ (j : ℕ). key_of (at places j) ≡ Some k) (sym x.0) (here ∙ ap Some (sym x.1)))
        (λ x. numbered m k x.1)
        (maps_set slots n m key k s e);
    grows = λ m k e. ⊎_elim
        (λ x. let free : slice_get slots m ≡ Some None = subst (λ (j : ℕ). slice_get slots j ≡ Some None) (sym x) s in cc)
        (λ x. nth_set_other slots n m (Some key) x ∙ e)
        (cases_eq m n);
    has_number = (n, nth_set_same slots n (Some key) (slice_get_within slots n None s));
  }

  pub key_added : Added (added order slots key n)
  key_added = by_slot (slice_get slots n) refl (number_of order slots key) refl

-- a place takes a key up, or keeps its own, and the key is added with the place's number
taken_up : {K : Type 0} (order : K → K → Ordering) (total : Total order) (lost : Bool) (slots : List (Option K)) (places : List (Place K)) (n : ℕ) (p : Place K) (key : K) →
    n < length places → key_of p.state ≡ Some key → ((k : K) → key_of (at places n) ≡ Some k → k ≡ key) →
    AgreeBut lost slots places → AgreeBut lost (added order slots key n) (set places n p)
taken_up {K} order total lost slots places n p key below is kept a = record {
  enough = let l = added_so.long in let e = length-set places n p in let h = a.enough in omega arith;
  numbered = added_so.right;
  listed = λ none j k e. ⊎_elim
      (λ x. let m = added_so.has_number in
      let same : k ≡ key = (let h = subst (λ (i : ℕ). key_of (at (set places n p) i) ≡ Some k) x e in cc here) in
      (m.0, subst (Maps (added order slots key n) m.0) (sym same) m.1))
      (λ x. let m = a.listed none j k (sym (ap key_of (at_set_other places n j p x)) ∙ e) in (m.0, added_so.grows m.0 k m.1))
      (cases_eq j n);
}
  where
    here : key_of (at (set places n p) n) ≡ Some key
    here = ap key_of (at_set_same places n p below) ∙ is

    right : (m : ℕ) (k : K) → Maps slots m k → key_of (at (set places n p) m) ≡ Some k
    right m k e = ⊎_elim
        (λ x. subst (λ (j : ℕ). key_of (at (set places n p) j) ≡ Some k) (sym x)
        (here ∙ ap Some (sym (kept k (subst (λ (j : ℕ). key_of (at places j) ≡ Some k) x (a.numbered m k e))))))
        (λ x. ap key_of (at_set_other places n m p x) ∙ a.numbered m k e)
        (cases_eq m n)

    room : length (set places n p) ≤ length slots
    room = let e = length-set places n p in let h = a.enough in omega arith

    added_so : Added order total slots (set places n p) n key room right here (added order slots key n)
    added_so = key_added order total slots (set places n p) n key room right here

-- a place becomes free and gives its number back; the key has lost its own if it was that one
given_back : {K : Type 0} (lost : Bool) (slots : List (Option K)) (places : List (Place K)) (n : ℕ) (p : Place K) →
    n < length places → key_of p.state ≡ None → AgreeBut lost slots places →
    AgreeBut (is_ok (discard_answer slots n) || lost) (discarded slots n) (set places n p)
given_back {K} lost slots places n p below is a = by_slot (slice_get slots n) refl
  where
    still : (j : ℕ) (k : K) → (j ≡ n → ⊥) → Maps slots j k → key_of (at (set places n p) j) ≡ Some k
    still j k ne e = ap key_of (at_set_other places n j p ne) ∙ a.numbered j k e

    elsewhere : (j : ℕ) (k : K) → key_of (at (set places n p) j) ≡ Some k → j ≡ n → ⊥
    elsewhere j k e x = let h = subst (λ (i : ℕ). key_of (at (set places n p) i) ≡ Some k) x e in cc (ap key_of (at_set_same places n p below))

    before : (j : ℕ) (k : K) → key_of (at (set places n p) j) ≡ Some k → key_of (at places j) ≡ Some k
    before j k e = sym (ap key_of (at_set_other places n j p (elsewhere j k e))) ∙ e

    room : length (set places n p) ≤ length slots
    room = let e = length-set places n p in let h = a.enough in omega arith

    unnumbered : (slot : Option (Option K)) → slice_get slots n ≡ slot → ((k : K) → slot ≡ Some (Some k) → ⊥) → AgreeBut lost slots (set places n p)
    unnumbered slot s never = record {
      enough = room;
      numbered = λ j k e. still j k (λ x. never k (sym s ∙ subst (λ (i : ℕ). Maps slots i k) x e)) e;
      listed = λ none j k e. a.listed none j k (before j k e);
    }

    by_slot : (slot : Option (Option K)) → slice_get slots n ≡ slot → AgreeBut (is_ok (discard_by slot) || lost) (if_granted (discard_by slot) (set slots n None) slots) (set places n p)
    by_slot None s = unnumbered None s (λ k e. cc)
    by_slot (Some None) s = unnumbered (Some None) s (λ k e. cc)
    by_slot (Some (Some key)) s = record {
      enough = let e = length-set slots n None in let h = room in omega arith;
      numbered = λ j k e. let m = maps_cleared slots n j k e in still j k m.1 m.0;
      listed = λ e. cc;
    }

-- a place changes, and the index was told what it carries now
pub told_agrees : {K : Type 0} (order : K → K → Ordering) (total : Total order) (lost : Bool) (slots : List (Option K)) (places : List (Place K)) (n : ℕ) (p : Place K) (key : Option K) →
    n < length places → key_of p.state ≡ key → ((k q : K) → key_of (at places n) ≡ Some k → key_of p.state ≡ Some q → k ≡ q) →
    AgreeBut lost slots places → AgreeBut (loses slots n key || lost) (told_of order slots n key) (set places n p)
told_agrees order total lost slots places n p (Some key) below is kept a = taken_up order total lost slots places n p key below is (λ k e. kept k key e is) a
told_agrees order total lost slots places n p None below is kept a = given_back lost slots places n p below is a

-- the same of an event, as a part of a call
pub event_keeps : {K : Type 0} {order : K → K → Ordering} (total : Total order) {slots : List (Option K)} {n : ℕ} {x p : Place K} (event : PlaceEvent K) {key : Option K} →
    p ≡ after x event → key ≡ key_of p.state → KeepsAt (loses slots n key) n slots x (told_of order slots n key) p
event_keeps {K} {order} total {slots} {n} {x} {p} event {key} next is places below read before a =
    ∥∥₁_map a (λ b. subst (λ lost. AgreeBut lost (told_of order slots n key) (set places n p)) (or_comm (loses slots n key) before) (told_agrees order total before slots places n p key below (sym is) kept b))
  where
    kept : (k q : K) → key_of (at places n) ≡ Some k → key_of p.state ≡ Some q → k ≡ q
    kept k q e h = key_kept x.state event k q (ap (λ y. key_of y.state) (get_or_read places n x below read free) ∙ e) (sym (ap (λ y. key_of y.state) next) ∙ h)

-- a place that stays as it was
pub same_keeps : {K : Type 0} (slots : List (Option K)) (n : ℕ) (x : Place K) → KeepsAt false n slots x slots x
same_keeps slots n x places below read before a =
    subst (λ ps. ∥ AgreeBut (before || false) slots ps ∥₁) (sym (set-get_or places n x) ∙ ap (set places n) (sym read)) (subst (λ lost. ∥ AgreeBut lost slots places ∥₁) (or_comm false before) a)

-- the keys of the first n places have numbers again
pub record ListedTo {K : Type 0} (n : ℕ) (slots : List (Option K)) (places : List (Place K)) : Type 0 where
  pub enough : length places ≤ length slots
  pub numbered : (m : ℕ) (key : K) → Maps slots m key → key_of (at places m) ≡ Some key
  pub listed : (j : ℕ) (key : K) → j < n → key_of (at places j) ≡ Some key → (m : ℕ) × Maps slots m key

pub listed_none : {K : Type 0} (lost : Bool) (slots : List (Option K)) (places : List (Place K)) → AgreeBut lost slots places → ListedTo 0 slots places
listed_none lost slots places a = record { enough = a.enough; numbered = a.numbered; listed = λ j key below e. absurd (omega arith) }

module _ {K : Type 0} (slots : List (Option K)) (places : List (Place K)) (n : ℕ) (a : ListedTo n slots places) where
  -- the place carries no key
  pub listed_free : key_of (at places n) ≡ None → ListedTo (n + 1) slots places
  listed_free none = record {
    enough = a.enough;
    numbered = a.numbered;
    listed = λ j key below e. ⊎_elim
        (λ x. let h = subst (λ (i : ℕ). key_of (at places i) ≡ Some key) x e in cc)
        (λ x. a.listed j key (omega arith) e)
        (cases_eq j n);
  }

  -- the place's key was added
  pub listed_more : (order : K → K → Ordering) → Total order → (key : K) → key_of (at places n) ≡ Some key → ListedTo (n + 1) (added order slots key n) places
  listed_more order total key here =
      let so = key_added order total slots places n key a.enough a.numbered here in
      record {
        enough = let l = so.long in let h = a.enough in omega arith;
        numbered = so.right;
        listed = λ j k below e. ⊎_elim
            (λ x. let m = so.has_number in
            (m.0, subst (Maps (added order slots key n) m.0) (let h = subst (λ (i : ℕ). key_of (at places i) ≡ Some k) x e in cc) m.1))
            (λ x. let m = a.listed j k (omega arith) e in (m.0, so.grows m.0 k m.1))
            (cases_eq j n);
      }

  pub listed_all : length places ≤ n → Agree slots places
  listed_all past = record {
    enough = a.enough;
    numbered = a.numbered;
    listed = λ none j key e. a.listed j key (let l = carries_below places j key e in omega arith) e;
  }
