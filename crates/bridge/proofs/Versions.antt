-- What is found among the versions of a store, by its places.
-- A look-up of the ledger (a job's draft, a key's current version, what a report sees) is a test of places; where one place at most passes it,
-- the record of any place that passes is what the ledger finds.
use Rattle.std.proofs.Common.{◌≡◌, ℕ, zero, suc, ◌<◌, Bool, true, false, ◌&&◌, ◌||◌, List, [], ◌∷◌, ◌++◌, length, is_some, Some, None, Option, Ordering, Less, Equal, Greater, sym, refl, ap, ◌∙◌, suc-le-suc, zero-le, arith}
use Rattle.std.specs.List.{slice_get}
use Rattle.std.specs.Option.{option_map}
use Rattle.std.proofs.lemmas.Bool.{eqb-true, and_parts, and_from, or_parts}
use Rattle.keys.specs.Orders.{Total}
use Rattle.ledger.specs.declared.place.Place.{Place}
use Rattle.ledger.specs.declared.place.PlaceState.{PlaceState}
use Rattle.ledger.specs.declared.place.PlaceState.TheVariants.{Free, Unstamped, Gone, Current, Superseded}
use Rattle.ledger.specs.Words.{when, or_else, listed, first, any, same}
use Rattle.ledger.specs.Places.{key_of, is_key, carries, is_draft_of, is_current, spans}
use Rattle.ledger.specs.Versions.{Version, draft, committed, draft_in, current_in, seen_in}
use Rattle.ledger.specs.Steps.{version_in, versions_in}
use Rattle.ledger.proofs.Finding.{or_none}
use Rattle.table.specs.Views.{at}
use Rattle.table.specs.Checks.{is_unstamped, is_current_of}
use Rattle.table.specs.Reads.{is_seen_of, FindsPlace, record_at}
use Rattle.bridge.specs.Soundness.{DraftOf, CurrentOf}

-- a test by place: it holds of none, or of one below the length
module _ {K : Type 0} (test : PlaceState K → Bool) where
  pub any_none : (ps : List (Place K)) → test Free ≡ false → any (λ p. test p.state) ps ≡ false → (n : ℕ) → test (at ps n) ≡ false
  any_none [] f e n = f
  any_none (p ∷ ps) f e zero = (or_parts (test p.state) (any (λ p. test p.state) ps) e).0
  any_none (p ∷ ps) f e (suc n) = any_none ps f (or_parts (test p.state) (any (λ p. test p.state) ps) e).1 n

  pub none_any : (ps : List (Place K)) → ((n : ℕ) → test (at ps n) ≡ false) → any (λ p. test p.state) ps ≡ false
  none_any [] h = refl
  none_any (p ∷ ps) h = rw (h 0) (none_any ps (λ n. h (suc n)))

  pub any_at : (ps : List (Place K)) (n : ℕ) → test Free ≡ false → test (at ps n) ≡ true → any (λ p. test p.state) ps ≡ true
  any_at [] n f e = let z : ◌≡◌ {A = Bool} true false = sym e ∙ f in cc
  any_at (p ∷ ps) zero f e = rw e
  any_at (p ∷ ps) (suc n) f e = go (test p.state) (any_at ps n f e)
    where
      go : (b : Bool) → any (λ p. test p.state) ps ≡ true → (b || any (λ p. test p.state) ps) ≡ true
      go true i = refl
      go false i = i

  -- a place that passes is one of the places
  pub below : (ps : List (Place K)) (n : ℕ) → test Free ≡ false → test (at ps n) ≡ true → n < length ps
  below [] n f e = let z : ◌≡◌ {A = Bool} true false = sym e ∙ f in cc
  below (p ∷ ps) zero f e = suc-le-suc zero-le
  below (p ∷ ps) (suc n) f e = suc-le-suc (below ps n f e)

-- no place is a draft and a current version
pub not_both : {K : Type 0} (t : ℕ) (p : PlaceState K) → is_draft_of t p ≡ true → is_current p ≡ true → ⊥
not_both t (Superseded k b f) d c = cc
not_both t _ d c = cc

-- a place is a draft of one job
pub one_job : {K : Type 0} (t u : ℕ) (p : PlaceState K) → is_draft_of t p ≡ true → is_draft_of u p ≡ true → u ≡ t
one_job t u (Unstamped k j) e f = sym (eqb-true j u f) ∙ eqb-true j t e
one_job t u (Gone k j) e f = sym (eqb-true j u f) ∙ eqb-true j t e
one_job t u _ e f = cc

-- at most one place passes
abbrev pub One : {K : Type 0} → (PlaceState K → Bool) → List (Place K) → Type 0
One test ps = (m n : ℕ) → test (at ps m) ≡ true → test (at ps n) ≡ true → m ≡ n

pub one_from : {K : Type 0} (test : PlaceState K → Bool) (p : Place K) (ps : List (Place K)) → One test (p ∷ ps) → One test ps
one_from test p ps one m n em en = let e : suc m ≡ suc n = one (suc m) (suc n) em en in omega arith

-- the value of the place, if there is one, with its record
abbrev pub value_at : {K R Y : Type 0} → (PlaceState K → R → Y) → List (Place K) → List R → Option ℕ → Option Y
value_at value ps shelf None = None
value_at value ps shelf (Some n) = option_map (value (at ps n)) (slice_get shelf n)

-- a look-up f of versions that is a test of places, with the value that it gives there
module _ {K R Y : Type 0} (f : Version K R → Option Y) (test : PlaceState K → Bool) (value : PlaceState K → R → Y)
    (free_not : test Free ≡ false) (is : (p : PlaceState K) (r : R) → first f (listed (version_in p r)) ≡ when (test p) (value p r)) where
  -- what is found in the first place, or else behind it
  pub step : (p : PlaceState K) (r : R) (vs : List (Version K R)) → first f (listed (version_in p r) ++ vs) ≡ or_else (when (test p) (value p r)) (first f vs)
  step p r vs = go (version_in p r) (is p r)
    where
      go : (o : Option (Version K R)) → first f (listed o) ≡ when (test p) (value p r) → first f (listed o ++ vs) ≡ or_else (when (test p) (value p r)) (first f vs)
      go None e = ap (λ o. or_else o (first f vs)) e
      go (Some v) e = ap (λ o. or_else o (first f vs)) (sym (or_none (f v)) ∙ e)

  -- whether it is found
  pub found_is : (ps : List (Place K)) (shelf : List R) → length shelf ≡ length ps → is_some (first f (versions_in ps shelf)) ≡ any (λ p. test p.state) ps
  found_is [] shelf e = refl
  found_is (p ∷ ps) [] e = absurd (omega arith)
  found_is (p ∷ ps) (r ∷ rs) e = ap is_some (step p.state r (versions_in ps rs)) ∙ go (test p.state) (found_is ps rs (omega arith))
    where
      go : (b : Bool) → is_some (first f (versions_in ps rs)) ≡ any (λ p. test p.state) ps → is_some (or_else (when b (value p.state r)) (first f (versions_in ps rs))) ≡ (b || any (λ p. test p.state) ps)
      go true i = refl
      go false i = i

  none_first : (ps : List (Place K)) (shelf : List R) → ((n : ℕ) → test (at ps n) ≡ false) → first f (versions_in ps shelf) ≡ None
  none_first [] shelf h = refl
  none_first (p ∷ ps) [] h = refl
  none_first (p ∷ ps) (r ∷ rs) h = step p.state r (versions_in ps rs) ∙ rw (h 0) (none_first ps rs (λ n. h (suc n)))

  one_first : (ps : List (Place K)) (shelf : List R) (n : ℕ) → length shelf ≡ length ps → One test ps → test (at ps n) ≡ true → first f (versions_in ps shelf) ≡ option_map (value (at ps n)) (slice_get shelf n)
  one_first [] shelf n e one h = let z : ◌≡◌ {A = Bool} true false = sym h ∙ free_not in cc
  one_first (p ∷ ps) [] n e one h = absurd (omega arith)
  one_first (p ∷ ps) (r ∷ rs) zero e one h = step p.state r (versions_in ps rs) ∙ rw h
  one_first (p ∷ ps) (r ∷ rs) (suc n) e one h = step p.state r (versions_in ps rs) ∙ go (test p.state) refl (one_first ps rs n (omega arith) (one_from test p ps one) h)
    where
      go : (b : Bool) → test p.state ≡ b → first f (versions_in ps rs) ≡ option_map (value (at ps n)) (slice_get rs n) → or_else (when b (value p.state r)) (first f (versions_in ps rs)) ≡ option_map (value (at ps n)) (slice_get rs n)
      go true eb i = let z : 0 ≡ suc n = one 0 (suc n) eb h in absurd (omega arith)
      go false eb i = i

  -- the place that is found has what the ledger finds
  pub found_at : (ps : List (Place K)) (shelf : List R) (o : Option ℕ) → length shelf ≡ length ps → One test ps → FindsPlace test ps o → first f (versions_in ps shelf) ≡ value_at value ps shelf o
  found_at ps shelf None e one h = none_first ps shelf (any_none test ps free_not h)
  found_at ps shelf (Some n) e one h = one_first ps shelf n e one h.1

-- the value is the record itself
pub records : {K R : Type 0} (ps : List (Place K)) (shelf : List R) (o : Option ℕ) → value_at (λ p r. r) ps shelf o ≡ record_at shelf o
records ps shelf None = refl
records {K} {R} ps shelf (Some n) = go (slice_get shelf n)
  where
    go : (o : Option R) → option_map (λ r. r) o ≡ o
    go None = refl
    go (Some r) = refl

module _ {K : Type 0} (order : K → K → Ordering) where
  -- is it the job's draft at the key?
  abbrev pub is_draft_at : ℕ → K → PlaceState K → Bool
  is_draft_at t k p = is_draft_of t p && carries order k p

  module _ {R : Type 0} where
    pub draft_is : (t : ℕ) (k : K) (p : PlaceState K) (r : R) → first (draft_in order t k) (listed (version_in p r)) ≡ when (is_draft_at t k p) (when (is_unstamped p) r)
    draft_is t k (Unstamped q j) r = or_none (draft_in order t k (draft j q (Some r)))
    draft_is t k (Gone q j) r = or_none (draft_in order t k (draft j q None))
    draft_is t k _ r = refl

    pub current_is : (k : K) (p : PlaceState K) (r : R) → first (current_in order k) (listed (version_in p r)) ≡ when (is_current_of order k p) r
    current_is k (Current q b) r = or_none (current_in order k (committed q r b None))
    current_is k _ r = refl

    swap : (x y : Bool) (r : R) → when (x && y) r ≡ when (y && x) r
    swap true true r = refl
    swap true false r = refl
    swap false true r = refl
    swap false false r = refl

    pub seen_is : (s : ℕ) (k : K) (p : PlaceState K) (r : R) → first (seen_in order s k) (listed (version_in p r)) ≡ when (is_seen_of order s k p) r
    seen_is s k (Current q b) r = or_none (seen_in order s k (committed q r b None)) ∙ swap (same order q k) (spans b None s) r
    seen_is s k (Superseded q b f) r = or_none (seen_in order s k (committed q r b (Some f))) ∙ swap (same order q k) (spans b (Some f) s) r
    seen_is s k _ r = refl

  module _ (tot : Total order) where
    pub same_true : (q k : K) → same order q k ≡ true → q ≡ k
    same_true q k e = go (order q k) refl
      where
        go : (o : Ordering) → order q k ≡ o → q ≡ k
        go Less eo = let z : ◌≡◌ {A = Bool} false true = sym (rw eo refl) ∙ e in cc
        go Equal eo = tot.same q k eo
        go Greater eo = let z : ◌≡◌ {A = Bool} false true = sym (rw eo refl) ∙ e in cc

    pub key_true : (o : Option K) (k : K) → is_key order k o ≡ true → o ≡ Some k
    key_true None k e = cc
    key_true (Some q) k e = ap Some (same_true q k e)

    pub true_key : (o : Option K) (k : K) → o ≡ Some k → is_key order k o ≡ true
    true_key o k e = rw (e, tot.itself k)

    pub draft_true : (t : ℕ) (k : K) (p : PlaceState K) → is_draft_at t k p ≡ true → DraftOf t k p
    draft_true t k p e = let h = and_parts (is_draft_of t p) (carries order k p) e in (h.0, key_true (key_of p) k h.1)

    pub true_draft : (t : ℕ) (k : K) (p : PlaceState K) → DraftOf t k p → is_draft_at t k p ≡ true
    true_draft t k p h = and_from (is_draft_of t p) (carries order k p) h.0 (true_key (key_of p) k h.1)

    pub current_true : (k : K) (p : PlaceState K) → is_current_of order k p ≡ true → CurrentOf k p
    current_true k p e = let h = and_parts (is_current p) (carries order k p) e in (h.0, key_true (key_of p) k h.1)

    pub true_current : (k : K) (p : PlaceState K) → CurrentOf k p → is_current_of order k p ≡ true
    true_current k p h = and_from (is_current p) (carries order k p) h.0 (true_key (key_of p) k h.1)
