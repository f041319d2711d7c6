-- What a run says of the table that it led to: the shelf is as long as the places, and at most one place has what a report sees at a key,
-- and at most one the key's current version. The ledger counts versions; here they are counted in places.
use Rattle.std.proofs.Common.{◌≡◌, ℕ, zero, suc, ◌+◌, ◌≤◌, Bool, true, false, cond, List, [], ◌∷◌, length, is_some, Some, None, count_by, Option, Ordering, sym, refl, ap, ◌∙◌, subst, arith}
use Rattle.std.proofs.lemmas.List.Sums.{sum_by-cons}
use Rattle.keys.specs.Orders.{Total}
use Rattle.ledger.specs.declared.place.Place.{Place}
use Rattle.ledger.specs.declared.place.PlaceState.{PlaceState}
use Rattle.ledger.specs.declared.place.PlaceState.TheVariants.{Free}
use Rattle.ledger.specs.Words.{when, first, listed}
use Rattle.ledger.specs.Versions.{Version, seen_in, current_in}
use Rattle.ledger.specs.Calls.{Exchange}
use Rattle.ledger.specs.Steps.{version_in, versions_in, Numbers, Run}
use Rattle.ledger.proofs.Finding.{found, found_when, or_none}
use Rattle.ledger.proofs.Model.{one_current}
use Rattle.ledger.proofs.Reached.{reached_sound, reached_lengths}
use Rattle.table.specs.Views.{View, at}
use Rattle.table.specs.Checks.{is_current_of}
use Rattle.table.specs.Reads.{is_seen_of}
use Rattle.bridge.specs.States.{state}
use Rattle.bridge.proofs.Versions.{One, seen_is, current_is}
use Rattle.bridge.proofs.Ages.{counts_is}

module _ {K : Type 0} (test : PlaceState K → Bool) where
  passes_counts : (ps : List (Place K)) (n : ℕ) → test Free ≡ false → test (at ps n) ≡ true → 1 ≤ count_by (λ p. test p.state) ps
  passes_counts [] n f e = let z : ◌≡◌ {A = Bool} true false = sym e ∙ f in cc
  passes_counts (p ∷ ps) zero f e = let one : ◌≡◌ {A = ℕ} (cond (test p.state) 1 0) 1 = rw e in omega (arith, sum_by-cons (λ p. cond (test p.state) 1 0) p ps)
  passes_counts (p ∷ ps) (suc n) f e = let i = passes_counts ps n f e in omega (arith, i, sum_by-cons (λ p. cond (test p.state) 1 0) p ps)

  -- where at most one is counted, at most one place passes
  pub counted_one : (ps : List (Place K)) → test Free ≡ false → count_by (λ p. test p.state) ps ≤ 1 → One test ps
  counted_one [] f c m n em en = let z : ◌≡◌ {A = Bool} true false = sym em ∙ f in cc
  counted_one (p ∷ ps) f c zero zero em en = refl
  counted_one (p ∷ ps) f c zero (suc n) em en =
      let i = passes_counts ps n f en in
      let one : ◌≡◌ {A = ℕ} (cond (test p.state) 1 0) 1 = rw em in
      absurd (omega (arith, i, c, sum_by-cons (λ p. cond (test p.state) 1 0) p ps))
  counted_one (p ∷ ps) f c (suc m) zero em en =
      let i = passes_counts ps m f em in
      let one : ◌≡◌ {A = ℕ} (cond (test p.state) 1 0) 1 = rw en in
      absurd (omega (arith, i, c, sum_by-cons (λ p. cond (test p.state) 1 0) p ps))
  counted_one (p ∷ ps) f c (suc m) (suc n) em en = ap suc (counted_one ps f (omega (arith, c, sum_by-cons (λ p. cond (test p.state) 1 0) p ps)) m n em en)

-- a look-up that is a test of places counts as the test does
counts : {K R Y : Type 0} (f : Version K R → Option Y) (test : PlaceState K → Bool) (value : PlaceState K → R → Y) → ((p : PlaceState K) (r : R) → first f (listed (version_in p r)) ≡ when (test p) (value p r))
    → (p : PlaceState K) (r : R) → count_by (found f) (listed (version_in p r)) ≡ cond (test p) 1 0
counts {K} {R} {Y} f test value is p r = go (version_in p r) (is p r)
  where
    zero_plus : (b : Bool) → 0 + cond b 1 0 ≡ cond {A = ℕ} b 1 0
    zero_plus true = refl
    zero_plus false = refl

    none : (b : Bool) → ◌≡◌ {A = Option Y} None (when b (value p r)) → 0 ≡ cond {A = ℕ} b 1 0
    none true e = cc
    none false e = refl

    go : (o : Option (Version K R)) → first f (listed o) ≡ when (test p) (value p r) → count_by (found f) (listed o) ≡ cond (test p) 1 0
    go None e = none (test p) e
    go (Some v) e = ap (λ b. 0 + cond b 1 0) (ap is_some (sym (or_none (f v)) ∙ e) ∙ found_when (test p) (value p r)) ∙ zero_plus (test p)

-- what holds of a table that a run led to
pub record Reached {K R : Type 0} (order : K → K → Ordering) (v : View K) (own : List R) : Type 0 where
  pub long : length own ≡ length v.places
  pub one_seen : (st : ℕ) (k : K) → One (is_seen_of order st k) v.places
  pub one_current : (k : K) → One (is_current_of order k) v.places

pub reached : {K R : Type 0} (order : K → K → Ordering) (tot : Total order) (o : Numbers) (past : List (Exchange K R)) (v : View K) (own : List R) → Run order o past (state v own) → Reached order v own
reached {K} {R} order tot o past v own run =
    let sound = reached_sound order tot o past (state v own) run in
    let lengths = reached_lengths order tot o past (state v own) run in
    let long : length own ≡ length v.places = lengths.1 ∙ sym lengths.0 in
    record {
      long = long;
      one_seen = λ st k. counted_one (is_seen_of order st k) v.places refl
          (subst (λ n. n ≤ 1) (counts_is (found (seen_in order st k)) (is_seen_of order st k) (counts (seen_in order st k) (is_seen_of order st k) (λ p r. r) (seen_is order st k)) v.places own long) (sound.one_seen st k));
      one_current = λ k. counted_one (is_current_of order k) v.places refl
          (subst (λ n. n ≤ 1) (counts_is (found (current_in order k)) (is_current_of order k) (counts (current_in order k) (is_current_of order k) (λ p r. r) (current_is order k)) v.places own long) (one_current order v.stamp k (versions_in v.places own) sound));
    }
