-- What the moves of places do to the versions in them.
-- A move that goes place by place picks or changes versions one by one; a put or remove takes one place out and puts its draft there;
-- and every place holds a wanted version just where there are as many wanted versions as places.
use Rattle.std.proofs.Common.{◌≡◌, ℕ, zero, suc, ◌+◌, ◌<◌, ◌≤◌, Bool, true, false, cond, not, ◌&&◌, eqb, List, [], ◌∷◌, ◌++◌, map, length, get_or, set, Some, None, count_by, filter, Option, Ordering, sym, refl, ap, ◌∙◌, arith}
use Rattle.std.specs.List.{cons_option}
use Rattle.std.proofs.lemmas.List.Sums.{sum_by-append}
use Rattle.std.proofs.lemmas.Bool.{eq-eqb, ne_eqb, eqb-true, eqb-false}
use Rattle.ledger.specs.declared.place.Place.{Place}
use Rattle.ledger.specs.declared.place.PlaceState.{PlaceState}
use Rattle.ledger.specs.declared.place.PlaceState.TheVariants.{Free, Unstamped, Gone, Current, Superseded}
use Rattle.ledger.specs.declared.place.Report.{Report}
use Rattle.ledger.specs.Words.{when, listed, picked}
use Rattle.ledger.specs.Places.{free, in_report, is_free, is_wanted}
use Rattle.ledger.specs.Versions.{Version, draft, committed, wanted, finished, drafted_by, settled}
use Rattle.ledger.specs.Steps.{version_in, versions_in, all_wanted, place_settled, place_aborted, place_aged}
use Rattle.ledger.proofs.Permutations.{Perm, perm_refl, perm_shift, picked_kept}
use Rattle.ledger.proofs.Finding.{and_then}

-- a change of each place is a change of each version
versions_map : {K R : Type 0} (f : Place K → Place K) (g : Version K R → Option (Version K R)) → ((p : PlaceState K) (r : R) → version_in (f (record { state = p })).state r ≡ and_then (version_in p r) g) → (ps : List (Place K)) (rs : List R) → versions_in (map f ps) rs ≡ picked g (versions_in ps rs)
versions_map f g h [] rs = refl
versions_map f g h (p ∷ ps) [] = refl
versions_map {K} {R} f g h (p ∷ ps) (r ∷ rs) =
    rw (h p.state r) (ap (λ vs. listed (and_then (version_in p.state r) g) ++ vs) (versions_map f g h ps rs) ∙ one (version_in p.state r))
  where
    joined : (o : Option (Version K R)) → listed o ++ picked g (versions_in ps rs) ≡ cons_option o (picked g (versions_in ps rs))
    joined None = refl
    joined (Some v) = refl

    one : (o : Option (Version K R)) → listed (and_then o g) ++ picked g (versions_in ps rs) ≡ picked g (listed o ++ versions_in ps rs)
    one None = refl
    one (Some v) = joined (g v)

module _ {K R : Type 0} (order : K → K → Ordering) where
  pub versions_settled : (t stamp : ℕ) (written : K → Bool) (ps : List (Place K)) (rs : List R) → versions_in (map (place_settled t stamp written) ps) rs ≡ picked (settled order t stamp written) (versions_in ps rs)
  versions_settled t stamp written = versions_map (place_settled t stamp written) (settled order t stamp written) each
    where
      each : (p : PlaceState K) (r : R) → version_in (place_settled t stamp written (record { state = p })).state r ≡ and_then (version_in p r) (settled order t stamp written)
      each Free r = refl
      each (Unstamped k j) r = go (eqb j t)
        where
          go : (b : Bool) → version_in {R = R} (cond {A = Place K} b (record { state = Current k stamp }) (record { state = Unstamped k j })).state r ≡ cond b (Some (committed k r stamp None)) (Some (draft j k (Some r)))
          go true = refl
          go false = refl
      each (Gone k j) r = go (eqb j t)
        where
          go : (b : Bool) → version_in {R = R} (cond {A = Place K} b free (record { state = Gone k j })).state r ≡ cond b None (Some (draft j k None))
          go true = refl
          go false = refl
      each (Current k b) r = go (written k)
        where
          go : (c : Bool) → version_in {R = R} (cond {A = Place K} c (record { state = Superseded k b stamp }) (record { state = Current k b })).state r ≡ Some (committed k r b (when c stamp))
          go true = refl
          go false = refl
      each (Superseded k b f) r = refl

pub versions_aborted : {K R : Type 0} (t : ℕ) (ps : List (Place K)) (rs : List R) → versions_in (map (place_aborted t) ps) rs ≡ filter (λ v. not (drafted_by t v)) (versions_in ps rs)
versions_aborted {K} {R} t ps rs = versions_map (place_aborted t) (λ v. when (not (drafted_by t v)) v) each ps rs ∙ picked_kept (λ v. not (drafted_by t v)) (versions_in ps rs)
  where
    freed : (p : PlaceState K) (v : Version K R) (r : R) → version_in p r ≡ Some v → (b : Bool) → version_in {R = R} (cond {A = Place K} b free (record { state = p })).state r ≡ when (not b) v
    freed p v r e true = refl
    freed p v r e false = e

    each : (p : PlaceState K) (r : R) → version_in (place_aborted t (record { state = p })).state r ≡ and_then (version_in p r) (λ v. when (not (drafted_by t v)) v)
    each (Unstamped k j) r = freed (Unstamped k j) (draft j k (Some r)) r refl (eqb j t)
    each (Gone k j) r = freed (Gone k j) (draft j k None) r refl (eqb j t)
    each _ r = refl

-- what ageing, of the superseded versions whose finish passes the test, leaves
abbrev pub spared : {K R : Type 0} → (ℕ → Bool) → List Report → Version K R → Bool
spared test reports v = not (finished test v && not (wanted reports v))

pub versions_aged : {K R : Type 0} (test : ℕ → Bool) (reports : List Report) (ps : List (Place K)) (rs : List R) → versions_in (map (place_aged test reports) ps) rs ≡ filter (spared test reports) (versions_in ps rs)
versions_aged {K} {R} test reports ps rs = versions_map (place_aged test reports) (λ v. when (spared test reports v) v) each ps rs ∙ picked_kept (spared test reports) (versions_in ps rs)
  where
    each : (p : PlaceState K) (r : R) → version_in (place_aged test reports (record { state = p })).state r ≡ and_then (version_in p r) (λ v. when (spared test reports v) v)
    each (Superseded k b f) r = go (test f && not (in_report reports b f))
      where
        go : (c : Bool) → version_in {R = R} (cond {A = Place K} c free (record { state = Superseded k b f })).state r ≡ when (not c) (committed k r b (Some f))
        go true = refl
        go false = refl
    each _ r = refl

-- one place may be taken out, and anything put there, with the record that lies there or with another
pub record Taken {K R : Type 0} (ps : List (Place K)) (rs : List R) (n : ℕ) : Type 0 where
  pub lies : R
  pub moved : (p : Place K) → Perm (versions_in (set ps n p) rs) (listed (version_in p.state lies) ++ versions_in (set ps n free) rs)
  pub filled : (p : Place K) (r : R) → Perm (versions_in (set ps n p) (set rs n r)) (listed (version_in p.state r) ++ versions_in (set ps n free) rs)

pub taken : {K R : Type 0} (ps : List (Place K)) (rs : List R) (n : ℕ) → n < length ps → length rs ≡ length ps → Taken ps rs n
taken [] rs n h e = absurd (omega arith)
taken (p ∷ ps) [] n h e = absurd (omega arith)
taken (p ∷ ps) (r ∷ rs) zero h e =
    record {
      lies = r;
      moved = λ q. perm_refl (listed (version_in q.state r) ++ versions_in ps rs);
      filled = λ q r'. perm_refl (listed (version_in q.state r') ++ versions_in ps rs);
    }
taken (p ∷ ps) (r ∷ rs) (suc n) h e =
    let t = taken ps rs n (omega arith) (omega arith) in
    let here = listed (version_in p.state r) in
    let rest = versions_in (set ps n free) rs in
    record {
      lies = t.lies;
      moved = λ q. perm_shift here (listed (version_in q.state t.lies)) rest (versions_in (set ps n q) rs) (t.moved q);
      filled = λ q r'. perm_shift here (listed (version_in q.state r')) rest (versions_in (set ps n q) (set rs n r')) (t.filled q r');
    }

-- a free place holds nothing, so nothing goes when it is taken
pub versions_free : {K R : Type 0} (ps : List (Place K)) (rs : List R) (n : ℕ) → is_free (get_or ps n free).state ≡ true → versions_in (set ps n free) rs ≡ versions_in ps rs
versions_free [] rs n e = refl
versions_free (p ∷ ps) [] zero e = refl
versions_free (p ∷ ps) [] (suc n) e = refl
versions_free {K} {R} (p ∷ ps) (r ∷ rs) zero e = go p.state e
  where
    go : (q : PlaceState K) → is_free q ≡ true → versions_in ps rs ≡ listed (version_in q r) ++ versions_in ps rs
    go Free e = refl
    go _ e = cc
versions_free (p ∷ ps) (r ∷ rs) (suc n) e = ap (λ vs. listed (version_in p.state r) ++ vs) (versions_free ps rs n e)

-- a place holds one wanted version or none
wanted_here : {K R : Type 0} (reports : List Report) (p : PlaceState K) (r : R) → count_by (wanted reports) (listed (version_in p r)) ≡ cond (is_wanted reports p) 1 0
wanted_here reports (Superseded k b f) r = omega arith
wanted_here reports _ r = refl

wanted_le : {K R : Type 0} (reports : List Report) (ps : List (Place K)) (rs : List R) → count_by (wanted reports) (versions_in ps rs) ≤ length ps
wanted_le reports [] rs = omega arith
wanted_le reports (p ∷ ps) [] = omega arith
wanted_le {K} {R} reports (p ∷ ps) (r ∷ rs) = go (is_wanted reports p.state) (wanted_here reports p.state r) (wanted_le reports ps rs)
  where
    both : count_by (wanted reports) (listed (version_in p.state r) ++ versions_in ps rs) ≡ count_by (wanted reports) (listed (version_in p.state r)) + count_by (wanted reports) (versions_in ps rs)
    both = sum_by-append (λ v. cond (wanted reports v) 1 0) (listed (version_in p.state r)) (versions_in ps rs)

    go : (b : Bool) → count_by (wanted reports) (listed (version_in p.state r)) ≡ cond b 1 0 → count_by (wanted reports) (versions_in ps rs) ≤ length ps → count_by (wanted reports) (listed (version_in p.state r) ++ versions_in ps rs) ≤ suc (length ps)
    go true e h = omega (arith, both)
    go false e h = omega (arith, both)

pub full_is : {K R : Type 0} (reports : List Report) (ps : List (Place K)) (rs : List R) → length rs ≡ length ps → all_wanted reports ps ≡ eqb (count_by (wanted reports) (versions_in ps rs)) (length ps)
full_is reports [] rs e = refl
full_is reports (p ∷ ps) [] e = absurd (omega arith)
full_is {K} {R} reports (p ∷ ps) (r ∷ rs) e =
    go (is_wanted reports p.state) (wanted_here reports p.state r) (eqb (count_by (wanted reports) (versions_in ps rs)) (length ps)) refl (full_is reports ps rs (omega arith)) (wanted_le reports ps rs)
  where
    both : count_by (wanted reports) (listed (version_in p.state r) ++ versions_in ps rs) ≡ count_by (wanted reports) (listed (version_in p.state r)) + count_by (wanted reports) (versions_in ps rs)
    both = sum_by-append (λ v. cond (wanted reports v) 1 0) (listed (version_in p.state r)) (versions_in ps rs)

    go : (b : Bool) → count_by (wanted reports) (listed (version_in p.state r)) ≡ cond b 1 0 → (c : Bool) → eqb (count_by (wanted reports) (versions_in ps rs)) (length ps) ≡ c → all_wanted reports ps ≡ eqb (count_by (wanted reports) (versions_in ps rs)) (length ps) → count_by (wanted reports) (versions_in ps rs) ≤ length ps → (b && all_wanted reports ps) ≡ eqb (count_by (wanted reports) (listed (version_in p.state r) ++ versions_in ps rs)) (suc (length ps))
    go true e true ec ih h = ih ∙ (ec ∙ sym (eq-eqb (count_by (wanted reports) (listed (version_in p.state r) ++ versions_in ps rs)) (suc (length ps)) (omega (arith, both, eqb-true (count_by (wanted reports) (versions_in ps rs)) (length ps) ec))))
    go true e false ec ih h = ih ∙ (ec ∙ sym (ne_eqb (count_by (wanted reports) (listed (version_in p.state r) ++ versions_in ps rs)) (suc (length ps)) (λ z. eqb-false (count_by (wanted reports) (versions_in ps rs)) (length ps) ec (omega (arith, both)))))
    go false e c ec ih h = sym (ne_eqb (count_by (wanted reports) (listed (version_in p.state r) ++ versions_in ps rs)) (suc (length ps)) (λ z. omega (arith, both)))
