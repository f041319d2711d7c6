-- For proofs about stores: what holds of every store that a run reaches, and how what is looked up is found in the places.
-- A reached store agrees with a sound model, so its own places are sound too: a place that holds what is looked for holds the only one.
use Rattle.std.proofs.Common.{◌≡◌, ℕ, zero, suc, ◌≤◌, cond, List, [], ◌∷◌, ◌++◌, length, Some, None, count_by, Option, Ordering, refl, ◌∙◌, arith}
use Rattle.std.specs.List.{slice_get}
use Rattle.std.proofs.lemmas.List.Sums.{sum_by-cons, sum_by-append}
use Rattle.keys.specs.Orders.{Total}
use Rattle.ledger.specs.declared.place.Place.{Place}
use Rattle.ledger.specs.Words.{listed, or_else, first}
use Rattle.ledger.specs.Versions.{Version, draft_in, seen_in}
use Rattle.ledger.specs.Calls.{Exchange}
use Rattle.ledger.specs.Steps.{State, Summary, version_in, versions_in, Numbers, Run}
use Rattle.ledger.proofs.Permutations.{perm_all, perm_sym, perm_sum}
use Rattle.ledger.proofs.Finding.{found, and_then, all_append_parts}
use Rattle.ledger.proofs.Model.{InTime, Sound, Agrees}
use Rattle.ledger.proofs.Runs.{model_of, sound_model, run_agrees}
use Rattle.ledger.proofs.Full.{model_places}

module _ {K R : Type 0} (order : K → K → Ordering) (tot : Total order) where
  pub reached_sound : (o : Numbers) (past : List (Exchange K R)) (s : State K R) → Run order o past s → Sound order s.control.stamp (versions_in s.places s.shelf)
  reached_sound o past s r = go (model_of order tot o past) (run_agrees order tot o past s r) (sound_model order tot o past)
    where
      here : List (Version K R)
      here = versions_in s.places s.shelf

      fewer : {Y : Type 0} (f : Version K R → Option Y) (b : Summary K R) (a : Agrees b s) → count_by (found f) b.versions ≤ 1 → count_by (found f) here ≤ 1
      fewer f b a h = omega (arith, perm_sum (λ v. cond (found f v) 1 0) a.versions.listed, sum_by-append (λ v. cond (found f v) 1 0) here a.versions.freed)

      go : (b : Summary K R) → Agrees b s → Sound order b.control.stamp b.versions → Sound order s.control.stamp (versions_in s.places s.shelf)
      go b a so = record {
        one_draft = λ t k. fewer (draft_in order t k) b a (so.one_draft t k);
        one_seen = λ st k. fewer (seen_in order st k) b a (so.one_seen st k);
        in_time = rw a.control (all_append_parts (InTime b.control.stamp) here a.versions.freed (perm_all (InTime b.control.stamp) (perm_sym a.versions.listed) so.in_time)).0;
      }

  pub reached_lengths : (o : Numbers) (past : List (Exchange K R)) (s : State K R) → Run order o past s → (length s.places ≡ o.places) × (length s.shelf ≡ o.places)
  reached_lengths o past s r = let a = run_agrees order tot o past s r in (a.places ∙ model_places order tot o past, a.shelf ∙ model_places order tot o past)

-- what is found counts
pub some_counts : {X Y : Type 0} (f : X → Option Y) (xs : List X) (y : Y) → first f xs ≡ Some y → 1 ≤ count_by (found f) xs
some_counts f [] y e = cc
some_counts {X} {Y} f (x ∷ xs) y e = go (f x) refl e (λ e'. some_counts f xs y e')
  where
    go : (o : Option Y) → f x ≡ o → or_else o (first f xs) ≡ Some y → (first f xs ≡ Some y → 1 ≤ count_by (found f) xs) → 1 ≤ count_by (found f) (x ∷ xs)
    go (Some z) ef e rec = let v : ◌≡◌ {A = ℕ} (cond (found f x) 1 0) 1 = rw ef in omega (arith, sum_by-cons (λ x. cond (found f x) 1 0) x xs)
    go None ef e rec = let v : 1 ≤ count_by (found f) xs = rec e in omega (arith, sum_by-cons (λ x. cond (found f x) 1 0) x xs)

-- where at most one version is found, a place that holds it shows what is found
pub found_at : {K R Y : Type 0} (f : Version K R → Option Y) (ps : List (Place K)) (rs : List R) (n : ℕ) (p : Place K) (r : R) (y : Y) → slice_get ps n ≡ Some p → slice_get rs n ≡ Some r → and_then (version_in p.state r) f ≡ Some y → count_by (found f) (versions_in ps rs) ≤ 1 → first f (versions_in ps rs) ≡ Some y
found_at f [] rs n p r y ep er h c = cc
found_at f (q ∷ ps) [] n p r y ep er h c = cc
found_at {K} {R} {Y} f (q ∷ ps) (x ∷ rs) zero p r y ep er h c =
    let eq : q ≡ p = cc in
    let ex : x ≡ r = cc in
    rw (eq, ex) (heads (version_in p.state r) h)
  where
    heads : (o : Option (Version K R)) → and_then o f ≡ Some y → first f (listed o ++ versions_in ps rs) ≡ Some y
    heads None e = cc
    heads (Some v) e = rw e
found_at {K} {R} {Y} f (q ∷ ps) (x ∷ rs) (suc n) p r y ep er h c =
    let total = sum_by-append (λ v. cond (found f v) 1 0) (listed (version_in q.state x)) (versions_in ps rs) in
    let i = found_at f ps rs n p r y ep er h (omega (arith, total)) in
    let one = some_counts f (versions_in ps rs) y i in
    others (version_in q.state x) (omega (arith, total)) ∙ i
  where
    others : (o : Option (Version K R)) → count_by (found f) (listed o) ≡ 0 → first f (listed o ++ versions_in ps rs) ≡ first f (versions_in ps rs)
    others None e = refl
    others (Some v) e = go (f v) refl
      where
        go : (z : Option Y) → f v ≡ z → or_else z (first f (versions_in ps rs)) ≡ first f (versions_in ps rs)
        go None ef = refl
        go (Some w) ef = let one : ◌≡◌ {A = ℕ} (cond (found f v) 1 0) 1 = rw ef in absurd (omega arith)
