-- Ageing is the ledger's: it counts and frees the same, and since it frees superseded versions alone, no row is concerned.
use Rattle.std.proofs.Common.{◌≡◌, ℕ, ◌+◌, Bool, true, false, cond, not, ◌&&◌, ltb, List, [], ◌∷◌, map, length, Some, Ok, count_by, Ordering, sym, refl, ap, ◌∙◌, arith}
use Rattle.std.proofs.lemmas.List.Sums.{sum_by-append, sum_by-cons}
use Rattle.ledger.specs.declared.call.Call.TheVariants.{Basic}
use Rattle.ledger.specs.declared.call.BasicCall.TheVariants.{Age}
use Rattle.ledger.specs.declared.answer.Granted.TheVariants.{Aged}
use Rattle.ledger.specs.declared.place.Place.{Place}
use Rattle.ledger.specs.declared.place.PlaceState.{PlaceState}
use Rattle.ledger.specs.declared.place.PlaceState.TheVariants.{Superseded}
use Rattle.ledger.specs.declared.place.PlaceEvent.TheVariants as event
use Rattle.ledger.specs.declared.place.Report.{Report}
use Rattle.ledger.specs.Words.{listed}
use Rattle.ledger.specs.Places.{next, in_report, is_finished, is_wanted}
use Rattle.ledger.specs.Versions.{Version, finished, wanted}
use Rattle.ledger.specs.Steps.{version_in, versions_in, place_aged}
use Rattle.ledger.specs.Control.{with_jobs}
use Rattle.table.specs.Views.{View, at, with_places}
use Rattle.table.specs.Ageing.{aged, looked_at, freed, is_looked_at, is_freed}
use Rattle.bridge.specs.States.{control}
use Rattle.bridge.specs.Soundness.{Sound}
use Rattle.bridge.proofs.Fitting.{Alike, alike_if, SameAt, mapped_same, jobs_stay, rows_stay}
use Rattle.bridge.proofs.Outcomes.{Goes}

-- how many versions pass is how many places hold one that passes
pub counts_is : {K R : Type 0} (g : Version K R → Bool) (test : PlaceState K → Bool) → ((p : PlaceState K) (r : R) → count_by g (listed (version_in p r)) ≡ cond (test p) 1 0)
    → (ps : List (Place K)) (own : List R) → length own ≡ length ps → count_by g (versions_in ps own) ≡ count_by (λ p. test p.state) ps
counts_is g test is [] own e = refl
counts_is g test is (p ∷ ps) [] e = absurd (omega arith)
counts_is {K} {R} g test is (p ∷ ps) (r ∷ rs) e =
    let i = counts_is g test is ps rs (omega arith) in
    omega (arith, i, is p.state r, sum_by-append (λ v. cond (g v) 1 0) (listed (version_in p.state r)) (versions_in ps rs), sum_by-cons (λ p. cond (test p.state) 1 0) p ps)

module _ {K : Type 0} (test : ℕ → Bool) (reports : List Report) where
  -- nothing but a superseded version changes
  alike : (p : PlaceState K) (t : ℕ) (k : K) → Alike t k p (place_aged test reports (record { state = p })).state
  alike p t k = alike_if p (next p event.Age) t k (is_finished test p && not (is_wanted reports p)) (λ e. gone p e)
    where
      gone : (p : PlaceState K) → (is_finished test p && not (is_wanted reports p)) ≡ true → Alike t k p (next p event.Age)
      gone (Superseded q b f) e = ((λ h. cc, λ h. cc), (λ h. cc, λ h. cc))
      gone _ e = cc

  pub aged_same : (ps : List (Place K)) (t : ℕ) (k : K) → SameAt ps (map (place_aged test reports) ps) t k
  aged_same ps t k = mapped_same (place_aged test reports) refl ps t k (λ n. alike (at ps n) t k)

one : (b : Bool) → 0 + cond b 1 0 ≡ cond {A = ℕ} b 1 0
one true = refl
one false = refl

module _ {K R : Type 0} where
  finished_counts : (test : ℕ → Bool) (p : PlaceState K) (r : R) → count_by (finished test) (listed (version_in p r)) ≡ cond (is_finished test p) 1 0
  finished_counts test (Superseded k b f) r = one (test f)
  finished_counts test _ r = refl

  freed_counts : (test : ℕ → Bool) (reports : List Report) (p : PlaceState K) (r : R) → count_by (λ v. finished test v && not (wanted reports v)) (listed (version_in p r)) ≡ cond (is_finished test p && not (is_wanted reports p)) 1 0
  freed_counts test reports (Superseded k b f) r = one (test f && not (in_report reports b f))
  freed_counts test reports _ r = refl

  pub age_goes : (order : K → K → Ordering) (v : View K) (own : List R) (n limit : ℕ) (s : Sound v) → length own ≡ length v.places
      → Goes order v own (Basic (Age limit)) n (Ok (Aged (looked_at (Some limit) v) (freed (Some limit) v))) (with_places v (aged (Some limit) v)) own
  age_goes order v own n limit s long =
      let same = aged_same (λ f. ltb f limit) v.reports v.places in
      let looks = counts_is (finished (λ f. ltb f limit)) (is_looked_at (Some limit)) (finished_counts (λ f. ltb f limit)) v.places own long in
      let frees = counts_is (λ w. finished (λ f. ltb f limit) w && not (wanted v.reports w)) (is_freed (Some limit) v.reports) (freed_counts (λ f. ltb f limit) v.reports) v.places own long in (
        record {
          answer = ap (λ x. Ok (Aged x (freed (Some limit) v))) (sym looks) ∙ ap (λ x. Ok (Aged (count_by (finished (λ f. ltb f limit)) (versions_in v.places own)) x)) (sym frees);
          control = ap (with_jobs (control v)) (jobs_stay v.places (aged (Some limit) v) same v.jobs s.rows);
          moves = (refl, refl);
        },
        record { stamp = s.stamp; reports = s.reports; jobs = s.jobs; rows = rows_stay v.places (aged (Some limit) v) same v.jobs s.rows },
      )
