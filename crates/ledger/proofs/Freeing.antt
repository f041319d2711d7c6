-- (c), of age: after an age call a version that finished below its limit has a place exactly when an open report's stamp lies in its span.
-- The ledger's versions are those in the places and those that were freed. One that is wanted was never freed, and ageing leaves its place;
-- one that still has a place after ageing, though it finished below the limit, is wanted.
use Rattle.std.proofs.Common.{◌≡◌, ℕ, zero, suc, ◌<◌, Bool, true, false, cond, not, ◌&&◌, ltb, List, [], ◌∷◌, map, Some, None, Option, Ordering, refl, ap, subst}
use Rattle.std.specs.List.{AllByRecursion, slice_get}
use Rattle.std.proofs.ByRecursion.{All-append, All-weaker}
use Rattle.std.proofs.lemmas.Bool.{lt-ltb}
use Rattle.keys.specs.Orders.{Total}
use Rattle.ledger.specs.declared.call.Call.TheVariants.{Basic}
use Rattle.ledger.specs.declared.call.BasicCall.TheVariants.{Age}
use Rattle.ledger.specs.declared.place.Place.{Place}
use Rattle.ledger.specs.declared.place.PlaceState.{PlaceState}
use Rattle.ledger.specs.declared.place.PlaceState.TheVariants.{Free, Superseded}
use Rattle.ledger.specs.declared.place.Report.{Report}
use Rattle.ledger.specs.Words.{listed}
use Rattle.ledger.specs.Places.{free, in_report}
use Rattle.ledger.specs.Versions.{Version, draft, committed}
use Rattle.ledger.specs.Calls.{Exchange}
use Rattle.ledger.specs.Steps.{State, Summary, version_in, versions_in, place_aged, Step, Numbers, Run}
use Rattle.ledger.specs.Laws.{HasPlace, KeptOrFreed, AgeFrees}
use Rattle.ledger.proofs.Permutations.{perm_all}
use Rattle.ledger.proofs.ButFreed.{Freeable}
use Rattle.ledger.proofs.Model.{Agrees}
use Rattle.ledger.proofs.Runs.{model_of, run_agrees}
use Rattle.ledger.proofs.Listed.{ledger_of, ledger_is}

-- a superseded version in an open report's span has a place among these
abbrev Placed : {K R : Type 0} → List Report → List (Place K) → List R → Version K R → Type 0
Placed reports ps rs (draft j k d) = Unit {0}
Placed reports ps rs (committed k r b None) = Unit {0}
Placed reports ps rs (committed k r b (Some f)) = in_report reports b f ≡ true → (n : ℕ) × (slice_get ps n ≡ Some (record { state = Superseded k b f })) × (slice_get rs n ≡ Some r)

placed_later : {K R : Type 0} (reports : List Report) (ps : List (Place K)) (rs : List R) (p : Place K) (r : R) (v : Version K R) → Placed reports ps rs v → Placed reports (p ∷ ps) (r ∷ rs) v
placed_later reports ps rs p r (draft j k d) h = tt
placed_later reports ps rs p r (committed k x b None) h = tt
placed_later reports ps rs p r (committed k x b (Some f)) h = λ w. let m = h w in (suc m.0, m.1, m.2)

-- ageing leaves the places of those
placed : {K R : Type 0} (test : ℕ → Bool) (reports : List Report) (ps : List (Place K)) (rs : List R) → AllByRecursion (Placed reports (map (place_aged test reports) ps) rs) (versions_in ps rs)
placed test reports [] rs = tt
placed test reports (p ∷ ps) [] = tt
placed {K} {R} test reports (p ∷ ps) (r ∷ rs) =
    All-append (Placed reports (map (place_aged test reports) (p ∷ ps)) (r ∷ rs)) (listed (version_in p.state r)) (versions_in ps rs) (here p.state)
    (All-weaker (Placed reports (map (place_aged test reports) ps) rs) (Placed reports (map (place_aged test reports) (p ∷ ps)) (r ∷ rs)) (placed_later reports (map (place_aged test reports) ps) rs (place_aged test reports p) r) (versions_in ps rs) (placed test reports ps rs))
  where
    here : (q : PlaceState K) → AllByRecursion (Placed reports (place_aged test reports (record { state = q }) ∷ map (place_aged test reports) ps) (r ∷ rs)) (listed (version_in q r))
    here Free = tt
    here (Superseded k b f) = (λ w. (zero, rw w (go (test f)), refl), tt)
      where
        go : (x : Bool) → ◌≡◌ {A = Option (Place K)} (Some (cond (x && false) free (record { state = Superseded k b f }))) (Some (record { state = Superseded k b f }))
        go true = refl
        go false = refl
    here _ = (tt, tt)

-- what still has a place after ageing, though its finish passes the test, is wanted
still : {K : Type 0} (test : ℕ → Bool) (reports : List Report) (ps : List (Place K)) (n : ℕ) (k : K) (b f : ℕ) → slice_get (map (place_aged test reports) ps) n ≡ Some (record { state = Superseded k b f }) → test f ≡ true → in_report reports b f ≡ true
still test reports [] n k b f e t = cc
still test reports (p ∷ ps) (suc n) k b f e t = still test reports ps n k b f e t
still {K} test reports (p ∷ ps) zero k b f e t = here p.state (ap state_of e)
  where
    state_of : Option (Place K) → PlaceState K
    state_of None = Free
    state_of (Some p) = p.state

    here : (q : PlaceState K) → (place_aged test reports (record { state = q })).state ≡ Superseded k b f → in_report reports b f ≡ true
    here (Superseded q c g) e = go (test g) (in_report reports c g) refl refl e
      where
        go : (x w : Bool) → test g ≡ x → in_report reports c g ≡ w → (cond (x && not w) free (record { state = Superseded q c g })).state ≡ Superseded k b f → in_report reports b f ≡ true
        go true false ex ew e = cc
        go true true ex ew e = let eb : c ≡ b = cc in let ef : g ≡ f = cc in rw (← eb, ← ef) ew
        go false w ex ew e = cc
    here _ e = cc

module _ {K R : Type 0} (order : K → K → Ordering) (tot : Total order) where
  aged_rightly : (b : Summary K R) (before s : State K R) (limit : ℕ) → Agrees b before → s.places ≡ map (place_aged (λ f. ltb f limit) before.control.reports) before.places → s.shelf ≡ before.shelf → AllByRecursion (KeptOrFreed (ledger_of b) s limit) b.versions
  aged_rightly b before s limit a ep es =
      perm_all (KeptOrFreed (ledger_of b) s limit) a.versions.listed
      (All-append (KeptOrFreed (ledger_of b) s limit) (versions_in before.places before.shelf) a.versions.freed
      (All-weaker (Placed reports (map (place_aged test reports) before.places) before.shelf) (KeptOrFreed (ledger_of b) s limit) kept (versions_in before.places before.shelf) (placed test reports before.places before.shelf))
      (All-weaker (Freeable b.control.reports) (KeptOrFreed (ledger_of b) s limit) gone a.versions.freed a.versions.freeable))
    where
      reports : List Report
      reports = before.control.reports

      test : ℕ → Bool
      test f = ltb f limit

      same_reports : before.control.reports ≡ b.control.reports
      same_reports = ap (λ c. c.reports) a.control

      wants : (k : K) (x : R) (b' f : ℕ) → f < limit → HasPlace s k x b' f → in_report b.control.reports b' f ≡ true
      wants k x b' f l h = rw (← same_reports) (still test reports before.places h.0 k b' f (rw ep at h.1) (lt-ltb f limit l))

      kept : (v : Version K R) → Placed reports (map (place_aged test reports) before.places) before.shelf v → KeptOrFreed (ledger_of b) s limit v
      kept (draft j k d) h = tt
      kept (committed k x b' None) h = tt
      kept (committed k x b' (Some f)) h = λ l. (wants k x b' f l, λ w. let m = h (rw same_reports w) in (m.0, rw ep m.1, rw es m.2))

      gone : (v : Version K R) → Freeable b.control.reports v → KeptOrFreed (ledger_of b) s limit v
      gone (draft j k d) h = tt
      gone (committed k x b' None) h = tt
      gone (committed k x b' (Some f)) h = λ l. (wants k x b' f l, λ w. cc)

  pub age_frees : (o : Numbers) (e : Exchange K R) (past : List (Exchange K R)) (s : State K R) → Run order o (e ∷ past) s → AgeFrees order o s e past
  age_frees o e past s r limit q =
      let st : Step order r.0 (record { call = Basic (Age limit); shelf = e.shelf; answer = e.answer }) s = subst (λ c. Step order r.0 (record { call = c; shelf = e.shelf; answer = e.answer }) s) q r.2 in
      rw (ledger_is order tot o past r.0 r.1) (aged_rightly (model_of order tot o past) r.0 s limit (run_agrees order tot o past r.0 r.1) st.moves.0 st.moves.1)
