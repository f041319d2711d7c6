-- The ledger of a run is its model: what arguments and answers tell is what the calls determine.
-- By induction on the run: a granted call changes both alike, a refused one and an age call neither.
use Rattle.std.proofs.Common.{◌≡◌, ℕ, ◌+◌, Bool, true, false, cond, not, ◌&&◌, eqb, List, [], ◌∷◌, ◌++◌, map, Some, None, filter, Option, Ok, Ordering, sym, refl, ap, subst}
use Rattle.std.proofs.lemmas.List.{map-append}
use Rattle.keys.specs.Orders.{Total}
use Rattle.keys.specs.Refusals.{Code}
use Rattle.ledger.specs.declared.call.Call.{Call}
use Rattle.ledger.specs.declared.call.Call.TheVariants.{Walk, Basic}
use Rattle.ledger.specs.declared.call.BasicCall.TheVariants.{BeginReport, BeginJob, Look, Put, Remove, Commit, Abort}
use Rattle.ledger.specs.Versions.{Version, finds_current}
use Rattle.ledger.specs.Control.{Job, has_key, holding, jobs_but}
use Rattle.ledger.specs.Calls.{Exchange, change, is_age, refusal, granted}
use Rattle.ledger.specs.Ledger.{Ledger, noted, ledger}
use Rattle.ledger.specs.Steps.{State, Summary, answered, Numbers, Run}
use Rattle.ledger.proofs.Model.{met, versions_after, moved_on, next_model}
use Rattle.ledger.proofs.Runs.{replied, age_is, model_of, model_more, run_answers}

-- the running numbers of jobs
abbrev tickets : {K : Type 0} → List (Job K) → List ℕ
tickets = map (λ j. j.ticket)

-- what a ledger says of a model
abbrev pub ledger_of : {K R : Type 0} → Summary K R → Ledger K R
ledger_of b = record { stamp = b.control.stamp; reports = b.control.reports; jobs = tickets b.control.jobs; versions = b.versions }

tickets_but : {K : Type 0} (t : ℕ) (js : List (Job K)) → tickets (jobs_but t js) ≡ filter (λ j. not (eqb j t)) (tickets js)
tickets_but t [] = refl
tickets_but {K} t (j ∷ js) = go (not (eqb j.ticket t)) (tickets_but t js)
  where
    go : (b : Bool) → tickets (jobs_but t js) ≡ filter (λ i. not (eqb i t)) (tickets js) → tickets (cond b (j ∷ jobs_but t js) (jobs_but t js)) ≡ cond b (j.ticket ∷ filter (λ i. not (eqb i t)) (tickets js)) (filter (λ i. not (eqb i t)) (tickets js))
    go true e = ap (λ ts. j.ticket ∷ ts) e
    go false e = e

tickets_holding : {K : Type 0} (order : K → K → Ordering) (t : ℕ) (k : K) (js : List (Job K)) → tickets (holding order t k js) ≡ tickets js
tickets_holding order t k [] = refl
tickets_holding {K} order t k (j ∷ js) = go (eqb j.ticket t && not (has_key order k j.keys)) (tickets_holding order t k js)
  where
    go : (b : Bool) → tickets (holding order t k js) ≡ tickets js → (cond {A = Job K} b (record j { keys = j.keys ++ (k ∷ []) }) j).ticket ∷ tickets (holding order t k js) ≡ j.ticket ∷ tickets js
    go true e = ap (λ ts. j.ticket ∷ ts) e
    go false e = ap (λ ts. j.ticket ∷ ts) e

-- a granted answer is none of the refusals
pub answered_granted : {K R : Type 0} (order : K → K → Ordering) (b : Summary K R) (c : Call K R) → refusal {K = K} {R = R} (Ok (answered order b c)) ≡ None
answered_granted order b c = refl

module _ {K R : Type 0} (order : K → K → Ordering) (tot : Total order) where
  -- the same ledger, but for an equation of its jobs
  with_jobs : (b : Summary K R) (vs : List (Version K R)) (stamp : ℕ) (js js' : List ℕ) → js' ≡ js → ◌≡◌ {A = Ledger K R} (record { stamp = stamp; reports = b.control.reports; jobs = js; versions = vs }) (record { stamp = stamp; reports = b.control.reports; jobs = js'; versions = vs })
  with_jobs b vs stamp js js' e = λ i. record { stamp = stamp; reports = b.control.reports; jobs = sym e i; versions = vs }

  -- a granted call changes the ledger as it changes the model
  noted_after : (b : Summary K R) (c : Call K R) → noted order (ledger_of b) c (Ok (answered order b c)) ≡ ledger_of (moved_on order None b c)
  noted_after b (Walk t from) = refl
  noted_after b (Basic BeginReport) = refl
  noted_after b (Basic BeginJob) =
      let begun : Job K = record { ticket = b.control.next; keys = [] } in
      with_jobs b b.versions b.control.stamp (tickets b.control.jobs ++ (b.control.next ∷ [])) (tickets (b.control.jobs ++ (begun ∷ []))) (map-append (λ j. j.ticket) b.control.jobs (begun ∷ []))
  noted_after b (Basic (Look t k)) = go (finds_current order t.number k b.versions)
    where
      go : (x : Bool) → ledger_of b ≡ record { stamp = b.control.stamp; reports = b.control.reports; jobs = tickets (cond x (holding order t.number k b.control.jobs) b.control.jobs); versions = b.versions }
      go true = with_jobs b b.versions b.control.stamp (tickets b.control.jobs) (tickets (holding order t.number k b.control.jobs)) (tickets_holding order t.number k b.control.jobs)
      go false = refl
  noted_after b (Basic (Put t k r)) = with_jobs b (versions_after order b (change (Basic (Put t k r)))) b.control.stamp (tickets b.control.jobs) (tickets (holding order t.number k b.control.jobs)) (tickets_holding order t.number k b.control.jobs)
  noted_after b (Basic (Remove t k)) = with_jobs b (versions_after order b (change (Basic (Remove t k)))) b.control.stamp (tickets b.control.jobs) (tickets (holding order t.number k b.control.jobs)) (tickets_holding order t.number k b.control.jobs)
  noted_after b (Basic (Commit t)) = with_jobs b (versions_after order b (change (Basic (Commit t)))) (b.control.stamp + 1) (filter (λ j. not (eqb j t.number)) (tickets b.control.jobs)) (tickets (jobs_but t.number b.control.jobs)) (tickets_but t.number b.control.jobs)
  noted_after b (Basic (Abort t)) = with_jobs b (versions_after order b (change (Basic (Abort t)))) b.control.stamp (filter (λ j. not (eqb j t.number)) (tickets b.control.jobs)) (tickets (jobs_but t.number b.control.jobs)) (tickets_but t.number b.control.jobs)
  noted_after b _ = refl

  -- a call that the model replied to
  replied_noted : (b : Summary K R) (c : Call K R) (met : Option Code) → cond (granted (replied order met b c)) (noted order (ledger_of b) c (replied order met b c)) (ledger_of b) ≡ ledger_of (moved_on order met b c)
  replied_noted b c (Some why) = refl
  replied_noted b c None = noted_after b c

  pub ledger_is : (o : Numbers) (past : List (Exchange K R)) (s : State K R) → Run order o past s → ledger order o.stamp past ≡ ledger_of (model_of order tot o past)
  ledger_is o [] s r = refl
  ledger_is o (e ∷ past) s r =
      model_more order tot (λ b. ledger order o.stamp (e ∷ past) ≡ ledger_of b) o e past (rw (ledger_is o past r.0 r.1) (go (is_age (change e.call)) refl))
    where
      b : Summary K R
      b = model_of order tot o past

      unchanged : (x : Bool) → cond x (ledger_of b) (ledger_of b) ≡ ledger_of b
      unchanged true = refl
      unchanged false = refl

      go : (x : Bool) → is_age (change e.call) ≡ x → cond (granted e.answer) (noted order (ledger_of b) e.call e.answer) (ledger_of b) ≡ ledger_of (next_model order b e.call e.shelf)
      go false y = rw (run_answers order tot o e past s r y) (replied_noted b e.call (met order b e.call e.shelf))
      go true y =
          subst (λ c. cond (granted e.answer) (noted order (ledger_of b) c e.answer) (ledger_of b) ≡ ledger_of (next_model order b c e.shelf)) (sym (age_is e.call y).1) (unchanged (granted e.answer))
