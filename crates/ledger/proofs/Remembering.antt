-- The model remembers the past: what stands in it is what the list of calls and answers says.
-- The drafts of a job that is open, or whose number is not given out yet, are its last granted puts and removes. What is current at a key is what the last
-- commit of a job that put or removed it left there. What an open report's stamp sees is what had been left when its ticket was given out.
-- Each call keeps this: a draft comes in front of the job's earlier ones; a commit makes the job's drafts current and leaves what earlier
-- stamps see; a report begins at the present stamp, which sees what is current. Tickets are below the next one, so a new one is nobody's.
use Rattle.std.proofs.Common.{◌≡◌, ℕ, ◌+◌, ◌<◌, ◌≤◌, Bool, true, false, cond, not, ◌&&◌, ◌||◌, eqb, ◌⊎◌, List, [], ◌∷◌, ◌++◌, is_some, Some, None, Option, Ok, Err, Ordering, sym, refl, ap, ◌∙◌, inl, inr, arith}
use Rattle.std.specs.List.{AllByRecursion}
use Rattle.std.proofs.ByRecursion.{All-push, all_kept_by, All-weaker}
use Rattle.std.proofs.lemmas.Bool.{eqb-true, eq-eqb, ne_eqb, eqb-false}
use Rattle.keys.specs.Orders.{Total}
use Rattle.keys.specs.Refusals.{Code}
use Rattle.ledger.specs.declared.call.TicketId.{TicketId}
use Rattle.ledger.specs.declared.call.Call.{Call}
use Rattle.ledger.specs.declared.call.Call.TheVariants.{Walk, Basic}
use Rattle.ledger.specs.declared.call.BasicCall.TheVariants.{BeginReport, BeginJob, Read, Look, Put, Remove, Commit, Abort, End, Age}
use Rattle.ledger.specs.declared.answer.Granted.TheVariants.{Aged}
use Rattle.ledger.specs.declared.answer.Refusal.{Refusal}
use Rattle.ledger.specs.declared.place.Report.{Report}
use Rattle.ledger.specs.Words.{when, or_else, any, first, same}
use Rattle.ledger.specs.Versions.{Version, draft_at, current_at, seen_at, finds_current, drafted, settled_all, without_drafts}
use Rattle.ledger.specs.Control.{Job, Control, job_at, keys_of, has_key, holding, jobs_but}
use Rattle.ledger.specs.Calls.{Exchange, change, is_age}
use Rattle.ledger.specs.Steps.{Summary, job_open, stamp_left, answered}
use Rattle.ledger.specs.Laws.{before, last_draft, left}
use Rattle.ledger.proofs.Finding.{all_both}
use Rattle.ledger.proofs.Model.{met, moved_on, Sound, current_is_seen}
use Rattle.ledger.proofs.Lookups.{draft_drafted, current_drafted, seen_drafted, draft_settled, current_settled, seen_settled, draft_aborted, current_aborted, seen_aborted}
use Rattle.ledger.proofs.Runs.{is_open, is_own}

-- is the job with the running number open?
abbrev pub open_job : {K : Type 0} → ℕ → List (Job K) → Bool
open_job j = any (λ i. eqb i.ticket j)

found_open : {K : Type 0} (j : ℕ) (js : List (Job K)) → is_some (job_at j js) ≡ open_job j js
found_open j [] = refl
found_open {K} j (i ∷ js) = go (eqb i.ticket j) (found_open j js)
  where
    go : (b : Bool) → is_some (job_at j js) ≡ open_job j js → is_some (or_else (when b i.keys) (job_at j js)) ≡ (b || open_job j js)
    go true e = refl
    go false e = e

open_push : {K : Type 0} (j : ℕ) (js : List (Job K)) (i : Job K) → open_job j (js ++ (i ∷ [])) ≡ true → (open_job j js ≡ true) ⊎ (i.ticket ≡ j)
open_push j [] i e = go (eqb i.ticket j) refl e
  where
    go : (b : Bool) → eqb i.ticket j ≡ b → (b || false) ≡ true → (false ≡ true) ⊎ (i.ticket ≡ j)
    go true q e = inr (eqb-true i.ticket j q)
    go false q e = cc
open_push {K} j (h ∷ js) i e = go (eqb h.ticket j) e (λ e'. open_push j js i e')
  where
    go : (b : Bool) → (b || open_job j (js ++ (i ∷ []))) ≡ true → (open_job j (js ++ (i ∷ [])) ≡ true → (open_job j js ≡ true) ⊎ (i.ticket ≡ j)) → ((b || open_job j js) ≡ true) ⊎ (i.ticket ≡ j)
    go true e rec = inl refl
    go false e rec = rec e

open_but : {K : Type 0} (t j : ℕ) (js : List (Job K)) → open_job j (jobs_but t js) ≡ true → (open_job j js ≡ true) × (j ≡ t → ⊥)
open_but t j [] e = cc
open_but {K} t j (i ∷ js) e = go (eqb i.ticket t) refl (eqb i.ticket j) refl e (λ e'. open_but t j js e')
  where
    go : (x : Bool) → eqb i.ticket t ≡ x → (y : Bool) → eqb i.ticket j ≡ y → open_job j (cond (not x) (i ∷ jobs_but t js) (jobs_but t js)) ≡ true → (open_job j (jobs_but t js) ≡ true → (open_job j js ≡ true) × (j ≡ t → ⊥)) → ((y || open_job j js) ≡ true) × (j ≡ t → ⊥)
    go true ex true ey e rec = (refl, (rec e).1)
    go true ex false ey e rec = rec e
    go false ex true ey e rec = (refl, λ jt. eqb-false i.ticket t ex (eqb-true i.ticket j ey ∙ jt))
    go false ex false ey e rec = rec (rw ey at e)

open_holding : {K : Type 0} (order : K → K → Ordering) (t : ℕ) (k : K) (j : ℕ) (js : List (Job K)) → open_job j (holding order t k js) ≡ open_job j js
open_holding order t k j [] = refl
open_holding {K} order t k j (i ∷ js) = rw (open_holding order t k j js) (go (eqb i.ticket t && not (has_key order k i.keys)))
  where
    go : (b : Bool) → (eqb (cond {A = Job K} b (record i { keys = i.keys ++ (k ∷ []) }) i).ticket j || open_job j js) ≡ (eqb i.ticket j || open_job j js)
    go true = refl
    go false = refl

-- the job of a call that passed its check is open
pub job_is_open : {K R : Type 0} (order : K → K → Ordering) (b : Summary K R) (t : TicketId) (rest : List (Option Code)) → first (λ check. check) (job_open order b t ∷ rest) ≡ None → open_job t.number b.control.jobs ≡ true
job_is_open order b t rest g =
    let o = is_open (keys_of b.control t) rest g in
    sym (found_open t.number b.control.jobs) ∙ ap is_some (is_own b.control t (job_at t.number b.control.jobs) o.0 o.1).1

-- open, or not given out yet
abbrev pub Live : {K : Type 0} → Control K → ℕ → Type 0
Live c j = (open_job j c.jobs ≡ true) ⊎ (c.next ≤ j)

-- the report has no later stamp, and a ticket that was given out
abbrev pub Earlier : ℕ → ℕ → Report → Type 0
Earlier stamp next r = (r.stamp ≤ stamp) × (r.ticket < next)

module _ {K R : Type 0} (order : K → K → Ordering) (tot : Total order) where
  -- what the report sees is what had been left when its ticket was given out
  abbrev pub Sees : List (Version K R) → List (Exchange K R) → Report → Type 0
  Sees vs past r = (k : K) → seen_at order r.stamp k vs ≡ left order k (before r.ticket past)

  pub record Remembers (b : Summary K R) (past : List (Exchange K R)) : Type 0 where
    pub drafts : (j : ℕ) → Live b.control j → (k : K) → draft_at order j k b.versions ≡ last_draft order j k past
    pub current : (k : K) → current_at order k b.versions ≡ left order k past
    pub seen : AllByRecursion (Sees b.versions past) b.control.reports
    pub earlier : AllByRecursion (Earlier b.control.stamp b.control.next) b.control.reports
    pub jobs : (j : ℕ) → open_job j b.control.jobs ≡ true → j < b.control.next

  -- one granted call more
  module _ (b : Summary K R) (past : List (Exchange K R)) (m : Remembers b past) (so : Sound order b.control.stamp b.versions) where
    -- the call with the model's answer
    abbrev newest : Call K R → ℕ → Exchange K R
    newest c n = record { call = c; shelf = n; answer = Ok (answered order b c) }

    -- a job that is live after the job t is closed was live before, and is another one
    live_but : (t j : ℕ) → open_job t b.control.jobs ≡ true → (open_job j (jobs_but t b.control.jobs) ≡ true) ⊎ (b.control.next ≤ j) → Live b.control j × (j ≡ t → ⊥)
    live_but t j ot (inl o) = let r = open_but t j b.control.jobs o in (inl r.0, r.1)
    live_but t j ot (inr o) = (inr o, λ e. let h = m.jobs t ot in omega arith)

    -- holds change the keys of jobs, and no job
    live_held : (hold : Bool) (t : ℕ) (k : K) (j : ℕ) → (open_job j (cond hold (holding order t k b.control.jobs) b.control.jobs) ≡ true) ⊎ (b.control.next ≤ j) → Live b.control j
    live_held true t k j (inl o) = inl (sym (open_holding order t k j b.control.jobs) ∙ o)
    live_held false t k j (inl o) = inl o
    live_held hold t k j (inr o) = inr o

    jobs_held : (hold : Bool) (t : ℕ) (k : K) (j : ℕ) → open_job j (cond hold (holding order t k b.control.jobs) b.control.jobs) ≡ true → j < b.control.next
    jobs_held true t k j o = m.jobs j (sym (open_holding order t k j b.control.jobs) ∙ o)
    jobs_held false t k j o = m.jobs j o

    -- open reports see what they saw where the versions that they see are the same
    sees_after : (vs : List (Version K R)) → ((r : Report) → Earlier b.control.stamp b.control.next r → (k : K) → seen_at order r.stamp k vs ≡ seen_at order r.stamp k b.versions) → AllByRecursion (Sees vs past) b.control.reports
    sees_after vs same_seen = all_both (Earlier b.control.stamp b.control.next) (Sees b.versions past) (Sees vs past) (λ r h sees k. same_seen r h k ∙ sees k) b.control.reports m.earlier m.seen

    -- a ticket that is given out now is no open report's
    new_ticket : (k : K) (r : Report) → Earlier b.control.stamp b.control.next r → left order k (before r.ticket past) ≡ left order k (cond (eqb b.control.next r.ticket) past (before r.ticket past))
    new_ticket k r h = rw (ne_eqb b.control.next r.ticket (λ e. let below = h.1 in omega arith))

    older : (j : ℕ) → (open_job j b.control.jobs ≡ true) ⊎ (b.control.next + 1 ≤ j) → Live b.control j
    older j (inl o) = inl o
    older j (inr o) = inr (omega arith)

    later_ticket : AllByRecursion (Earlier b.control.stamp (b.control.next + 1)) b.control.reports
    later_ticket = All-weaker (Earlier b.control.stamp b.control.next) (Earlier b.control.stamp (b.control.next + 1)) (λ r h. omega arith) b.control.reports m.earlier

    remembers_report : (n : ℕ) → Remembers (moved_on order None b (Basic BeginReport)) (newest (Basic BeginReport) n ∷ past)
    remembers_report n = record {
      drafts = λ j l k. m.drafts j (older j l) k;
      current = m.current;
      seen = All-push (Sees b.versions (newest (Basic BeginReport) n ∷ past)) b.control.reports begun
          (all_both (Earlier b.control.stamp b.control.next) (Sees b.versions past) (Sees b.versions (newest (Basic BeginReport) n ∷ past)) (λ r h sees k. sees k ∙ new_ticket k r h) b.control.reports m.earlier m.seen)
          (λ k. rw (eq-eqb b.control.next b.control.next refl) (sym (current_is_seen order b.control.stamp k b.versions so.in_time) ∙ m.current k));
      earlier = All-push (Earlier b.control.stamp (b.control.next + 1)) b.control.reports begun later_ticket (omega arith);
      jobs = λ j o. let h = m.jobs j o in omega arith;
    }
      where
        begun : Report
        begun = record { ticket = b.control.next; stamp = b.control.stamp }

    remembers_job : (n : ℕ) → Remembers (moved_on order None b (Basic BeginJob)) (newest (Basic BeginJob) n ∷ past)
    remembers_job n = record {
      drafts = λ j l k. m.drafts j (live j l) k;
      current = m.current;
      seen = all_both (Earlier b.control.stamp b.control.next) (Sees b.versions past) (Sees b.versions (newest (Basic BeginJob) n ∷ past)) (λ r h sees k. sees k ∙ new_ticket k r h) b.control.reports m.earlier m.seen;
      earlier = later_ticket;
      jobs = λ j o. below j (open_push j b.control.jobs begun o);
    }
      where
        begun : Job K
        begun = record { ticket = b.control.next; keys = [] }

        pushed : (j : ℕ) → (open_job j b.control.jobs ≡ true) ⊎ (b.control.next ≡ j) → Live b.control j
        pushed j (inl o) = inl o
        pushed j (inr o) = inr (omega arith)

        live : (j : ℕ) → (open_job j (b.control.jobs ++ (begun ∷ [])) ≡ true) ⊎ (b.control.next + 1 ≤ j) → Live b.control j
        live j (inl o) = pushed j (open_push j b.control.jobs begun o)
        live j (inr o) = inr (omega arith)

        below : (j : ℕ) → (open_job j b.control.jobs ≡ true) ⊎ (b.control.next ≡ j) → j < b.control.next + 1
        below j (inl o) = let h = m.jobs j o in omega arith
        below j (inr o) = omega arith

    -- put and remove
    drafts_made : (t : ℕ) (k : K) (d : Option R) (j : ℕ) → Live b.control j → (q : K) → draft_at order j q (drafted order t k d b.versions) ≡ or_else (when (eqb t j && same order k q) d) (last_draft order j q past)
    drafts_made t k d j l q = draft_drafted order tot t k d b.versions j q ∙ ap (or_else (when (eqb t j && same order k q) d)) (m.drafts j l q)

    current_kept : (t : ℕ) (k : K) (d : Option R) (q : K) → current_at order q (drafted order t k d b.versions) ≡ left order q past
    current_kept t k d q = current_drafted order tot t k d b.versions q ∙ m.current q

    seen_kept : (t : ℕ) (k : K) (d : Option R) → AllByRecursion (Sees (drafted order t k d b.versions) past) b.control.reports
    seen_kept t k d = sees_after (drafted order t k d b.versions) (λ r h q. seen_drafted order tot t k d b.versions r.stamp q)

    remembers_commit : (t : TicketId) (n : ℕ) → open_job t.number b.control.jobs ≡ true → Remembers (moved_on order None b (Basic (Commit t))) (newest (Basic (Commit t)) n ∷ past)
    remembers_commit t n ot = record {
      drafts = λ j l k. let other = live_but t.number j ot l in draft_settled order tot t.number (b.control.stamp + 1) b.versions j k other.1 ∙ m.drafts j other.0 k;
      current = λ k. current_settled order tot t.number (b.control.stamp + 1) b.versions k (so.one_draft t.number k) ∙ rw (m.drafts t.number (inl ot) k, m.current k);
      seen = sees_after (settled_all order t.number (b.control.stamp + 1) b.versions) (λ r h k. seen_settled order tot t.number (b.control.stamp + 1) b.versions r.stamp k (let below = h.0 in omega arith));
      earlier = All-weaker (Earlier b.control.stamp b.control.next) (Earlier (b.control.stamp + 1) b.control.next) (λ r h. omega arith) b.control.reports m.earlier;
      jobs = λ j o. m.jobs j (open_but t.number j b.control.jobs o).0;
    }

    remembers_abort : (t : TicketId) (n : ℕ) → open_job t.number b.control.jobs ≡ true → Remembers (moved_on order None b (Basic (Abort t))) (newest (Basic (Abort t)) n ∷ past)
    remembers_abort t n ot = record {
      drafts = λ j l k. let other = live_but t.number j ot l in draft_aborted order tot t.number b.versions j k other.1 ∙ m.drafts j other.0 k;
      current = λ k. current_aborted order tot t.number b.versions k ∙ m.current k;
      seen = sees_after (without_drafts order t.number b.versions) (λ r h k. seen_aborted order tot t.number b.versions r.stamp k);
      earlier = m.earlier;
      jobs = λ j o. m.jobs j (open_but t.number j b.control.jobs o).0;
    }

    -- a granted call other than age
    pub remembers : (c : Call K R) (n : ℕ) → is_age (change c) ≡ false → met order b c n ≡ None → Remembers (moved_on order None b c) (newest c n ∷ past)
    remembers (Walk t from) n y g = record { drafts = m.drafts; current = m.current; seen = m.seen; earlier = m.earlier; jobs = m.jobs }
    remembers (Basic BeginReport) n y g = remembers_report n
    remembers (Basic BeginJob) n y g = remembers_job n
    remembers (Basic (Read t k)) n y g = record { drafts = m.drafts; current = m.current; seen = m.seen; earlier = m.earlier; jobs = m.jobs }
    remembers (Basic (Look t k)) n y g =
        let found = finds_current order t.number k b.versions in
        record { drafts = λ j l q. m.drafts j (live_held found t.number k j l) q; current = m.current; seen = m.seen; earlier = m.earlier; jobs = jobs_held found t.number k }
    remembers (Basic (Put t k r)) n y g = record {
      drafts = λ j l q. drafts_made t.number k (Some r) j (live_held true t.number k j l) q;
      current = current_kept t.number k (Some r);
      seen = seen_kept t.number k (Some r);
      earlier = m.earlier;
      jobs = jobs_held true t.number k;
    }
    remembers (Basic (Remove t k)) n y g = record {
      drafts = λ j l q. drafts_made t.number k None j (live_held true t.number k j l) q;
      current = current_kept t.number k None;
      seen = seen_kept t.number k None;
      earlier = m.earlier;
      jobs = jobs_held true t.number k;
    }
    remembers (Basic (Commit t)) n y g = remembers_commit t n (job_is_open order b t (stamp_left order b ∷ []) g)
    remembers (Basic (Abort t)) n y g = remembers_abort t n (job_is_open order b t [] g)
    remembers (Basic (End t)) n y g = record {
      drafts = m.drafts;
      current = m.current;
      seen = all_kept_by (λ r. not (eqb r.ticket t.number)) (Sees b.versions past) b.control.reports m.seen;
      earlier = all_kept_by (λ r. not (eqb r.ticket t.number)) (Earlier b.control.stamp b.control.next) b.control.reports m.earlier;
      jobs = m.jobs;
    }
    remembers (Basic (Age limit)) n y g = cc

    -- a refused call, and an age call
    pub remembers_refused : (c : Call K R) (n : ℕ) (why : Refusal) → Remembers b (record { call = c; shelf = n; answer = Err why } ∷ past)
    remembers_refused c n why = record { drafts = m.drafts; current = m.current; seen = m.seen; earlier = m.earlier; jobs = m.jobs }

    pub remembers_age : (limit n looked freed : ℕ) → Remembers b (record { call = Basic (Age limit); shelf = n; answer = Ok (Aged looked freed) } ∷ past)
    remembers_age limit n looked freed = record { drafts = m.drafts; current = m.current; seen = m.seen; earlier = m.earlier; jobs = m.jobs }
