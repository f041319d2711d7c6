-- Every run agrees with the model that its calls other than age determine, and answers those calls as the model does.
-- By induction on the run: a store that agrees meets the same refusal, finds the same versions, and agrees again; an age call leaves the model as it is.
use Rattle.std.proofs.Common.{◌≡◌, ℕ, zero, suc, Bool, true, false, cond, not, eqb, List, [], ◌∷◌, ◌++◌, length, replicate, is_some, Some, None, Option, Ok, Err, Ordering, unwrap_or, sym, refl, ap, ◌∙◌, subst, arith}
use Rattle.std.proofs.lemmas.List.{append-nil, length-replicate}
use Rattle.std.proofs.lemmas.List.Elements.{filter_map-append}
use Rattle.std.proofs.ByRecursion.{All-weaker}
use Rattle.std.proofs.lemmas.Bool.{eqb-true}
use Rattle.keys.specs.Orders.{Total}
use Rattle.keys.specs.Refusals.{Code, plain}
use Rattle.ledger.specs.declared.call.TicketId.{TicketId}
use Rattle.ledger.specs.declared.call.Call.{Call}
use Rattle.ledger.specs.declared.call.Call.TheVariants.{Walk, Basic}
use Rattle.ledger.specs.declared.call.BasicCall.TheVariants.{BeginReport, BeginJob, Read, Look, Commit, Age}
use Rattle.ledger.specs.declared.place.Report.{Report}
use Rattle.ledger.specs.Words.{when, picked, first, least}
use Rattle.ledger.specs.Places.{free}
use Rattle.ledger.specs.Versions.{Version, draft, committed, key_seen_in, keys_seen}
use Rattle.ledger.specs.Control.{Control, of_store, report_at, stamp_of}
use Rattle.ledger.specs.Calls.{Answer, Exchange, change, is_age, receives_shelf}
use Rattle.ledger.specs.Steps.{State, Summary, summary, versions_in, shelf_fits, answered, Outcome, Step, Numbers, first_control, Run}
use Rattle.ledger.specs.Laws.{but_for_age, asked}
use Rattle.ledger.proofs.Permutations.{then, perm_eq, perm_picked}
use Rattle.ledger.proofs.Finding.{picked_none}
use Rattle.ledger.proofs.ButFreed.{Freeable}
use Rattle.ledger.proofs.Codes.{refusal_of, refused_as}
use Rattle.ledger.proofs.Leasts.{least_perm}
use Rattle.ledger.proofs.Model.{met, moved_on, next_model, Sound, Agrees, not_in_report, same_draft, same_current, same_seen}
use Rattle.ledger.proofs.Soundness.{sound_after}
use Rattle.ledger.proofs.Following.{same_met, same_control, agrees_after}

-- a ticket that passed its check is open
pub is_open : {X : Type 0} (o : Option X) (rest : List (Option Code)) → first (λ check. check) (when (not (is_some o)) (plain 4) ∷ rest) ≡ None → (x : X) × (o ≡ Some x)
is_open None rest h = cc
is_open (Some x) rest h = (x, refl)

-- and it is one of this store
pub is_own : {K X : Type 0} (c : Control K) (t : TicketId) (o : Option X) (x : X) → of_store c t o ≡ Some x → (t.store ≡ c.store) × (o ≡ Some x)
is_own {K} {X} c t o x e = go (eqb t.store c.store) refl e
  where
    go : (b : Bool) → eqb t.store c.store ≡ b → cond b o None ≡ Some x → (t.store ≡ c.store) × (o ≡ Some x)
    go true eb e = (eqb-true t.store c.store eb, e)
    go false eb e = cc

-- what the model answers, refused or granted
abbrev pub replied : {K R : Type 0} → (K → K → Ordering) → Option Code → Summary K R → Call K R → Answer K R
replied order (Some why) b c = Err (refusal_of why)
replied order None b c = Ok (answered order b c)

module _ {K R : Type 0} (order : K → K → Ordering) where
  -- only read, look and put take notice of the shelf
  pub shelf_ignored : (b : Summary K R) (c : Call K R) (n : ℕ) → met order b c (unwrap_or (when (receives_shelf c) n) 0) ≡ met order b c n
  shelf_ignored b (Basic (Age limit)) n = refl
  shelf_ignored b _ n = refl

-- an age call is one
pub age_is : {K R : Type 0} (c : Call K R) → is_age (change c) ≡ true → (limit : ℕ) × (c ≡ Basic (Age limit))
age_is (Basic (Age limit)) h = (limit, refl)
age_is _ h = cc

module _ {K R : Type 0} (order : K → K → Ordering) (tot : Total order) where
  -- a freed version shows no key to an open report
  freeable_no_key : (t st : ℕ) (reports : List Report) → report_at t reports ≡ Some st → (from : Option K) (v : Version K R) → Freeable reports v → key_seen_in order st from v ≡ None
  freeable_no_key t st reports o from (draft j k d) h = refl
  freeable_no_key t st reports o from (committed k r b None) h = cc
  freeable_no_key t st reports o from (committed k r b (Some f)) h = rw (not_in_report t st b f reports o h.1)

  -- one step of a store that agrees with a sound model
  module _ (b : Summary K R) (s : State K R) (a : Agrees b s) (so : Sound order b.control.stamp b.versions) where
    same_least : (t st : ℕ) → report_at t b.control.reports ≡ Some st → (from : Option K) → least order (keys_seen order st from (summary s).versions) ≡ least order (keys_seen order st from b.versions)
    same_least t st o from =
        least_perm order tot (then (perm_eq (picked g (summary s).versions) (picked g ((summary s).versions ++ a.versions.freed)) (sym all_here)) (perm_picked g a.versions.listed))
      where
        g : Version K R → Option K
        g = key_seen_in order st from

        none_freed : picked g a.versions.freed ≡ []
        none_freed = picked_none g a.versions.freed (All-weaker (Freeable b.control.reports) (λ v. g v ≡ None) (freeable_no_key t st b.control.reports o from) a.versions.freed a.versions.freeable)

        all_here : picked g ((summary s).versions ++ a.versions.freed) ≡ picked g (summary s).versions
        all_here = filter_map-append g (summary s).versions a.versions.freed ∙ (ap (λ ks. picked g (summary s).versions ++ ks) none_freed ∙ append-nil (picked g (summary s).versions))

    -- the same answer to a granted call other than age
    same_answer : (c : Call K R) (n : ℕ) → is_age (change c) ≡ false → met order b c n ≡ None → answered order (summary s) c ≡ answered order b c
    same_answer (Walk t from) n y h =
        let o = is_open (stamp_of b.control t) [] h in
        rw (a.control, o.1, same_least t.number o.0 (is_own b.control t (report_at t.number b.control.reports) o.0 o.1).1 from)
    same_answer (Basic BeginReport) n y h = rw a.control
    same_answer (Basic BeginJob) n y h = rw a.control
    same_answer (Basic (Read t k)) n y h =
        let o = is_open (stamp_of b.control t) (shelf_fits order b n ∷ []) h in
        rw (a.control, o.1, same_seen order b s a so t.number o.0 (is_own b.control t (report_at t.number b.control.reports) o.0 o.1).1 k)
    same_answer (Basic (Look t k)) n y h = rw (same_draft order b s a so t.number k, same_current order b s a so k)
    same_answer (Basic (Commit t)) n y h = rw a.control
    same_answer (Basic (Age limit)) n y h = cc
    same_answer _ n y h = refl

    pub step_agrees : (e : Exchange K R) (s' : State K R) → Step order s e s' → Agrees (next_model order b e.call e.shelf) s'
    step_agrees e s' st = go (met order b e.call e.shelf) (subst (λ o. Outcome order o s e s') (same_met order tot b s a so e.call e.shelf) st)
      where
        go : (o : Option Code) → Outcome order o s e s' → Agrees (moved_on order o b e.call) s'
        go (Some why) h = rw h.unchanged a
        go None h = agrees_after order tot b s s' a so e.call (h.control ∙ same_control order tot b s a so e.call) h.moves

    pub step_answers : (e : Exchange K R) (s' : State K R) → is_age (change e.call) ≡ false → Step order s e s' → e.answer ≡ replied order (met order b e.call e.shelf) b e.call
    step_answers e s' y st = go (met order b e.call e.shelf) refl (subst (λ o. Outcome order o s e s') (same_met order tot b s a so e.call e.shelf) st)
      where
        go : (o : Option Code) → met order b e.call e.shelf ≡ o → Outcome order o s e s' → e.answer ≡ replied order o b e.call
        go (Some why) eo h = refused_as e.answer why h.answer
        go None eo h = h.answer ∙ ap Ok (same_answer e.call e.shelf y eo)

  -- the model after some calls other than age, each with the length of the shelf that it received
  abbrev pub model : Numbers → List (Call K R × Option ℕ) → Summary K R
  model o [] = record { control = first_control o; versions = []; places = o.places }
  model o (c ∷ cs) = next_model order (model o cs) c.0 (unwrap_or c.1 0)

  -- the model of a run
  abbrev pub model_of : Numbers → List (Exchange K R) → Summary K R
  model_of o past = model o (asked (but_for_age past))

  sound_calls : (o : Numbers) (cs : List (Call K R × Option ℕ)) → Sound order (model o cs).control.stamp (model o cs).versions
  sound_calls o [] = record { one_draft = λ t k. omega arith; one_seen = λ s k. omega arith; in_time = tt }
  sound_calls o (c ∷ cs) = sound_after order tot (model o cs) (met order (model o cs) c.0 (unwrap_or c.1 0)) c.0 (sound_calls o cs)

  pub sound_model : (o : Numbers) (past : List (Exchange K R)) → Sound order (model_of o past).control.stamp (model_of o past).versions
  sound_model o past = sound_calls o (asked (but_for_age past))

  -- the model after one call more
  pub model_more : (P : Summary K R → Type 0) (o : Numbers) (e : Exchange K R) (past : List (Exchange K R)) → P (next_model order (model_of o past) e.call e.shelf) → P (model_of o (e ∷ past))
  model_more P o e past h = go (is_age (change e.call)) refl
    where
      go : (x : Bool) → is_age (change e.call) ≡ x → P (model o (asked (cond (not x) (e ∷ but_for_age past) (but_for_age past))))
      go false y = subst (λ m. P (moved_on order m (model_of o past) e.call)) (sym (shelf_ignored order (model_of o past) e.call e.shelf)) h
      go true y = subst (λ c. P (next_model order (model_of o past) c e.shelf)) (age_is e.call y).1 h

  all_free : (n : ℕ) (rs : List R) → versions_in {K = K} (replicate n free) rs ≡ []
  all_free zero rs = refl
  all_free (suc n) [] = refl
  all_free (suc n) (r ∷ rs) = all_free n rs

  pub run_agrees : (o : Numbers) (past : List (Exchange K R)) (s : State K R) → Run order o past s → Agrees (model_of o past) s
  run_agrees o [] s r = record {
    control = r.control;
    places = ap length r.places ∙ length-replicate o.places free;
    shelf = r.shelf;
    versions = record { freed = []; listed = perm_eq (versions_in s.places s.shelf ++ []) [] (append-nil (versions_in s.places s.shelf) ∙ rw r.places (all_free o.places s.shelf)); freeable = tt };
  }
  run_agrees o (e ∷ past) s r = model_more (λ b. Agrees b s) o e past (step_agrees (model_of o past) r.0 (run_agrees o past r.0 r.1) (sound_model o past) e s r.2)

  -- a run answers calls other than age as the model does
  pub run_answers : (o : Numbers) (e : Exchange K R) (past : List (Exchange K R)) (s : State K R) → Run order o (e ∷ past) s → is_age (change e.call) ≡ false → e.answer ≡ replied order (met order (model_of o past) e.call e.shelf) (model_of o past) e.call
  run_answers o e past s r y = step_answers (model_of o past) r.0 (run_agrees o past r.0 r.1) (sound_model o past) e s y r.2
