-- What is promised of each call, from what the engine promises of it.
use Rattle.std.proofs.Common.{◌≡◌, ℕ, ◌+◌, not, eqb, List, [], ◌∷◌, length, Some, Ok, Err, Option, OnErr, Result, sym, refl, ap, ◌∙◌, subst}
use Rattle.std.proofs.lemmas.Result.{IfErr-at_err}
use Rattle.keys.specs.Refusals.{Code, plain, told}
use Rattle.keys.specs.declared.key.Key as Key
use Rattle.index.specs.declared.index.Index as Index
use Rattle.keys.specs.Orders.{Total}
use Rattle.ledger.specs.declared.call.TicketId.{TicketId}
use Rattle.ledger.specs.declared.call.Call.{Call}
use Rattle.ledger.specs.declared.call.Call.TheVariants.{Basic, Walk}
use Rattle.ledger.specs.declared.call.BasicCall.TheVariants.{BeginReport, BeginJob, Read, Look, Put, Remove, Commit, Abort, End, Age}
use Rattle.ledger.specs.declared.answer.Granted.TheVariants.{Report, Job, Record, Next, Done, Stamp, Aged}
use Rattle.ledger.specs.declared.answer.Granted.{Granted}
use Rattle.ledger.specs.declared.answer.Refusal.{Refusal}
use Rattle.ledger.specs.Calls.{Answer}
use Rattle.ledger.specs.Refusals.{code}
use Rattle.table.specs.Views.{View, view, if_granted, with_places}
use Rattle.table.specs.Checks.{checked, Outcome, report_open, job_open, shelf_fits, not_held, row_left, place_left}
use Rattle.table.specs.Begins.{begin_report_checks, begin_job_checks, next_ticket, report_opened, job_opened, report_closed}
use Rattle.table.specs.Reads.{read_checks, walk_checks, look_checks, Reads, Walks, Looks}
use Rattle.table.specs.Drafts.{put_checks, remove_checks, Puts, Removes}
use Rattle.table.specs.Commits.{commit_checks, abort_checks, committed, aborted}
use Rattle.table.specs.Ageing.{aged, looked_at, freed}
use Rattle.engine.specs.declared.store.Store.{Store}
use Rattle.engine.specs.Calls.{Unchanged}
use Rattle.bridge.specs.Answers.{answer_of}
use Rattle.bridge.specs.Soundness.{Sound}
use Rattle.bridge.proofs.Outcomes.{Goes}
use Rattle.bridge.proofs.Reached.{Reached}
use Rattle.bridge.proofs.Checks.{passes, unmet, shelf_is}
use Rattle.bridge.proofs.Begins.{begin_report_goes, begin_job_goes, end_goes}
use Rattle.bridge.proofs.Ages.{age_goes}
use Rattle.bridge.proofs.Aborts.{abort_goes}
use Rattle.bridge.proofs.Commits.{commit_goes}
use Rattle.bridge.proofs.Puts.{put_goes, remove_goes}
use Rattle.bridge.proofs.Looks.{look_goes}
use Rattle.bridge.proofs.Reading.{read_goes, walk_goes}
use Rattle.store.specs.Law.{LeadsOn, LeftAlone, RefusedLeavesAll}
use Rattle.store.proofs.Leading.{leads, leads_shelf}
use Rattle.store.proofs.Refused.{on_err, outcome_leaves_all, table_leaves}

-- what is promised of a call
abbrev pub Promised : {I K R : Type 0} {i : Index.Ghosts I K} {k : Key.Ghosts K} → Call K R → Answer K R → Store I K i k → Store I K i k → List R → List R → Type 0
Promised call answer store store' handed left = record {
  law : LeadsOn call answer store store' handed left;
  unchanged : RefusedLeavesAll answer store store' handed left;
  astray : LeftAlone store handed left;
}

-- what a refused call leaves may be said with less
pub outcome_leaves : {A L L' : Type 0} (checks : List (Option Code)) (Does : A → Type 0) → (L → L') → (r : Result A Code) → Outcome checks Does L r → Outcome checks Does L' r
outcome_leaves checks Does f (Ok a) h = h
outcome_leaves checks Does f (Err why) h = (h.0, f h.1)

-- a put on a shelf of another length is refused
pub put_astray : {I K R : Type 0} {i : Index.Ghosts I K} {k : Key.Ghosts K} (s s' : Store I K i k) (handed left : List R) (t : TicketId) (key : K) (item : R) (r : Result Unit Code)
    → Outcome (put_checks k.order (view s.table) (length handed) t key) (λ u. Puts k.order (view s.table) (view s'.table) handed left t key item) (Unchanged s s' × (left ≡ handed)) r → LeftAlone s handed left
put_astray {k = k} s s' handed left t key item (Err why) h ne = h.1.1
put_astray {k = k} s s' handed left t key item (Ok u) h ne =
    let v = view s.table in
    let p1 = passes (job_open v t) (shelf_fits v (length handed) ∷ not_held k.order v t key ∷ row_left k.order v t key ∷ place_left k.order v t key ∷ []) h.0 in
    let p2 = passes (shelf_fits v (length handed)) (not_held k.order v t key ∷ row_left k.order v t key ∷ place_left k.order v t key ∷ []) p1.1 in
    absurd (ne (shelf_is (length handed) (length v.places) (unmet (not (eqb (length handed) (length v.places))) (plain 3) p2.0)))

module _ {I K R : Type 0} {i : Index.Ghosts I K} {k : Key.Ghosts K} (tot : Total k.order) (s s' : Store I K i k) (handed : List R) where
  -- the call and the answer under other names
  said : (c' c : Call K R) (a' a : Answer K R) (left : List R) → c ≡ c' → a ≡ a' → Promised c' a' s s' handed left → Promised c a s s' handed left
  said c' c a' a left ec ea h = subst (λ x. Promised x a s s' handed left) (sym ec) (subst (λ x. Promised c' x s s' handed left) (sym ea) h)

  -- a call that changes the table alone, and nothing where it is refused
  on_table : {A : Type 0} (says : A → Granted K R) → (c' c : Call K R) (a : Answer K R) (r : Result A Refusal) (w : View K) → c ≡ c' → a ≡ answer_of says r
      → view s'.table ≡ if_granted r w (view s.table) → ((why : Refusal) → r ≡ Err why → s'.index ≡ s.index)
      → ((own : List R) → Reached k.order (view s.table) own → Sound (view s.table) → Goes k.order (view s.table) own c' (length handed) (answer_of says r) (if_granted r w (view s.table)) own)
      → Promised c a s s' handed handed
  on_table says c' c a r w ec ea ev ei goes = said c' c (answer_of says r) a handed ec ea (record {
    law = leads_shelf tot s s' c' (answer_of says r) handed
        (λ own mine re so. subst (λ v. Goes k.order (view s.table) own c' (length handed) (answer_of says r) v own) (sym ev) (goes own re so));
    unchanged = table_leaves says s s' (answer_of says r) handed handed r w refl ev ei refl;
    astray = λ ne. refl;
  })

  pub begin_report_promised : (c : Call K R) (a : Answer K R) (r : Result (TicketId × ℕ) Refusal) → c ≡ Basic BeginReport → a ≡ answer_of (λ p. Report p.0 p.1) r
      → told code r ≡ checked (begin_report_checks (view s.table)) (next_ticket (view s.table), s.table.stamp) → view s'.table ≡ if_granted r (report_opened (view s.table)) (view s.table) → s'.index ≡ s.index
      → Promised c a s s' handed handed
  begin_report_promised c a r ec ea er ev ei = on_table (λ p. Report p.0 p.1) (Basic BeginReport) c a r (report_opened (view s.table)) ec ea ev (λ why e. ei)
      (λ own re so. begin_report_goes k.order (view s.table) own (length handed) so r er)

  pub begin_job_promised : (c : Call K R) (a : Answer K R) (r : Result TicketId Refusal) → c ≡ Basic BeginJob → a ≡ answer_of (λ t. Job t) r
      → told code r ≡ checked (begin_job_checks (view s.table)) (next_ticket (view s.table)) → view s'.table ≡ if_granted r (job_opened (view s.table)) (view s.table) → s'.index ≡ s.index
      → Promised c a s s' handed handed
  begin_job_promised c a r ec ea er ev ei = on_table (λ t. Job t) (Basic BeginJob) c a r (job_opened (view s.table)) ec ea ev (λ why e. ei)
      (λ own re so. begin_job_goes k.order (view s.table) own (length handed) so r er)

  pub end_promised : (t : TicketId) (c : Call K R) (a : Answer K R) (r : Result Unit Refusal) → c ≡ Basic (End t) → a ≡ answer_of (λ u. Done) r
      → told code r ≡ checked (report_open (view s.table) t ∷ []) tt → view s'.table ≡ if_granted r (report_closed (view s.table) t) (view s.table) → s'.index ≡ s.index
      → Promised c a s s' handed handed
  end_promised t c a r ec ea er ev ei = on_table (λ u. Done) (Basic (End t)) c a r (report_closed (view s.table) t) ec ea ev (λ why e. ei)
      (λ own re so. end_goes k.order (view s.table) own (length handed) so t r er)

  pub commit_promised : (t : TicketId) (c : Call K R) (a : Answer K R) (r : Result ℕ Refusal) → c ≡ Basic (Commit t) → a ≡ answer_of (λ x. Stamp x) r
      → told code r ≡ checked (commit_checks (view s.table) t) (s.table.stamp + 1) → view s'.table ≡ if_granted r (committed (view s.table) t) (view s.table) → OnErr r (s'.index ≡ s.index)
      → Promised c a s s' handed handed
  commit_promised t c a r ec ea er ev ei = on_table (λ x. Stamp x) (Basic (Commit t)) c a r (committed (view s.table) t) ec ea ev (λ why e. IfErr-at_err _ e ei)
      (λ own re so. commit_goes k.order tot (view s.table) own (length handed) so re.long t r er)

  pub abort_promised : (t : TicketId) (c : Call K R) (a : Answer K R) (r : Result Unit Refusal) → c ≡ Basic (Abort t) → a ≡ answer_of (λ u. Done) r
      → told code r ≡ checked (abort_checks (view s.table) t) tt → view s'.table ≡ if_granted r (aborted (view s.table) t) (view s.table) → OnErr r (s'.index ≡ s.index)
      → Promised c a s s' handed handed
  abort_promised t c a r ec ea er ev ei = on_table (λ u. Done) (Basic (Abort t)) c a r (aborted (view s.table) t) ec ea ev (λ why e. IfErr-at_err _ e ei)
      (λ own re so. abort_goes k.order (view s.table) own (length handed) so t r er)

  pub age_promised : (limit : ℕ) (c : Call K R) (a : Answer K R) (looked gone : ℕ) → c ≡ Basic (Age limit) → a ≡ Ok (Aged looked gone) → looked ≡ looked_at (Some limit) (view s.table) → gone ≡ freed (Some limit) (view s.table)
      → view s'.table ≡ with_places (view s.table) (aged (Some limit) (view s.table))
      → Promised c a s s' handed handed
  age_promised limit c a looked gone ec ea el ef ev = on_table (λ (u : Unit {0}). Aged (looked_at (Some limit) (view s.table)) (freed (Some limit) (view s.table))) (Basic (Age limit)) c a (Ok tt) (with_places (view s.table) (aged (Some limit) (view s.table)))
      ec (ea ∙ (ap (λ x. Ok (Aged x gone)) el ∙ ap (λ x. Ok (Aged (looked_at (Some limit) (view s.table)) x)) ef)) ev (λ why e. let z : ◌≡◌ {A = Result Unit Refusal} (Ok tt) (Err why) = e in cc)
      (λ own re so. age_goes k.order (view s.table) own (length handed) limit so re.long)

  pub remove_promised : (t : TicketId) (key : K) (c : Call K R) (a : Answer K R) (r : Result Unit Refusal) → c ≡ Basic (Remove t key) → a ≡ answer_of (λ u. Done) r
      → Outcome (remove_checks k.order (view s.table) t key) (λ u. Removes k.order (view s.table) (view s'.table) t key) (Unchanged s s') (told code r)
      → Promised c a s s' handed handed
  remove_promised t key c a r ec ea h = said (Basic (Remove t key)) c (answer_of (λ u. Done) r) a handed ec ea (record {
    law = leads_shelf tot s s' (Basic (Remove t key)) (answer_of (λ u. Done) r) handed
        (λ own mine re so. remove_goes k.order tot (view s.table) own so re.long t key re.one_current (view s'.table) r (length handed)
        (outcome_leaves (remove_checks k.order (view s.table) t key) (λ u. Removes k.order (view s.table) (view s'.table) t key) (λ u. u.1) (told code r) h));
    unchanged = outcome_leaves_all (λ u. Done) s s' (answer_of (λ u. Done) r) handed handed (remove_checks k.order (view s.table) t key) (λ u. Removes k.order (view s.table) (view s'.table) t key) (Unchanged s s') r refl h (λ u. (u, refl));
    astray = λ ne. refl;
  })

  pub put_promised : (t : TicketId) (key : K) (item : R) (left : List R) (c : Call K R) (a : Answer K R) (r : Result Unit Refusal) → c ≡ Basic (Put t key item) → a ≡ answer_of (λ u. Done) r
      → Outcome (put_checks k.order (view s.table) (length handed) t key) (λ u. Puts k.order (view s.table) (view s'.table) handed left t key item) (Unchanged s s' × (left ≡ handed)) (told code r)
      → Promised c a s s' handed left
  put_promised t key item left c a r ec ea h = said (Basic (Put t key item)) c (answer_of (λ u. Done) r) a left ec ea (record {
    law = leads tot s s' (Basic (Put t key item)) (answer_of (λ u. Done) r) handed left
        (λ own mine re so. put_goes k.order tot (view s.table) own so re.long t key re.one_current (view s'.table) r handed left item mine
        (outcome_leaves (put_checks k.order (view s.table) (length handed) t key) (λ u. Puts k.order (view s.table) (view s'.table) handed left t key item) (λ u. (u.0.1, u.1)) (told code r) h));
    unchanged = outcome_leaves_all (λ u. Done) s s' (answer_of (λ u. Done) r) handed left (put_checks k.order (view s.table) (length handed) t key) (λ u. Puts k.order (view s.table) (view s'.table) handed left t key item) (Unchanged s s' × (left ≡ handed)) r refl h (λ u. u);
    astray = put_astray {k = k} s s' handed left t key item (told code r) h;
  })

  pub look_promised : (t : TicketId) (key : K) (c : Call K R) (a : Answer K R) (r : Result (Option R) Refusal) → c ≡ Basic (Look t key) → a ≡ answer_of (λ o. Record o) r
      → Outcome (look_checks k.order (view s.table) (length handed) t key) (Looks k.order (view s.table) (view s'.table) handed t key) (view s'.table ≡ view s.table) (told code r) → s'.index ≡ s.index
      → Promised c a s s' handed handed
  look_promised t key c a r ec ea h ei = said (Basic (Look t key)) c (answer_of (λ o. Record o) r) a handed ec ea (record {
    law = leads_shelf tot s s' (Basic (Look t key)) (answer_of (λ o. Record o) r) handed
        (λ own mine re so. look_goes k.order tot (view s.table) own so re.long t key re.one_current (view s'.table) handed r mine h);
    unchanged = outcome_leaves_all (λ o. Record o) s s' (answer_of (λ o. Record o) r) handed handed (look_checks k.order (view s.table) (length handed) t key) (Looks k.order (view s.table) (view s'.table) handed t key) (view s'.table ≡ view s.table) r refl h (λ e. ((ei, e), refl));
    astray = λ ne. refl;
  })

-- a read, which changes nothing
module _ {I K R : Type 0} {i : Index.Ghosts I K} {k : Key.Ghosts K} (tot : Total k.order) (s : Store I K i k) (handed : List R) where
  still : (c' c : Call K R) (a' a : Answer K R) → c ≡ c' → a ≡ a' → LeadsOn c' a' s s handed handed → Promised c a s s handed handed
  still c' c a' a ec ea h = said tot s s handed c' c a' a handed ec ea (record { law = h; unchanged = on_err a' ((refl, refl), refl); astray = λ ne. refl })

  pub read_promised : (t : TicketId) (key : K) (c : Call K R) (a : Answer K R) (r : Result (Option R) Refusal) → c ≡ Basic (Read t key) → a ≡ answer_of (λ o. Record o) r
      → Outcome (read_checks (view s.table) (length handed) t) (Reads k.order (view s.table) handed t key) (Unit {0}) (told code r)
      → Promised c a s s handed handed
  read_promised t key c a r ec ea h = still (Basic (Read t key)) c (answer_of (λ o. Record o) r) a ec ea
      (leads_shelf tot s s (Basic (Read t key)) (answer_of (λ o. Record o) r) handed
      (λ own mine re so. read_goes k.order tot (view s.table) own so re.long t re.one_seen key handed r mine h))

  -- a walk, which changes nothing either
  pub walk_promised : (t : TicketId) (from : Option K) (c : Call K R) (a : Answer K R) (r : Result (Option K) Refusal) → c ≡ Walk t from → a ≡ answer_of (λ o. Next o) r
      → Outcome (walk_checks (view s.table) t) (Walks k.order (view s.table) t from) (Unit {0}) (told code r)
      → Promised c a s s handed handed
  walk_promised t from c a r ec ea h = still (Walk t from) c (answer_of (λ o. Next o) r) a ec ea
      (leads_shelf tot s s (Walk t from) (answer_of (λ o. Next o) r) handed
      (λ own mine re so. walk_goes k.order tot (view s.table) own so re.long t from (length handed) r h))
