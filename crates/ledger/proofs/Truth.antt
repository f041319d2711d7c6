-- (a), and what look and walk answer: the answers of every run, said of the list of calls alone.
-- A run answers as its model does, and the model remembers the past; so what a report sees, what a job finds and which keys a report sees are what the list says.
use Rattle.std.proofs.Common.{◌≡◌, ℕ, Bool, true, false, ◌&&◌, eqb, List, [], ◌∷◌, is_some, Some, None, Option, Ok, Ordering, sym, refl, ap, ◌∙◌, subst, inl, inr}
use Rattle.std.specs.List.{cons_option, AllByRecursion}
use Rattle.std.proofs.lemmas.Bool.{eqb-true, and_parts, and_from}
use Rattle.std.specs.Ordering.{is_eq}
use Rattle.keys.specs.Orders.{Total}
use Rattle.keys.specs.Refusals.{Code}
use Rattle.ledger.specs.declared.call.TicketId.{TicketId}
use Rattle.ledger.specs.declared.call.Call.{Call}
use Rattle.ledger.specs.declared.call.Call.TheVariants.{Walk, Basic}
use Rattle.ledger.specs.declared.call.BasicCall.TheVariants.{Read, Look, Age}
use Rattle.ledger.specs.declared.answer.Granted.{Granted}
use Rattle.ledger.specs.declared.answer.Granted.TheVariants.{Record, Next}
use Rattle.ledger.specs.declared.place.Report.{Report}
use Rattle.ledger.specs.Words.{when, or_else, first, same, less, beyond, least}
use Rattle.ledger.specs.Places.{spans}
use Rattle.ledger.specs.Versions.{Version, draft, committed, looked, seen_in, seen_at, keys_seen}
use Rattle.ledger.specs.Control.{report_at, stamp_of}
use Rattle.ledger.specs.Calls.{Exchange, change, is_age}
use Rattle.ledger.specs.Steps.{State, Summary, report_open, shelf_fits, not_held, row_left_to_look, sight, answered, Step, Numbers, Run}
use Rattle.ledger.specs.Laws.{Least, before, left, ReadIsTrue, LookIsTrue, WalkIsTrue}
use Rattle.ledger.proofs.Codes.{refusal_of}
use Rattle.ledger.proofs.Leasts.{In, in_behind, all_in, least_there}
use Rattle.ledger.proofs.Model.{met, moved_on, next_model}
use Rattle.ledger.proofs.Settling.{same_is}
use Rattle.ledger.proofs.Runs.{is_open, is_own, replied, age_is, model_of, model_more, sound_model, run_answers}
use Rattle.ledger.proofs.Remembering.{Remembers, job_is_open, remembers, remembers_refused, remembers_age}

-- the open report with the running number
at_report : (P : ℕ → ℕ → Type 0) (t st : ℕ) (rs : List Report) → AllByRecursion (λ r. P r.ticket r.stamp) rs → report_at t rs ≡ Some st → P t st
at_report P t st [] a e = cc
at_report P t st (x ∷ rs) a e = go (eqb x.ticket t) refl e (λ e'. at_report P t st rs a.1 e')
  where
    go : (y : Bool) → eqb x.ticket t ≡ y → or_else (when y x.stamp) (report_at t rs) ≡ Some st → (report_at t rs ≡ Some st → P t st) → P t st
    go true q e rec = let es : x.stamp ≡ st = cc in subst (λ v. P t v) es (subst (λ v. P v x.stamp) (eqb-true x.ticket t q) a.0)
    go false q e rec = rec e

-- the keys that a report sees are those at which it sees a record
module _ {K R : Type 0} (order : K → K → Ordering) (tot : Total order) (st : ℕ) (from : Option K) where
  -- beyond the given key, and with a record that the report sees
  abbrev Shown : List (Version K R) → K → Type 0
  Shown vs k = (beyond order from k ≡ true) × (is_some (seen_at order st k vs) ≡ true)

  shown_more : (v : Version K R) (vs : List (Version K R)) (k : K) → Shown vs k → Shown (v ∷ vs) k
  shown_more v vs k h = (h.0, go (seen_in order st k v))
    where
      go : (o : Option R) → is_some (or_else o (seen_at order st k vs)) ≡ true
      go None = h.1
      go (Some r) = refl

  seen_key : (vs : List (Version K R)) (k : K) → In k (keys_seen order st from vs) → Shown vs k
  seen_key [] k i = absurd i
  seen_key (draft j q d ∷ vs) k i = seen_key vs k i
  seen_key (committed q r b f ∷ vs) k i = go (spans b f st) refl (beyond order from q) refl i (λ i'. shown_more (committed q r b f) vs k (seen_key vs k i'))
    where
      go : (x : Bool) → spans b f st ≡ x → (y : Bool) → beyond order from q ≡ y → In k (cons_option (when (x && y) q) (keys_seen order st from vs)) → (In k (keys_seen order st from vs) → Shown (committed q r b f ∷ vs) k) → Shown (committed q r b f ∷ vs) k
      go true ex true ey (inl e) rec = subst (λ z. Shown (committed q r b f ∷ vs) z) e (ey, rw (ap is_eq (tot.itself q), ex))
      go true ex true ey (inr i) rec = rec i
      go true ex false ey i rec = rec i
      go false ex y ey i rec = rec i

  key_seen : (vs : List (Version K R)) (k : K) → Shown vs k → In k (keys_seen order st from vs)
  key_seen [] k h = cc
  key_seen (draft j q d ∷ vs) k h = key_seen vs k h
  key_seen (committed q r b f ∷ vs) k h = go (same order q k) refl (spans b f st) refl h.1 (λ h'. in_behind k (when (spans b f st && beyond order from q) q) (keys_seen order st from vs) (key_seen vs k (h.0, h')))
    where
      go : (z : Bool) → same order q k ≡ z → (x : Bool) → spans b f st ≡ x → is_some (or_else (when (z && x) r) (seen_at order st k vs)) ≡ true → (is_some (seen_at order st k vs) ≡ true → In k (cons_option (when (spans b f st && beyond order from q) q) (keys_seen order st from vs))) → In k (cons_option (when (spans b f st && beyond order from q) q) (keys_seen order st from vs))
      go true ez true ex i rec = let e = same_is order tot q k ez in rw (ex, ap (beyond order from) e ∙ h.0) (inl e)
      go true ez false ex i rec = rec i
      go false ez x ex i rec = rec i

  -- the least of them is the least key that passes the test
  least_shown : (vs : List (Version K R)) (test : K → Bool) → ((k : K) → test k ≡ (beyond order from k && is_some (seen_at order st k vs))) → (found : Option K) → least order (keys_seen order st from vs) ≡ found → Least order test found
  least_shown vs test is found e = go found e
    where
      shown : (k : K) → test k ≡ true → Shown vs k
      shown k h = and_parts (beyond order from k) (is_some (seen_at order st k vs)) (sym (is k) ∙ h)

      none_here : (ks : List K) → least order ks ≡ None → (k : K) → In k ks → ⊥
      none_here [] e k i = i
      none_here (q ∷ ks) e k i = cc

      go : (found : Option K) → least order (keys_seen order st from vs) ≡ found → Least order test found
      go None e = λ q. outside q (test q) refl
        where
          outside : (q : K) (b : Bool) → test q ≡ b → test q ≡ false
          outside q false t = t
          outside q true t = absurd (none_here (keys_seen order st from vs) e q (key_seen vs q (shown q t)))
      go (Some k) e =
          let l = least_there order tot (keys_seen order st from vs) k e in
          let h = seen_key vs k l.0 in
          (is k ∙ and_from (beyond order from k) (is_some (seen_at order st k vs)) h.0 h.1, λ q t. all_in (λ x. less order x k ≡ false) (keys_seen order st from vs) q l.1 (key_seen vs q (shown q t)))

module _ {K R : Type 0} (order : K → K → Ordering) (tot : Total order) where
  -- one call more
  remembers_more : (o : Numbers) (e : Exchange K R) (past : List (Exchange K R)) (s : State K R) → Run order o (e ∷ past) s → Remembers order tot (model_of order tot o past) past → Remembers order tot (next_model order (model_of order tot o past) e.call e.shelf) (e ∷ past)
  remembers_more o e past s r m = go (is_age (change e.call)) refl
    where
      b : Summary K R
      b = model_of order tot o past

      replies : (c : Call K R) (n : ℕ) → is_age (change c) ≡ false → (x : Option Code) → met order b c n ≡ x → Remembers order tot (moved_on order x b c) (record { call = c; shelf = n; answer = replied order x b c } ∷ past)
      replies c n y (Some why) ex = remembers_refused order tot b past m (sound_model order tot o past) c n (refusal_of why)
      replies c n y None ex = remembers order tot b past m (sound_model order tot o past) c n y ex

      aged : (limit : ℕ) → e.call ≡ Basic (Age limit) → Remembers order tot (next_model order b e.call e.shelf) (e ∷ past)
      aged limit q =
          let st : Step order r.0 (record { call = Basic (Age limit); shelf = e.shelf; answer = e.answer }) s = subst (λ c. Step order r.0 (record { call = c; shelf = e.shelf; answer = e.answer }) s) q r.2 in
          subst (λ c. Remembers order tot (next_model order b c e.shelf) (record { call = c; shelf = e.shelf; answer = e.answer } ∷ past)) (sym q)
          (subst (λ a. Remembers order tot b (record { call = Basic (Age limit); shelf = e.shelf; answer = a } ∷ past)) (sym st.answer) (remembers_age order tot b past m (sound_model order tot o past) limit e.shelf _ _))

      go : (x : Bool) → is_age (change e.call) ≡ x → Remembers order tot (next_model order b e.call e.shelf) (e ∷ past)
      go false y =
          subst (λ a. Remembers order tot (next_model order b e.call e.shelf) (record { call = e.call; shelf = e.shelf; answer = a } ∷ past)) (sym (run_answers order tot o e past s r y))
          (replies e.call e.shelf y (met order b e.call e.shelf) refl)
      go true y = aged (age_is e.call y).0 (age_is e.call y).1

  pub run_remembers : (o : Numbers) (past : List (Exchange K R)) (s : State K R) → Run order o past s → Remembers order tot (model_of order tot o past) past
  run_remembers o [] s r = record { drafts = λ j l k. refl; current = λ k. refl; seen = tt; earlier = tt; jobs = λ j e. cc }
  run_remembers o (e ∷ past) s r = model_more order tot (λ b. Remembers order tot b (e ∷ past)) o e past (remembers_more o e past s r (run_remembers o past r.0 r.1))

  -- a granted call other than age met no refusal in the model, and was answered as the model does
  module _ (o : Numbers) (e : Exchange K R) (past : List (Exchange K R)) (s : State K R) (r : Run order o (e ∷ past) s) where
    abbrev b : Summary K R
    b = model_of order tot o past

    m : Remembers order tot (model_of order tot o past) past
    m = run_remembers o past r.0 r.1

    passed_and_answered : (c : Call K R) (a : Granted K R) → is_age (change c) ≡ false → e.call ≡ c → e.answer ≡ Ok a → (met order b c e.shelf ≡ None) × (a ≡ answered order b c)
    passed_and_answered c a y ec ea = go (met order b c e.shelf) refl (sym ea ∙ subst (λ c. e.answer ≡ replied order (met order b c e.shelf) b c) ec (run_answers order tot o e past s r (rw ec y)))
      where
        go : (x : Option Code) → met order b c e.shelf ≡ x → Ok a ≡ replied order x b c → (met order b c e.shelf ≡ None) × (a ≡ answered order b c)
        go (Some why) ex h = cc
        go None ex h = (ex, cc)

    -- what an open report sees at each key
    sees : (t : TicketId) (rest : List (Option Code)) → first (λ check. check) (report_open order b t ∷ rest) ≡ None → (k : K) → seen_at order (sight order b t) k b.versions ≡ left order k (before t.number past)
    sees t rest g k =
        let op = is_open (stamp_of b.control t) rest g in
        let own = (is_own b.control t (report_at t.number b.control.reports) op.0 op.1).1 in
        rw op.1 (at_report (λ ticket stamp. (q : K) → seen_at order stamp q b.versions ≡ left order q (before ticket past)) t.number op.0 b.control.reports m.seen own k)

    pub read_is_true : ReadIsTrue order e past
    read_is_true t k shown ec ea =
        let p = passed_and_answered (Basic (Read t k)) (Record shown) refl ec ea in
        let es : shown ≡ seen_at order (sight order b t) k b.versions = cc p.1 in
        es ∙ sees t (shelf_fits order b e.shelf ∷ []) p.0 k

    pub look_is_true : LookIsTrue order e past
    look_is_true t k shown ec ea =
        let p = passed_and_answered (Basic (Look t k)) (Record shown) refl ec ea in
        let es : shown ≡ looked order t.number k b.versions = cc p.1 in
        let live = job_is_open order b t (shelf_fits order b e.shelf ∷ not_held order b t k ∷ row_left_to_look order b t k ∷ []) p.0 in
        es ∙ rw (m.drafts t.number (inl live) k, m.current k)

    pub walk_is_true : WalkIsTrue order e past
    walk_is_true t from found ec ea =
        let p = passed_and_answered (Walk t from) (Next found) refl ec ea in
        let es : least order (keys_seen order (sight order b t) from b.versions) ≡ found = cc p.1 in
        least_shown order tot (sight order b t) from b.versions (λ k. beyond order from k && is_some (left order k (before t.number past))) (λ k. rw (sees t [] p.0 k)) found es
