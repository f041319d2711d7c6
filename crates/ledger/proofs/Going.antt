-- No run sticks: whatever is asked after a run, some answer and some store make it a run again.
-- A refusal needs only its code. A granted put or remove needs a place that suits: that of the job's draft, or a free one, which there is
-- at the latest after ageing, since not every place holds a wanted version. Everything here computes, so that sessions can be run.
use Rattle.std.proofs.Common.{◌≡◌, ℕ, zero, suc, ◌+◌, ◌<◌, Bool, true, false, cond, not, ◌&&◌, ◌||◌, eqb, ltb, List, [], ◌∷◌, ◌++◌, map, length, get_or, set, is_some, Some, None, Option, Ok, Err, Ordering, sym, refl, ap, ◌∙◌, subst, arith}
use Rattle.std.specs.List.{AllByRecursion}
use Rattle.std.proofs.lemmas.List.{length-map, length-set}
use Rattle.keys.specs.Refusals.{Code, plain}
use Rattle.ledger.specs.declared.call.Call.{Call}
use Rattle.ledger.specs.declared.call.Call.TheVariants.{Basic}
use Rattle.ledger.specs.declared.call.BasicCall.TheVariants.{Put, Remove}
use Rattle.ledger.specs.declared.place.Place.{Place}
use Rattle.ledger.specs.declared.place.PlaceState.{PlaceState}
use Rattle.ledger.specs.declared.place.PlaceState.TheVariants.{Free, Unstamped, Gone, Superseded}
use Rattle.ledger.specs.declared.place.Report.{Report}
use Rattle.ledger.specs.Words.{when, or_else, listed, any, same}
use Rattle.ledger.specs.Places.{after, free, in_report, is_free, is_draft_of, is_wanted, carries}
use Rattle.ledger.specs.Versions.{draft_at, has_draft}
use Rattle.ledger.specs.Refusals.{code}
use Rattle.ledger.specs.Calls.{Answer, Exchange, Change, keeps, drafts, commits, aborts, ages, change}
use Rattle.ledger.specs.Steps.{State, summary, version_in, versions_in, all_wanted, checks, sent_back, answered, control_after, place_settled, place_aborted, place_aged, draft_event, shelved, ready, Takes, Moves, Outcome, Step, Numbers, Run}
use Rattle.ledger.specs.Laws.{GoesOn}
use Rattle.ledger.proofs.Finding.{none_found}
use Rattle.ledger.proofs.Codes.{refusal_of}
use Rattle.ledger.proofs.Checks.{Known, tells_first, checks_tell, passed}

-- some place passes the test
abbrev pub AtPlace : {K : Type 0} → (PlaceState K → Bool) → List (Place K) → Type 0
AtPlace test ps = (n : ℕ) × (n < length ps) × (test (get_or ps n free).state ≡ true)

unfoldable pub later_place : {K : Type 0} (test : PlaceState K → Bool) (p : Place K) (ps : List (Place K)) → AtPlace test ps → AtPlace test (p ∷ ps)
later_place test p ps h = let l = h.1 in (suc h.0, omega arith, h.2)

unfoldable pub some_place : {K : Type 0} (test : PlaceState K → Bool) (ps : List (Place K)) → any (λ p. test p.state) ps ≡ true → AtPlace test ps
some_place test [] e = cc
some_place test (p ∷ ps) e = go (test p.state) refl e (λ e'. some_place test ps e')
  where
    go : (b : Bool) → test p.state ≡ b → (b || any (λ p. test p.state) ps) ≡ true → (any (λ p. test p.state) ps ≡ true → AtPlace test ps) → AtPlace test (p ∷ ps)
    go true q e rec = (zero, omega arith, q)
    go false q e rec = later_place test p ps (rec e)

-- where not every place holds a wanted version, one is free after ageing
pub free_when_aged : {K : Type 0} (reports : List Report) (ps : List (Place K)) → all_wanted reports ps ≡ false → any (λ p. is_free p.state) (map (place_aged (λ f. true) reports) ps) ≡ true
free_when_aged reports [] e = cc
free_when_aged {K} reports (p ∷ ps) e = go p.state e (λ e'. free_when_aged reports ps e')
  where
    go : (q : PlaceState K) → (is_wanted reports q && all_wanted reports ps) ≡ false → (all_wanted reports ps ≡ false → any (λ p. is_free p.state) (map (place_aged (λ f. true) reports) ps) ≡ true) → (is_free (place_aged (λ f. true) reports (record { state = q })).state || any (λ p. is_free p.state) (map (place_aged (λ f. true) reports) ps)) ≡ true
    go Free e rec = refl
    go (Superseded k b f) e rec = cut (in_report reports b f) e
      where
        cut : (w : Bool) → (w && all_wanted reports ps) ≡ false → (is_free (cond (not w) free (record { state = Superseded k b f })).state || any (λ p. is_free p.state) (map (place_aged (λ f. true) reports) ps)) ≡ true
        cut true e = rec e
        cut false e = refl
    go _ e rec = rec e

-- a job's draft at a key stands in a place that carries it, and only there
module _ {K R : Type 0} (order : K → K → Ordering) where
  pub draft_in_place : (t : ℕ) (k : K) (ps : List (Place K)) (rs : List R) → length rs ≡ length ps → has_draft order t k (versions_in ps rs) ≡ any (λ p. is_draft_of t p.state && carries order k p.state) ps
  draft_in_place t k [] rs e = refl
  draft_in_place t k (p ∷ ps) [] e = absurd (omega arith)
  draft_in_place t k (p ∷ ps) (r ∷ rs) e = go p.state (draft_in_place t k ps rs (omega arith))
    where
      one : {X : Type 0} (b : Bool) (x : X) (o : Option X) (c : Bool) → is_some o ≡ c → is_some (or_else (when b x) o) ≡ (b || c)
      one true x o c e = refl
      one false x o c e = e

      rest : Bool
      rest = any (λ p. is_draft_of t p.state && carries order k p.state) ps

      go : (q : PlaceState K) → has_draft order t k (versions_in ps rs) ≡ any (λ p. is_draft_of t p.state && carries order k p.state) ps → has_draft order t k (listed (version_in q r) ++ versions_in ps rs) ≡ ((is_draft_of t q && carries order k q) || any (λ p. is_draft_of t p.state && carries order k p.state) ps)
      go (Unstamped q j) i = one (eqb j t && same order q k) (Some r) (draft_at order t k (versions_in ps rs)) rest i
      go (Gone q j) i = one (eqb j t && same order q k) None (draft_at order t k (versions_in ps rs)) rest i
      go _ i = i

  -- a place that suits
  unfoldable pub takes : (s : State K R) (t : ℕ) (k : K) → length s.shelf ≡ length s.places → (not (has_draft order t k (summary s).versions) && all_wanted s.control.reports s.places) ≡ false → (n : ℕ) × Takes order s t k n
  takes s t k el h = go (has_draft order t k (summary s).versions) refl (any (λ p. is_free p.state) s.places) refl h
    where
      found_places : Bool → Bool → List (Place K)
      found_places d x = cond (d || x) s.places (map (place_aged (λ f. true) s.control.reports) s.places)

      go : (d : Bool) → has_draft order t k (summary s).versions ≡ d → (x : Bool) → any (λ p. is_free p.state) s.places ≡ x → (not d && all_wanted s.control.reports s.places) ≡ false → (n : ℕ) × ((n < length s.places) × (cond d (is_draft_of t (get_or (found_places d x) n free).state && carries order k (get_or (found_places d x) n free).state) (is_free (get_or (found_places d x) n free).state) ≡ true))
      go true ed x ex h = let c = some_place (λ p. is_draft_of t p && carries order k p) s.places (sym (draft_in_place t k s.places s.shelf el) ∙ ed) in (c.0, (c.1, c.2))
      go false ed true ex h = let c = some_place is_free s.places ex in (c.0, (c.1, c.2))
      go false ed false ex h =
          let aged = map (place_aged (λ f. true) s.control.reports) s.places in
          let c = some_place is_free aged (free_when_aged s.control.reports s.places h) in
          (c.0, (subst (λ v. c.0 < v) (length-map s.places (place_aged (λ f. true) s.control.reports)) c.1, c.2))

  -- the places and the shelf after a change, as many as before
  pub record MovedTo (s : State K R) (ch : Change K R) : Type 0 where
    pub places : List (Place K)
    pub shelf : List R
    pub moves : Moves order s ch places shelf
    pub lengths : length shelf ≡ length places

  -- a move place by place
  pub mapped_to : (s : State K R) → length s.shelf ≡ length s.places → (f : Place K → Place K) → length s.shelf ≡ length (map f s.places)
  mapped_to s el f = el ∙ sym (length-map s.places f)

  -- a draft in a place
  pub drafted_to : (s : State K R) → length s.shelf ≡ length s.places → (t : ℕ) (k : K) (d : Option R) (n : ℕ) (p : Place K) → length (shelved d n s.shelf) ≡ length (set (ready order s t k) n p)
  drafted_to s el t k d n p = shelf_stays d ∙ (el ∙ sym (length-set (ready order s t k) n p ∙ places_stay (has_draft order t k (summary s).versions || any (λ p. is_free p.state) s.places)))
    where
      shelf_stays : (d : Option R) → length (shelved d n s.shelf) ≡ length s.shelf
      shelf_stays (Some r) = length-set s.shelf n r
      shelf_stays None = refl

      places_stay : (x : Bool) → length (cond x s.places (map (place_aged (λ f. true) s.control.reports) s.places)) ≡ length s.places
      places_stay true = refl
      places_stay false = length-map s.places (place_aged (λ f. true) s.control.reports)

  unfoldable pub moves : (s : State K R) → length s.shelf ≡ length s.places → (ch : Change K R) → ((t : ℕ) (k : K) (d : Option R) → ch ≡ drafts t k d → (not (has_draft order t k (summary s).versions) && all_wanted s.control.reports s.places) ≡ false) → MovedTo s ch
  moves s el keeps room = record { places = s.places; shelf = s.shelf; moves = (refl, refl); lengths = el }
  moves s el (drafts t k d) room =
      let m = takes s t k el (room t k d refl) in
      let p = after (get_or (ready order s t k) m.0 free) (draft_event t k d) in
      record { places = set (ready order s t k) m.0 p; shelf = shelved d m.0 s.shelf; moves = (m.0, m.1, refl, refl); lengths = drafted_to s el t k d m.0 p }
  moves s el (commits t) room =
      let f = place_settled t (s.control.stamp + 1) (λ k. has_draft order t k (summary s).versions) in
      record { places = map f s.places; shelf = s.shelf; moves = (refl, refl); lengths = mapped_to s el f }
  moves s el (aborts t) room = record { places = map (place_aborted t) s.places; shelf = s.shelf; moves = (refl, refl); lengths = mapped_to s el (place_aborted t) }
  moves s el (ages limit) room =
      let f = place_aged (λ f. ltb f limit) s.control.reports in
      record { places = map f s.places; shelf = s.shelf; moves = (refl, refl); lengths = mapped_to s el f }

  -- a put or remove that passed its checks has a place
  pub room_left : (s : State K R) (c : Call K R) (n : ℕ) → sent_back order (all_wanted s.control.reports s.places) (summary s) c n ≡ None → (t : ℕ) (k : K) (d : Option R) → change c ≡ drafts t k d → (not (has_draft order t k (summary s).versions) && all_wanted s.control.reports s.places) ≡ false
  room_left s c n h t k d = go c h
    where
      pass : (c : Call K R) → sent_back order (all_wanted s.control.reports s.places) (summary s) c n ≡ None → AllByRecursion (λ check. check ≡ None) (checks order (all_wanted s.control.reports s.places) (summary s) c n)
      pass c h = none_found (λ check. check) (checks order (all_wanted s.control.reports s.places) (summary s) c n) h

      at_key : (t' : ℕ) (k' : K) (d' : Option R) → drafts t' k' d' ≡ drafts t k d → (not (has_draft order t' k' (summary s).versions) && all_wanted s.control.reports s.places) ≡ false → (not (has_draft order t k (summary s).versions) && all_wanted s.control.reports s.places) ≡ false
      at_key t' k' d' e h = let et : t' ≡ t = cc in let ek : k' ≡ k = cc in rw (← et, ← ek) h

      go : (c : Call K R) → sent_back order (all_wanted s.control.reports s.places) (summary s) c n ≡ None → change c ≡ drafts t k d → (not (has_draft order t k (summary s).versions) && all_wanted s.control.reports s.places) ≡ false
      go (Basic (Put t' k' r)) h e = at_key t'.number k' (Some r) e (passed _ (plain 10) (pass (Basic (Put t' k' r)) h).1.1.1.1.0)
      go (Basic (Remove t' k')) h e = at_key t'.number k' None e (passed _ (plain 10) (pass (Basic (Remove t' k')) h).1.1.1.1.0)
      go _ h e = cc

  -- every code that the checks tell is that of a refusal
  pub code_of_refusal : (full : Bool) (s : State K R) (c : Call K R) (n : ℕ) (why : Code) → sent_back order full (summary s) c n ≡ Some why → code (refusal_of why) ≡ why
  code_of_refusal full s c n = tells_first (λ c. code (refusal_of c) ≡ c) (checks order full (summary s) c n) (checks_tell order (λ c. code (refusal_of c) ≡ c) known full (summary s) c n (λ t k d e. refl))
    where
      known : Known (λ c. code (refusal_of c) ≡ c)
      known = record { shelf = refl; ticket = refl; too_many = refl; number = refl; holder = λ t. refl; absent = refl; row = refl; stamp = refl }

  -- an answer to a call, with the store after it
  pub record Answered (s : State K R) (c : Call K R) (n : ℕ) : Type 0 where
    pub answer : Answer K R
    pub after : State K R
    pub step : Step order s (record { call = c; shelf = n; answer = answer }) after
    pub lengths : length after.shelf ≡ length after.places

  unfoldable pub answers : (s : State K R) → length s.shelf ≡ length s.places → (c : Call K R) (n : ℕ) → Answered s c n
  answers s el c n = go (sent_back order (all_wanted s.control.reports s.places) (summary s) c n) refl
    where
      go : (x : Option Code) → sent_back order (all_wanted s.control.reports s.places) (summary s) c n ≡ x → Answered s c n
      go (Some why) e =
          let a : Answer K R = Err (refusal_of why) in
          let told = code_of_refusal (all_wanted s.control.reports s.places) s c n why e in
          record { answer = a; after = s; step = subst (λ x. Outcome order x s (record { call = c; shelf = n; answer = a }) s) (sym e) (record { answer = ap Some told; unchanged = refl }); lengths = el }
      go None e =
          let a : Answer K R = Ok (answered order (summary s) c) in
          let m = moves s el (change c) (room_left s c n e) in
          let s' : State K R = record { control = control_after order (summary s) c; places = m.places; shelf = m.shelf } in
          record { answer = a; after = s'; step = subst (λ x. Outcome order x s (record { call = c; shelf = n; answer = a }) s') (sym e) (record { answer = refl; control = refl; moves = m.moves }); lengths = m.lengths }

  pub goes_on : (o : Numbers) (past : List (Exchange K R)) (s : State K R) → length s.shelf ≡ length s.places → Run order o past s → GoesOn order o past
  goes_on o past s el r c n = let a = answers s el c n in (a.answer, a.after, (s, r, a.step))
