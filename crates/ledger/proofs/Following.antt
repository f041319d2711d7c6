-- A store that agrees with the model follows it: it meets the same refusals, comes to the same control state, and agrees again after every call.
-- Look-ups agree, so checks do; that every place holds a wanted version is the same as that there are as many of them as places.
-- Moves of places pick or change versions one by one, so the versions stay the model's; ageing frees only what is freeable, and that stays freeable:
-- a new report begins at the store's stamp, which no finish passes.
use Rattle.std.proofs.Common.{◌≡◌, ℕ, ◌+◌, ◌≤◌, Bool, true, false, cond, not, ◌&&◌, ◌||◌, eqb, ltb, leb, List, [], ◌∷◌, ◌++◌, map, length, get_or, set, is_some, Some, None, count_by, filter, Option, Ordering, sym, refl, ap, ◌∙◌, subst, arith}
use mathlib.Core.Path.{fun_ext}
use Rattle.std.specs.List.{AllByRecursion}
use Rattle.std.proofs.lemmas.List.{length-set, length-map, set-get_or}
use Rattle.std.proofs.ByRecursion.{All-weaker}
use Rattle.std.proofs.lemmas.List.Folds.{list_any-append}
use Rattle.std.proofs.lemmas.List.Sums.{sum_by-cons, sum_by-append}
use Rattle.std.proofs.lemmas.Bool.{eqb-true, le-ltb, and_parts, and_right}
use Rattle.keys.specs.Orders.{Total}
use Rattle.ledger.specs.declared.call.Call.{Call}
use Rattle.ledger.specs.declared.call.Call.TheVariants.{Walk, Basic}
use Rattle.ledger.specs.declared.call.BasicCall.TheVariants.{BeginReport, Read, Look, Put, Remove, End, Age}
use Rattle.ledger.specs.declared.place.Place.{Place}
use Rattle.ledger.specs.declared.place.PlaceState.{PlaceState}
use Rattle.ledger.specs.declared.place.PlaceState.TheVariants.{Free, Unstamped, Gone}
use Rattle.ledger.specs.Words.{listed, any, same}
use Rattle.ledger.specs.Places.{next, free, spans, in_report, is_free, is_draft_of, carries}
use Rattle.ledger.specs.Versions.{Version, draft, committed, drafted_by, draft_in, draft_at, has_draft, settled}
use Rattle.ledger.specs.Calls.{Change, keeps, drafts, commits, aborts, ages, change}
use Rattle.ledger.specs.Steps.{State, Summary, summary, version_in, versions_in, all_wanted, sent_back, control_after, place_settled, place_aborted, place_aged, draft_event, shelved, ready, Takes, Moves}
use Rattle.ledger.proofs.Permutations.{Perm, then, perm_eq, perm_sym, perm_all, perm_sum, perm_kept}
use Rattle.ledger.proofs.Finding.{found, found_when, none_found, none_if, all_none, all_both, all_append_parts, any_kept, kept_all}
use Rattle.ledger.proofs.ButFreed.{Freeable, AllButFreed, but_freed_perm, but_freed_cons, but_freed_picked, but_freed_kept, but_freed_aged}
use Rattle.ledger.proofs.Contents.{Taken, taken, versions_free, versions_settled, versions_aborted, versions_aged, full_is}
use Rattle.ledger.proofs.Model.{full, met, versions_after, moved_on, InTime, Sound, Agrees, freeable_no_draft, same_draft, same_current, same_wanted}
use Rattle.ledger.proofs.Settling.{same_is}
use Rattle.ledger.proofs.Soundness.{sound_after}

-- what a draft makes of its place
abbrev pub draft_state : {K R : Type 0} → ℕ → K → Option R → PlaceState K
draft_state t k (Some r) = Unstamped k t
draft_state t k None = Gone k t

module _ {K R : Type 0} (order : K → K → Ordering) (tot : Total order) where
  module _ (b : Summary K R) (s : State K R) (a : Agrees b s) (so : Sound order b.control.stamp b.versions) where
    same_full : all_wanted s.control.reports s.places ≡ full b
    same_full = full_is s.control.reports s.places s.shelf (a.shelf ∙ sym a.places) ∙ rw (a.control, a.places, same_wanted order b s a so)

    -- the same refusal
    pub same_met : (c : Call K R) (n : ℕ) → sent_back order (all_wanted s.control.reports s.places) (summary s) c n ≡ met order b c n
    same_met (Basic (Read t k)) n = rw (a.control, a.places)
    same_met (Basic (Look t k)) n = rw (a.control, a.places, same_draft order b s a so t.number k, same_current order b s a so k)
    same_met (Basic (Put t k r)) n = rw (same_full, a.control, a.places, same_draft order b s a so t.number k)
    same_met (Basic (Remove t k)) n = rw (same_full, a.control, same_draft order b s a so t.number k, same_current order b s a so k)
    same_met (Basic (Age limit)) n = refl
    same_met _ n = rw a.control

    -- the same control state after a granted call
    pub same_control : (c : Call K R) → control_after order (summary s) c ≡ control_after order b c
    same_control (Walk t from) = a.control
    same_control (Basic (Read t k)) = a.control
    same_control (Basic (Look t k)) = rw (a.control, same_draft order b s a so t.number k, same_current order b s a so k)
    same_control (Basic (Age limit)) = a.control
    same_control _ = rw a.control

  -- a place that suits becomes the draft's
  becomes_draft : (t : ℕ) (k : K) (d : Option R) (own : Bool) (p : PlaceState K) → cond own (is_draft_of t p && carries order k p) (is_free p) ≡ true → next p (draft_event t k d) ≡ draft_state t k d
  becomes_draft t k d own p h = go own p h d
    where
      same_draft_state : (q : K) (j : ℕ) → (eqb j t && same order q k) ≡ true → (d : Option R) → draft_state j q d ≡ draft_state t k d
      same_draft_state q j h d =
          let parts = and_parts (eqb j t) (same order q k) h in
          λ i. draft_state (eqb-true j t parts.0 i) (same_is order tot q k parts.1 i) d

      go : (own : Bool) (p : PlaceState K) → cond own (is_draft_of t p && carries order k p) (is_free p) ≡ true → (d : Option R) → next p (draft_event t k d) ≡ draft_state t k d
      go false Free h (Some r) = refl
      go false Free h None = refl
      go false _ h d = cc
      go true (Unstamped q j) h (Some r) = same_draft_state q j h (Some r)
      go true (Unstamped q j) h None = same_draft_state q j h None
      go true (Gone q j) h (Some r) = same_draft_state q j h (Some r)
      go true (Gone q j) h None = same_draft_state q j h None
      go true _ h d = cc

  -- a place of the job's draft at the key holds that draft
  holds_draft : (t : ℕ) (k : K) (p : PlaceState K) (r : R) → (is_draft_of t p && carries order k p) ≡ true → (d : Version K R) × (version_in p r ≡ Some d) × (is_some (draft_in order t k d) ≡ true)
  holds_draft t k (Unstamped q j) r h = (draft j q (Some r), refl, found_when (eqb j t && same order q k) (Some r) ∙ h)
  holds_draft t k (Gone q j) r h = (draft j q None, refl, found_when (eqb j t && same order q k) None ∙ h)
  holds_draft t k _ r h = cc

  module _ (b : Summary K R) (s : State K R) (a : Agrees b s) (so : Sound order b.control.stamp b.versions) where
    same_reports : s.control.reports ≡ b.control.reports
    same_reports = ap (λ c. c.reports) a.control

    lengths : length s.shelf ≡ length s.places
    lengths = a.shelf ∙ sym a.places

    -- the versions in the places after ageing
    aged_versions : (test : ℕ → Bool) → AllButFreed b.control.reports b.versions (versions_in (map (place_aged test s.control.reports) s.places) s.shelf)
    aged_versions test = rw (same_reports, versions_aged test b.control.reports s.places s.shelf) (but_freed_aged b.control.reports b.versions (summary s).versions a.versions test)

    -- the place that a put or remove takes
    module _ (t : ℕ) (k : K) where
      abbrev others : Version K R → Bool
      others v = not (is_some (draft_in order t k v))

      -- without a draft, nothing is replaced
      room_new : (rest : List (Version K R)) → has_draft order t k (summary s).versions ≡ false → AllButFreed b.control.reports b.versions rest → AllButFreed b.control.reports (filter others b.versions) rest
      room_new rest lacks w = rw (kept_all others b.versions (All-weaker (λ v. draft_in order t k v ≡ None) (λ v. others v ≡ true) (λ v h. rw h) b.versions (none_found (draft_in order t k) b.versions (sym (same_draft order b s a so t k) ∙ none_if (draft_at order t k (summary s).versions) lacks)))) w

      -- with a draft, it alone goes
      room_old : (d : Version K R) (rest : List (Version K R)) → is_some (draft_in order t k d) ≡ true → Perm (summary s).versions (d ∷ rest) → AllButFreed b.control.reports (filter others b.versions) rest
      room_old d rest has p =
          but_freed_perm b.control.reports (filter others b.versions) (filter others (summary s).versions)
          (but_freed_kept b.control.reports b.versions (summary s).versions a.versions others (λ v h. rw (freeable_no_draft order b.control.reports t k v h)))
          rest (then (perm_eq rest (filter others rest) (sym (kept_all others rest alone))) (then (perm_eq (filter others rest) (filter others (d ∷ rest)) (rw has)) (perm_kept others (d ∷ rest) (summary s).versions (perm_sym p))))
        where
          one : ◌≡◌ {A = ℕ} (cond (found (draft_in order t k) d) 1 0) 1
          one = rw has

          f : Version K R → ℕ
          f v = cond (found (draft_in order t k) v) 1 0

          none : count_by (found (draft_in order t k)) rest ≡ 0
          none = omega (arith, one, so.one_draft t k, perm_sum f a.versions.listed, sum_by-append f (summary s).versions a.versions.freed, perm_sum f p, sum_by-cons f d rest)

          alone : AllByRecursion (λ v. others v ≡ true) rest
          alone = All-weaker (λ v. found (draft_in order t k) v ≡ false) (λ v. others v ≡ true) (λ v h. rw h) rest (all_none (found (draft_in order t k)) rest none)

      -- the rest of the places, whichever one is taken
      room : (n : ℕ) → Takes order s t k n → AllButFreed b.control.reports (filter others b.versions) (versions_in (set (ready order s t k) n free) s.shelf)
      room n h = go (has_draft order t k (summary s).versions) refl (any (λ p. is_free p.state) s.places) h.1
        where
          found_places : Bool → Bool → List (Place K)
          found_places d x = cond (d || x) s.places (map (place_aged (λ f. true) s.control.reports) s.places)

          go : (d : Bool) → has_draft order t k (summary s).versions ≡ d → (x : Bool) → cond d (is_draft_of t (get_or (found_places d x) n free).state && carries order k (get_or (found_places d x) n free).state) (is_free (get_or (found_places d x) n free).state) ≡ true → AllButFreed b.control.reports (filter others b.versions) (versions_in (set (found_places d x) n free) s.shelf)
          go true ed x h' =
              let tk = taken s.places s.shelf n h.0 lengths in
              let rest = versions_in (set s.places n free) s.shelf in
              let own = holds_draft t k (get_or s.places n free).state tk.lies h' in
              room_old own.0 rest own.2
              (subst (λ o. Perm (summary s).versions (listed o ++ rest)) own.1
              (subst (λ ps. Perm (versions_in ps s.shelf) (listed (version_in (get_or s.places n free).state tk.lies) ++ rest)) (set-get_or s.places n free) (tk.moved (get_or s.places n free))))
          go false ed true h' = room_new (versions_in (set s.places n free) s.shelf) ed (rw (versions_free s.places s.shelf n h') a.versions)
          go false ed false h' =
              let old = map (place_aged (λ f. true) s.control.reports) s.places in
              room_new (versions_in (set old n free) s.shelf) ed (rw (versions_free old s.shelf n h') (aged_versions (λ f. true)))

      ready_length : length (ready order s t k) ≡ length s.places
      ready_length = go (has_draft order t k (summary s).versions || any (λ p. is_free p.state) s.places)
        where
          go : (x : Bool) → length (cond x s.places (map (place_aged (λ f. true) s.control.reports) s.places)) ≡ length s.places
          go true = refl
          go false = length-map s.places (place_aged (λ f. true) s.control.reports)

      -- the draft in the place taken, and the rest
      with_draft : (n : ℕ) → Takes order s t k n → (d : Option R) → Perm (versions_in (set (ready order s t k) n (record { state = draft_state t k d })) (shelved d n s.shelf)) (draft t k d ∷ versions_in (set (ready order s t k) n free) s.shelf)
      with_draft n h d = go d (taken (ready order s t k) s.shelf n (rw ready_length h.0) (lengths ∙ sym ready_length))
        where
          go : (d : Option R) → Taken (ready order s t k) s.shelf n → Perm (versions_in (set (ready order s t k) n (record { state = draft_state t k d })) (shelved d n s.shelf)) (draft t k d ∷ versions_in (set (ready order s t k) n free) s.shelf)
          go (Some r) tk = tk.filled (record { state = Unstamped k t }) r
          go None tk = tk.moved (record { state = Gone k t })

    shelved_length : (d : Option R) (n : ℕ) → length (shelved d n s.shelf) ≡ b.places
    shelved_length (Some r) n = length-set s.shelf n r ∙ a.shelf
    shelved_length None n = a.shelf

    -- the places and the shelf after a granted call
    record Moved (ch : Change K R) (ps : List (Place K)) (rs : List R) : Type 0 where
      places : length ps ≡ b.places
      shelf : length rs ≡ b.places
      versions : AllButFreed b.control.reports (versions_after order b ch) (versions_in ps rs)

    moved : (ch : Change K R) (ps : List (Place K)) (rs : List R) → Moves order s ch ps rs → Moved ch ps rs
    moved keeps ps rs m = record { places = ap length m.0 ∙ a.places; shelf = ap length m.1 ∙ a.shelf; versions = rw (m.0, m.1) a.versions }
    moved (drafts t k d) ps rs m =
        let put : Place K = record { state = draft_state t k d } in
        let at_place : ps ≡ set (ready order s t k) m.0 put = m.2 ∙ ap (λ p. set (ready order s t k) m.0 (record { state = p })) (becomes_draft t k d (has_draft order t k (summary s).versions) (get_or (ready order s t k) m.0 free).state m.1.1) in
        record {
          places = ap length at_place ∙ (length-set (ready order s t k) m.0 put ∙ (ready_length t k ∙ a.places));
          shelf = ap length m.3 ∙ shelved_length d m.0;
          versions = rw (at_place, m.3)
              (but_freed_perm b.control.reports (draft t k d ∷ filter (others t k) b.versions) (draft t k d ∷ versions_in (set (ready order s t k) m.0 free) s.shelf)
              (but_freed_cons b.control.reports (filter (others t k) b.versions) (versions_in (set (ready order s t k) m.0 free) s.shelf) (room t k m.0 m.1) (draft t k d))
              (versions_in (set (ready order s t k) m.0 put) (shelved d m.0 s.shelf)) (with_draft t k m.0 m.1 d));
        }
    moved (commits t) ps rs m = record {
      places = ap length m.0 ∙ (length-map s.places (place_settled t (s.control.stamp + 1) (λ k. has_draft order t k (summary s).versions)) ∙ a.places);
      shelf = ap length m.1 ∙ a.shelf;
      versions = rw (m.0, m.1, versions_settled order t (s.control.stamp + 1) (λ k. has_draft order t k (summary s).versions) s.places s.shelf, ap (λ c. c.stamp) a.control, same_written)
          (but_freed_picked b.control.reports b.versions (summary s).versions a.versions (settled order t (b.control.stamp + 1) (λ k. has_draft order t k b.versions)) (settled_alone t (b.control.stamp + 1) (λ k. has_draft order t k b.versions)));
    }
      where
        same_written : ◌≡◌ {A = K → Bool} (λ k. has_draft order t k (summary s).versions) (λ k. has_draft order t k b.versions)
        same_written = fun_ext (λ k. ap is_some (same_draft order b s a so t k))

        settled_alone : (t stamp : ℕ) (written : K → Bool) (v : Version K R) → Freeable b.control.reports v → settled order t stamp written v ≡ Some v
        settled_alone t stamp written (draft j k d) h = cc
        settled_alone t stamp written (committed k r b None) h = cc
        settled_alone t stamp written (committed k r b (Some f)) h = refl
    moved (aborts t) ps rs m = record {
      places = ap length m.0 ∙ (length-map s.places (place_aborted t) ∙ a.places);
      shelf = ap length m.1 ∙ a.shelf;
      versions = rw (m.0, m.1, versions_aborted t s.places s.shelf) (but_freed_kept b.control.reports b.versions (summary s).versions a.versions (λ v. not (drafted_by t v)) not_drafted);
    }
      where
        not_drafted : (v : Version K R) → Freeable b.control.reports v → not (drafted_by t v) ≡ true
        not_drafted (draft j k d) h = cc
        not_drafted (committed k r b f) h = refl
    moved (ages limit) ps rs m = record {
      places = ap length m.0 ∙ (length-map s.places (place_aged (λ f. ltb f limit) s.control.reports) ∙ a.places);
      shelf = ap length m.1 ∙ a.shelf;
      versions = rw (m.0, m.1) (aged_versions (λ f. ltb f limit));
    }

  -- what is freeable stays so when a report begins at the stamp, and when one ends
  still_freeable : (b : Summary K R) (c : Call K R) (v : Version K R) → InTime (control_after order b c).stamp v → Freeable b.control.reports v → Freeable (control_after order b c).reports v
  still_freeable b c (draft j k d) i h = cc
  still_freeable b c (committed k r x None) i h = cc
  still_freeable b c (committed k r x (Some f)) i h = (refl, go c i h.1)
    where
      go : (c : Call K R) → f ≤ (control_after order b c).stamp → in_report b.control.reports x f ≡ false → in_report (control_after order b c).reports x f ≡ false
      go (Basic BeginReport) i h = rw (list_any-append (λ r. spans x (Some f) r.stamp) b.control.reports (record { ticket = b.control.next; stamp = b.control.stamp } ∷ []), h, and_right (leb x b.control.stamp) (ltb b.control.stamp f) (le-ltb b.control.stamp f i))
      go (Basic (End t)) i h = any_kept (λ r. spans x (Some f) r.stamp) (λ r. not (eqb r.ticket t.number)) b.control.reports h
      go _ i h = h

  -- after a granted call the store agrees with the model again
  pub agrees_after : (b : Summary K R) (s s' : State K R) (a : Agrees b s) (so : Sound order b.control.stamp b.versions) (c : Call K R) → s'.control ≡ control_after order b c → Moves order s (change c) s'.places s'.shelf → Agrees (moved_on order None b c) s'
  agrees_after b s s' a so c ec m =
      let w = moved b s a so (change c) s'.places s'.shelf m in
      record {
        control = ec;
        places = w.places;
        shelf = w.shelf;
        versions = record {
          freed = w.versions.freed;
          listed = w.versions.listed;
          freeable = all_both (InTime (control_after order b c).stamp) (Freeable b.control.reports) (Freeable (control_after order b c).reports) (still_freeable b c) w.versions.freed
              (all_append_parts (InTime (control_after order b c).stamp) (versions_in s'.places s'.shelf) w.versions.freed (perm_all (InTime (control_after order b c).stamp) (perm_sym w.versions.listed) (sound_after order tot b None c so).in_time)).1
              w.versions.freeable;
        };
      }
