-- A put and a remove are the ledger's: one argument for both, over what is drafted, a record or none.
use Rattle.std.proofs.Common.{◌≡◌, ℕ, suc, ◌<◌, true, false, not, ◌&&◌, eqb, ◌⊎◌, List, [], ◌∷◌, length, get_or, set, is_some, Some, None, Option, Result, Ordering, sym, refl, ap, ◌∙◌, subst, inl, inr, ⊎_elim, arith}
use Rattle.std.proofs.ByRecursion.{All-map, All-weaker}
use Rattle.std.proofs.lemmas.Bool.{cases_eq}
use Rattle.keys.specs.Refusals.{plain, told}
use Rattle.keys.specs.Orders.{Total}
use Rattle.ledger.specs.declared.call.TicketId.{TicketId}
use Rattle.ledger.specs.declared.call.Call.TheVariants.{Basic}
use Rattle.ledger.specs.declared.call.BasicCall.TheVariants.{Put, Remove}
use Rattle.ledger.specs.declared.answer.Granted.TheVariants.{Done}
use Rattle.ledger.specs.declared.answer.Refusal.{Refusal}
use Rattle.ledger.specs.declared.place.Place.{Place}
use Rattle.ledger.specs.declared.place.PlaceState.TheVariants.{Free}
use Rattle.ledger.specs.Refusals.{code}
use Rattle.ledger.specs.Versions.{has_draft}
use Rattle.ledger.specs.Calls.{drafts}
use Rattle.ledger.specs.Control.{with_jobs, holding, held_if}
use Rattle.ledger.specs.Steps.{Moves, versions_in, draft_event, shelved}
use Rattle.ledger.proofs.Runs.{is_open}
use Rattle.table.specs.declared.row.HeldKey.{HeldKey}
use Rattle.table.specs.declared.row.Row.{Row}
use Rattle.table.specs.Lists.{with_ticket}
use Rattle.table.specs.Rows.{no_entry, entries_of, is_row_full, noted, draft_in as entry_draft}
use Rattle.table.specs.Views.{View, at, row_number, with_places, with_row, open_job}
use Rattle.table.specs.Holds.{holds_key, entry_at, draft_at as row_draft, other_holder as holder_among}
use Rattle.table.specs.Checks.{Outcome, row_of, is_current_of, job_open, shelf_fits, not_held, something_there, row_left, place_left, sent_back as first_refusal}
use Rattle.table.specs.Reads.{FindsPlace}
use Rattle.table.specs.Ageing.{ready}
use Rattle.table.specs.Drafts.{turned, Room, Placed, again, newly, Drafts, Puts, Removes, put_checks, remove_checks}
use Rattle.bridge.specs.Answers.{answer_of}
use Rattle.bridge.specs.Shelves.{Own, kept}
use Rattle.bridge.specs.States.{key_held, keys_held, job_in, jobs_in, control, state}
use Rattle.bridge.specs.Soundness.{DraftOf, CurrentOf, Names, EntryFits, Sound}
use Rattle.bridge.proofs.Apart.{Has}
use Rattle.bridge.proofs.Tickets.{only_one, numbers_over, replaced_is}
use Rattle.bridge.proofs.Fitting.{SameAt, names_same, jobs_stay, rows_stay}
use Rattle.bridge.proofs.Versions.{One, below, is_draft_at, key_true, true_draft, current_true, true_current}
use Rattle.bridge.proofs.Checks.{position_some, position_none, keys_of_is, open_row, passes, shelf_is, unmet, no_holder, holds_is, has_key_is, position_any, holder_is}
use Rattle.bridge.proofs.Held.{finds_named, its_row, its_drafts, draft_names, drafted_is, row_full_is, looked_is}
use Rattle.bridge.proofs.Closing.{its_keys, drafted_held}
use Rattle.bridge.proofs.Holding.{hold_same}
use Rattle.bridge.proofs.Noting.{noted_jobs, noted_rows}
use Rattle.bridge.proofs.Drafting.{NotedSo, noted_more, noted_set, alike_through, is_free_true, ready_same, ready_length, own_same, fresh_same, draft_here, draft_was}
use Rattle.bridge.proofs.Shelves.{kept_same, kept_own}
use Rattle.bridge.proofs.Outcomes.{Goes, met, by_outcome}

-- the job holds the key: no more is held by another hold
pub holds_already : {K : Type 0} (order : K → K → Ordering) (tot : Total order) (v : View K) (s : Sound v) (t : ℕ) (k : K) (row : Row) → with_ticket row_number t v.jobs ≡ Some row
    → Has k (keys_held v.places (entries_of row)) → holding order t k (jobs_in v.places v.jobs) ≡ jobs_in v.places v.jobs
holds_already {K} order tot v s t k row found has = hold_same order tot k t (jobs_in v.places v.jobs)
    (All-map (λ j. j.ticket ≡ t → Has k j.keys) (job_in v.places) v.jobs
    (All-weaker (λ r. r.ticket ≡ t → r ≡ row) (λ r. r.ticket ≡ t → Has k (keys_held v.places (entries_of r))) (λ r f e. subst (λ x. Has k (keys_held v.places (entries_of x))) (sym (f e)) has) v.jobs (only_one row_number t v.jobs row found s.jobs.0)))

module _ {K R : Type 0} (order : K → K → Ordering) (tot : Total order) (v : View K) (own : List R) (s : Sound v) (long : length own ≡ length v.places) (one : (q : K) → One (is_current_of order q) v.places)
    (t : TicketId) (k : K) (d : Option R) (row : Row) (e : open_job v t ≡ Some row) where
  found : with_ticket row_number t.number v.jobs ≡ Some row
  found = open_row v t row e

  -- what a granted put or remove does to the control state, the places and the shelf, and that the table stays sound
  abbrev Drafted : View K → ℕ → Type 0
  Drafted w n = (control w ≡ held_if order true (control v) t k) × Moves order (state v own) (drafts t.number k d) w.places (shelved d n own) × Sound w

  own_drafted : (n : ℕ) → row_draft order v.places k row ≡ Some n → Drafted (with_places v (turned (draft_event t.number k d) n v.places)) n
  own_drafted n ed = (
    ap (with_jobs (control v)) (jobs_stay v.places qs same v.jobs s.rows ∙ sym (holds_already order tot v s t.number k row found (drafted_held v s t.number row found n k named.0))),
    (n, (inside, rw has (true_draft order tot t.number k (at v.places n) named.0)), rw has refl, refl),
    record { stamp = s.stamp; reports = s.reports; jobs = s.jobs; rows = rows_stay v.places qs same v.jobs s.rows },
  )
    where
      named : Names (DraftOf t.number k) v.places (Some n)
      named = subst (Names (DraftOf t.number k) v.places) ed (draft_names v s t.number row found order tot k)

      inside : n < length v.places
      inside = below (is_draft_at order t.number k) v.places n refl (true_draft order tot t.number k (at v.places n) named.0)

      has : has_draft order t.number k (versions_in v.places own) ≡ true
      has = drafted_is v s t.number row found order tot k own long ∙ ap is_some ed

      qs : List (Place K)
      qs = turned (draft_event t.number k d) n v.places

      same : (u : ℕ) (q : K) → SameAt v.places (turned (draft_event t.number k d) n v.places) u q
      same = own_same t.number k d v.places n inside named.0.0

  module _ (alone : holder_among order v.places k t.number v.jobs ≡ None) (room : (not (is_some (entry_at order v.places k row)) && is_row_full row) ≡ false)
      (n : ℕ) (c : Option ℕ) (ed : row_draft order v.places k row ≡ None) (finds : FindsPlace (is_current_of order k) v.places c) (free_there : Room v n) where
    abbrev qs : List (Place K)
    qs = turned (draft_event t.number k d) n (ready v)

    inside : n < length (ready v)
    inside = rw (ready_length v) free_there.0

    empty : at (ready v) n ≡ Free
    empty = is_free_true (at (ready v) n) free_there.1

    same : (u : ℕ) (q : K) → (u ≡ t.number → q ≡ k → ⊥) → SameAt v.places qs u q
    same u q ne = alike_through v.places (ready v) qs u q (ready_same v u q) (fresh_same t.number k d (ready v) n inside empty u q ne)

    none : (m : ℕ) → DraftOf t.number k (at v.places m) → ⊥
    none = subst (Names (DraftOf t.number k) v.places) ed (draft_names v s t.number row found order tot k)

    new : HeldKey
    new = record { draft = Some n; current = c }

    here : DraftOf t.number k (at qs n)
    here = draft_here t.number k d (ready v) n inside empty

    was : (m u : ℕ) (q : K) → DraftOf u q (at qs m) → ((m ≡ n) × (u ≡ t.number)) ⊎ DraftOf u q (at v.places m)
    was m u q h = ⊎_elim (λ x. inl x) (λ x. inr ((ready_same v u q m).0.1 x)) (draft_was t.number k d (ready v) n inside empty m u q h)

    abbrev new_fits : EntryFits qs t.number (record { draft = Some n; current = c })
    new_fits = record {
      key = k;
      holds = here.1;
      draft = (here, λ m h. ⊎_elim (λ x. x.0) (λ x. absurd (none m x)) (was m t.number k h));
      current = names_same v.places qs (CurrentOf k) (λ m. (same (suc t.number) k (λ z. absurd (omega arith)) m).1) c
          (finds_named (is_current_of order k) (CurrentOf k) refl (true_current order tot k) (current_true order tot k) v.places c (one k) finds);
    }

    abbrev row' : Row
    row' = noted (entry_at order v.places k row) (record { draft = Some n; current = c }) row

    noted_so : NotedSo order tot v.places qs t.number k row row' (record { draft = Some n; current = c })
    noted_so = go (entry_at order v.places k row) refl
      where
        other : (q : K) → (q ≡ k → ⊥) → SameAt v.places qs t.number q
        other q ne = same t.number q (λ z. ne)

        go : (o : Option ℕ) → entry_at order v.places k row ≡ o → NotedSo order tot v.places qs t.number k row (noted o (record { draft = Some n; current = c }) row) (record { draft = Some n; current = c })
        go None eo = noted_more order tot v.places qs t.number k row (its_row v s t.number row found).0 (its_row v s t.number row found).1 other (record { draft = Some n; current = c }) new_fits refl
            (subst (λ o. (not (is_some o) && is_row_full row) ≡ false) eo room)
            (has_key_is order v.places k (entries_of row) ∙ position_none (holds_key order v.places k) (entries_of row) eo)
        go (Some i) eo =
            let h = position_some no_entry (holds_key order v.places k) (entries_of row) i eo in
            noted_set order tot v.places qs t.number k row (its_row v s t.number row found).0 (its_row v s t.number row found).1 other (record { draft = Some n; current = c }) new_fits refl
            i h.0 (key_true order tot (key_held v.places (get_or (entries_of row) i no_entry)) k (sym (holds_is order v.places k _) ∙ h.1))
            (ap (entry_draft (entries_of row)) (sym eo) ∙ ed)
            (its_keys v s t.number row found)
            (has_key_is order v.places k (entries_of row) ∙ (sym (position_any (holds_key order v.places k) (entries_of row)) ∙ ap is_some eo))

    other_rows : (u : ℕ) (q : K) → (u ≡ t.number → ⊥) → SameAt v.places qs u q
    other_rows u q ne = same u q (λ z. absurd (ne z))

    has_none : has_draft order t.number k (versions_in v.places own) ≡ false
    has_none = drafted_is v s t.number row found order tot k own long ∙ ap is_some ed

    pub new_drafted : Drafted (with_places (with_row (with_places v (ready v)) row') qs) n
    new_drafted = (
      ap (with_jobs (control v)) (noted_jobs order tot v.places qs v.jobs t.number k row row' found s.jobs.0 s.rows other_rows noted_so.its noted_so.fits noted_so.holds),
      (n, (free_there.0, rw has_none free_there.1), rw has_none refl, refl),
      record {
        stamp = s.stamp;
        reports = s.reports;
        jobs = rw (replaced_is row_number t.number row' v.jobs noted_so.its s.jobs.0, numbers_over row_number t.number row' v.jobs noted_so.its) s.jobs;
        rows = noted_rows order tot v.places qs v.jobs t.number k row row' found s.jobs.0 s.rows other_rows noted_so.its noted_so.fits noted_so.holds
            (holder_is order v.places k t.number v.jobs ∙ alone)
            (λ m u q h. ⊎_elim
            (λ x. inr (x.1, noted_so.new m (ap Some (sym x.0))))
            (λ x. ⊎_elim (λ z. inr (z, noted_so.old m (its_drafts v s t.number row found m q (subst (λ y. DraftOf y q (at v.places m)) z x)))) (λ ne. inl (x, ne)) (cases_eq u t.number))
            (was m u q h));
      },
    )

  pub drafted : (w : View K) (n : ℕ) → holder_among order v.places k t.number v.jobs ≡ None → (not (is_some (entry_at order v.places k row)) && is_row_full row) ≡ false
      → Drafts order v w t k (draft_event t.number k d) n → Drafted w n
  drafted w n alone room h = go h.0 (subst (λ x. Placed order v h.0 x k n) (rw e refl) h.1) h.2
    where
      go : (u : View K) → Placed order v u row k n → w ≡ with_places u (turned (draft_event t.number k d) n u.places) → Drafted w n
      go u (again ed eu) ew = rw (ew, eu) (own_drafted n ed)
      go u (newly c ed finds free_there eu) ew = rw (ew, eu) (new_drafted alone room n c ed finds free_there)

-- the call makes the ledger's checks
module _ {K R : Type 0} (order : K → K → Ordering) (tot : Total order) (v : View K) (own : List R) (s : Sound v) (long : length own ≡ length v.places) (t : TicketId) (k : K) where
  put_met : (n : ℕ) (item : R) → met order v own (Basic (Put t k item)) n ≡ first_refusal (put_checks order v n t k)
  put_met n item = go (open_job v t) refl
    where
      go : (o : Option Row) → open_job v t ≡ o → met order v own (Basic (Put t k item)) n ≡ first_refusal (put_checks order v n t k)
      go None e = rw (keys_of_is v t, e)
      go (Some row) e = let found = open_row v t row e in
          rw (keys_of_is v t, e, holder_is order v.places k t.number v.jobs, row_full_is v s t.number row found order tot k, drafted_is v s t.number row found order tot k own long)

  remove_met : (n : ℕ) → met order v own (Basic (Remove t k)) n ≡ first_refusal (remove_checks order v t k)
  remove_met n = go (open_job v t) refl
    where
      go : (o : Option Row) → open_job v t ≡ o → met order v own (Basic (Remove t k)) n ≡ first_refusal (remove_checks order v t k)
      go None e = rw (keys_of_is v t, e)
      go (Some row) e = let found = open_row v t row e in
          rw (keys_of_is v t, e, holder_is order v.places k t.number v.jobs, looked_is v s t.number row found order tot k own long, row_full_is v s t.number row found order tot k, drafted_is v s t.number row found order tot k own long)

  module _ (one : (q : K) → One (is_current_of order q) v.places) (w : View K) (r : Result Unit Refusal) where
    row_known : (row : Row) → open_job v t ≡ Some row → row_of v t ≡ row
    row_known row e = rw e

    pub remove_goes : (n : ℕ) → Outcome (remove_checks order v t k) (λ u. Removes order v w t k) (w ≡ v) (told code r) → Goes order v own (Basic (Remove t k)) n (answer_of (λ u. Done) r) w own
    remove_goes n h = by_outcome order v w own own (Basic (Remove t k)) n (λ u. Done) (remove_checks order v t k) (λ u. Removes order v w t k) (w ≡ v) r (remove_met n) h s (λ e. (e, refl))
        (λ u e x.
        let p1 = passes (job_open v t) (not_held order v t k ∷ something_there order v t k ∷ row_left order v t k ∷ place_left order v t k ∷ []) e in
        let p2 = passes (not_held order v t k) (something_there order v t k ∷ row_left order v t k ∷ place_left order v t k ∷ []) p1.1 in
        let p3 = passes (something_there order v t k) (row_left order v t k ∷ place_left order v t k ∷ []) p2.1 in
        let p4 = passes (row_left order v t k) (place_left order v t k ∷ []) p3.1 in
        let o = is_open (open_job v t) [] (rw p1.0 refl) in
        let y = drafted order tot v own s long one t k None o.0 o.1 w x.0 (no_holder (holder_among order v.places k t.number v.jobs) p2.0)
        (subst (λ row. (not (is_some (entry_at order v.places k row)) && is_row_full row) ≡ false) (row_known o.0 o.1) (unmet (not (is_some (entry_at order v.places k (row_of v t))) && is_row_full (row_of v t)) (plain 9) p4.0)) x.1 in
        (record { answer = refl; control = y.0; moves = y.1 }, y.2))

    pub put_goes : (handed left : List R) (item : R) → Own own handed → Outcome (put_checks order v (length handed) t k) (λ u. Puts order v w handed left t k item) ((w ≡ v) × (left ≡ handed)) (told code r)
        → Goes order v own (Basic (Put t k item)) (length handed) (answer_of (λ u. Done) r) w (kept own handed left)
    put_goes handed left item mine h = by_outcome order v w own (kept own handed left) (Basic (Put t k item)) (length handed) (λ u. Done) (put_checks order v (length handed) t k) (λ u. Puts order v w handed left t k item) ((w ≡ v) × (left ≡ handed)) r (put_met (length handed) item) h s
        (λ e. (e.0, ap (kept own handed) e.1 ∙ kept_same own handed mine))
        (λ u e x.
        let p1 = passes (job_open v t) (shelf_fits v (length handed) ∷ not_held order v t k ∷ row_left order v t k ∷ place_left order v t k ∷ []) e in
        let p2 = passes (shelf_fits v (length handed)) (not_held order v t k ∷ row_left order v t k ∷ place_left order v t k ∷ []) p1.1 in
        let p3 = passes (not_held order v t k) (row_left order v t k ∷ place_left order v t k ∷ []) p2.1 in
        let p4 = passes (row_left order v t k) (place_left order v t k ∷ []) p3.1 in
        let o = is_open (open_job v t) [] (rw p1.0 refl) in
        let fits : length handed ≡ length own = shelf_is (length handed) (length v.places) (unmet (not (eqb (length handed) (length v.places))) (plain 3) p2.0) ∙ sym long in
        let shelf : kept own handed left ≡ set own x.0 item = kept_own own handed left fits ∙ (x.2 ∙ ap (λ xs. set xs x.0 item) (mine fits)) in
        let y = drafted order tot v own s long one t k (Some item) o.0 o.1 w x.0 (no_holder (holder_among order v.places k t.number v.jobs) p3.0)
        (subst (λ row. (not (is_some (entry_at order v.places k row)) && is_row_full row) ≡ false) (row_known o.0 o.1) (unmet (not (is_some (entry_at order v.places k (row_of v t))) && is_row_full (row_of v t)) (plain 9) p4.0)) x.1 in
        (record { answer = refl; control = y.0; moves = subst (Moves order (state v own) (drafts t.number k (Some item)) w.places) (sym shelf) y.1 }, y.2))
