-- A look is the ledger's: what it answers, and that it takes a hold just where it finds a current version of a key that the job does not hold.
use Rattle.std.proofs.Common.{◌≡◌, ℕ, Bool, true, false, not, ◌&&◌, eqb, List, [], ◌∷◌, length, get_or, is_some, Some, None, Ok, Option, Result, Ordering, sym, refl, ap, ◌∙◌, subst, inl, inr, ⊎_elim}
use Rattle.std.proofs.lemmas.Bool.{cases_eq}
use Rattle.keys.specs.Refusals.{plain, told}
use Rattle.keys.specs.Orders.{Total}
use Rattle.ledger.specs.declared.call.TicketId.{TicketId}
use Rattle.ledger.specs.declared.call.Call.TheVariants.{Basic}
use Rattle.ledger.specs.declared.call.BasicCall.TheVariants.{Look}
use Rattle.ledger.specs.declared.answer.Granted.TheVariants.{Record}
use Rattle.ledger.specs.declared.answer.Refusal.{Refusal}
use Rattle.ledger.specs.Refusals.{code}
use Rattle.ledger.specs.Versions.{finds_current}
use Rattle.ledger.specs.Control.{with_jobs, held_if}
use Rattle.ledger.specs.Steps.{GrantedStep, versions_in}
use Rattle.ledger.proofs.Runs.{is_open}
use Rattle.table.specs.declared.row.HeldKey.{HeldKey}
use Rattle.table.specs.declared.row.Row.{Row}
use Rattle.table.specs.Lists.{with_ticket}
use Rattle.table.specs.Rows.{no_entry, entries_of, is_row_full, noted, draft_in as entry_draft}
use Rattle.table.specs.Views.{View, at, row_number, with_row, open_job}
use Rattle.table.specs.Holds.{holds_key, entry_at, draft_at as row_draft, other_holder as holder_among}
use Rattle.table.specs.Checks.{Outcome, row_of, is_current_of, has_current, job_open, shelf_fits, not_held, row_left_to_look, sent_back as first_refusal}
use Rattle.table.specs.Reads.{FindsPlace, record_at, look_checks, Sees, held, Looks}
use Rattle.bridge.specs.Answers.{answer_of, exchange}
use Rattle.bridge.specs.Shelves.{Own}
use Rattle.bridge.specs.States.{keys_held, control, state}
use Rattle.bridge.specs.Soundness.{DraftOf, CurrentOf, Names, EntryFits, Sound}
use Rattle.bridge.proofs.Apart.{Has}
use Rattle.bridge.proofs.Tickets.{numbers_over, replaced_is}
use Rattle.bridge.proofs.Fitting.{unmoved}
use Rattle.bridge.proofs.Versions.{One, any_at, current_true, true_current}
use Rattle.bridge.proofs.Checks.{position_none, position_any, keys_of_is, open_row, passes, unmet, shelf_is, no_holder, has_key_is, holder_is}
use Rattle.bridge.proofs.Held.{finds_named, its_row, its_drafts, draft_names, row_full_is, sees_is, finds_is}
use Rattle.bridge.proofs.Holding.{true_has}
use Rattle.bridge.proofs.Noting.{noted_jobs, noted_rows}
use Rattle.bridge.proofs.Drafting.{NotedSo, noted_more}
use Rattle.bridge.proofs.Puts.{holds_already}
use Rattle.bridge.proofs.Outcomes.{Goes, met, by_outcome}

module _ {K R : Type 0} (order : K → K → Ordering) (tot : Total order) (v : View K) (own : List R) (s : Sound v) (long : length own ≡ length v.places) (t : TicketId) (k : K) where
  -- a new entry is needed only where no entry is there, and then there is no draft either
  needs_entry : (es : List HeldKey) (o : Option ℕ) (full there : Bool) → ((not (is_some (entry_draft es o)) && there) && (not (is_some o) && full)) ≡ (not (is_some o) && full && there)
  needs_entry es None true true = refl
  needs_entry es None true false = refl
  needs_entry es None false true = refl
  needs_entry es None false false = refl
  needs_entry es (Some i) full there = go (not (is_some (get_or es i no_entry).draft) && there)
    where
      go : (b : Bool) → (b && false) ≡ false
      go true = refl
      go false = refl

  look_met : (n : ℕ) → met order v own (Basic (Look t k)) n ≡ first_refusal (look_checks order v n t k)
  look_met n = go (open_job v t) refl
    where
      go : (o : Option Row) → open_job v t ≡ o → met order v own (Basic (Look t k)) n ≡ first_refusal (look_checks order v n t k)
      go None e = rw (keys_of_is v t, e)
      go (Some row) e = let found = open_row v t row e in
          rw (
            keys_of_is v t,
            e,
            holder_is order v.places k t.number v.jobs,
            finds_is v s t.number row found order tot k own long,
            row_full_is v s t.number row found order tot k,
            needs_entry (entries_of row) (entry_at order v.places k row) (is_row_full row) (has_current order v.places k),
          )

  module _ (one : (q : K) → One (is_current_of order q) v.places) (row : Row) (e : open_job v t ≡ Some row) where
    found : with_ticket row_number t.number v.jobs ≡ Some row
    found = open_row v t row e

    -- the control state after the look, and that the table stays sound
    abbrev HeldSo : View K → Type 0
    HeldSo w = (control w ≡ held_if order (finds_current order t.number k (versions_in v.places own)) (control v) t k) × (w.places ≡ v.places) × Sound w

    already : (i : ℕ) → entry_at order v.places k row ≡ Some i → HeldSo v
    already i eo = (go (finds_current order t.number k (versions_in v.places own)), refl, s)
      where
        has : Has k (keys_held v.places (entries_of row))
        has = true_has order tot k (keys_held v.places (entries_of row)) (has_key_is order v.places k (entries_of row) ∙ (sym (position_any (holds_key order v.places k) (entries_of row)) ∙ ap is_some eo))

        go : (b : Bool) → control v ≡ held_if order b (control v) t k
        go true = ap (with_jobs (control v)) (sym (holds_already order tot v s t.number k row found has))
        go false = refl

    module _ (eo : entry_at order v.places k row ≡ None) where
      undrafted : row_draft order v.places k row ≡ None
      undrafted = ap (entry_draft (entries_of row)) eo

      finds_so : finds_current order t.number k (versions_in v.places own) ≡ has_current order v.places k
      finds_so = finds_is v s t.number row found order tot k own long ∙ rw undrafted

      nothing : has_current order v.places k ≡ false → HeldSo v
      nothing h = (rw (finds_so, h) refl, refl, s)

      module _ (alone : holder_among order v.places k t.number v.jobs ≡ None) (room : is_row_full row ≡ false) (n : ℕ) (there : FindsPlace (is_current_of order k) v.places (Some n)) where
        abbrev fits : EntryFits v.places t.number (record { draft = None; current = Some n })
        fits = record {
          key = k;
          holds = (current_true order tot k (at v.places n) there.1).1;
          draft = subst (Names (DraftOf t.number k) v.places) undrafted (draft_names v s t.number row found order tot k);
          current = finds_named (is_current_of order k) (CurrentOf k) refl (true_current order tot k) (current_true order tot k) v.places (Some n) (one k) there;
        }

        abbrev row' : Row
        row' = noted None (record { draft = None; current = Some n }) row

        noted_so : NotedSo order tot v.places v.places t.number k row row' (record { draft = None; current = Some n })
        noted_so = noted_more order tot v.places v.places t.number k row (its_row v s t.number row found).0 (its_row v s t.number row found).1 (λ q ne. unmoved v.places t.number q) (record { draft = None; current = Some n }) fits refl room
            (has_key_is order v.places k (entries_of row) ∙ position_none (holds_key order v.places k) (entries_of row) eo)

        newly_held : HeldSo (with_row v row')
        newly_held = (
          rw (finds_so, any_at (is_current_of order k) v.places n refl there.1)
              (ap (with_jobs (control v)) (noted_jobs order tot v.places v.places v.jobs t.number k row row' found s.jobs.0 s.rows (λ u q ne. unmoved v.places u q) noted_so.its noted_so.fits noted_so.holds)),
          refl,
          record {
            stamp = s.stamp;
            reports = s.reports;
            jobs = rw (replaced_is row_number t.number row' v.jobs noted_so.its s.jobs.0, numbers_over row_number t.number row' v.jobs noted_so.its) s.jobs;
            rows = noted_rows order tot v.places v.places v.jobs t.number k row row' found s.jobs.0 s.rows (λ u q ne. unmoved v.places u q) noted_so.its noted_so.fits noted_so.holds
                (holder_is order v.places k t.number v.jobs ∙ alone)
                (λ m u q h. ⊎_elim (λ z. inr (z, noted_so.old m (its_drafts v s t.number row found m q (subst (λ y. DraftOf y q (at v.places m)) z h)))) (λ ne. inl (h, ne)) (cases_eq u t.number));
          },
        )

    -- whatever the look found
    held_so : (place : Option ℕ) → holder_among order v.places k t.number v.jobs ≡ None
        → (not (is_some (entry_at order v.places k row)) && is_row_full row && has_current order v.places k) ≡ false
        → Sees order v.places k (row_draft order v.places k row) place → HeldSo (held v row (entry_at order v.places k row) place)
    held_so place alone room sees = go (entry_at order v.places k row) refl place sees
      where
        full : (b : Bool) → (b && true) ≡ false → b ≡ false
        full true x = cc
        full false x = refl

        go : (o : Option ℕ) → entry_at order v.places k row ≡ o → (place : Option ℕ) → Sees order v.places k (row_draft order v.places k row) place → HeldSo (held v row o place)
        go (Some i) eo place sees = already i eo
        go None eo None sees = nothing eo (subst (λ d. Sees order v.places k d None) (undrafted eo) sees)
        go None eo (Some n) sees =
            let there = subst (λ d. Sees order v.places k d (Some n)) (undrafted eo) sees in
            let has : has_current order v.places k ≡ true = any_at (is_current_of order k) v.places n refl there.1 in
            let r1 : (is_row_full row && has_current order v.places k) ≡ false = subst (λ o. (not (is_some o) && is_row_full row && has_current order v.places k) ≡ false) eo room in
            newly_held eo alone (full (is_row_full row) (subst (λ b. (is_row_full row && b) ≡ false) has r1)) n there

  pub look_goes : (one : (q : K) → One (is_current_of order q) v.places) (w : View K) (handed : List R) (r : Result (Option R) Refusal) → Own own handed
      → Outcome (look_checks order v (length handed) t k) (Looks order v w handed t k) (w ≡ v) (told code r) → Goes order v own (Basic (Look t k)) (length handed) (answer_of (λ o. Record o) r) w own
  look_goes one w handed r mine h = by_outcome order v w own own (Basic (Look t k)) (length handed) (λ o. Record o) (look_checks order v (length handed) t k) (Looks order v w handed t k) (w ≡ v) r (look_met (length handed)) h s (λ e. (e, refl))
      (λ a e x.
      let p1 = passes (job_open v t) (shelf_fits v (length handed) ∷ not_held order v t k ∷ row_left_to_look order v t k ∷ []) e in
      let p2 = passes (shelf_fits v (length handed)) (not_held order v t k ∷ row_left_to_look order v t k ∷ []) p1.1 in
      let p3 = passes (not_held order v t k) (row_left_to_look order v t k ∷ []) p2.1 in
      let p4 = passes (row_left_to_look order v t k) [] p3.1 in
      let o = is_open (open_job v t) [] (rw p1.0 refl) in
      granted a x o.0 o.1 (shelf_is (length handed) (length v.places) (unmet (not (eqb (length handed) (length v.places))) (plain 3) p2.0) ∙ sym long)
      (no_holder (holder_among order v.places k t.number v.jobs) p3.0)
      (unmet (not (is_some (entry_at order v.places k (row_of v t))) && is_row_full (row_of v t) && has_current order v.places k) (plain 9) p4.0))
    where
      granted : (a : Option R) → Looks order v w handed t k a → (row : Row) → open_job v t ≡ Some row → length handed ≡ length own → holder_among order v.places k t.number v.jobs ≡ None
          → (not (is_some (entry_at order v.places k (row_of v t))) && is_row_full (row_of v t) && has_current order v.places k) ≡ false
          → GrantedStep order (state v own) (exchange (Basic (Look t k)) (length handed) (Ok (Record a))) (state w own) × Sound w
      granted a x row e fits alone room =
          let known : row_of v t ≡ row = rw e in
          let sees : Sees order v.places k (row_draft order v.places k row) x.place = subst (λ y. Sees order v.places k (row_draft order v.places k y) x.place) known x.sees in
          let after : w ≡ held v row (entry_at order v.places k row) x.place = subst (λ y. w ≡ held v y (entry_at order v.places k y) x.place) known x.after in
          let y = held_so one row e x.place alone (subst (λ y. (not (is_some (entry_at order v.places k y)) && is_row_full y && has_current order v.places k) ≡ false) known room) sees in
          subst (λ z. GrantedStep order (state v own) (exchange (Basic (Look t k)) (length handed) (Ok (Record a))) (state z own) × Sound z) (sym after) (
            record {
              answer = ap (λ o. Ok (Record o)) (x.answers ∙ (ap (λ xs. record_at xs x.place) (mine fits) ∙ sees_is v s t.number row (open_row v t row e) order tot k own long (one k) x.place sees));
              control = y.0;
              moves = (y.1, refl);
            },
            y.2,
          )
