-- An abort is the ledger's: its row names all of the job's drafts, so turning these frees every draft of the job and nothing else.
use Rattle.std.proofs.Common.{◌≡◌, ℕ, true, false, List, [], ◌∷◌, ◌++◌, map, get_or, Some, None, Ok, fold, filter, Option, Result, Ordering, sym, refl, ap, ◌∙◌, subst, inl, inr, ⊎_elim}
use Rattle.std.specs.List.{flat_map, AllByRecursion}
use Rattle.std.proofs.ByRecursion.{All-weaker}
use Rattle.std.proofs.lemmas.Bool.{false_from_ne_true, both_ways}
use Rattle.keys.specs.Refusals.{told}
use Rattle.ledger.specs.declared.call.TicketId.{TicketId}
use Rattle.ledger.specs.declared.call.Call.TheVariants.{Basic}
use Rattle.ledger.specs.declared.call.BasicCall.TheVariants.{Abort as AbortCall}
use Rattle.ledger.specs.declared.answer.Granted.TheVariants.{Done}
use Rattle.ledger.specs.declared.answer.Refusal.{Refusal}
use Rattle.ledger.specs.declared.place.Place.{Place}
use Rattle.ledger.specs.declared.place.PlaceState.{PlaceState}
use Rattle.ledger.specs.declared.place.PlaceState.TheVariants.{Unstamped, Gone}
use Rattle.ledger.specs.declared.place.PlaceEvent.TheVariants.{Abort}
use Rattle.ledger.specs.Refusals.{code}
use Rattle.ledger.specs.Words.{listed}
use Rattle.ledger.specs.Places.{next, free, after, key_of, is_draft_of}
use Rattle.ledger.specs.Control.{with_jobs, jobs_but}
use Rattle.ledger.specs.Steps.{GrantedStep, place_aborted}
use Rattle.ledger.proofs.Runs.{is_open}
use Rattle.table.specs.declared.row.HeldKey.{HeldKey}
use Rattle.table.specs.declared.row.Row.{Row}
use Rattle.table.specs.Lists.{with_ticket, without_ticket}
use Rattle.table.specs.Rows.{entries_of}
use Rattle.table.specs.Views.{View, at, row_number, if_granted, open_job}
use Rattle.table.specs.Checks.{checked, row_of}
use Rattle.table.specs.Commits.{turned_at, undone, abort_checks, aborted}
use Rattle.bridge.specs.Answers.{answer_of, exchange}
use Rattle.bridge.specs.States.{keys_held, jobs_in, control, state}
use Rattle.bridge.specs.Soundness.{Apart, SomeOf, DraftOf, Names, EntryFits, Rows, Sound}
use Rattle.bridge.proofs.Apart.{Has, given_kept}
use Rattle.bridge.proofs.Tickets.{others, without_is, kept_others}
use Rattle.bridge.proofs.Fitting.{Alike, alike_if, moved_or_not, SameAt, Unconcerned, mapped_at, mapped_same}
use Rattle.bridge.proofs.Versions.{one_job}
use Rattle.bridge.proofs.Checks.{keys_of_is, some_mapped, open_row}
use Rattle.bridge.proofs.Held.{its_entries, its_drafts}
use Rattle.bridge.proofs.Turning.{turn, turned_length, turned_once, entries_turn, names_apart, same_places}
use Rattle.bridge.proofs.Closing.{its_keys, closed_jobs, closed_rows}
use Rattle.bridge.proofs.Outcomes.{Goes, by_checks}

-- a draft carries a key
pub draft_key : {K : Type 0} (t : ℕ) (p : PlaceState K) → is_draft_of t p ≡ true → (k : K) × DraftOf t k p
draft_key t (Unstamped k j) e = (k, (e, refl))
draft_key t (Gone k j) e = (k, (e, refl))
draft_key t _ e = cc

-- the places that the abort of an entry turns
abbrev drafted : HeldKey → List ℕ
drafted e = listed e.draft

module _ {K : Type 0} (ps : List (Place K)) (t : ℕ) (es : List HeldKey) (fits : AllByRecursion (EntryFits ps t) es) where
  undone_turns : (qs : List (Place K)) (e : HeldKey) → undone qs e ≡ fold (turn Abort) qs (drafted e)
  undone_turns qs e = go e.draft
    where
      go : (o : Option ℕ) → turned_at Abort o qs ≡ fold (turn Abort) qs (listed o)
      go None = refl
      go (Some n) = refl

  own : (e : HeldKey) (f : EntryFits ps t e) → Apart (drafted e) × AllByRecursion (λ n. key_of (at ps n) ≡ Some f.key) (drafted e)
  own e f = go e.draft f.draft
    where
      go : (o : Option ℕ) → Names (DraftOf t f.key) ps o → Apart (listed o) × AllByRecursion (λ n. key_of (at ps n) ≡ Some f.key) (listed o)
      go None h = (tt, tt)
      go (Some n) h = ((tt, tt), (h.0.1, tt))

  -- a place that is turned is a draft of the job
  turned_draft : (n : ℕ) (us : List HeldKey) → AllByRecursion (EntryFits ps t) us → Has n (flat_map drafted us) → is_draft_of t (at ps n) ≡ true
  turned_draft n [] f h = absurd h
  turned_draft n (e ∷ us) f h = go e.draft f.0.draft h (λ h'. turned_draft n us f.1 h')
    where
      go : (o : Option ℕ) → Names (DraftOf t f.0.key) ps o → Has n (listed o ++ flat_map drafted us) → (Has n (flat_map drafted us) → is_draft_of t (at ps n) ≡ true) → is_draft_of t (at ps n) ≡ true
      go None d h i = i h
      go (Some m) d (inl e) i = subst (λ x. is_draft_of t (at ps x) ≡ true) e d.0.0
      go (Some m) d (inr h) i = i h

  noted_turned : (n : ℕ) (us : List HeldKey) → SomeOf (λ e. e.draft ≡ Some n) us → Has n (flat_map drafted us)
  noted_turned n [] s = s
  noted_turned n (e ∷ us) (inl h) = rw h (inl refl)
  noted_turned n (e ∷ us) (inr s) = go e.draft (noted_turned n us s)
    where
      go : (o : Option ℕ) → Has n (flat_map drafted us) → Has n (listed o ++ flat_map drafted us)
      go None h = h
      go (Some m) h = inr h

  pub aborted_is : Apart (keys_held ps es) → ((n : ℕ) (k : K) → DraftOf t k (at ps n) → SomeOf (λ e. e.draft ≡ Some n) es) → fold undone ps es ≡ map (place_aborted t) ps
  aborted_is apart noted = turns ∙ same_places (place_aborted t) ps (fold (turn Abort) ps (flat_map drafted es)) (turned_length Abort (flat_map drafted es) ps)
      (λ n. ⊎_elim
      (λ x. x.1 ∙ sym (stays n (false_from_ne_true (is_draft_of t (at ps n)) (λ e. let k = draft_key t (at ps n) e in x.0 (noted_turned n es (noted n k.0 k.1))))))
      (λ x. x.1 ∙ sym (goes n (turned_draft n es fits x.0)))
      (turned_once Abort refl (flat_map drafted es) ps (names_apart ps t drafted own es fits apart).0 n))
    where
      turns : fold undone ps es ≡ fold (turn Abort) ps (flat_map drafted es)
      turns = entries_turn Abort undone drafted undone_turns es ps

      stays : (n : ℕ) → is_draft_of t (at ps n) ≡ false → place_aborted t (get_or ps n free) ≡ get_or ps n free
      stays n e = rw e

      goes : (n : ℕ) → is_draft_of t (at ps n) ≡ true → place_aborted t (get_or ps n free) ≡ after (get_or ps n free) Abort
      goes n e = rw e

module _ {K : Type 0} (t : ℕ) where
  alike : (p : PlaceState K) (u : ℕ) (k : K) → (u ≡ t → ⊥) → Alike u k p (place_aborted t (record { state = p })).state
  alike p u k ne = alike_if p (next p Abort) u k (is_draft_of t p) (λ e. freed p e)
    where
      freed : (p : PlaceState K) → is_draft_of t p ≡ true → Alike u k p (next p Abort)
      freed (Unstamped q j) e = ((λ h. absurd (ne (one_job t u (Unstamped q j) e h.0)), λ h. cc), (λ h. cc, λ h. cc))
      freed (Gone q j) e = ((λ h. absurd (ne (one_job t u (Gone q j) e h.0)), λ h. cc), (λ h. cc, λ h. cc))
      freed _ e = cc

  -- other jobs' drafts stay, and this job's are gone
  pub aborted_same : (ps : List (Place K)) (u : ℕ) (k : K) → (u ≡ t → ⊥) → SameAt ps (map (place_aborted t) ps) u k
  aborted_same ps u k ne = mapped_same (place_aborted t) refl ps u k (λ n. alike (at ps n) u k ne)

  none_left : (p : PlaceState K) (k : K) → DraftOf t k (place_aborted t (record { state = p })).state → ⊥
  none_left p k h = ⊎_elim (λ x. freed p x.0 x.1) (λ x. both_ways (is_draft_of t p) x.0 x.1.0) (moved_or_not p (next p Abort) (DraftOf t k) (is_draft_of t p) h)
    where
      freed : (p : PlaceState K) → is_draft_of t p ≡ true → DraftOf t k (next p Abort) → ⊥
      freed (Unstamped q j) e h = cc
      freed _ e h = cc

  pub aborted_none : (ps : List (Place K)) (n : ℕ) (k : K) → DraftOf t k (at (map (place_aborted t) ps) n) → ⊥
  aborted_none ps n k d = none_left (at ps n) k (subst (DraftOf t k) (mapped_at (place_aborted t) refl ps n) d)

module _ {K R : Type 0} (order : K → K → Ordering) (v : View K) (own : List R) (n : ℕ) (s : Sound v) (t : TicketId) where
  abort_granted : (row : Row) → open_job v t ≡ Some row → GrantedStep order (state v own) (exchange (Basic (AbortCall t)) n (Ok Done)) (state (aborted v t) own) × Sound (aborted v t)
  abort_granted row e = (
    record {
      answer = refl;
      control = ap (with_jobs (control v)) (subst (λ qs. jobs_in qs (without_ticket row_number t.number v.jobs) ≡ jobs_but t.number (jobs_in v.places v.jobs)) (sym places) (closed_jobs v.places (map (place_aborted t.number) v.places) v.jobs t.number s.jobs.0 s.rows unconcerned back));
      moves = (places, refl);
    },
    record {
      stamp = s.stamp;
      reports = s.reports;
      jobs = rw (without_is row_number t.number v.jobs s.jobs.0) (given_kept row_number (others row_number t.number) v.next v.jobs s.jobs);
      rows = subst (λ qs. Rows qs (without_ticket row_number t.number v.jobs)) (sym places) (closed_rows v.places (map (place_aborted t.number) v.places) v.jobs t.number s.jobs.0 s.rows unconcerned back);
    },
  )
    where
      found : with_ticket row_number t.number v.jobs ≡ Some row
      found = open_row v t row e

      places : fold undone v.places (entries_of (row_of v t)) ≡ map (place_aborted t.number) v.places
      places = rw e (aborted_is v.places t.number (entries_of row) (its_entries v s t.number row found) (its_keys v s t.number row found) (its_drafts v s t.number row found))

      unconcerned : AllByRecursion (Unconcerned v.places (map (place_aborted t.number) v.places)) (filter (others row_number t.number) v.jobs)
      unconcerned = All-weaker (λ r. r.ticket ≡ t.number → ⊥) (Unconcerned v.places (map (place_aborted t.number) v.places)) (λ r ne k h. aborted_same t.number v.places r.ticket k ne) (filter (others row_number t.number) v.jobs) (kept_others row_number t.number v.jobs)

      back : (m u : ℕ) (k : K) → DraftOf u k (at (map (place_aborted t.number) v.places) m) → DraftOf u k (at v.places m) × (u ≡ t.number → ⊥)
      back m u k d =
          let ne : u ≡ t.number → ⊥ = λ z. aborted_none t.number v.places m k (subst (λ x. DraftOf x k (at (map (place_aborted t.number) v.places) m)) z d) in
          ((aborted_same t.number v.places u k ne m).0.1 d, ne)

  pub abort_goes : (r : Result Unit Refusal) → told code r ≡ checked (abort_checks v t) tt → Goes order v own (Basic (AbortCall t)) n (answer_of (λ u. Done) r) (if_granted r (aborted v t) v) own
  abort_goes r er = by_checks order v (aborted v t) own (Basic (AbortCall t)) n (λ u. Done) (abort_checks v t) tt r (rw (keys_of_is v t, some_mapped (λ x. keys_held v.places (entries_of x)) (open_job v t))) er s
      (λ e. let x = is_open (open_job v t) [] e in abort_granted x.0 x.1)
