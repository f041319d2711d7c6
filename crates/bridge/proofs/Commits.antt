-- A commit is the ledger's: it turns the job's drafts and the current versions of the keys that it drafted, and closes the job.
use Rattle.std.proofs.Common.{◌≡◌, ℕ, ◌+◌, ◌≤◌, Bool, true, false, not, eqb, leb, ◌⊎◌, List, [], ◌∷◌, ◌++◌, map, length, get_or, is_some, Some, None, Ok, fold, filter, Option, Result, Ordering, sym, refl, ap, ◌∙◌, subst, inl, inr, ⊎_elim, arith}
use Rattle.std.specs.List.{flat_map, AllByRecursion}
use Rattle.std.proofs.lemmas.Bool.{false_from_ne_true, eq-eqb, ne_eqb, leb-true, leb-false, both_ways}
use Rattle.keys.specs.Refusals.{plain, told}
use Rattle.keys.specs.Orders.{Total}
use Rattle.ledger.specs.declared.call.TicketId.{TicketId}
use Rattle.ledger.specs.declared.call.Call.TheVariants.{Basic}
use Rattle.ledger.specs.declared.call.BasicCall.TheVariants.{Commit as CommitCall}
use Rattle.ledger.specs.declared.answer.Granted.TheVariants.{Stamp}
use Rattle.ledger.specs.declared.answer.Refusal.{Refusal}
use Rattle.ledger.specs.declared.place.Place.{Place}
use Rattle.ledger.specs.declared.place.PlaceState.{PlaceState}
use Rattle.ledger.specs.declared.place.PlaceState.TheVariants.{Free, Unstamped, Gone, Current, Superseded}
use Rattle.ledger.specs.declared.place.PlaceEvent.TheVariants.{Commit}
use Rattle.ledger.specs.Refusals.{code}
use Rattle.ledger.specs.Limits.{last_stamp}
use Rattle.ledger.specs.Words.{listed, when, any}
use Rattle.ledger.specs.Versions.{has_draft, draft_in}
use Rattle.ledger.specs.Places.{next, free, after, key_of, is_draft_of, is_settled_by}
use Rattle.ledger.specs.Control.{with_jobs, stamped, jobs_but}
use Rattle.ledger.specs.Steps.{GrantedStep, versions_in, place_settled}
use Rattle.ledger.proofs.Finding.{all_both}
use Rattle.ledger.proofs.Going.{some_place}
use Rattle.ledger.proofs.Runs.{is_open}
use Rattle.table.specs.declared.row.HeldKey.{HeldKey}
use Rattle.table.specs.declared.row.Row.{Row}
use Rattle.table.specs.Lists.{with_ticket, without_ticket}
use Rattle.table.specs.Rows.{entries_of}
use Rattle.table.specs.Views.{View, at, row_number, if_granted, open_job}
use Rattle.table.specs.Checks.{checked, row_of, is_unstamped, sent_back as first_refusal}
use Rattle.table.specs.Commits.{settled, settled_by, commit_checks, committed}
use Rattle.bridge.specs.Answers.{answer_of, exchange}
use Rattle.bridge.specs.States.{keys_held, jobs_in, control, state}
use Rattle.bridge.specs.Soundness.{Apart, SomeOf, DraftOf, CurrentOf, Names, EntryFits, Rows, Sound}
use Rattle.bridge.proofs.Apart.{Has, some_left, some_right, some_map, given_kept}
use Rattle.bridge.proofs.Tickets.{others, without_is, kept_others}
use Rattle.bridge.proofs.Fitting.{Alike, alike_if, moved_or_not, SameAt, Unconcerned, mapped_at, mapped_same}
use Rattle.bridge.proofs.Checks.{keys_of_is, some_mapped, open_row}
use Rattle.bridge.proofs.Versions.{found_is, any_at, not_both, one_job, is_draft_at, draft_is, draft_true, true_draft}
use Rattle.bridge.proofs.Held.{its_entries, its_drafts}
use Rattle.bridge.proofs.Turning.{turn, turned_length, turned_once, entries_turn, names_apart, same_places}
use Rattle.bridge.proofs.Closing.{its_keys, drafted_held, rows_off, closed_jobs, closed_rows}
use Rattle.bridge.proofs.Outcomes.{Goes, by_checks}

-- what a commit turns: the job's drafts, and the current versions of the keys that it drafted
module _ {K : Type 0} (t : ℕ) (written : K → Bool) where
  settled_cases : (p : PlaceState K) → is_settled_by t written p ≡ true → ((k : K) × DraftOf t k p) ⊎ ((k : K) × CurrentOf k p × (written k ≡ true))
  settled_cases Free e = cc
  settled_cases (Unstamped k j) e = inl (k, (e, refl))
  settled_cases (Gone k j) e = inl (k, (e, refl))
  settled_cases (Current k b) e = inr (k, (refl, refl), e)
  settled_cases (Superseded k b f) e = cc

  draft_settled : (p : PlaceState K) → is_draft_of t p ≡ true → is_settled_by t written p ≡ true
  draft_settled (Unstamped k j) e = e
  draft_settled (Gone k j) e = e
  draft_settled _ e = cc

  current_settled : (k : K) (p : PlaceState K) → CurrentOf k p → written k ≡ true → is_settled_by t written p ≡ true
  current_settled k (Current q b) h e = let z : q ≡ k = cc in rw z e
  current_settled k _ h e = cc

-- the places that the commit of an entry turns: without a draft none, else the current version, if there is one, and the draft
abbrev settles_by : Option ℕ → Option ℕ → List ℕ
settles_by None c = []
settles_by (Some d) c = listed c ++ (d ∷ [])

abbrev settles : HeldKey → List ℕ
settles e = settles_by e.draft e.current

module _ {K : Type 0} (ps : List (Place K)) (t now : ℕ) (es : List HeldKey) (fits : AllByRecursion (EntryFits ps t) es) where
  settled_turns : (qs : List (Place K)) (e : HeldKey) → settled now qs e ≡ fold (turn (Commit now)) qs (settles e)
  settled_turns qs e = go e.draft e.current
    where
      go : (d c : Option ℕ) → settled_by now d c qs ≡ fold (turn (Commit now)) qs (settles_by d c)
      go None c = refl
      go (Some d) None = refl
      go (Some d) (Some c) = refl

  own : (e : HeldKey) (f : EntryFits ps t e) → Apart (settles e) × AllByRecursion (λ n. key_of (at ps n) ≡ Some f.key) (settles e)
  own e f = go e.draft e.current f.draft f.current
    where
      go : (d c : Option ℕ) → Names (DraftOf t f.key) ps d → Names (CurrentOf f.key) ps c → Apart (settles_by d c) × AllByRecursion (λ n. key_of (at ps n) ≡ Some f.key) (settles_by d c)
      go None c hd hc = (tt, tt)
      go (Some d) None hd hc = ((tt, tt), (hd.0.1, tt))
      go (Some d) (Some c) hd hc = (((λ z. not_both t (at ps c) (rw z hd.0.0) hc.0.0, tt), (tt, tt)), (hc.0.1, (hd.0.1, tt)))

  abbrev SettledAt : ℕ → Type 0
  SettledAt n = (k : K) × (DraftOf t k (at ps n) ⊎ (CurrentOf k (at ps n) × ((m : ℕ) × DraftOf t k (at ps m))))

  turned_cases : (n : ℕ) (us : List HeldKey) → AllByRecursion (EntryFits ps t) us → Has n (flat_map settles us) → SettledAt n
  turned_cases n [] f h = absurd h
  turned_cases n (e ∷ us) f h = go e.draft e.current f.0.draft f.0.current h (λ h'. turned_cases n us f.1 h')
    where
      go : (d c : Option ℕ) → Names (DraftOf t f.0.key) ps d → Names (CurrentOf f.0.key) ps c → Has n (settles_by d c ++ flat_map settles us) → (Has n (flat_map settles us) → SettledAt n) → SettledAt n
      go None c hd hc h i = i h
      go (Some d) None hd hc (inl e) i = (f.0.key, inl (subst (λ x. DraftOf t f.0.key (at ps x)) e hd.0))
      go (Some d) None hd hc (inr h) i = i h
      go (Some d) (Some c) hd hc (inl e) i = (f.0.key, inr (subst (λ x. CurrentOf f.0.key (at ps x)) e hc.0, (d, hd.0)))
      go (Some d) (Some c) hd hc (inr (inl e)) i = (f.0.key, inl (subst (λ x. DraftOf t f.0.key (at ps x)) e hd.0))
      go (Some d) (Some c) hd hc (inr (inr h)) i = i h

  more : (n : ℕ) (us : List HeldKey) (e : HeldKey) → Has n (settles e) ⊎ Has n (flat_map settles us) → Has n (flat_map settles (e ∷ us))
  more n us e (inl h) = some_left (λ x. x ≡ n) (settles e) (flat_map settles us) h
  more n us e (inr h) = some_right (λ x. x ≡ n) (settles e) (flat_map settles us) h

  entry_turns : (n : ℕ) (us : List HeldKey) → SomeOf (λ e. Has n (settles e)) us → Has n (flat_map settles us)
  entry_turns n [] s = s
  entry_turns n (e ∷ us) (inl h) = more n us e (inl h)
  entry_turns n (e ∷ us) (inr s) = more n us e (inr (entry_turns n us s))

  draft_turns : (n : ℕ) (d c : Option ℕ) → d ≡ Some n → Has n (settles_by d c)
  draft_turns n None c e = cc
  draft_turns n (Some d) None e = inl (cc)
  draft_turns n (Some d) (Some c) e = inr (inl (cc))

  current_turns : (m n : ℕ) (k q : K) (d c : Option ℕ) → Names (DraftOf t q) ps d → Names (CurrentOf q) ps c → d ≡ Some m → DraftOf t k (at ps m) → CurrentOf k (at ps n) → Has n (settles_by d c)
  current_turns m n k q None c hd hc e x y = cc
  current_turns m n k q (Some d) c hd hc e x y =
      let em : d ≡ m = cc in
      let kq : key_of (at ps m) ≡ Some q = subst (λ z. key_of (at ps z) ≡ Some q) em hd.0.1 in
      let z : ◌≡◌ {A = Option K} (Some k) (Some q) = sym x.1 ∙ kq in
      let ek : k ≡ q = cc in
      named c hc (subst (λ z. CurrentOf z (at ps n)) ek y)
    where
      named : (c : Option ℕ) → Names (CurrentOf q) ps c → CurrentOf q (at ps n) → Has n (listed c ++ (d ∷ []))
      named None h y = absurd (h n y)
      named (Some c) h y = inl (sym (h.1 n y))

  module _ (written : K → Bool) (some : (k : K) → written k ≡ true → (m : ℕ) × DraftOf t k (at ps m)) (all : (k : K) (m : ℕ) → DraftOf t k (at ps m) → written k ≡ true)
      (noted : (n : ℕ) (k : K) → DraftOf t k (at ps n) → SomeOf (λ e. e.draft ≡ Some n) es) where
    unturned : (n : ℕ) → (Has n (flat_map settles es) → ⊥) → is_settled_by t written (at ps n) ≡ false
    unturned n h = false_from_ne_true (is_settled_by t written (at ps n)) (λ e. ⊎_elim
        (λ x. h (entry_turns n es (some_map (λ e. e.draft ≡ Some n) (EntryFits ps t) (λ e. Has n (settles e)) (λ e z f. draft_turns n e.draft e.current z) es (noted n x.0 x.1) fits)))
        (λ x. let m = some x.0 x.2 in
        h (entry_turns n es (some_map (λ e. e.draft ≡ Some m.0) (EntryFits ps t) (λ e. Has n (settles e)) (λ e z f. current_turns m.0 n x.0 f.key e.draft e.current f.draft f.current z m.1 x.1) es (noted m.0 x.0 m.1) fits)))
        (settled_cases t written (at ps n) e))

    pub settled_is : Apart (keys_held ps es) → fold (settled now) ps es ≡ map (place_settled t now written) ps
    settled_is apart = turns ∙ same_places (place_settled t now written) ps (fold (turn (Commit now)) ps (flat_map settles es)) (turned_length (Commit now) (flat_map settles es) ps)
        (λ n. ⊎_elim
        (λ x. x.1 ∙ sym (stays n (unturned n x.0)))
        (λ x. x.1 ∙ sym (goes n (let y = turned_cases n es fits x.0 in ⊎_elim (λ d. draft_settled t written (at ps n) d.0) (λ c. current_settled t written y.0 (at ps n) c.0 (all y.0 c.1.0 c.1.1)) y.1)))
        (turned_once (Commit now) refl (flat_map settles es) ps (names_apart ps t settles own es fits apart).0 n))
      where
        turns : fold (settled now) ps es ≡ fold (turn (Commit now)) ps (flat_map settles es)
        turns = entries_turn (Commit now) (settled now) settles settled_turns es ps

        stays : (n : ℕ) → is_settled_by t written (at ps n) ≡ false → place_settled t now written (get_or ps n free) ≡ get_or ps n free
        stays n e = rw e

        goes : (n : ℕ) → is_settled_by t written (at ps n) ≡ true → place_settled t now written (get_or ps n free) ≡ after (get_or ps n free) (Commit now)
        goes n e = rw e

-- the other jobs' drafts, and the current versions of keys that this job did not draft, stay
module _ {K : Type 0} (t now : ℕ) (written : K → Bool) where
  abbrev moved : PlaceState K → PlaceState K
  moved p = (place_settled t now written (record { state = p })).state

  alike : (p : PlaceState K) (u : ℕ) (k : K) → (u ≡ t → ⊥) → written k ≡ false → (DraftOf t k p → written k ≡ true) → Alike u k p (moved p)
  alike p u k ne w d = alike_if p (next p (Commit now)) u k (is_settled_by t written p) (λ e. turned p e d)
    where
      turned : (p : PlaceState K) → is_settled_by t written p ≡ true → (DraftOf t k p → written k ≡ true) → Alike u k p (next p (Commit now))
      turned (Unstamped q j) e d = ((λ h. absurd (ne (one_job t u (Unstamped q j) e h.0)), λ h. cc), (λ h. cc, λ h. absurd (both_ways (written k) w (d (e, h.1)))))
      turned (Gone q j) e d = ((λ h. absurd (ne (one_job t u (Gone q j) e h.0)), λ h. cc), (λ h. cc, λ h. cc))
      turned (Current q b) e d = ((λ h. cc, λ h. cc), (λ h. let z : q ≡ k = cc in absurd (both_ways (written k) w (subst (λ x. written x ≡ true) z e)), λ h. cc))
      turned _ e d = cc

  -- a place that was turned holds no draft
  undrafted : (p : PlaceState K) (u : ℕ) (k : K) → is_settled_by t written p ≡ true → DraftOf u k (next p (Commit now)) → ⊥
  undrafted (Unstamped q j) u k e h = cc
  undrafted _ u k e h = cc

  none_left : (p : PlaceState K) (k : K) → DraftOf t k (moved p) → ⊥
  none_left p k h =
      ⊎_elim (λ x. undrafted p t k x.0 x.1) (λ x. both_ways (is_settled_by t written p) x.0 (draft_settled t written p x.1.0)) (moved_or_not p (next p (Commit now)) (DraftOf t k) (is_settled_by t written p) h)

  -- a draft that is there now was there before
  draft_back : (p : PlaceState K) (u : ℕ) (k : K) → DraftOf u k (moved p) → DraftOf u k p
  draft_back p u k h = ⊎_elim (λ x. absurd (undrafted p u k x.0 x.1)) (λ x. x.1) (moved_or_not p (next p (Commit now)) (DraftOf u k) (is_settled_by t written p) h)

  pub settled_same : (ps : List (Place K)) (u : ℕ) (k : K) → (u ≡ t → ⊥) → written k ≡ false → ((n : ℕ) → DraftOf t k (at ps n) → written k ≡ true) → SameAt ps (map (place_settled t now written) ps) u k
  settled_same ps u k ne w d = mapped_same (place_settled t now written) refl ps u k (λ n. alike (at ps n) u k ne w (d n))

  pub settled_back : (ps : List (Place K)) (n u : ℕ) (k : K) → DraftOf u k (at (map (place_settled t now written) ps) n) → DraftOf u k (at ps n) × (u ≡ t → ⊥)
  settled_back ps n u k d =
      let h : DraftOf u k (moved (at ps n)) = subst (DraftOf u k) (mapped_at (place_settled t now written) refl ps n) d in
      let ne : u ≡ t → ⊥ = λ z. none_left (at ps n) k (subst (λ x. DraftOf x k (moved (at ps n))) z h) in
      (draft_back (at ps n) u k h, ne)

last_is : (a b : ℕ) → a ≤ b → eqb a b ≡ leb b a
last_is a b le = go (leb b a) refl
  where
    go : (x : Bool) → leb b a ≡ x → eqb a b ≡ x
    go true e = eq-eqb a b (omega (arith, leb-true b a e))
    go false e = ne_eqb a b (λ z. omega (arith, leb-false b a e))

stamps_left : {X : Type 0} (o : Option X) (b : Bool) → first_refusal (when (not (is_some o)) (plain 4) ∷ when b (plain 11) ∷ []) ≡ None → b ≡ false
stamps_left None b e = cc
stamps_left (Some x) true e = cc
stamps_left (Some x) false e = refl

module _ {K R : Type 0} (order : K → K → Ordering) (tot : Total order) (v : View K) (own : List R) (n : ℕ) (s : Sound v) (long : length own ≡ length v.places) (t : TicketId) where
  abbrev written : K → Bool
  written k = has_draft order t.number k (versions_in v.places own)

  written_is : (k : K) → written k ≡ any (λ p. is_draft_at order t.number k p.state) v.places
  written_is k = found_is (draft_in order t.number k) (is_draft_at order t.number k) (λ p r. when (is_unstamped p) r) refl (draft_is order t.number k) v.places own long

  written_all : (k : K) (m : ℕ) → DraftOf t.number k (at v.places m) → written k ≡ true
  written_all k m d = written_is k ∙ any_at (is_draft_at order t.number k) v.places m refl (true_draft order tot t.number k (at v.places m) d)

  written_some : (k : K) → written k ≡ true → (m : ℕ) × DraftOf t.number k (at v.places m)
  written_some k e = let h = some_place (is_draft_at order t.number k) v.places (sym (written_is k) ∙ e) in (h.0, draft_true order tot t.number k (at v.places h.0) h.2)

  abbrev after_commit : List (Place K)
  after_commit = map (place_settled t.number (v.stamp + 1) written) v.places

  commit_granted : (row : Row) → open_job v t ≡ Some row → leb last_stamp v.stamp ≡ false → GrantedStep order (state v own) (exchange (Basic (CommitCall t)) n (Ok (Stamp (v.stamp + 1)))) (state (committed v t) own) × Sound (committed v t)
  commit_granted row e room = (
    record {
      answer = refl;
      control = ap (with_jobs (stamped (control v))) (subst (λ qs. jobs_in qs (without_ticket row_number t.number v.jobs) ≡ jobs_but t.number (jobs_in v.places v.jobs)) (sym places) (closed_jobs v.places after_commit v.jobs t.number s.jobs.0 s.rows unconcerned (settled_back t.number (v.stamp + 1) written v.places)));
      moves = (places, refl);
    },
    record {
      stamp = omega (arith, leb-false last_stamp v.stamp room);
      reports = s.reports;
      jobs = rw (without_is row_number t.number v.jobs s.jobs.0) (given_kept row_number (others row_number t.number) v.next v.jobs s.jobs);
      rows = subst (λ qs. Rows qs (without_ticket row_number t.number v.jobs)) (sym places) (closed_rows v.places after_commit v.jobs t.number s.jobs.0 s.rows unconcerned (settled_back t.number (v.stamp + 1) written v.places));
    },
  )
    where
      found : with_ticket row_number t.number v.jobs ≡ Some row
      found = open_row v t row e

      places : fold (settled (v.stamp + 1)) v.places (entries_of (row_of v t)) ≡ after_commit
      places = rw e (settled_is v.places t.number (v.stamp + 1) (entries_of row) (its_entries v s t.number row found) written written_some written_all (its_drafts v s t.number row found) (its_keys v s t.number row found))

      unconcerned : AllByRecursion (Unconcerned v.places after_commit) (filter (others row_number t.number) v.jobs)
      unconcerned = all_both (λ r. r.ticket ≡ t.number → ⊥) (λ r. (k : K) → Has k (keys_held v.places (entries_of r)) → Has k (keys_held v.places (entries_of row)) → ⊥) (Unconcerned v.places after_commit)
          (λ r ne off k h. settled_same t.number (v.stamp + 1) written v.places r.ticket k ne
          (false_from_ne_true (written k) (λ w. let m = written_some k w in off k h (drafted_held v s t.number row found m.0 k m.1))) (written_all k))
          (filter (others row_number t.number) v.jobs) (kept_others row_number t.number v.jobs) (rows_off v.places t.number v.jobs row found s.rows.apart)

  pub commit_goes : (r : Result ℕ Refusal) → told code r ≡ checked (commit_checks v t) (v.stamp + 1) → Goes order v own (Basic (CommitCall t)) n (answer_of (λ x. Stamp x) r) (if_granted r (committed v t) v) own
  commit_goes r er = by_checks order v (committed v t) own (Basic (CommitCall t)) n (λ x. Stamp x) (commit_checks v t) (v.stamp + 1) r
      (rw (keys_of_is v t, some_mapped (λ x. keys_held v.places (entries_of x)) (open_job v t), last_is v.stamp last_stamp s.stamp)) er s
      (λ e. let x = is_open (open_job v t) (when (leb last_stamp v.stamp) (plain 11) ∷ []) e in commit_granted x.0 x.1 (stamps_left (open_job v t) (leb last_stamp v.stamp) e))
