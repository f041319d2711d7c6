-- The row of an open job in a sound table: the draft that it names at a key is the job's only one, and none is left out.
-- So what the table checks and finds by the row is what the ledger checks and finds among all versions.
use Rattle.std.proofs.Common.{◌≡◌, ℕ, zero, suc, ◌<◌, min, Bool, true, false, not, ◌&&◌, ◌||◌, List, [], ◌∷◌, length, get_or, is_some, Some, None, Option, Ordering, sym, refl, ◌∙◌, subst, inl, inr, arith}
use Rattle.std.specs.List.{AllByRecursion, slice_get}
use Rattle.std.proofs.ByRecursion.{All-get_or}
use Rattle.std.proofs.lemmas.List.{length-take}
use Rattle.std.proofs.lemmas.Bool.{false_from_ne_true, both_ways}
use Rattle.keys.specs.Orders.{Total}
use Rattle.ledger.specs.declared.place.Place.{Place}
use Rattle.ledger.specs.declared.place.PlaceState.{PlaceState}
use Rattle.ledger.specs.declared.place.PlaceState.TheVariants.{Free}
use Rattle.ledger.specs.Limits.{row_entries}
use Rattle.ledger.specs.Words.{when, or_else, any}
use Rattle.ledger.specs.Places.{key_of}
use Rattle.ledger.specs.Versions.{draft_in, draft_at, has_draft, current_in, current_at, looked, finds_current}
use Rattle.ledger.specs.Control.{row_full}
use Rattle.ledger.specs.Steps.{versions_in}
use Rattle.table.specs.declared.row.HeldKey.{HeldKey}
use Rattle.table.specs.declared.row.Row.{Row}
use Rattle.table.specs.Lists.{with_ticket}
use Rattle.table.specs.Rows.{no_entry, entries_of, place_of, is_row_full, draft_in as entry_draft}
use Rattle.table.specs.Views.{View, at, row_number}
use Rattle.table.specs.Checks.{is_unstamped, is_current_of, has_current, record_by}
use Rattle.table.specs.Reads.{FindsPlace, Sees, record_at}
use Rattle.table.specs.Holds.{carries_at, holds_key, entry_at, draft_at as row_draft}
use Rattle.bridge.specs.States.{key_held, keys_held, jobs_in}
use Rattle.bridge.specs.Soundness.{SomeOf, DraftOf, CurrentOf, Names, EntryFits, RowFits, Notes, Sound}
use Rattle.bridge.proofs.Apart.{some_map}
use Rattle.bridge.proofs.Tickets.{found_one}
use Rattle.bridge.proofs.Checks.{position_none, position_some, position_any, job_at_is, holds_is, has_key_is}
use Rattle.bridge.proofs.Versions.{One, any_none, none_any, any_at, below, value_at, records, found_is, found_at, is_draft_at, draft_is, current_is, key_true, true_key, draft_true, true_draft}

pub nth_some : {X : Type 0} (xs : List X) (n : ℕ) → n < length xs → (x : X) × (slice_get xs n ≡ Some x)
nth_some [] n lt = absurd (omega arith)
nth_some (x ∷ xs) zero lt = (x, refl)
nth_some (x ∷ xs) (suc n) lt = nth_some xs n (omega arith)

any_some : {X : Type 0} (test : X → Bool) (xs : List X) → SomeOf (λ x. test x ≡ true) xs → any test xs ≡ true
any_some test [] s = absurd s
any_some test (x ∷ xs) (inl e) = rw e
any_some {X} test (x ∷ xs) (inr s) = go (test x) (any_some test xs s)
  where
    go : (b : Bool) → any test xs ≡ true → (b || any test xs) ≡ true
    go true i = refl
    go false i = i

-- a place that is named is found, and is the only one; and the other way round
module _ {K : Type 0} (test : PlaceState K → Bool) (P : PlaceState K → Type 0) (free_not : test Free ≡ false)
    (to : (p : PlaceState K) → P p → test p ≡ true) (from : (p : PlaceState K) → test p ≡ true → P p) (ps : List (Place K)) where
  pub named_finds : (o : Option ℕ) → Names P ps o → FindsPlace test ps o
  named_finds None h = none_any test ps (λ n. false_from_ne_true (test (at ps n)) (λ e. h n (from (at ps n) e)))
  named_finds (Some n) h = (below test ps n free_not (to (at ps n) h.0), to (at ps n) h.0)

  pub named_one : (o : Option ℕ) → Names P ps o → One test ps
  named_one None h m n em en = absurd (h m (from (at ps m) em))
  named_one (Some x) h m n em en = h.1 m (from (at ps m) em) ∙ sym (h.1 n (from (at ps n) en))

  pub named_any : (o : Option ℕ) → Names P ps o → any (λ p. test p.state) ps ≡ is_some o
  named_any None h = none_any test ps (λ n. false_from_ne_true (test (at ps n)) (λ e. h n (from (at ps n) e)))
  named_any (Some n) h = any_at test ps n free_not (to (at ps n) h.0)

  pub finds_named : (o : Option ℕ) → One test ps → FindsPlace test ps o → Names P ps o
  finds_named None one h = λ n p. both_ways (test (at ps n)) (any_none test ps free_not h n) (to (at ps n) p)
  finds_named (Some x) one h = (from (at ps x) h.1, λ m p. one m x (to (at ps m) p) h.1)

pub entries_length : {K : Type 0} (ps : List (Place K)) (row : Row) → RowFits ps row → length (entries_of row) ≡ row.used
entries_length ps row f = length-take (min row.used row_entries) row.entries ∙ omega (arith, f.used, f.long)

pub keys_length : {K : Type 0} (ps : List (Place K)) (t : ℕ) (es : List HeldKey) → AllByRecursion (EntryFits ps t) es → length (keys_held ps es) ≡ length es
keys_length ps t [] f = refl
keys_length ps t (e ∷ es) f = rw (f.0.holds, keys_length ps t es f.1)

module _ {K : Type 0} (v : View K) (s : Sound v) (t : ℕ) (row : Row) (found : with_ticket row_number t v.jobs ≡ Some row) where
  pub its_row : RowFits v.places row × (row.ticket ≡ t)
  its_row = found_one row_number (RowFits v.places) t v.jobs row found s.rows.fit

  pub its_entries : AllByRecursion (EntryFits v.places t) (entries_of row)
  its_entries = subst (λ u. AllByRecursion (EntryFits v.places u) (entries_of row)) its_row.1 its_row.0.entries

  -- each draft of the job is noted in the row
  pub its_drafts : (n : ℕ) (k : K) → DraftOf t k (at v.places n) → SomeOf (λ e. e.draft ≡ Some n) (entries_of row)
  its_drafts n k d = subst (Notes n) found (s.rows.noted n t k d)

  module _ (order : K → K → Ordering) (tot : Total order) (k : K) where
    -- the entry for the key names the key's draft and current version
    pub entry_names : (i : ℕ) → entry_at order v.places k row ≡ Some i → Names (DraftOf t k) v.places (get_or (entries_of row) i no_entry).draft × Names (CurrentOf k) v.places (get_or (entries_of row) i no_entry).current
    entry_names i e =
        let h = position_some no_entry (holds_key order v.places k) (entries_of row) i e in
        let f = All-get_or (EntryFits v.places t) (entries_of row) i no_entry h.0 its_entries in
        let z : ◌≡◌ {A = Option K} (Some f.key) (Some k) = sym f.holds ∙ key_true order tot (key_held v.places (get_or (entries_of row) i no_entry)) k (sym (holds_is order v.places k (place_of (get_or (entries_of row) i no_entry))) ∙ h.1) in
        let ek : f.key ≡ k = cc in
        (subst (λ q. Names (DraftOf t q) v.places (get_or (entries_of row) i no_entry).draft) ek f.draft, subst (λ q. Names (CurrentOf q) v.places (get_or (entries_of row) i no_entry).current) ek f.current)

    draft_held : (n : ℕ) → DraftOf t k (at v.places n) → (e : HeldKey) → e.draft ≡ Some n → holds_key order v.places k e ≡ true
    draft_held n d e h = go e.draft h
      where
        go : (o : Option ℕ) → o ≡ Some n → carries_at order v.places k (or_else o e.current) ≡ true
        go None eo = cc
        go (Some m) eo = let em : m ≡ n = cc in rw em (true_key order tot (key_of (at v.places n)) k d.1)

    -- the draft that the row names at the key is the job's only one there
    pub draft_names : Names (DraftOf t k) v.places (row_draft order v.places k row)
    draft_names = go (entry_at order v.places k row) refl
      where
        go : (o : Option ℕ) → entry_at order v.places k row ≡ o → Names (DraftOf t k) v.places (entry_draft (entries_of row) o)
        go None e = λ n d. both_ways (any (holds_key order v.places k) (entries_of row)) (position_none (holds_key order v.places k) (entries_of row) e)
            (any_some (holds_key order v.places k) (entries_of row) (some_map (λ e. e.draft ≡ Some n) (EntryFits v.places t) (λ e. holds_key order v.places k e ≡ true) (λ e h f. draft_held n d e h) (entries_of row) (its_drafts n k d) its_entries))
        go (Some i) e = (entry_names i e).0

    -- 9: a new entry is needed and all are used
    pub row_full_is : row_full order t k (jobs_in v.places v.jobs) ≡ (not (is_some (entry_at order v.places k row)) && is_row_full row)
    row_full_is = rw (job_at_is v.places v.jobs t, found, has_key_is order v.places k (entries_of row), position_any (holds_key order v.places k) (entries_of row), keys_length v.places t (entries_of row) its_entries ∙ entries_length v.places row its_row.0)

    module _ {R : Type 0} (own : List R) (long : length own ≡ length v.places) where
      -- the job has a draft at the key just where its row names one
      pub drafted_is : has_draft order t k (versions_in v.places own) ≡ is_some (row_draft order v.places k row)
      drafted_is = found_is (draft_in order t k) (is_draft_at order t k) (λ p r. when (is_unstamped p) r) refl (draft_is order t k) v.places own long
          ∙ named_any (is_draft_at order t k) (DraftOf t k) refl (true_draft order tot t k) (draft_true order tot t k) v.places (row_draft order v.places k row) draft_names

      draft_found : draft_at order t k (versions_in v.places own) ≡ value_at (λ p r. when (is_unstamped p) r) v.places own (row_draft order v.places k row)
      draft_found = found_at (draft_in order t k) (is_draft_at order t k) (λ p r. when (is_unstamped p) r) refl (draft_is order t k) v.places own (row_draft order v.places k row) long
          (named_one (is_draft_at order t k) (DraftOf t k) refl (true_draft order tot t k) (draft_true order tot t k) v.places (row_draft order v.places k row) draft_names)
          (named_finds (is_draft_at order t k) (DraftOf t k) refl (true_draft order tot t k) (draft_true order tot t k) v.places (row_draft order v.places k row) draft_names)

      current_is_found : is_some (current_at order k (versions_in v.places own)) ≡ has_current order v.places k
      current_is_found = found_is (current_in order k) (is_current_of order k) (λ p r. r) refl (current_is order k) v.places own long

      -- what the job finds, by the place of its draft
      own_record : (d : ℕ) → row_draft order v.places k row ≡ Some d → looked order t k (versions_in v.places own) ≡ record_at own (when (is_unstamped (at v.places d)) d)
      own_record d e =
          let nd = subst (Names (DraftOf t k) v.places) e draft_names in
          let lt = below (is_draft_at order t k) v.places d refl (true_draft order tot t k (at v.places d) nd.0) in
          let x = nth_some own d (omega (arith, long, lt)) in
          rw (draft_found, e, x.1) (go (is_unstamped (at v.places d)) x.0 x.1)
        where
          go : (b : Bool) (x : R) → slice_get own d ≡ Some x → when b x ≡ record_at own (when b d)
          go true x ex = sym ex
          go false x ex = refl

      no_record : row_draft order v.places k row ≡ None → looked order t k (versions_in v.places own) ≡ current_at order k (versions_in v.places own)
      no_record e = rw (draft_found, e)

      -- 8: whether the job finds a record
      pub looked_is : is_some (looked order t k (versions_in v.places own)) ≡ record_by order v.places k (row_draft order v.places k row)
      looked_is = go (row_draft order v.places k row) refl
        where
          some : (b : Bool) (d : ℕ) → d < length own → is_some (record_at own (when b d)) ≡ b
          some true d lt = let x = nth_some own d lt in rw x.1
          some false d lt = refl

          go : (o : Option ℕ) → row_draft order v.places k row ≡ o → is_some (looked order t k (versions_in v.places own)) ≡ record_by order v.places k o
          go None e = rw (no_record e) current_is_found
          go (Some d) e =
              let nd = subst (Names (DraftOf t k) v.places) e draft_names in
              let lt = below (is_draft_at order t k) v.places d refl (true_draft order tot t k (at v.places d) nd.0) in
              rw (own_record d e) (some (is_unstamped (at v.places d)) d (omega (arith, long, lt)))

      -- the place that the job sees has the record that the ledger finds
      pub sees_is : One (is_current_of order k) v.places → (o : Option ℕ) → Sees order v.places k (row_draft order v.places k row) o → record_at own o ≡ looked order t k (versions_in v.places own)
      sees_is one o h = go (row_draft order v.places k row) refl h
        where
          go : (d : Option ℕ) → row_draft order v.places k row ≡ d → Sees order v.places k d o → record_at own o ≡ looked order t k (versions_in v.places own)
          go None e h = sym (no_record e ∙ (found_at (current_in order k) (is_current_of order k) (λ p r. r) refl (current_is order k) v.places own o long one h ∙ records v.places own o))
          go (Some d) e h = rw h (sym (own_record d e))

      pub finds_is : finds_current order t k (versions_in v.places own) ≡ (not (is_some (row_draft order v.places k row)) && has_current order v.places k)
      finds_is = rw (drafted_is, current_is_found)
