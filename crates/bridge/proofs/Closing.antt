-- A job is closed: the rows of the others stay, and the ledger's jobs are the same but for this one.
-- Whatever the places become, it is enough that no other row is concerned and that no draft of this job is left.
use Rattle.std.proofs.Common.{◌≡◌, ℕ, Bool, true, false, cond, not, eqb, List, [], ◌∷◌, map, Some, None, filter, Option, sym, refl, ◌∙◌, subst, inl, inr}
use Rattle.std.specs.List.{AllByRecursion}
use Rattle.std.proofs.ByRecursion.{all_kept_by, All-weaker}
use Rattle.ledger.specs.declared.place.Place.{Place}
use Rattle.ledger.specs.Words.{or_else, when}
use Rattle.ledger.specs.Control.{jobs_but}
use Rattle.table.specs.declared.row.HeldKey.{HeldKey}
use Rattle.table.specs.declared.row.Row.{Row}
use Rattle.table.specs.Lists.{with_ticket, without_ticket}
use Rattle.table.specs.Rows.{entries_of}
use Rattle.table.specs.Views.{View, at, row_number}
use Rattle.bridge.specs.States.{key_at, key_held, keys_held, job_in, jobs_in}
use Rattle.bridge.specs.Soundness.{Apart, SomeOf, DraftOf, EntryFits, RowFits, Notes, all_keys, Rows, Sound}
use Rattle.bridge.proofs.Apart.{Has, Off, has_behind, some_left, some_right, some_map, apart_parts, apart_joined_kept, off_has, kept_map}
use Rattle.bridge.proofs.Tickets.{others, found_one, without_is, with_other}
use Rattle.bridge.proofs.Fitting.{Unconcerned, rows_same}
use Rattle.bridge.proofs.Held.{its_entries, its_drafts}

module _ {K : Type 0} (ps : List (Place K)) where
  -- each row's keys are among those of all rows
  keys_among : (rows : List Row) → AllByRecursion (λ r. (k : K) → Has k (keys_held ps (entries_of r)) → Has k (all_keys (jobs_in ps rows))) rows
  keys_among [] = tt
  keys_among (r ∷ rs) = (
    λ k h. some_left (λ q. q ≡ k) (keys_held ps (entries_of r)) (all_keys (jobs_in ps rs)) h,
    All-weaker (λ x. (k : K) → Has k (keys_held ps (entries_of x)) → Has k (all_keys (jobs_in ps rs))) (λ x. (k : K) → Has k (keys_held ps (entries_of x)) → Has k (all_keys (jobs_in ps (r ∷ rs))))
        (λ x f k h. some_right (λ q. q ≡ k) (keys_held ps (entries_of r)) (all_keys (jobs_in ps rs)) (f k h)) rs (keys_among rs),
  )

  -- each row holds a key once
  keys_apart : (rows : List Row) → Apart (all_keys (jobs_in ps rows)) → AllByRecursion (λ r. Apart (keys_held ps (entries_of r))) rows
  keys_apart [] a = tt
  keys_apart (r ∷ rs) a = let p = apart_parts (keys_held ps (entries_of r)) (all_keys (jobs_in ps rs)) a in (p.0, keys_apart rs p.1)

  -- no other row holds a key of the job's row
  pub rows_off : (t : ℕ) (rows : List Row) (row : Row) → with_ticket row_number t rows ≡ Some row → Apart (all_keys (jobs_in ps rows))
      → AllByRecursion (λ r. (k : K) → Has k (keys_held ps (entries_of r)) → Has k (keys_held ps (entries_of row)) → ⊥) (filter (others row_number t) rows)
  rows_off t [] row e a = cc
  rows_off t (r ∷ rs) row e a = let p = apart_parts (keys_held ps (entries_of r)) (all_keys (jobs_in ps rs)) a in go (eqb r.ticket t) e p.2 (λ e'. rows_off t rs row e' p.1)
    where
      go : (b : Bool) → or_else (when b r) (with_ticket row_number t rs) ≡ Some row → Off (keys_held ps (entries_of r)) (all_keys (jobs_in ps rs))
          → (with_ticket row_number t rs ≡ Some row → AllByRecursion (λ r. (k : K) → Has k (keys_held ps (entries_of r)) → Has k (keys_held ps (entries_of row)) → ⊥) (filter (others row_number t) rs))
          → AllByRecursion (λ r. (k : K) → Has k (keys_held ps (entries_of r)) → Has k (keys_held ps (entries_of row)) → ⊥) (cond (not b) (r ∷ filter (others row_number t) rs) (filter (others row_number t) rs))
      go true e o i =
          let er : r ≡ row = cc in
          all_kept_by (others row_number t) (λ x. (k : K) → Has k (keys_held ps (entries_of x)) → Has k (keys_held ps (entries_of row)) → ⊥) rs
          (All-weaker (λ x. (k : K) → Has k (keys_held ps (entries_of x)) → Has k (all_keys (jobs_in ps rs))) (λ x. (k : K) → Has k (keys_held ps (entries_of x)) → Has k (keys_held ps (entries_of row)) → ⊥)
          (λ x f k h g. off_has k (keys_held ps (entries_of r)) (all_keys (jobs_in ps rs)) o (subst (λ y. Has k (keys_held ps (entries_of y))) (sym er) g) (f k h)) rs (keys_among rs))
      go false e o i = (λ k h g. off_has k (keys_held ps (entries_of r)) (all_keys (jobs_in ps rs)) o h ((found_one row_number (λ x. (q : K) → Has q (keys_held ps (entries_of x)) → Has q (all_keys (jobs_in ps rs))) t rs row e (keys_among rs)).0 k g), i e)

  pub held_has : (k : K) (es : List HeldKey) → SomeOf (λ e. key_held ps e ≡ Some k) es → Has k (keys_held ps es)
  held_has k [] s = s
  held_has k (e ∷ es) (inl h) = rw h (inl refl)
  held_has k (e ∷ es) (inr s) = has_behind k (key_held ps e) (keys_held ps es) (held_has k es s)

-- the job holds the keys of its drafts
module _ {K : Type 0} (v : View K) (s : Sound v) (t : ℕ) (row : Row) (found : with_ticket row_number t v.jobs ≡ Some row) where
  pub its_keys : Apart (keys_held v.places (entries_of row))
  its_keys = (found_one row_number (λ r. Apart (keys_held v.places (entries_of r))) t v.jobs row found (keys_apart v.places v.jobs s.rows.apart)).0

  pub drafted_held : (n : ℕ) (k : K) → DraftOf t k (at v.places n) → Has k (keys_held v.places (entries_of row))
  drafted_held n k d = held_has v.places k (entries_of row)
      (some_map (λ e. e.draft ≡ Some n) (EntryFits v.places t) (λ e. key_held v.places e ≡ Some k) (λ e h f. go e.draft e.current h) (entries_of row) (its_drafts v s t row found n k d) (its_entries v s t row found))
    where
      go : (o c : Option ℕ) → o ≡ Some n → key_at v.places (or_else o c) ≡ Some k
      go None c e = cc
      go (Some m) c e = let em : m ≡ n = cc in rw em d.1

module _ {K : Type 0} (ps qs : List (Place K)) (jobs : List Row) (t : ℕ) (apart : Apart (map row_number jobs)) (s : Rows ps jobs)
    (unconcerned : AllByRecursion (Unconcerned ps qs) (filter (others row_number t) jobs))
    (back : (n u : ℕ) (k : K) → DraftOf u k (at qs n) → DraftOf u k (at ps n) × (u ≡ t → ⊥)) where
  rest : AllByRecursion (RowFits qs) (filter (others row_number t) jobs) × (jobs_in qs (filter (others row_number t) jobs) ≡ jobs_in ps (filter (others row_number t) jobs))
  rest = rows_same ps qs (filter (others row_number t) jobs) (all_kept_by (others row_number t) (RowFits ps) jobs s.fit) unconcerned

  but_one : jobs_in qs (filter (others row_number t) jobs) ≡ jobs_but t (jobs_in ps jobs)
  but_one = rest.1 ∙ sym (kept_map (job_in ps) (λ j. not (eqb j.ticket t)) jobs)

  pub closed_jobs : jobs_in qs (without_ticket row_number t jobs) ≡ jobs_but t (jobs_in ps jobs)
  closed_jobs = rw (without_is row_number t jobs apart) but_one

  pub closed_rows : Rows qs (without_ticket row_number t jobs)
  closed_rows = rw (without_is row_number t jobs apart) (record {
    fit = rest.0;
    apart = subst (λ js. Apart (all_keys js)) (sym but_one) (apart_joined_kept (λ j. j.keys) (λ j. not (eqb j.ticket t)) (jobs_in ps jobs) s.apart);
    noted = λ n u k d. let b = back n u k d in subst (Notes n) (sym (with_other row_number t u jobs b.1)) (s.noted n u k b.0);
  })
