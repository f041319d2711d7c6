-- A job's row with an entry noted: one more, or another in the place of the key's entry.
-- Afterwards the job holds the key, all else is held as before, and each draft is noted.
use Rattle.std.proofs.Common.{◌≡◌, ℕ, zero, suc, ◌+◌, ◌<◌, min, Bool, true, false, cond, eqb, ◌⊎◌, List, [], ◌∷◌, ◌++◌, map, length, get_or, take, set, Some, None, Ordering, sym, refl, ap, ◌∙◌, subst, inl, ⊎_elim, arith}
use lib.Seq.{take-set-lt}
use Rattle.std.specs.List.{AllByRecursion}
use Rattle.std.proofs.ByRecursion.{All-push}
use Rattle.std.proofs.lemmas.List.{take_more_set}
use Rattle.std.proofs.lemmas.List.Elements.{filter_map-append}
use Rattle.std.proofs.lemmas.Bool.{eqb-true, eqb-false, leb-false, lt-ltb}
use Rattle.keys.specs.Orders.{Total}
use Rattle.ledger.specs.declared.place.Place.{Place}
use Rattle.ledger.specs.Limits.{row_entries}
use Rattle.ledger.specs.Control.{other_holder, holding}
use Rattle.table.specs.declared.row.HeldKey.{HeldKey}
use Rattle.table.specs.declared.row.Row.{Row}
use Rattle.table.specs.Lists.{with_ticket, replaced}
use Rattle.table.specs.Rows.{no_entry, entries_of, is_row_full, noted}
use Rattle.table.specs.Views.{at, row_number}
use Rattle.bridge.specs.States.{key_held, keys_held, job_in, jobs_in}
use Rattle.bridge.specs.Soundness.{Apart, SomeOf, DraftOf, EntryFits, RowFits, Notes, all_keys, Rows}
use Rattle.bridge.proofs.Apart.{Has, has_behind, not_has}
use Rattle.bridge.proofs.Tickets.{only_one, over, replaced_is, with_over, with_other_over}
use Rattle.bridge.proofs.Fitting.{SameAt, keys_cons, entry_same, entries_same, row_same}
use Rattle.bridge.proofs.Held.{entries_length}
use Rattle.bridge.proofs.Holding.{more, hold_apart}

-- the entries of a row with one more, and with one changed
module _ {K : Type 0} (ps : List (Place K)) (row : Row) (f : RowFits ps row) (e : HeldKey) where
  few : is_row_full row ≡ false → row.used < row_entries
  few room = leb-false row_entries row.used room

  pub one_more : is_row_full row ≡ false → noted None e row ≡ record row { used = row.used + 1; entries = set row.entries row.used e }
  one_more room = rw (lt-ltb row.used row_entries (few room))

  pub entries_more : is_row_full row ≡ false → entries_of (noted None e row) ≡ entries_of row ++ (e ∷ [])
  entries_more room =
      let lt = few room in
      let now : min row.used row_entries ≡ row.used = omega (arith, lt) in
      let then : min (row.used + 1) row_entries ≡ row.used + 1 = omega (arith, lt) in
      ap entries_of (one_more room) ∙ (ap (λ n. take n (set row.entries row.used e)) then ∙ (take_more_set row.entries row.used e (omega (arith, lt, f.long)) ∙ ap (λ n. take n row.entries ++ (e ∷ [])) (sym now)))

  pub entries_set : (i : ℕ) → i < length (entries_of row) → entries_of (noted (Some i) e row) ≡ set (entries_of row) i e
  entries_set i lt = take-set-lt (min row.used row_entries) row.entries i e (omega (arith, lt, entries_length ps row f, f.used))

-- a new entry for the key, in places where the job's other keys stand as before
module _ {K : Type 0} (ps qs : List (Place K)) (t : ℕ) (k : K) (other : (q : K) → (q ≡ k → ⊥) → SameAt ps qs t q) (e : HeldKey) (f : EntryFits qs t e) (ek : f.key ≡ k) where
  held : key_held qs e ≡ Some k
  held = f.holds ∙ ap Some ek

  pub pushed : (es : List HeldKey) → AllByRecursion (EntryFits ps t) es → (Has k (keys_held ps es) → ⊥) → AllByRecursion (EntryFits qs t) (es ++ (e ∷ [])) × (keys_held qs (es ++ (e ∷ [])) ≡ keys_held ps es ++ (k ∷ []))
  pushed es fits out =
      let i = entries_same ps qs t es fits (λ q h. other q (λ z. out (subst (λ x. Has x (keys_held ps es)) z h))) in (
        All-push (EntryFits qs t) es e i.0 f,
        filter_map-append (key_held qs) es (e ∷ []) ∙ (ap (λ ks. ks ++ keys_held qs (e ∷ [])) i.1 ∙ ap (λ ks. keys_held ps es ++ ks) (keys_cons qs e [] k held)),
      )

  pub put_in : (es : List HeldKey) (i : ℕ) → i < length es → key_held ps (get_or es i no_entry) ≡ Some k → AllByRecursion (EntryFits ps t) es → Apart (keys_held ps es) → AllByRecursion (EntryFits qs t) (set es i e) × (keys_held qs (set es i e) ≡ keys_held ps es)
  put_in [] i lt h fits a = absurd (omega arith)
  put_in (x ∷ es) zero lt h fits a =
      let a' : Apart (k ∷ keys_held ps es) = subst Apart (keys_cons ps x es k h) a in
      let i = entries_same ps qs t es fits.1 (λ q hq. other q (λ z. not_has k (keys_held ps es) a'.0 (subst (λ y. Has y (keys_held ps es)) z hq))) in
      ((f, i.0), keys_cons qs e es k held ∙ (ap (λ ks. k ∷ ks) i.1 ∙ sym (keys_cons ps x es k h)))
  put_in (x ∷ es) (suc i) lt h fits a =
      let q = fits.0.key in
      let cons : keys_held ps (x ∷ es) ≡ q ∷ keys_held ps es = keys_cons ps x es q fits.0.holds in
      let a' : Apart (q ∷ keys_held ps es) = subst Apart cons a in
      let g = entry_same ps qs t x fits.0 (other q (λ z. not_has q (keys_held ps es) a'.0 (subst (λ y. Has y (keys_held ps es)) (sym z) (at_has es i (omega arith) h)))) in
      let y = put_in es i (omega arith) h fits.1 a'.1 in
      ((g, y.0), keys_cons qs x (set es i e) q g.holds ∙ (ap (λ ks. q ∷ ks) y.1 ∙ sym cons))
    where
      at_has : (es : List HeldKey) (i : ℕ) → i < length es → key_held ps (get_or es i no_entry) ≡ Some k → Has k (keys_held ps es)
      at_has [] i lt h = absurd (omega arith)
      at_has (x ∷ es) zero lt h = subst (Has k) (sym (keys_cons ps x es k h)) (inl refl)
      at_has (x ∷ es) (suc i) lt h = has_behind k (key_held ps x) (keys_held ps es) (at_has es i (omega arith) h)

-- the row is written over
module _ {K : Type 0} (order : K → K → Ordering) (tot : Total order) (ps qs : List (Place K)) (jobs : List Row) (t : ℕ) (k : K) (row row' : Row)
    (found : with_ticket row_number t jobs ≡ Some row) (apart : Apart (map row_number jobs)) (s : Rows ps jobs) (same : (u : ℕ) (q : K) → (u ≡ t → ⊥) → SameAt ps qs u q)
    (its : row'.ticket ≡ t) (fits : RowFits qs row') (holds : job_in qs row' ≡ more order tot k t (job_in ps row)) where
  over_rows : (rs : List Row) → AllByRecursion (λ r. r.ticket ≡ t → r ≡ row) rs → AllByRecursion (RowFits ps) rs → AllByRecursion (RowFits qs) (map (over row_number t row') rs) × (jobs_in qs (map (over row_number t row') rs) ≡ holding order t k (jobs_in ps rs))
  over_rows [] one f = (tt, refl)
  over_rows (r ∷ rs) one f = go (eqb r.ticket t) refl (over_rows rs one.1 f.1)
    where
      go : (b : Bool) → eqb r.ticket t ≡ b → AllByRecursion (RowFits qs) (map (over row_number t row') rs) × (jobs_in qs (map (over row_number t row') rs) ≡ holding order t k (jobs_in ps rs))
          → AllByRecursion (RowFits qs) (cond b row' r ∷ map (over row_number t row') rs) × (job_in qs (cond b row' r) ∷ jobs_in qs (map (over row_number t row') rs) ≡ more order tot k t (job_in ps r) ∷ holding order t k (jobs_in ps rs))
      go true e i =
          let er : r ≡ row = one.0 (eqb-true r.ticket t e) in
          ((fits, i.0), ap (λ j. j ∷ jobs_in qs (map (over row_number t row') rs)) (holds ∙ ap (λ x. more order tot k t (job_in ps x)) (sym er)) ∙ ap (λ js. more order tot k t (job_in ps r) ∷ js) i.1)
      go false e i =
          let h = row_same ps qs r f.0 (λ q hq. same r.ticket q (eqb-false r.ticket t e)) in
          ((h.0, i.0), rw (e, h.1, i.1))

  done : AllByRecursion (RowFits qs) (map (over row_number t row') jobs) × (jobs_in qs (map (over row_number t row') jobs) ≡ holding order t k (jobs_in ps jobs))
  done = over_rows jobs (only_one row_number t jobs row found apart) s.fit

  tickets : (rs : List Row) → map (λ j. j.ticket) (jobs_in ps rs) ≡ map row_number rs
  tickets [] = refl
  tickets (r ∷ rs) = ap (λ ts. r.ticket ∷ ts) (tickets rs)

  pub noted_jobs : jobs_in qs (replaced row_number row' jobs) ≡ holding order t k (jobs_in ps jobs)
  noted_jobs = rw (replaced_is row_number t row' jobs its apart) done.1

  pub noted_rows : other_holder order t k (jobs_in ps jobs) ≡ None
      → ((n u : ℕ) (q : K) → DraftOf u q (at qs n) → (DraftOf u q (at ps n) × (u ≡ t → ⊥)) ⊎ ((u ≡ t) × SomeOf (λ e. e.draft ≡ Some n) (entries_of row')))
      → Rows qs (replaced row_number row' jobs)
  noted_rows alone drafts = rw (replaced_is row_number t row' jobs its apart) (record {
    fit = done.0;
    apart = subst (λ js. Apart (all_keys js)) (sym done.1) (hold_apart order tot k t (jobs_in ps jobs) s.apart alone (subst Apart (sym (tickets jobs)) apart));
    noted = λ n u q d. ⊎_elim
        (λ x. subst (Notes n) (sym (with_other_over row_number t u row' jobs its x.1)) (s.noted n u q x.0))
        (λ x. subst (λ y. Notes n (with_ticket row_number y (map (over row_number t row') jobs))) (sym x.0) (subst (Notes n) (sym (with_over row_number t row row' jobs its found)) x.1))
        (drafts n u q d);
  })
