-- A draft of a job at a key: in the place that its draft has, or in a free one.
-- Over its own draft nothing moves but record and mark; in a free place one draft is new, and every other stands where it stood.
use Rattle.std.proofs.Common.{◌≡◌, ℕ, zero, suc, ◌<◌, ◌≤◌, Bool, true, false, cond, ◌⊎◌, List, [], ◌∷◌, ◌++◌, map, length, get_or, set, Some, None, Option, Ordering, sym, refl, ap, ◌∙◌, subst, inl, inr, ⊎_elim, arith}
use Rattle.std.specs.List.{AllByRecursion}
use Rattle.std.proofs.lemmas.List.{length-set, length-map, get_or-set_same, get_or-set_other}
use Rattle.std.proofs.lemmas.Bool.{eq-eqb, leb-false, both_ways, cases_eq}
use Rattle.keys.specs.Orders.{Total}
use Rattle.ledger.specs.declared.place.Place.{Place}
use Rattle.ledger.specs.declared.place.PlaceState.{PlaceState}
use Rattle.ledger.specs.declared.place.PlaceState.TheVariants.{Free, Unstamped, Gone}
use Rattle.ledger.specs.Limits.{row_entries}
use Rattle.ledger.specs.Words.{any}
use Rattle.ledger.specs.Places.{free, next, after, is_free, is_draft_of}
use Rattle.ledger.specs.Control.{has_key}
use Rattle.ledger.specs.Steps.{draft_event, place_aged}
use Rattle.table.specs.declared.row.HeldKey.{HeldKey}
use Rattle.table.specs.declared.row.Row.{Row}
use Rattle.table.specs.Rows.{no_entry, entries_of, is_row_full, noted}
use Rattle.table.specs.Views.{View, at}
use Rattle.table.specs.Drafts.{turned}
use Rattle.table.specs.Ageing.{ready}
use Rattle.bridge.specs.States.{key_held, keys_held, job_in}
use Rattle.bridge.specs.Soundness.{Apart, SomeOf, DraftOf, CurrentOf, EntryFits, RowFits}
use Rattle.bridge.proofs.Apart.{some_left, some_right}
use Rattle.bridge.proofs.Fitting.{Alike, itself, SameAt, unmoved}
use Rattle.bridge.proofs.Versions.{not_both, one_job}
use Rattle.bridge.proofs.Ages.{aged_same}
use Rattle.bridge.proofs.Holding.{more, has_true}
use Rattle.bridge.proofs.Noting.{one_more, entries_more, entries_set, pushed, put_in}

pub alike_through : {K : Type 0} (ps rs qs : List (Place K)) (u : ℕ) (q : K) → SameAt ps rs u q → SameAt rs qs u q → SameAt ps qs u q
alike_through ps rs qs u q a b n = ((λ h. (b n).0.0 ((a n).0.0 h), λ h. (a n).0.1 ((b n).0.1 h)), (λ h. (b n).1.0 ((a n).1.0 h), λ h. (a n).1.1 ((b n).1.1 h)))

pub is_free_true : {K : Type 0} (p : PlaceState K) → is_free p ≡ true → p ≡ Free
is_free_true Free e = refl
is_free_true _ e = cc

-- the places that a new draft finds: ageing, if there was any, moved no draft and no current version
pub ready_same : {K : Type 0} (v : View K) (u : ℕ) (q : K) → SameAt v.places (ready v) u q
ready_same {K} v u q = go (any (λ p. is_free p.state) v.places)
  where
    go : (b : Bool) → SameAt v.places (cond b v.places (map (place_aged (λ f. true) v.reports) v.places)) u q
    go true = unmoved v.places u q
    go false = aged_same (λ f. true) v.reports v.places u q

pub ready_length : {K : Type 0} (v : View K) → length (ready v) ≡ length v.places
ready_length {K} v = go (any (λ p. is_free p.state) v.places)
  where
    go : (b : Bool) → length (cond b v.places (map (place_aged (λ f. true) v.reports) v.places)) ≡ length v.places
    go true = refl
    go false = length-map v.places (place_aged (λ f. true) v.reports)

module _ {K R : Type 0} (t : ℕ) (k : K) (d : Option R) where
  -- a free place becomes the job's draft at the key
  made : DraftOf t k (next Free (draft_event t k d))
  made = go d
    where
      go : (d : Option R) → DraftOf t k (next Free (draft_event t k d))
      go (Some r) = (eq-eqb t t refl, refl)
      go None = (eq-eqb t t refl, refl)

  -- the job's own draft stays its draft
  again : (p : PlaceState K) → is_draft_of t p ≡ true → (u : ℕ) (q : K) → Alike u q p (next p (draft_event t k d))
  again p e u q = go d p e
    where
      go : (d : Option R) (p : PlaceState K) → is_draft_of t p ≡ true → Alike u q p (next p (draft_event t k d))
      go (Some r) (Unstamped x j) e = ((λ h. h, λ h. h), (λ h. h, λ h. h))
      go (Some r) (Gone x j) e = ((λ h. h, λ h. h), (λ h. h, λ h. h))
      go None (Unstamped x j) e = ((λ h. h, λ h. h), (λ h. h, λ h. h))
      go None (Gone x j) e = ((λ h. h, λ h. h), (λ h. h, λ h. h))
      go (Some r) _ e = cc
      go None _ e = cc

  module _ (ps : List (Place K)) (n : ℕ) (inside : n < length ps) where
    here : at (turned (draft_event t k d) n ps) n ≡ next (at ps n) (draft_event t k d)
    here = ap (λ p. p.state) (get_or-set_same ps n (after (get_or ps n free) (draft_event t k d)) free inside)

    there : (m : ℕ) → (m ≡ n → ⊥) → at (turned (draft_event t k d) n ps) m ≡ at ps m
    there m ne = ap (λ p. p.state) (get_or-set_other ps n m (after (get_or ps n free) (draft_event t k d)) free ne)

    -- over the job's own draft
    pub own_same : is_draft_of t (at ps n) ≡ true → (u : ℕ) (q : K) → SameAt ps (turned (draft_event t k d) n ps) u q
    own_same e u q m = ⊎_elim
        (λ z. subst (λ x. Alike u q (at ps x) (at (turned (draft_event t k d) n ps) x)) (sym z) (rw here (again (at ps n) e u q)))
        (λ ne. rw (there m ne) (itself u q (at ps m)))
        (cases_eq m n)

    module _ (empty : at ps n ≡ Free) where
      pub draft_here : DraftOf t k (at (turned (draft_event t k d) n ps) n)
      draft_here = rw (here, empty) made

      -- in a free place: all stands as before but for this job's draft at this key
      pub fresh_same : (u : ℕ) (q : K) → (u ≡ t → q ≡ k → ⊥) → SameAt ps (turned (draft_event t k d) n ps) u q
      fresh_same u q ne m = ⊎_elim
          (λ z. subst (λ x. Alike u q (at ps x) (at (turned (draft_event t k d) n ps) x)) (sym z) (
            (
              λ h. let z : DraftOf u q Free = subst (DraftOf u q) empty h in cc,
              λ h. absurd (ne (one_job t u (at (turned (draft_event t k d) n ps) n) draft_here.0 h.0) (let e : ◌≡◌ {A = Option K} (Some q) (Some k) = sym h.1 ∙ draft_here.1 in cc)),
            ),
            (
              λ h. let z : CurrentOf q Free = subst (CurrentOf q) empty h in cc,
              λ h. absurd (not_both t (at (turned (draft_event t k d) n ps) n) draft_here.0 h.0),
            ),
          ))
          (λ ne. rw (there m ne) (itself u q (at ps m)))
          (cases_eq m n)

      -- a draft of this job at this key is the new one or an old one
      pub draft_was : (m u : ℕ) (q : K) → DraftOf u q (at (turned (draft_event t k d) n ps) m) → ((m ≡ n) × (u ≡ t)) ⊎ DraftOf u q (at ps m)
      draft_was m u q h = ⊎_elim
          (λ z. inl (z, one_job t u (at (turned (draft_event t k d) n ps) n) draft_here.0 (subst (λ x. DraftOf u q (at (turned (draft_event t k d) n ps) x)) z h).0))
          (λ ne. inr (subst (DraftOf u q) (there m ne) h))
          (cases_eq m n)

-- what noting an entry gives: the row fits, it is the job's, the job holds the key, old drafts stay noted and so does the new
pub record NotedSo {K : Type 0} (order : K → K → Ordering) (tot : Total order) (ps qs : List (Place K)) (t : ℕ) (k : K) (row row' : Row) (e : HeldKey) : Type 0 where
  pub fits : RowFits qs row'
  pub its : row'.ticket ≡ t
  pub holds : job_in qs row' ≡ more order tot k t (job_in ps row)
  pub old : (m : ℕ) → SomeOf (λ x. x.draft ≡ Some m) (entries_of row) → SomeOf (λ x. x.draft ≡ Some m) (entries_of row')
  pub new : (m : ℕ) → e.draft ≡ Some m → SomeOf (λ x. x.draft ≡ Some m) (entries_of row')

some_set : {X : Type 0} (P : X → Type 0) (xs : List X) (i : ℕ) (x y : X) → (P (get_or xs i x) → ⊥) → SomeOf P xs → SomeOf P (set xs i y)
some_set P [] i x y n s = s
some_set P (z ∷ zs) zero x y n (inl p) = absurd (n p)
some_set P (z ∷ zs) zero x y n (inr s) = inr s
some_set P (z ∷ zs) (suc i) x y n (inl p) = inl p
some_set P (z ∷ zs) (suc i) x y n (inr s) = inr (some_set P zs i x y n s)

some_at : {X : Type 0} (P : X → Type 0) (xs : List X) (i : ℕ) (y : X) → i < length xs → P y → SomeOf P (set xs i y)
some_at P [] i y lt p = absurd (omega arith)
some_at P (z ∷ zs) zero y lt p = inl p
some_at P (z ∷ zs) (suc i) y lt p = inr (some_at P zs i y (omega arith) p)

module _ {K : Type 0} (order : K → K → Ordering) (tot : Total order) (ps qs : List (Place K)) (t : ℕ) (k : K) (row : Row) (f : RowFits ps row) (its : row.ticket ≡ t)
    (other : (q : K) → (q ≡ k → ⊥) → SameAt ps qs t q) (e : HeldKey) (fe : EntryFits qs t e) (ek : fe.key ≡ k) where
  mine : AllByRecursion (EntryFits ps t) (entries_of row)
  mine = subst (λ u. AllByRecursion (EntryFits ps u) (entries_of row)) its f.entries

  -- one more entry
  pub noted_more : is_row_full row ≡ false → has_key order k (keys_held ps (entries_of row)) ≡ false → NotedSo order tot ps qs t k row (noted None e row) e
  noted_more room lacks =
      let entries : entries_of (noted None e row) ≡ entries_of row ++ (e ∷ []) = entries_more ps row f e room in
      let row_is = one_more ps row f e room in
      let p = pushed ps qs t k other e fe ek (entries_of row) mine (λ h. both_ways (has_key order k (keys_held ps (entries_of row))) lacks (has_true order tot k (keys_held ps (entries_of row)) h)) in
      let ticket : (noted None e row).ticket ≡ row.ticket = ap (λ r. r.ticket) row_is in
      record {
        fits = record {
          entries = subst (λ u. AllByRecursion (EntryFits qs u) (entries_of (noted None e row))) (sym (ticket ∙ its)) (subst (AllByRecursion (EntryFits qs t)) (sym entries) p.0);
          used = subst (λ (r : Row). r.used ≤ row_entries) (sym row_is) (omega (arith, leb-false row_entries row.used room));
          long = ap (λ r. length r.entries) row_is ∙ (length-set row.entries row.used e ∙ f.long);
        };
        its = ticket ∙ its;
        holds = job_so (noted None e row) ticket (ap (keys_held qs) entries ∙ p.1);
        old = λ m s. subst (SomeOf (λ x. x.draft ≡ Some m)) (sym entries) (some_left (λ x. x.draft ≡ Some m) (entries_of row) (e ∷ []) s);
        new = λ m h. subst (SomeOf (λ x. x.draft ≡ Some m)) (sym entries) (some_right (λ x. x.draft ≡ Some m) (entries_of row) (e ∷ []) (inl h));
      }
    where
      job_so : (r : Row) → r.ticket ≡ row.ticket → keys_held qs (entries_of r) ≡ keys_held ps (entries_of row) ++ (k ∷ []) → job_in qs r ≡ more order tot k t (job_in ps row)
      job_so r et ks = rw (et, ks, eq-eqb row.ticket t its, lacks)

  -- another entry in the place of the key's
  pub noted_set : (i : ℕ) → i < length (entries_of row) → key_held ps (get_or (entries_of row) i no_entry) ≡ Some k → (get_or (entries_of row) i no_entry).draft ≡ None
      → Apart (keys_held ps (entries_of row)) → has_key order k (keys_held ps (entries_of row)) ≡ true → NotedSo order tot ps qs t k row (noted (Some i) e row) e
  noted_set i lt held undrafted apart has =
      let entries : entries_of (noted (Some i) e row) ≡ set (entries_of row) i e = entries_set ps row f e i lt in
      let p = put_in ps qs t k other e fe ek (entries_of row) i lt held mine apart in
      record {
        fits = record {
          entries = subst (λ u. AllByRecursion (EntryFits qs u) (entries_of (noted (Some i) e row))) (sym its) (subst (AllByRecursion (EntryFits qs t)) (sym entries) p.0);
          used = f.used;
          long = length-set row.entries i e ∙ f.long;
        };
        its = its;
        holds = job_so (noted (Some i) e row) refl (ap (keys_held qs) entries ∙ p.1);
        old = λ m s. subst (SomeOf (λ x. x.draft ≡ Some m)) (sym entries) (some_set (λ x. x.draft ≡ Some m) (entries_of row) i no_entry e (λ z. let y : ◌≡◌ {A = Option ℕ} None (Some m) = sym undrafted ∙ z in cc) s);
        new = λ m h. subst (SomeOf (λ x. x.draft ≡ Some m)) (sym entries) (some_at (λ x. x.draft ≡ Some m) (entries_of row) i e lt h);
      }
    where
      job_so : (r : Row) → r.ticket ≡ row.ticket → keys_held qs (entries_of r) ≡ keys_held ps (entries_of row) → job_in qs r ≡ more order tot k t (job_in ps row)
      job_so r et ks = rw (et, ks, eq-eqb row.ticket t its, has)
