-- Rows stay as they were where places change that do not concern them.
-- An entry names the only draft of its job at its key and the only current version; so it fits other places, and holds the same key,
-- as soon as these two stand at the same numbers there. Ageing, a commit, an abort and a new draft differ only in which entries that is true of.
use Rattle.std.proofs.Common.{◌≡◌, ℕ, Bool, true, false, cond, ◌⊎◌, ◌↔◌, List, [], ◌∷◌, map, get_or, Some, None, Option, sym, refl, ap, ◌∙◌, subst, inl, inr}
use lib.ListN.{get_or-map}
use Rattle.std.specs.List.{AllByRecursion}
use Rattle.ledger.specs.declared.place.Place.{Place}
use Rattle.ledger.specs.declared.place.PlaceState.{PlaceState}
use Rattle.ledger.specs.Words.{or_else}
use Rattle.ledger.specs.Places.{free}
use Rattle.ledger.proofs.Finding.{all_of}
use Rattle.table.specs.declared.row.HeldKey.{HeldKey}
use Rattle.table.specs.declared.row.Row.{Row}
use Rattle.table.specs.Rows.{entries_of}
use Rattle.table.specs.Views.{at}
use Rattle.bridge.specs.States.{key_at, key_held, keys_held, job_in, jobs_in}
use Rattle.bridge.specs.Soundness.{DraftOf, CurrentOf, Names, EntryFits, RowFits, Rows}
use Rattle.bridge.proofs.Apart.{Has}

pub keys_cons : {K : Type 0} (ps : List (Place K)) (e : HeldKey) (es : List HeldKey) (k : K) → key_held ps e ≡ Some k → keys_held ps (e ∷ es) ≡ k ∷ keys_held ps es
keys_cons ps e es k h = rw h

-- two states of a place are alike to a job at a key: both are its draft there or neither is, and both the key's current version or neither
abbrev pub Alike : {K : Type 0} → ℕ → K → PlaceState K → PlaceState K → Type 0
Alike t k p q = (DraftOf t k p ↔ DraftOf t k q) × (CurrentOf k p ↔ CurrentOf k q)

abbrev pub itself : {K : Type 0} (t : ℕ) (k : K) (p : PlaceState K) → Alike t k p p
itself t k p = ((λ h. h, λ h. h), (λ h. h, λ h. h))

-- a place that moves just where a test holds
module _ {K : Type 0} (p q : PlaceState K) where
  pub alike_if : (t : ℕ) (k : K) (b : Bool) → (b ≡ true → Alike t k p q) → Alike t k p (cond {A = Place K} b (record { state = q }) (record { state = p })).state
  alike_if t k true h = h refl
  alike_if t k false h = itself t k p

  pub moved_or_not : (P : PlaceState K → Type 0) (b : Bool) → P (cond {A = Place K} b (record { state = q }) (record { state = p })).state → ((b ≡ true) × P q) ⊎ ((b ≡ false) × P p)
  moved_or_not P true h = inl (refl, h)
  moved_or_not P false h = inr (refl, h)

module _ {K : Type 0} (ps qs : List (Place K)) where
  -- the job's drafts at the key and the key's current versions stand at the same numbers
  abbrev pub SameAt : ℕ → K → Type 0
  SameAt t k = (n : ℕ) → Alike t k (at ps n) (at qs n)

  -- the row is not concerned: at each key that it holds, all stands where it stood
  abbrev pub Unconcerned : Row → Type 0
  Unconcerned r = (k : K) → Has k (keys_held ps (entries_of r)) → SameAt r.ticket k

  pub names_same : (P : PlaceState K → Type 0) → ((n : ℕ) → P (at ps n) ↔ P (at qs n)) → (o : Option ℕ) → Names P ps o → Names P qs o
  names_same P f None h = λ n p. h n ((f n).1 p)
  names_same P f (Some n) h = ((f n).0 h.0, λ m p. h.1 m ((f m).1 p))

  pub key_stays : (t : ℕ) (k : K) (d c : Option ℕ) → key_at ps (or_else d c) ≡ Some k → Names (DraftOf t k) qs d → Names (CurrentOf k) qs c → key_at qs (or_else d c) ≡ Some k
  key_stays t k (Some d) c h nd nc = nd.0.1
  key_stays t k None (Some c) h nd nc = nc.0.1
  key_stays t k None None h nd nc = cc

  abbrev pub entry_same : (t : ℕ) (e : HeldKey) (f : EntryFits ps t e) → SameAt t f.key → EntryFits qs t e
  entry_same t e f s =
      let d = names_same (DraftOf t f.key) (λ n. (s n).0) e.draft f.draft in
      let c = names_same (CurrentOf f.key) (λ n. (s n).1) e.current f.current in
      record { key = f.key; holds = key_stays t f.key e.draft e.current f.holds d c; draft = d; current = c }

  pub entries_same : (t : ℕ) (es : List HeldKey) → AllByRecursion (EntryFits ps t) es → ((k : K) → Has k (keys_held ps es) → SameAt t k) → AllByRecursion (EntryFits qs t) es × (keys_held qs es ≡ keys_held ps es)
  entries_same t [] f s = (tt, refl)
  entries_same t (e ∷ es) f s =
      let k = f.0.key in
      let old : keys_held ps (e ∷ es) ≡ k ∷ keys_held ps es = keys_cons ps e es k f.0.holds in
      let g = entry_same t e f.0 (s k (subst (Has k) (sym old) (inl refl))) in
      let i = entries_same t es f.1 (λ q h. s q (subst (Has q) (sym old) (inr h))) in
      ((g, i.0), keys_cons qs e es k g.holds ∙ (ap (λ ks. k ∷ ks) i.1 ∙ sym old))

  pub row_same : (r : Row) → RowFits ps r → Unconcerned r → RowFits qs r × (job_in qs r ≡ job_in ps r)
  row_same r f s =
      let i = entries_same r.ticket (entries_of r) f.entries s in
      (record { entries = i.0; used = f.used; long = f.long }, rw i.1)

  pub rows_same : (rs : List Row) → AllByRecursion (RowFits ps) rs → AllByRecursion Unconcerned rs → AllByRecursion (RowFits qs) rs × (jobs_in qs rs ≡ jobs_in ps rs)
  rows_same [] f s = (tt, refl)
  rows_same (r ∷ rs) f s =
      let h = row_same r f.0 s.0 in
      let i = rows_same rs f.1 s.1 in
      ((h.0, i.0), rw (h.1, i.1))

pub unmoved : {K : Type 0} (ps : List (Place K)) (t : ℕ) (k : K) → SameAt ps ps t k
unmoved ps t k n = itself t k (at ps n)

-- all places move by one function, which leaves a free place free
module _ {K : Type 0} (f : Place K → Place K) (stays : f free ≡ free) (ps : List (Place K)) where
  pub mapped_at : (n : ℕ) → at (map f ps) n ≡ (f (record { state = at ps n })).state
  mapped_at n = ap (λ p. p.state) (subst (λ d. get_or (map f ps) n d ≡ f (get_or ps n free)) stays (get_or-map f ps n free))

  pub mapped_same : (t : ℕ) (k : K) → ((n : ℕ) → Alike t k (at ps n) (f (record { state = at ps n })).state) → SameAt ps (map f ps) t k
  mapped_same t k h n = rw (mapped_at n) (h n)

-- places in which all drafts and current versions stand where they stood: no row is concerned
module _ {K : Type 0} (ps qs : List (Place K)) (same : (t : ℕ) (k : K) → SameAt ps qs t k) (jobs : List Row) (s : Rows ps jobs) where
  stay : AllByRecursion (RowFits qs) jobs × (jobs_in qs jobs ≡ jobs_in ps jobs)
  stay = rows_same ps qs jobs s.fit (all_of (Unconcerned ps qs) (λ r k h. same r.ticket k) jobs)

  pub jobs_stay : jobs_in qs jobs ≡ jobs_in ps jobs
  jobs_stay = stay.1

  pub rows_stay : Rows qs jobs
  rows_stay = record { fit = stay.0; apart = rw jobs_stay s.apart; noted = λ n t k d. s.noted n t k ((same t k n).0.1 d) }
