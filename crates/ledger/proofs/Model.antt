-- The model of a store: the summary that the calls other than age determine, whatever places were taken and whatever was aged.
-- A store agrees with it when its control state is the same, and its places hold the model's versions but for some
-- that were freed: superseded, and in no open report's span. Such a version is found by no look-up and counts as no wanted
-- one, so what jobs and reports find, and how many versions are wanted, is the same in the store and in the model.
use Rattle.std.proofs.Common.{◌≡◌, ℕ, ◌+◌, ◌≤◌, Bool, true, false, cond, ◌&&◌, ◌||◌, eqb, ltb, leb, List, [], ◌∷◌, length, Some, None, count_by, Option, Ordering, sym, refl, ◌∙◌, subst, arith}
use Rattle.std.specs.List.{AllByRecursion}
use Rattle.std.proofs.ByRecursion.{All-weaker}
use Rattle.std.proofs.lemmas.List.Sums.{sum_by-append}
use Rattle.std.proofs.lemmas.Bool.{le-leb, le-ltb, and_right}
use Rattle.keys.specs.Refusals.{Code}
use Rattle.ledger.specs.declared.call.Call.{Call}
use Rattle.ledger.specs.declared.place.Report.{Report}
use Rattle.ledger.specs.Words.{when, first, or_else, same}
use Rattle.ledger.specs.Places.{spans, in_report}
use Rattle.ledger.specs.Versions.{Version, draft, committed, wanted, draft_in, draft_at, current_in, current_at, seen_in, seen_at, drafted, settled_all, without_drafts}
use Rattle.ledger.specs.Control.{report_at}
use Rattle.ledger.specs.Calls.{Change, keeps, drafts, commits, aborts, ages, change}
use Rattle.ledger.specs.Steps.{State, Summary, summary, versions_in, sent_back, control_after}
use Rattle.ledger.proofs.Permutations.{perm_sum}
use Rattle.ledger.proofs.ButFreed.{Freeable, AllButFreed}
use Rattle.ledger.proofs.Finding.{found, when_off, first_same, first_append, first_none, first_perm, or_none, sum_mono, count_none}

-- as many wanted versions as places
abbrev pub full : {K R : Type 0} → Summary K R → Bool
full b = eqb (count_by (wanted b.control.reports) b.versions) b.places

-- the refusal that a call meets in the model
abbrev pub met : {K R : Type 0} → (K → K → Ordering) → Summary K R → Call K R → ℕ → Option Code
met order b c n = sent_back order (full b) b c n

-- the versions after a granted call
abbrev pub versions_after : {K R : Type 0} → (K → K → Ordering) → Summary K R → Change K R → List (Version K R)
versions_after order b keeps = b.versions
versions_after order b (drafts t k d) = drafted order t k d b.versions
versions_after order b (commits t) = settled_all order t (b.control.stamp + 1) b.versions
versions_after order b (aborts t) = without_drafts order t b.versions
versions_after order b (ages limit) = b.versions

-- the model after a call that met this refusal, or none
abbrev pub moved_on : {K R : Type 0} → (K → K → Ordering) → Option Code → Summary K R → Call K R → Summary K R
moved_on order (Some why) b c = b
moved_on order None b c = record { control = control_after order b c; versions = versions_after order b (change c); places = b.places }

abbrev pub next_model : {K R : Type 0} → (K → K → Ordering) → Summary K R → Call K R → ℕ → Summary K R
next_model order b c n = moved_on order (met order b c n) b c

-- nothing begins or finishes later than the stamp
abbrev pub InTime : {K R : Type 0} → ℕ → Version K R → Type 0
InTime stamp (draft j k d) = Unit {0}
InTime stamp (committed k r b None) = b ≤ stamp
InTime stamp (committed k r b (Some f)) = f ≤ stamp

-- a job has at most one draft at a key, a stamp sees at most one version of a key, and nothing is later than the stamp
pub record Sound {K R : Type 0} (order : K → K → Ordering) (stamp : ℕ) (vs : List (Version K R)) : Type 0 where
  pub one_draft : (t : ℕ) (k : K) → count_by (found (draft_in order t k)) vs ≤ 1
  pub one_seen : (s : ℕ) (k : K) → count_by (found (seen_in order s k)) vs ≤ 1
  pub in_time : AllByRecursion (InTime stamp) vs

-- the store has the model's control state, as many places and records, and its versions but for some that were freed
pub record Agrees {K R : Type 0} (b : Summary K R) (s : State K R) : Type 0 where
  pub control : s.control ≡ b.control
  pub places : length s.places ≡ b.places
  pub shelf : length s.shelf ≡ b.places
  pub versions : AllButFreed b.control.reports b.versions (versions_in s.places s.shelf)

-- a span that holds no open report's stamp does not hold this one's
pub not_in_report : (t s b f : ℕ) (reports : List Report) → report_at t reports ≡ Some s → in_report reports b f ≡ false → spans b (Some f) s ≡ false
not_in_report t s b f [] e h = cc
not_in_report t s b f (r ∷ rs) e h = go (eqb r.ticket t) e (spans b (Some f) r.stamp) refl h (λ e' h'. not_in_report t s b f rs e' h')
  where
    go : (x : Bool) → or_else (when x r.stamp) (report_at t rs) ≡ Some s → (y : Bool) → spans b (Some f) r.stamp ≡ y → (y || in_report rs b f) ≡ false → (report_at t rs ≡ Some s → in_report rs b f ≡ false → spans b (Some f) s ≡ false) → spans b (Some f) s ≡ false
    go x e true ey h rec = cc
    go true e false ey h rec = let same_stamp : r.stamp ≡ s = cc in rw (← same_stamp) ey
    go false e false ey h rec = rec e h

module _ {K R : Type 0} (order : K → K → Ordering) where
  pub freeable_no_draft : (reports : List Report) (t : ℕ) (k : K) (v : Version K R) → Freeable reports v → draft_in order t k v ≡ None
  freeable_no_draft reports t k (draft j q d) h = cc
  freeable_no_draft reports t k (committed q r b f) h = refl

  freeable_not_current : (reports : List Report) (k : K) (v : Version K R) → Freeable reports v → current_in order k v ≡ None
  freeable_not_current reports k (draft j q d) h = refl
  freeable_not_current reports k (committed q r b None) h = cc
  freeable_not_current reports k (committed q r b (Some f)) h = refl

  freeable_not_seen : (t s : ℕ) (reports : List Report) → report_at t reports ≡ Some s → (k : K) (v : Version K R) → Freeable reports v → seen_in order s k v ≡ None
  freeable_not_seen t s reports o k (draft j q d) h = refl
  freeable_not_seen t s reports o k (committed q r b None) h = cc
  freeable_not_seen t s reports o k (committed q r b (Some f)) h = when_off (same order q k) (spans b (Some f) s) r (not_in_report t s b f reports o h.1)

  -- what is current is what the present stamp, and any later one, sees
  pub current_is_seen_in : (stamp : ℕ) (k : K) (v : Version K R) → InTime stamp v → current_in order k v ≡ seen_in order stamp k v
  current_is_seen_in stamp k (draft j q d) h = refl
  current_is_seen_in stamp k (committed q r b None) h = rw (le-leb b stamp h) (go (same order q k))
    where
      go : (c : Bool) → when c r ≡ when (c && true) r
      go true = refl
      go false = refl
  current_is_seen_in stamp k (committed q r b (Some f)) h = sym (when_off (same order q k) (spans b (Some f) stamp) r (and_right (leb b stamp) (ltb stamp f) (le-ltb stamp f h)))

  pub current_is_seen : (stamp : ℕ) (k : K) (vs : List (Version K R)) → AllByRecursion (InTime stamp) vs → current_at order k vs ≡ seen_at order stamp k vs
  current_is_seen stamp k vs a =
      first_same (current_in order k) (seen_in order stamp k) vs (All-weaker (InTime stamp) (λ v. current_in order k v ≡ seen_in order stamp k v) (current_is_seen_in stamp k) vs a)

  pub one_current : (stamp : ℕ) (k : K) (vs : List (Version K R)) → Sound order stamp vs → count_by (found (current_in order k)) vs ≤ 1
  one_current stamp k vs so =
      let m = sum_mono (λ v. cond (found (current_in order k) v) 1 0) (λ v. cond (found (seen_in order stamp k) v) 1 0) vs
      (All-weaker (InTime stamp) (λ v. cond (found (current_in order k) v) 1 0 ≤ cond (found (seen_in order stamp k) v) 1 0) (λ v h. rw (current_is_seen_in stamp k v h) (omega arith)) vs so.in_time) in
      omega (arith, so.one_seen stamp k)

  -- the store agrees with the model
  module _ (b : Summary K R) (s : State K R) (a : Agrees b s) (so : Sound order b.control.stamp b.versions) where
    -- a look-up that finds at most one version, and none that was freed, gives the same in both
    lookup_same : {Y : Type 0} (f : Version K R → Option Y) → count_by (found f) b.versions ≤ 1 → ((v : Version K R) → Freeable b.control.reports v → f v ≡ None) → first f (summary s).versions ≡ first f b.versions
    lookup_same f one none =
        let gone = first_none f a.versions.freed (All-weaker (Freeable b.control.reports) (λ v. f v ≡ None) none a.versions.freed a.versions.freeable) in
        sym (first_append f (summary s).versions a.versions.freed ∙ rw gone (or_none (first f (summary s).versions)))
        ∙ first_perm f a.versions.listed (subst (λ n. n ≤ 1) (sym (perm_sum (λ v. cond (found f v) 1 0) a.versions.listed)) one)

    pub same_draft : (t : ℕ) (k : K) → draft_at order t k (summary s).versions ≡ draft_at order t k b.versions
    same_draft t k = lookup_same (draft_in order t k) (so.one_draft t k) (freeable_no_draft b.control.reports t k)

    pub same_current : (k : K) → current_at order k (summary s).versions ≡ current_at order k b.versions
    same_current k = lookup_same (current_in order k) (one_current b.control.stamp k b.versions so) (freeable_not_current b.control.reports k)

    pub same_seen : (t st : ℕ) → report_at t b.control.reports ≡ Some st → (k : K) → seen_at order st k (summary s).versions ≡ seen_at order st k b.versions
    same_seen t st o k = lookup_same (seen_in order st k) (so.one_seen st k) (freeable_not_seen t st b.control.reports o k)

    pub same_wanted : count_by (wanted b.control.reports) (summary s).versions ≡ count_by (wanted b.control.reports) b.versions
    same_wanted =
        let w : Version K R → Bool = wanted b.control.reports in
        let z = count_none w a.versions.freed (All-weaker (Freeable b.control.reports) (λ v. w v ≡ false) (λ v h. h.1) a.versions.freed a.versions.freeable) in
        omega (arith, sum_by-append (λ v. cond (w v) 1 0) (summary s).versions a.versions.freed, perm_sum (λ v. cond (w v) 1 0) a.versions.listed)
