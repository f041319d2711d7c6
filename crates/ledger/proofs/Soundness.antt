-- The model stays sound: a job has at most one draft at a key, a stamp sees at most one version of a key, and nothing is later than the stamp.
-- A filter takes away only. A draft replaces the one that was there. A commit turns at most one draft of a key into its current
-- version and finishes the one before; earlier stamps see what they saw, and the new one sees just what is current.
use Rattle.std.proofs.Common.{◌≡◌, ℕ, ◌+◌, ◌<◌, ◌≤◌, Bool, true, false, cond, not, eqb, ◌⊎◌, List, ◌∷◌, is_some, Some, None, count_by, filter, Option, Ordering, sym, refl, ◌∙◌, inl, inr, arith}
use Rattle.std.specs.List.{AllByRecursion}
use Rattle.std.proofs.ByRecursion.{all_kept_by, All-weaker, kept_by_passes}
use Rattle.std.proofs.lemmas.List.Sums.{sum_by-cons}
use Rattle.std.proofs.lemmas.Bool.{eqb-true, cases_lt, not-true}
use Rattle.keys.specs.Orders.{Total}
use Rattle.keys.specs.Refusals.{Code}
use Rattle.ledger.specs.declared.call.Call.{Call}
use Rattle.ledger.specs.declared.call.Call.TheVariants.{Basic}
use Rattle.ledger.specs.declared.call.BasicCall.TheVariants.{Put, Remove, Commit, Abort}
use Rattle.ledger.specs.Words.{listed, picked, same}
use Rattle.ledger.specs.Versions.{Version, draft, committed, drafted_by, draft_in, draft_at, has_draft, current_in, seen_in, drafted, settled, settled_all}
use Rattle.ledger.specs.Steps.{Summary}
use Rattle.ledger.proofs.Finding.{found, and_then, sum_mono, count_none, count_kept_le, count_picked, none_found, none_if, all_both, all_of, all_picked}
use Rattle.ledger.proofs.Model.{moved_on, InTime, Sound, current_is_seen_in, one_current}
use Rattle.ledger.proofs.Settling.{same_is, draft_record, settled_draft, settled_seen, settled_there, settled_elsewhere, settled_in_time}

in_time_later : {K R : Type 0} (before s : ℕ) → before ≤ s → (v : Version K R) → InTime before v → InTime s v
in_time_later before s h (draft j q d) i = tt
in_time_later before s h (committed q r b None) i = omega arith
in_time_later before s h (committed q r b (Some f)) i = omega arith

-- what is found no more often in each element is found no more often in all
count_le : {X Y Z : Type 0} (f : X → Option Y) (g : X → Option Z) (P : X → Type 0) → ((x : X) → P x → cond (is_some (f x)) 1 0 ≤ cond (is_some (g x)) 1 0) → (xs : List X) → AllByRecursion P xs → count_by (found f) xs ≤ count_by (found g) xs
count_le f g P h xs a = sum_mono (λ x. cond (is_some (f x)) 1 0) (λ x. cond (is_some (g x)) 1 0) xs (All-weaker P (λ x. cond (is_some (f x)) 1 0 ≤ cond (is_some (g x)) 1 0) h xs a)

module _ {K R : Type 0} (order : K → K → Ordering) (tot : Total order) where
  sound_kept : (st : ℕ) (vs : List (Version K R)) (q : Version K R → Bool) → Sound order st vs → Sound order st (filter q vs)
  sound_kept st vs q so = record {
    one_draft = λ t k. omega (arith, so.one_draft t k, count_kept_le (found (draft_in order t k)) q vs);
    one_seen = λ s k. omega (arith, so.one_seen s k, count_kept_le (found (seen_in order s k)) q vs);
    in_time = all_kept_by q (InTime st) vs so.in_time;
  }

  -- the old draft is gone
  undrafted : (t : ℕ) (k : K) (vs : List (Version K R)) → count_by (found (draft_in order t k)) (filter (λ v. not (is_some (draft_in order t k v))) vs) ≡ 0
  undrafted t k vs =
      count_none (found (draft_in order t k)) (filter (λ v. not (is_some (draft_in order t k v))) vs)
      (All-weaker (λ v. not (is_some (draft_in order t k v)) ≡ true) (λ v. is_some (draft_in order t k v) ≡ false) (λ v h. not-true (is_some (draft_in order t k v)) h) (filter (λ v. not (is_some (draft_in order t k v))) vs)
      (kept_by_passes (λ v. not (is_some (draft_in order t k v))) vs))

  sound_drafted : (st : ℕ) (vs : List (Version K R)) (t : ℕ) (k : K) (d : Option R) → Sound order st vs → Sound order st (drafted order t k d vs)
  sound_drafted st vs t k d so = record {
    one_draft = λ t' k'. goes t' k' (eqb t t') (same order k k') refl refl;
    one_seen = λ s k'. omega (arith, rest.one_seen s k', sum_by-cons (λ v. cond (found (seen_in order s k') v) 1 0) (draft t k d) (filter others vs));
    in_time = (tt, rest.in_time);
  }
    where
      others : Version K R → Bool
      others v = not (is_some (draft_in order t k v))

      rest : Sound order st (filter others vs)
      rest = sound_kept st vs others so

      goes : (t' : ℕ) (k' : K) (x y : Bool) → eqb t t' ≡ x → same order k k' ≡ y → count_by (found (draft_in order t' k')) (draft t k d ∷ filter others vs) ≤ 1
      goes t' k' true true ex ey =
          let et : t ≡ t' = eqb-true t t' ex in
          let ek : k ≡ k' = same_is order tot k k' ey in
          let u : count_by (found (draft_in order t' k')) (filter others vs) ≡ 0 = rw (← et, ← ek) (undrafted t k vs) in
          let v : ◌≡◌ {A = ℕ} (cond (found (draft_in order t' k') (draft t k d)) 1 0) 1 = rw (ex, ey) in
          omega (arith, sum_by-cons (λ v. cond (found (draft_in order t' k') v) 1 0) (draft t k d) (filter others vs))
      goes t' k' true false ex ey =
          let v : ◌≡◌ {A = ℕ} (cond (found (draft_in order t' k') (draft t k d)) 1 0) 0 = rw (ex, ey) in
          omega (arith, rest.one_draft t' k', sum_by-cons (λ v. cond (found (draft_in order t' k') v) 1 0) (draft t k d) (filter others vs))
      goes t' k' false y ex ey =
          let v : ◌≡◌ {A = ℕ} (cond (found (draft_in order t' k') (draft t k d)) 1 0) 0 = rw ex in
          omega (arith, rest.one_draft t' k', sum_by-cons (λ v. cond (found (draft_in order t' k') v) 1 0) (draft t k d) (filter others vs))

  -- a commit at the stamp after st
  module _ (st : ℕ) (vs : List (Version K R)) (t : ℕ) (so : Sound order st vs) where
    written : K → Bool
    written k = has_draft order t k vs

    g : Version K R → Option (Version K R)
    g = settled order t (st + 1) written

    -- from the new stamp on, what is seen is what is current
    late : (s : ℕ) (k : K) → st + 1 ≤ s → (v : Version K R) → InTime st v → and_then (g v) (seen_in order s k) ≡ and_then (g v) (current_in order k)
    unfolding g
    late s k h v i = go (g v) (settled_in_time order tot t (st + 1) written st refl v i)
      where
        go : (o : Option (Version K R)) → AllByRecursion (InTime (st + 1)) (listed o) → and_then o (seen_in order s k) ≡ and_then o (current_in order k)
        go None a = refl
        go (Some w) a = sym (current_is_seen_in order s k w (in_time_later (st + 1) s h w a.0))

    one_draft_after : (j : ℕ) (k : K) → count_by (found (draft_in order j k)) (picked g vs) ≤ 1
    unfolding g
    one_draft_after j k =
        omega (
          arith,
          so.one_draft j k,
          count_picked (draft_in order j k) g vs,
          count_le (λ v. and_then (g v) (draft_in order j k)) (draft_in order j k) (λ v. Unit {0}) (λ v _. rw (settled_draft order tot t (st + 1) written j k v) (go (eqb j t) (draft_in order j k v))) vs (all_of (λ v. Unit {0}) (λ v. tt) vs),
        )
      where
        go : (x : Bool) (o : Option (Option R)) → cond (is_some (cond {A = Option (Option R)} x None o)) 1 0 ≤ cond (is_some o) 1 0
        go true o = omega arith
        go false o = omega arith

    one_seen_after : (s : ℕ) (k : K) → (s < st + 1) ⊎ (st + 1 ≤ s) → (x : Bool) → written k ≡ x → count_by (found (seen_in order s k)) (picked g vs) ≤ 1
    unfolding g written
    one_seen_after s k (inl h) x ex =
        omega (
          arith,
          so.one_seen s k,
          count_picked (seen_in order s k) g vs,
          count_le (λ v. and_then (g v) (seen_in order s k)) (seen_in order s k) (λ v. Unit {0}) (λ v _. rw (settled_seen order tot t (st + 1) written s k h v) (omega arith)) vs (all_of (λ v. Unit {0}) (λ v. tt) vs),
        )
    one_seen_after s k (inr h) true ex =
        omega (
          arith,
          so.one_draft t k,
          count_picked (seen_in order s k) g vs,
          count_le (λ v. and_then (g v) (seen_in order s k)) (draft_in order t k) (InTime st) (λ v i. rw (late s k h v i ∙ settled_there order tot t (st + 1) written k ex v) (go (draft_in order t k v))) vs so.in_time,
        )
      where
        go : (o : Option (Option R)) → cond (is_some (draft_record o)) 1 0 ≤ cond (is_some o) 1 0
        go None = omega arith
        go (Some None) = omega arith
        go (Some (Some r)) = omega arith
    one_seen_after s k (inr h) false ex =
        omega (
          arith,
          one_current order st k vs so,
          count_picked (seen_in order s k) g vs,
          count_le (λ v. and_then (g v) (seen_in order s k)) (current_in order k) (λ v. InTime st v × (draft_in order t k v ≡ None)) (λ v i. rw (late s k h v i.0 ∙ settled_elsewhere order tot t (st + 1) written k ex v i.1) (omega arith)) vs
              (all_both (InTime st) (λ v. draft_in order t k v ≡ None) (λ v. InTime st v × (draft_in order t k v ≡ None)) (λ v i n. (i, n)) vs so.in_time (none_found (draft_in order t k) vs (none_if (draft_at order t k vs) ex))),
        )

    sound_settled : Sound order (st + 1) (settled_all order t (st + 1) vs)
    unfolding g written
    sound_settled = record {
      one_draft = one_draft_after;
      one_seen = λ s k. one_seen_after s k (cases_lt s (st + 1)) (written k) refl;
      in_time = all_picked (InTime (st + 1)) g vs (All-weaker (InTime st) (λ v. AllByRecursion (InTime (st + 1)) (listed (g v))) (settled_in_time order tot t (st + 1) written st refl) vs so.in_time);
    }

  -- a call that met this refusal, or none, leaves the model sound
  pub sound_after : (b : Summary K R) (met : Option Code) (c : Call K R) → Sound order b.control.stamp b.versions → Sound order (moved_on order met b c).control.stamp (moved_on order met b c).versions
  sound_after b (Some why) c so = so
  sound_after b None (Basic (Put t k r)) so = sound_drafted b.control.stamp b.versions t.number k (Some r) so
  sound_after b None (Basic (Remove t k)) so = sound_drafted b.control.stamp b.versions t.number k None so
  sound_after b None (Basic (Commit t)) so = sound_settled b.control.stamp b.versions t.number so
  sound_after b None (Basic (Abort t)) so = sound_kept b.control.stamp b.versions (λ v. not (drafted_by t.number v)) so
  sound_after b None _ so = so
