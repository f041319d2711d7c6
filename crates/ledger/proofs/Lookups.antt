-- What is found among versions after a draft, a commit and an abort: drafts by their job and key, the current record of a key, and what a stamp sees.
-- Each is what was found before, but for the job's own draft, which a draft replaces, a commit makes current and an abort takes away.
use Rattle.std.proofs.Common.{◌≡◌, ℕ, ◌+◌, ◌<◌, ◌≤◌, Bool, true, false, cond, not, ◌&&◌, eqb, List, [], ◌∷◌, is_some, Some, None, count_by, filter, Option, Ordering, unwrap_or, sym, refl, ap, ◌∙◌, subst, arith}
use Rattle.std.specs.List.{AllByRecursion}
use Rattle.std.proofs.ByRecursion.{All-weaker}
use Rattle.std.proofs.lemmas.List.Sums.{sum_by-cons}
use Rattle.std.proofs.lemmas.Bool.{eqb-true, ne_eqb, not-false, and_parts, and_from, cond-false}
use Rattle.keys.specs.Orders.{Total}
use Rattle.ledger.specs.Words.{when, or_else, picked, first, same}
use Rattle.ledger.specs.Versions.{Version, draft, committed, drafted_by, draft_in, draft_at, has_draft, current_in, current_at, seen_in, seen_at, drafted, settled, settled_all, without_drafts}
use Rattle.ledger.proofs.Finding.{found, found_when, and_then, first_picked, first_kept, none_found, all_of, all_none}
use Rattle.ledger.proofs.Settling.{same_is, draft_record, settled_draft, settled_seen, settled_there, settled_elsewhere}

-- where at most one draft is found, its record is found first
first_record : {X R : Type 0} (f : X → Option (Option R)) (xs : List X) (d : Option R) → count_by (found f) xs ≤ 1 → first f xs ≡ Some d → first (λ x. draft_record (f x)) xs ≡ d
first_record f [] d c e = cc
first_record {X} {R} f (x ∷ xs) d c e = go (f x) refl e (λ c' e'. first_record f xs d c' e')
  where
    total : count_by (found f) (x ∷ xs) ≡ cond (found f x) 1 0 + count_by (found f) xs
    total = sum_by-cons (λ x. cond (found f x) 1 0) x xs

    rest_none : (ys : List X) → AllByRecursion (λ y. found f y ≡ false) ys → first (λ x. draft_record (f x)) ys ≡ None
    rest_none [] a = refl
    rest_none (y ∷ ys) a = alone (f y) a.0 (rest_none ys a.1)
      where
        alone : (o : Option (Option R)) → is_some o ≡ false → first (λ x. draft_record (f x)) ys ≡ None → or_else (draft_record o) (first (λ x. draft_record (f x)) ys) ≡ None
        alone None p q = q
        alone (Some d) p q = cc

    go : (o : Option (Option R)) → f x ≡ o → or_else o (first f xs) ≡ Some d → (count_by (found f) xs ≤ 1 → first f xs ≡ Some d → first (λ x. draft_record (f x)) xs ≡ d) → or_else (draft_record (f x)) (first (λ x. draft_record (f x)) xs) ≡ d
    go None ef e rec = let z : ◌≡◌ {A = ℕ} (cond (found f x) 1 0) 0 = rw ef in rw ef (rec (omega (arith, total)) e)
    go (Some None) ef e rec =
        let one : ◌≡◌ {A = ℕ} (cond (found f x) 1 0) 1 = rw ef in
        let z : count_by (found f) xs ≡ 0 = omega (arith, total) in
        let ed : None ≡ d = cc in
        rw ef (rest_none xs (all_none (found f) xs z) ∙ ed)
    go (Some (Some r)) ef e rec = let ed : Some r ≡ d = cc in rw ef ed

module _ {K R : Type 0} (order : K → K → Ordering) (tot : Total order) where
  -- a draft replaces the job's draft at the key, and no other
  other_draft : (t j : ℕ) (k q : K) → (eqb t j && same order k q) ≡ false → (v : Version K R) → not (is_some (draft_in order t k v)) ≡ false → draft_in order j q v ≡ None
  other_draft t j k q ne (committed x r b f) h = refl
  other_draft t j k q ne (draft i x d) h = go (eqb i j) refl (same order x q) refl
    where
      replaced : (eqb i t && same order x k) ≡ true
      replaced = sym (found_when (eqb i t && same order x k) d) ∙ not-false (is_some (when (eqb i t && same order x k) d)) h

      it : i ≡ t
      it = eqb-true i t (and_parts (eqb i t) (same order x k) replaced).0

      xk : x ≡ k
      xk = same_is order tot x k (and_parts (eqb i t) (same order x k) replaced).1

      go : (y : Bool) → eqb i j ≡ y → (z : Bool) → same order x q ≡ z → when (y && z) d ≡ None
      go true ey true ez = cc (and_from (eqb t j) (same order k q) (subst (λ v. eqb v j ≡ true) it ey) (subst (λ v. same order v q ≡ true) xk ez))
      go true ey false ez = refl
      go false ey z ez = refl

  pub draft_drafted : (t : ℕ) (k : K) (d : Option R) (vs : List (Version K R)) (j : ℕ) (q : K) → draft_at order j q (drafted order t k d vs) ≡ or_else (when (eqb t j && same order k q) d) (draft_at order j q vs)
  draft_drafted t k d vs j q = go (eqb t j && same order k q) refl
    where
      go : (y : Bool) → (eqb t j && same order k q) ≡ y → or_else (when y d) (first (draft_in order j q) (filter (λ v. not (is_some (draft_in order t k v))) vs)) ≡ or_else (when y d) (draft_at order j q vs)
      go true e = refl
      go false e = first_kept (draft_in order j q) (λ v. not (is_some (draft_in order t k v))) vs (other_draft t j k q e)

  -- a look-up that finds no draft
  abbrev OfCommitted : {Y : Type 0} → (Version K R → Option Y) → Type 0
  OfCommitted f = (j : ℕ) (q : K) (d : Option R) → f (draft j q d) ≡ None

  committed_drafted : {Y : Type 0} (f : Version K R → Option Y) → OfCommitted f → (t : ℕ) (k : K) (d : Option R) (vs : List (Version K R)) → first f (drafted order t k d vs) ≡ first f vs
  committed_drafted f none t k d vs = rw (none t k d) (first_kept f (λ v. not (is_some (draft_in order t k v))) vs only_drafts)
    where
      only_drafts : (v : Version K R) → not (is_some (draft_in order t k v)) ≡ false → f v ≡ None
      only_drafts (draft j q d) e = none j q d
      only_drafts (committed q r b x) e = cc

  pub current_drafted : (t : ℕ) (k : K) (d : Option R) (vs : List (Version K R)) (q : K) → current_at order q (drafted order t k d vs) ≡ current_at order q vs
  current_drafted t k d vs q = committed_drafted (current_in order q) (λ j x y. refl) t k d vs

  pub seen_drafted : (t : ℕ) (k : K) (d : Option R) (vs : List (Version K R)) (s : ℕ) (q : K) → seen_at order s q (drafted order t k d vs) ≡ seen_at order s q vs
  seen_drafted t k d vs s q = committed_drafted (seen_in order s q) (λ j x y. refl) t k d vs

  -- an abort takes the job's drafts away
  pub draft_aborted : (t : ℕ) (vs : List (Version K R)) (j : ℕ) (k : K) → (j ≡ t → ⊥) → draft_at order j k (without_drafts order t vs) ≡ draft_at order j k vs
  draft_aborted t vs j k ne = first_kept (draft_in order j k) (λ v. not (drafted_by t v)) vs others_stay
    where
      others_stay : (v : Version K R) → not (drafted_by t v) ≡ false → draft_in order j k v ≡ None
      others_stay (committed q r b f) h = refl
      others_stay (draft i q d) h = go (eqb i j) refl
        where
          go : (y : Bool) → eqb i j ≡ y → when (y && same order q k) d ≡ None
          go true ey = absurd (ne (sym (eqb-true i j ey) ∙ eqb-true i t (not-false (eqb i t) h)))
          go false ey = refl

  committed_aborted : {Y : Type 0} (f : Version K R → Option Y) → OfCommitted f → (t : ℕ) (vs : List (Version K R)) → first f (without_drafts order t vs) ≡ first f vs
  committed_aborted f none t vs = first_kept f (λ v. not (drafted_by t v)) vs only_drafts
    where
      only_drafts : (v : Version K R) → not (drafted_by t v) ≡ false → f v ≡ None
      only_drafts (draft j q d) e = none j q d
      only_drafts (committed q r b x) e = cc

  pub current_aborted : (t : ℕ) (vs : List (Version K R)) (q : K) → current_at order q (without_drafts order t vs) ≡ current_at order q vs
  current_aborted t vs q = committed_aborted (current_in order q) (λ j x y. refl) t vs

  pub seen_aborted : (t : ℕ) (vs : List (Version K R)) (s : ℕ) (q : K) → seen_at order s q (without_drafts order t vs) ≡ seen_at order s q vs
  seen_aborted t vs s q = committed_aborted (seen_in order s q) (λ j x y. refl) t vs

  -- a commit makes the job's drafts current; other jobs keep theirs, and earlier stamps see what they saw
  module _ (t stamp : ℕ) (vs : List (Version K R)) where
    abbrev g : Version K R → Option (Version K R)
    g = settled order t stamp (λ k. has_draft order t k vs)

    pub draft_settled : (j : ℕ) (k : K) → (j ≡ t → ⊥) → draft_at order j k (settled_all order t stamp vs) ≡ draft_at order j k vs
    draft_settled j k ne =
        first_picked (draft_in order j k) (draft_in order j k) g vs
        (all_of (λ v. and_then (g v) (draft_in order j k) ≡ draft_in order j k v) (λ v. settled_draft order tot t stamp (λ k. has_draft order t k vs) j k v ∙ cond-false (eqb j t) None (draft_in order j k v) (ne_eqb j t ne)) vs)

    pub seen_settled : (s : ℕ) (k : K) → s < stamp → seen_at order s k (settled_all order t stamp vs) ≡ seen_at order s k vs
    seen_settled s k h =
        first_picked (seen_in order s k) (seen_in order s k) g vs (all_of (λ v. and_then (g v) (seen_in order s k) ≡ seen_in order s k v) (settled_seen order tot t stamp (λ k. has_draft order t k vs) s k h) vs)

    pub current_settled : (k : K) → count_by (found (draft_in order t k)) vs ≤ 1 → current_at order k (settled_all order t stamp vs) ≡ unwrap_or (draft_at order t k vs) (current_at order k vs)
    current_settled k one = go (draft_at order t k vs) refl
      where
        go : (o : Option (Option R)) → draft_at order t k vs ≡ o → first (current_in order k) (picked g vs) ≡ unwrap_or o (current_at order k vs)
        go None e =
            first_picked (current_in order k) (current_in order k) g vs
            (All-weaker (λ v. draft_in order t k v ≡ None) (λ v. and_then (g v) (current_in order k) ≡ current_in order k v) (settled_elsewhere order tot t stamp (λ k. has_draft order t k vs) k (ap is_some e)) vs (none_found (draft_in order t k) vs e))
        go (Some d) e =
            first_picked (current_in order k) (λ v. draft_record (draft_in order t k v)) g vs
            (all_of (λ v. and_then (g v) (current_in order k) ≡ draft_record (draft_in order t k v)) (settled_there order tot t stamp (λ k. has_draft order t k vs) k (ap is_some e)) vs)
            ∙ first_record (draft_in order t k) vs d one e
