-- What a commit makes of one version, and so of all: where the job drafted, its draft is what is current from the new stamp on;
-- elsewhere what was current stays; every earlier stamp sees what it saw; and other jobs keep their drafts.
use Rattle.std.proofs.Common.{◌≡◌, ℕ, ◌+◌, ◌<◌, Bool, true, false, cond, ◌&&◌, eqb, ltb, leb, [], ◌∷◌, Some, None, Option, Ordering, Less, Equal, Greater, sym, refl, ◌∙◌, arith}
use Rattle.std.specs.List.{AllByRecursion}
use Rattle.std.proofs.lemmas.Bool.{eqb-true, eqb-false, lt-leb, lt-ltb, cond-true, cond-false}
use Rattle.std.specs.Option.{option_map}
use Rattle.std.specs.Ordering.{is_eq}
use Rattle.keys.specs.Orders.{Total}
use Rattle.ledger.specs.Words.{when, listed, same}
use Rattle.ledger.specs.Versions.{Version, draft, committed, draft_in, current_in, seen_in, settled}
use Rattle.ledger.proofs.Finding.{when_off, and_then}
use Rattle.ledger.proofs.Model.{InTime}

pub same_is : {K : Type 0} (order : K → K → Ordering) → Total order → (a b : K) → same order a b ≡ true → a ≡ b
same_is order tot a b e = go (order a b) refl e
  where
    go : (o : Ordering) → order a b ≡ o → is_eq o ≡ true → a ≡ b
    go Less p q = cc
    go Equal p q = tot.same a b p
    go Greater p q = cc

-- the record of a draft; none where there is no draft, or one without a record
abbrev pub draft_record : {R : Type 0} → Option (Option R) → Option R
draft_record None = None
draft_record (Some d) = d

module _ {K R : Type 0} (order : K → K → Ordering) (tot : Total order) (t stamp : ℕ) (written : K → Bool) where
  -- the job's own drafts go, the others stay
  pub settled_draft : (j : ℕ) (k : K) (v : Version K R) → and_then (settled order t stamp written v) (draft_in order j k) ≡ cond (eqb j t) None (draft_in order j k v)
  settled_draft j k (draft i q d) = go (eqb i t) refl (eqb j t) refl (eqb i j) refl
    where
      gone : (d : Option R) → and_then (option_map (λ r. committed q r stamp None) d) (draft_in order j k) ≡ None
      gone None = refl
      gone (Some r) = refl

      go : (x : Bool) → eqb i t ≡ x → (y : Bool) → eqb j t ≡ y → (z : Bool) → eqb i j ≡ z → and_then (cond x (option_map (λ r. committed q r stamp None) d) (Some (draft i q d))) (draft_in order j k) ≡ cond y None (when (z && same order q k) d)
      go true ex true ey z ez = gone d
      go true ex false ey true ez = absurd (eqb-false j t ey (sym (eqb-true i j ez) ∙ eqb-true i t ex))
      go true ex false ey false ez = gone d
      go false ex true ey true ez = absurd (eqb-false i t ex (eqb-true i j ez ∙ eqb-true j t ey))
      go false ex true ey false ez = rw ez
      go false ex false ey z ez = rw ez
  settled_draft j k (committed q r b f) = go (eqb j t)
    where
      go : (y : Bool) → None ≡ cond {A = Option (Option R)} y None None
      go true = refl
      go false = refl

  -- an earlier stamp sees what it saw
  pub settled_seen : (s : ℕ) (k : K) → s < stamp → (v : Version K R) → and_then (settled order t stamp written v) (seen_in order s k) ≡ seen_in order s k v
  settled_seen s k h (draft i q d) = go (eqb i t) d
    where
      go : (x : Bool) (d : Option R) → and_then (cond x (option_map (λ r. committed q r stamp None) d) (Some (draft i q d))) (seen_in order s k) ≡ None
      go true None = refl
      go true (Some r) = when_off (same order q k) (leb stamp s) r (lt-leb stamp s h)
      go false d = refl
  settled_seen s k h (committed q r b None) = go (written q)
    where
      and_true : (x : Bool) → (x && true) ≡ x
      and_true true = refl
      and_true false = refl

      within : (leb b s && ltb s stamp) ≡ leb b s
      within = rw (lt-ltb s stamp h) (and_true (leb b s))

      go : (x : Bool) → seen_in order s k (committed q r b (when x stamp)) ≡ when (same order q k && leb b s) r
      go true = rw within
      go false = refl
  settled_seen s k h (committed q r b (Some f)) = refl

  -- at a key that the job wrote its draft is current now, elsewhere what was
  pub settled_current : (k : K) (v : Version K R) → (written k ≡ false → draft_in order t k v ≡ None) → and_then (settled order t stamp written v) (current_in order k) ≡ cond (written k) (draft_record (draft_in order t k v)) (current_in order k v)
  settled_current k (draft i q d) n = go (eqb i t) (same order q k) refl (written k) d n
    where
      go : (x y : Bool) → same order q k ≡ y → (z : Bool) (d : Option R) → (z ≡ false → when (x && y) d ≡ None) → and_then (cond x (option_map (λ r. committed q r stamp None) d) (Some (draft i q d))) (current_in order k) ≡ cond z (draft_record (when (x && y) d)) None
      go true true ey true None n = refl
      go true true ey true (Some r) n = rw ey
      go true true ey false d n = let e = n refl in cc
      go true false ey true None n = refl
      go true false ey true (Some r) n = rw ey
      go true false ey false None n = refl
      go true false ey false (Some r) n = rw ey
      go false y ey true d n = refl
      go false y ey false d n = refl
  settled_current k (committed q r b None) n = go (written q) refl (same order q k) refl (written k) refl
    where
      go : (x : Bool) → written q ≡ x → (y : Bool) → same order q k ≡ y → (z : Bool) → written k ≡ z → current_in order k (committed q r b (when x stamp)) ≡ cond z None (when y r)
      go true ex true ey true ez = refl
      go true ex true ey false ez = cc (same_is order tot q k ey)
      go true ex false ey true ez = refl
      go true ex false ey false ez = refl
      go false ex true ey true ez = cc (same_is order tot q k ey)
      go false ex y ey false ez = rw ey
      go false ex false ey true ez = rw ey
  settled_current k (committed q r b (Some f)) n = go (written k)
    where
      go : (z : Bool) → None ≡ cond {A = Option R} z None None
      go true = refl
      go false = refl

  pub settled_there : (k : K) → written k ≡ true → (v : Version K R) → and_then (settled order t stamp written v) (current_in order k) ≡ draft_record (draft_in order t k v)
  settled_there k w v = settled_current k v (λ h. cc) ∙ cond-true (written k) (draft_record (draft_in order t k v)) (current_in order k v) w

  pub settled_elsewhere : (k : K) → written k ≡ false → (v : Version K R) → draft_in order t k v ≡ None → and_then (settled order t stamp written v) (current_in order k) ≡ current_in order k v
  settled_elsewhere k w v n = settled_current k v (λ _. n) ∙ cond-false (written k) (draft_record (draft_in order t k v)) (current_in order k v) w

  pub settled_in_time : (before : ℕ) → stamp ≡ before + 1 → (v : Version K R) → InTime before v → AllByRecursion (InTime stamp) (listed (settled order t stamp written v))
  settled_in_time before e (draft i q d) h = go (eqb i t) d
    where
      go : (x : Bool) (d : Option R) → AllByRecursion (InTime stamp) (listed (cond x (option_map (λ r. committed q r stamp None) d) (Some (draft i q d))))
      go true None = tt
      go true (Some r) = (omega arith, tt)
      go false d = (tt, tt)
  settled_in_time before e (committed q r b None) h = go (written q)
    where
      go : (x : Bool) → AllByRecursion (InTime stamp) (committed q r b (when x stamp) ∷ [])
      go true = (omega arith, tt)
      go false = (omega arith, tt)
  settled_in_time before e (committed q r b (Some f)) h = (omega arith, tt)
