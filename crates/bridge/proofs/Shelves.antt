-- The store's own shelf, where a call was handed one.
use Rattle.std.proofs.Common.{◌≡◌, Bool, true, false, cond, eqb, List, length, sym, refl, ap, ◌∙◌}
use Rattle.std.proofs.lemmas.Bool.{eqb-true, eqb-false, eq-eqb}
use Rattle.bridge.specs.Shelves.{Own, kept}

-- a call that leaves the shelf as it was handed
pub kept_same : {R : Type 0} (own handed : List R) → Own own handed → kept own handed handed ≡ own
kept_same {R} own handed w = go (eqb (length handed) (length own)) refl
  where
    go : (b : Bool) → eqb (length handed) (length own) ≡ b → cond b handed own ≡ own
    go true e = w (eqb-true (length handed) (length own) e)
    go false e = refl

-- a call that was handed the store's own shelf
pub kept_own : {R : Type 0} (own handed left : List R) → length handed ≡ length own → kept own handed left ≡ left
kept_own own handed left e = rw (eq-eqb (length handed) (length own) e)

-- the next call may be handed the same shelf again
pub own_kept : {R : Type 0} (own handed left : List R) → ((length handed ≡ length own → ⊥) → left ≡ handed) → Own (kept own handed left) left
own_kept {R} own handed left alone = go (eqb (length handed) (length own)) refl
  where
    go : (b : Bool) → eqb (length handed) (length own) ≡ b → length left ≡ length (cond b left own) → left ≡ cond b left own
    go true e h = refl
    go false e h =
        let ne : length handed ≡ length own → ⊥ = eqb-false (length handed) (length own) e in
        absurd (ne (ap length (sym (alone ne)) ∙ h))
