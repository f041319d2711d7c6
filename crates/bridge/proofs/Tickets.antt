-- Open reports and rows by their running numbers: looked up, taken out, written over.
-- Where no two have the same number, what the table does to the first it finds is done to the only one, as the ledger says it.
use Rattle.std.proofs.Common.{◌≡◌, ℕ, Bool, true, false, cond, not, eqb, List, [], ◌∷◌, ◌++◌, map, Some, filter, Option, sym, refl, ap, ◌∙◌, subst}
use Rattle.std.specs.List.{AllByRecursion}
use Rattle.std.specs.Option.{option_map}
use Rattle.std.proofs.lemmas.Bool.{eqb-true, eqb-false, eq-eqb, ne_eqb}
use Rattle.ledger.specs.Words.{when, or_else, first}
use Rattle.table.specs.Lists.{with_ticket, without_ticket, replaced}
use Rattle.bridge.specs.Soundness.{Apart}

pub first_map : {X Y Z : Type 0} (g : Y → Option Z) (h : X → Y) (xs : List X) → first g (map h xs) ≡ first (λ x. g (h x)) xs
first_map g h [] = refl
first_map g h (x ∷ xs) = ap (or_else (g (h x))) (first_map g h xs)

module _ {X : Type 0} (number : X → ℕ) where
  -- what is told of the one that is looked up
  pub look_up : {Y : Type 0} (f : X → Y) (t : ℕ) (xs : List X) → first (λ x. when (eqb (number x) t) (f x)) xs ≡ option_map f (with_ticket number t xs)
  look_up f t [] = refl
  look_up {Y} f t (x ∷ xs) = go (eqb (number x) t) (look_up f t xs)
    where
      go : (b : Bool) → first (λ x. when (eqb (number x) t) (f x)) xs ≡ option_map f (with_ticket number t xs) → or_else (when b (f x)) (first (λ x. when (eqb (number x) t) (f x)) xs) ≡ option_map f (or_else (when b x) (with_ticket number t xs))
      go true i = refl
      go false i = i

  -- what holds of all holds of the one that was found, and its number is the one that was looked for
  pub found_one : (P : X → Type 0) (t : ℕ) (xs : List X) (x : X) → with_ticket number t xs ≡ Some x → AllByRecursion P xs → P x × (number x ≡ t)
  found_one P t [] x e a = cc
  found_one P t (y ∷ ys) x e a = go (eqb (number y) t) refl e (λ e'. found_one P t ys x e' a.1)
    where
      go : (b : Bool) → eqb (number y) t ≡ b → or_else (when b y) (with_ticket number t ys) ≡ Some x → (with_ticket number t ys ≡ Some x → P x × (number x ≡ t)) → P x × (number x ≡ t)
      go true eb e i = let ey : y ≡ x = cc in (subst P ey a.0, subst (λ z. number z ≡ t) ey (eqb-true (number y) t eb))
      go false eb e i = i e

  -- where no two have the same number, it is the only one with it
  pub only_one : (t : ℕ) (xs : List X) (x : X) → with_ticket number t xs ≡ Some x → Apart (map number xs) → AllByRecursion (λ y. number y ≡ t → y ≡ x) xs
  only_one t [] x e a = tt
  only_one t (y ∷ ys) x e a = go (eqb (number y) t) refl e (λ e'. only_one t ys x e' a.1)
    where
      none : (zs : List X) → AllByRecursion (λ z. number y ≡ z → ⊥) (map number zs) → number y ≡ t → AllByRecursion (λ z. number z ≡ t → z ≡ x) zs
      none [] b e = tt
      none (z ∷ zs) b e = (λ f. absurd (b.0 (e ∙ sym f)), none zs b.1 e)

      go : (b : Bool) → eqb (number y) t ≡ b → or_else (when b y) (with_ticket number t ys) ≡ Some x → (with_ticket number t ys ≡ Some x → AllByRecursion (λ z. number z ≡ t → z ≡ x) ys) → AllByRecursion (λ z. number z ≡ t → z ≡ x) (y ∷ ys)
      go true eb e i = (λ f. cc, none ys a.0 (eqb-true (number y) t eb))
      go false eb e i = (λ f. absurd (eqb-false (number y) t eb f), i e)

  abbrev pub others : ℕ → X → Bool
  others t x = not (eqb (number x) t)

  none_other : (t u : ℕ) (xs : List X) → u ≡ t → AllByRecursion (λ y. u ≡ y → ⊥) (map number xs) → filter (others t) xs ≡ xs
  none_other t u [] e a = refl
  none_other t u (x ∷ xs) e a = rw (ne_eqb (number x) t (λ z. a.0 (e ∙ sym z)), none_other t u xs e a.1)

  -- the one that is taken out is the only one with its number
  pub without_is : (t : ℕ) (xs : List X) → Apart (map number xs) → without_ticket number t xs ≡ filter (others t) xs
  without_is t [] a = refl
  without_is t (x ∷ xs) a = go (eqb (number x) t) refl (without_is t xs a.1)
    where
      go : (b : Bool) → eqb (number x) t ≡ b → without_ticket number t xs ≡ filter (others t) xs → cond b xs (x ∷ without_ticket number t xs) ≡ cond (not b) (x ∷ filter (others t) xs) (filter (others t) xs)
      go true e i = sym (none_other t (number x) xs (eqb-true (number x) t e) a.0)
      go false e i = ap (λ ys. x ∷ ys) i

  -- the others are found as before
  pub with_other : (t u : ℕ) (xs : List X) → (u ≡ t → ⊥) → with_ticket number u (filter (others t) xs) ≡ with_ticket number u xs
  with_other t u [] ne = refl
  with_other t u (x ∷ xs) ne = go (eqb (number x) t) refl (with_other t u xs ne)
    where
      go : (b : Bool) → eqb (number x) t ≡ b → with_ticket number u (filter (others t) xs) ≡ with_ticket number u xs → with_ticket number u (cond (not b) (x ∷ filter (others t) xs) (filter (others t) xs)) ≡ or_else (when (eqb (number x) u) x) (with_ticket number u xs)
      go true e i = rw (ne_eqb (number x) u (λ z. ne (sym z ∙ eqb-true (number x) t e))) i
      go false e i = ap (or_else (when (eqb (number x) u) x)) i

  -- none that stays has the number
  pub kept_others : (t : ℕ) (xs : List X) → AllByRecursion (λ x. number x ≡ t → ⊥) (filter (others t) xs)
  kept_others t [] = tt
  kept_others t (x ∷ xs) = go (eqb (number x) t) refl (kept_others t xs)
    where
      go : (b : Bool) → eqb (number x) t ≡ b → AllByRecursion (λ x. number x ≡ t → ⊥) (filter (others t) xs) → AllByRecursion (λ x. number x ≡ t → ⊥) (cond (not b) (x ∷ filter (others t) xs) (filter (others t) xs))
      go true e i = i
      go false e i = (eqb-false (number x) t e, i)

  -- y in the place of each that has the number
  abbrev pub over : ℕ → X → X → X
  over t y x = cond (eqb (number x) t) y x

  none_over : (t u : ℕ) (y : X) (xs : List X) → u ≡ t → AllByRecursion (λ z. u ≡ z → ⊥) (map number xs) → map (over t y) xs ≡ xs
  none_over t u y [] e a = refl
  none_over t u y (x ∷ xs) e a = rw (ne_eqb (number x) t (λ z. a.0 (e ∙ sym z)), none_over t u y xs e a.1)

  -- the one that is written over is the only one with its number
  pub replaced_is : (t : ℕ) (y : X) (xs : List X) → number y ≡ t → Apart (map number xs) → replaced number y xs ≡ map (over t y) xs
  replaced_is t y [] e a = refl
  replaced_is t y (x ∷ xs) e a = rw e (go (eqb (number x) t) refl (replaced_is t y xs e a.1))
    where
      go : (b : Bool) → eqb (number x) t ≡ b → replaced number y xs ≡ map (over t y) xs → cond b (y ∷ xs) (x ∷ replaced number y xs) ≡ cond b y x ∷ map (over t y) xs
      go true eb i = ap (λ ys. y ∷ ys) (sym (none_over t (number x) y xs (eqb-true (number x) t eb) a.0))
      go false eb i = ap (λ ys. x ∷ ys) i

  pub numbers_over : (t : ℕ) (y : X) (xs : List X) → number y ≡ t → map number (map (over t y) xs) ≡ map number xs
  numbers_over t y [] e = refl
  numbers_over t y (x ∷ xs) e = go (eqb (number x) t) refl (numbers_over t y xs e)
    where
      go : (b : Bool) → eqb (number x) t ≡ b → map number (map (over t y) xs) ≡ map number xs → number (cond b y x) ∷ map number (map (over t y) xs) ≡ number x ∷ map number xs
      go true eb i = rw (e, eqb-true (number x) t eb, i)
      go false eb i = ap (λ ys. number x ∷ ys) i

  pub with_over : (t : ℕ) (x y : X) (xs : List X) → number y ≡ t → with_ticket number t xs ≡ Some x → with_ticket number t (map (over t y) xs) ≡ Some y
  with_over t x y [] e f = cc
  with_over t x y (z ∷ zs) e f = go (eqb (number z) t) refl f (λ f'. with_over t x y zs e f')
    where
      go : (b : Bool) → eqb (number z) t ≡ b → or_else (when b z) (with_ticket number t zs) ≡ Some x → (with_ticket number t zs ≡ Some x → with_ticket number t (map (over t y) zs) ≡ Some y) → or_else (when (eqb (number (cond b y z)) t) (cond b y z)) (with_ticket number t (map (over t y) zs)) ≡ Some y
      go true eb f i = rw (eq-eqb (number y) t e)
      go false eb f i = rw eb (i f)

  pub with_other_over : (t u : ℕ) (y : X) (xs : List X) → number y ≡ t → (u ≡ t → ⊥) → with_ticket number u (map (over t y) xs) ≡ with_ticket number u xs
  with_other_over t u y [] e ne = refl
  with_other_over t u y (x ∷ xs) e ne = go (eqb (number x) t) refl (with_other_over t u y xs e ne)
    where
      go : (b : Bool) → eqb (number x) t ≡ b → with_ticket number u (map (over t y) xs) ≡ with_ticket number u xs → or_else (when (eqb (number (cond b y x)) u) (cond b y x)) (with_ticket number u (map (over t y) xs)) ≡ or_else (when (eqb (number x) u) x) (with_ticket number u xs)
      go true eb i = rw (ne_eqb (number y) u (λ z. ne (sym z ∙ e)), ne_eqb (number x) u (λ z. ne (sym z ∙ eqb-true (number x) t eb))) i
      go false eb i = ap (or_else (when (eqb (number x) u) x)) i

  -- one that is found is found where more follow
  pub with_more : (t : ℕ) (xs ys : List X) (x : X) → with_ticket number t xs ≡ Some x → with_ticket number t (xs ++ ys) ≡ Some x
  with_more t [] ys x e = cc
  with_more t (z ∷ zs) ys x e = go (eqb (number z) t) e (λ e'. with_more t zs ys x e')
    where
      go : (b : Bool) → or_else (when b z) (with_ticket number t zs) ≡ Some x → (with_ticket number t zs ≡ Some x → with_ticket number t (zs ++ ys) ≡ Some x) → or_else (when b z) (with_ticket number t (zs ++ ys)) ≡ Some x
      go true e i = e
      go false e i = i e
