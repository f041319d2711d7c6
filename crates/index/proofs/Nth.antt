-- What stands at a place of a list, as an option: in a list with one place set, and in a mapped list.
use Rattle.std.proofs.Common.{◌≡◌, ℕ, zero, suc, ◌<◌, List, [], ◌∷◌, map, length, set, Some, refl, ap, arith}
use Rattle.std.specs.List.{slice_get}

pub nth_set_same : {X : Type 0} (xs : List X) (n : ℕ) (x : X) → n < length xs → slice_get (set xs n x) n ≡ Some x
nth_set_same [] n x h = absurd (omega arith)
nth_set_same (y ∷ ys) zero x h = refl
nth_set_same (y ∷ ys) (suc n) x h = nth_set_same ys n x (omega arith)

pub nth_set_other : {X : Type 0} (xs : List X) (n m : ℕ) (x : X) → (m ≡ n → ⊥) → slice_get (set xs n x) m ≡ slice_get xs m
nth_set_other [] n m x h = refl
nth_set_other (y ∷ ys) zero zero x h = absurd (h refl)
nth_set_other (y ∷ ys) zero (suc m) x h = refl
nth_set_other (y ∷ ys) (suc n) zero x h = refl
nth_set_other (y ∷ ys) (suc n) (suc m) x h = nth_set_other ys n m x (λ e. h (ap suc e))

pub nth_map : {X Y : Type 0} (f : X → Y) (xs : List X) (n : ℕ) (x : X) → slice_get xs n ≡ Some x → slice_get (map f xs) n ≡ Some (f x)
nth_map f [] n x e = cc
nth_map f (y ∷ ys) zero x e = let h : y ≡ x = cc in ap (λ z. Some (f z)) h
nth_map f (y ∷ ys) (suc n) x e = nth_map f ys n x e

-- what stands in the mapped list comes from what stood in the list
pub nth_unmap : {X Y : Type 0} (f : X → Y) (xs : List X) (n : ℕ) (y : Y) → slice_get (map f xs) n ≡ Some y → (x : X) × (slice_get xs n ≡ Some x) × (f x ≡ y)
nth_unmap f [] n y e = cc
nth_unmap f (x ∷ xs) zero y e = (x, refl, cc)
nth_unmap f (x ∷ xs) (suc n) y e = nth_unmap f xs n y e
