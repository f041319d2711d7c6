-- What a search of a list found: the position of an element that passes the test, or none where no element passes.
use Rattle.std.proofs.Common.{◌≡◌, ℕ, ◌≤◌, Bool, true, false, cond, ltb, List, [], ◌∷◌, length, Some, None, Option, sym, refl, arith}
use Rattle.std.specs.Fn.{Called, Mut}
use Rattle.std.specs.Iterator.{FindsPosition}
use Rattle.std.specs.List.{find, position as first_position, position_or_len}
use Rattle.std.specs.Option.{option_map}
use Rattle.std.proofs.lemmas.Iterator.{YieldsList}
use Rattle.std.proofs.lemmas.Iterator.Search.{position_from_yields_List}
use Rattle.std.proofs.lemmas.List.Folds.{list_any_none}
use Rattle.std.proofs.lemmas.List.Quantifiers.{position-Some}
use Rattle.std.proofs.lemmas.List.Sums.{fails_before_first}
use Rattle.ledger.specs.Words.{first, or_else, when}
use Rattle.table.specs.Lists.{Finds}

pub none_past : (n m : ℕ) → ◌≡◌ {A = Option ℕ} None (cond (ltb n m) (Some n) None) → m ≤ n
none_past n m e = grind arith

pub finds_position : {X : Type 0} (d : X) (test : X → Bool) (xs : List X) (r : Option ℕ) → r ≡ first_position test xs → Finds d test xs r
finds_position d test xs None e =
    let past : length xs ≤ position_or_len test xs = none_past _ _ e in
    list_any_none test xs (λ k x below. fails_before_first test xs k x (omega arith))
finds_position d test xs (Some n) e = let found = position-Some test xs n d (sym e) in (found.0, found.1)

-- the same of what `position` answers at an iterator over the list
pub finds_from_position : {S A X F : Type 0} {steps : S → Option A → S → Type 0} {v : A → X} {g : Mut F (A × Unit {0}) Bool} {s : S} {xs : List X} (d : X) (test : X → Bool) (u : S) (f : F) (r : Option ℕ) →
    FindsPosition steps g s f r u → YieldsList steps v s xs → ((x : A) (b : Bool) (q : F) → Called g f (x, tt) b q → (q ≡ f) × (b ≡ test (v x))) → Finds d test xs r
finds_from_position {xs} d test u f r ran yields tells = finds_position d test xs r (position_from_yields_List test u f r ran yields tells)

-- what f tells of the first element that passes
pub first_when : {X Y : Type 0} (test : X → Bool) (f : X → Y) (xs : List X) → first (λ x. when (test x) (f x)) xs ≡ option_map f (find test xs)
first_when test f [] = refl
first_when test f (x ∷ xs) =
    elim (test x) as (λ b. or_else (when b (f x)) (first (λ y. when (test y) (f y)) xs) ≡ option_map f (cond b (Some x) (find test xs))) [ true ↦ refl | false ↦ first_when test f xs ]
