-- Both sides at once: two parts with one of them changed, and on which side a key belongs.
-- A key belongs on one side of another at most, so what is found on two sides is found on one.
use Rattle.std.proofs.Common.{◌≡◌, ℕ, ◌⊎◌, Some, None, Option, Ordering, Less, Equal, Greater, sym, refl, subst, inl, inr}
use Rattle.index.proofs.Orders.{less_apart, not_both_less}
use Rattle.keys.specs.Orders.{Total}
use Rattle.tree_index.specs.declared.link.Links.{Links}
use Rattle.tree_index.specs.declared.link.Side.{Side}
use Rattle.tree_index.specs.declared.link.Side.TheVariants.{Left, Right}
use Rattle.tree_index.specs.Links.{side_of, child, with_child}
use Rattle.tree_index.specs.Trees.{On}

-- the parts with another one on a side
abbrev pub with_part : {X : Type 0} → (Side → X) → Side → X → Side → X
with_part parts Left x Left = x
with_part parts Left x Right = parts Right
with_part parts Right x Left = parts Left
with_part parts Right x Right = x

-- what holds of the new part and of the other old one holds of each
pub each_part : {X : Type 0} (P : Side → Option ℕ → X → Type 0) (links : Links) (parts : Side → X) (side : Side) (link : Option ℕ) (x : X) →
    P side link x → ((s : Side) → (s ≡ side → ⊥) → P s (child links s) (parts s)) → (s : Side) → P s (child (with_child links side link) s) (with_part parts side x s)
each_part P links parts Left link x new old Left = new
each_part P links parts Left link x new old Right = old Right (λ e. cc)
each_part P links parts Right link x new old Left = old Left (λ e. cc)
each_part P links parts Right link x new old Right = new

pub new_part : {X : Type 0} (parts : Side → X) (side : Side) (x : X) → x ≡ with_part parts side x side
new_part parts Left x = refl
new_part parts Right x = refl

pub same_side : (s side : Side) → (s ≡ side) ⊎ (s ≡ side → ⊥)
same_side Left Left = inl refl
same_side Left Right = inr (λ e. cc)
same_side Right Left = inr (λ e. cc)
same_side Right Right = inl refl

module _ {K : Type 0} (order : K → K → Ordering) (total : Total order) where
  pub one_side : (s side : Side) (key k : K) → On order s key k → On order side key k → s ≡ side
  one_side Left Left key k a b = refl
  one_side Left Right key k a b = absurd (not_both_less order total key k a b)
  one_side Right Left key k a b = absurd (not_both_less order total k key a b)
  one_side Right Right key k a b = refl

  pub side_apart : (side : Side) (key k : K) → On order side key k → key ≡ k → ⊥
  side_apart Left key k a e = less_apart order total key k a e
  side_apart Right key k a e = less_apart order total k key a (sym e)

  -- the side that a comparison tells
  pub side_told : (side : Side) (key k : K) (o : Ordering) → Some side ≡ side_of o → o ≡ order key k → On order side key k
  side_told side key k Less e is = let left : Left ≡ side = cc in subst (λ (s : Side). On order s key k) left (sym is)
  side_told side key k Equal e is = cc
  side_told side key k Greater e is = let right : Right ≡ side = cc in subst (λ (s : Side). On order s key k) right (total.back key k (sym is))

  pub none_told : (key k : K) (o : Ordering) → None ≡ side_of o → o ≡ order key k → key ≡ k
  none_told key k Less e is = cc
  none_told key k Equal e is = total.same key k (sym is)
  none_told key k Greater e is = cc
