-- Cases on how one key stands to another, with what the case says in hand.
use Rattle.std.proofs.Common.{◌≡◌, Ordering, Less, Equal, Greater, refl}
use Rattle.keys.specs.Orders.{ranked}

pub ranked_by : {X : Type 0} (P : X → Type 0) (o : Ordering) (a b c : X) → (o ≡ Less → P a) → (o ≡ Equal → P b) → (o ≡ Greater → P c) → P (ranked o a b c)
ranked_by P Less a b c f g h = f refl
ranked_by P Equal a b c f g h = g refl
ranked_by P Greater a b c f g h = h refl

-- where less and greater come to the same
pub equal_or_not : {X : Type 0} (P : X → Type 0) (o : Ordering) (a b : X) → (o ≡ Equal → P a) → ((o ≡ Equal → ⊥) → P b) → P (ranked o b a b)
equal_or_not P o a b f g =
    ranked_by P o b a b (λ e. g (λ q. cc)) f (λ e. g (λ q. cc))
