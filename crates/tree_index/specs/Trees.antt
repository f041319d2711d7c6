-- Search trees as such: what stands in a tree, its height, and when it is in order.
-- Left and right are said once: the parts of a tree are a function of the side.
use Rattle.std.specs.Prelude.{◌≡◌, ℕ, suc, max, ◌⊎◌}
use Rattle.std.specs.declared.cmp.Ordering.TheVariants.{Less}
use Rattle.std.specs.declared.cmp.Ordering.{Ordering}
use Rattle.tree_index.specs.declared.link.Side.{Side}
use Rattle.tree_index.specs.declared.link.Side.TheVariants.{Left, Right}

-- a number with its key between two trees, or nothing
pub data Tree (K : Type 0) : Type 0 where
  leaf : Tree K
  fork : (Side → Tree K) → ℕ → K → Tree K

-- the number with the key stands in the tree
abbrev pub In : {K : Type 0} → Tree K → ℕ → K → Type 0
In leaf n key = ⊥
In (fork parts m k) n key = ((m ≡ n) × (k ≡ key)) ⊎ ((side : Side) × In (parts side) n key)

-- the most nodes on one way down
abbrev pub height : {K : Type 0} → Tree K → ℕ
height leaf = 0
height (fork parts n k) = suc (max (height (parts Left)) (height (parts Right)))

-- the first key belongs on the side of the second
abbrev pub On : {K : Type 0} → (K → K → Ordering) → Side → K → K → Type 0
On order Left key k = order key k ≡ Less
On order Right key k = order k key ≡ Less

-- all that stands in a part belongs on its side
abbrev pub Ordered : {K : Type 0} → (K → K → Ordering) → Tree K → Type 0
Ordered order leaf = Unit {0}
Ordered {K} order (fork parts n k) = (side : Side) → ((m : ℕ) (key : K) → In (parts side) m key → On order side key k) × Ordered order (parts side)
