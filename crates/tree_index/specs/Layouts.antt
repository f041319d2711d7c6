-- How a tree lies in nodes, and when nodes with a root are sound.
-- Soundness is an invariant of the tree: `new` and `emptied` give it, and every call keeps it.
use Rattle.std.specs.Prelude.{◌≡◌, ℕ, ◌≤◌, List, length, Some, None, Option}
use Rattle.std.specs.declared.cmp.Ordering.{Ordering}
use Rattle.index.specs.Slots.{Maps, count_of, number_of}
use Rattle.tree_index.specs.declared.link.Links.{Links}
use Rattle.tree_index.specs.declared.link.Side.{Side}
use Rattle.tree_index.specs.declared.node.Node.{Node}
use Rattle.tree_index.specs.declared.root.Root.{Root}
use Rattle.tree_index.specs.Links.{child, max_keys}
use Rattle.tree_index.specs.Nodes.{slots_in}
use Rattle.tree_index.specs.Trees.{In, Ordered, Tree, fork, height, leaf}
use Rattle.std.specs.List.{slice_get}

-- the link leads to the tree: nowhere to the empty one, to a fork by its node, whose links lead to the parts
abbrev pub Lies : {K : Type 0} → List (Node K) → Option ℕ → Tree K → Type 0
Lies nodes at leaf = at ≡ None
Lies nodes at (fork parts n k) =
    (at ≡ Some n) × (links : Links) × (slice_get nodes n ≡ Some (record { key = Some k; links = links })) × ((side : Side) → Lies nodes (child links side) (parts side))

-- the link leads to the tree, which is in order and has at most so many nodes on a way down
pub record Fits {K : Type 0} (order : K → K → Ordering) (nodes : List (Node K)) (at : Option ℕ) (t : Tree K) (depth : ℕ) : Type 0 where
  pub lies : Lies nodes at t
  pub ordered : Ordered order t
  pub low : height t ≤ depth

-- so it is of every tree that fits at the link
abbrev pub EachTreeAt : {K : Type 0} → (K → K → Ordering) → List (Node K) → Option ℕ → ℕ → (Tree K → Type 0) → Type 0
EachTreeAt {K} order nodes at depth So = (t : Tree K) → Fits order nodes at t depth → So t

-- a tree in order lies at the root and holds every key that has a number, and the root's count is theirs
pub record Sound {K : Type 0} (order : K → K → Ordering) (nodes : List (Node K)) (root : Root) : Type 0 where
  pub tree : Tree K
  pub lies : Lies nodes root.link tree
  pub ordered : Ordered order tree
  pub all : (n : ℕ) (key : K) → Maps (slots_in nodes) n key → In tree n key
  pub counted : root.count ≡ count_of (slots_in nodes)
  pub room : length nodes ≤ max_keys

-- the nodes are sound, the number is free, and the key has no number
pub record Addable {K : Type 0} (order : K → K → Ordering) (nodes : List (Node K)) (root : Root) (key : K) (number : ℕ) : Type 0 where
  pub sound : ∥ Sound order nodes root ∥₁
  pub unused : slice_get (slots_in nodes) number ≡ Some None
  pub new : None ≡ number_of order (slots_in nodes) key

-- the nodes are sound, and the key has the number
pub record Discardable {K : Type 0} (order : K → K → Ordering) (nodes : List (Node K)) (root : Root) (key : K) (number : ℕ) : Type 0 where
  pub sound : ∥ Sound order nodes root ∥₁
  pub has : Maps (slots_in nodes) number key
