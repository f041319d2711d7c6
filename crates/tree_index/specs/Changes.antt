-- What inserting a node and removing one make of the tree at a link.
-- Said of every tree that fits there, so that the code carries no tree along and a recursive call is used at a part.
use Rattle.std.specs.Prelude.{◌≡◌, ℕ, ◌≤◌, List, Some, None, Option, ◌≢◌}
use Rattle.std.specs.declared.cmp.Ordering.{Ordering}
use Rattle.tree_index.specs.declared.link.Links.{Links}
use Rattle.tree_index.specs.declared.link.Side.{Side}
use Rattle.tree_index.specs.declared.link.Side.TheVariants.{Left, Right}
use Rattle.tree_index.specs.declared.node.Node.{Node}
use Rattle.tree_index.specs.declared.remove.Min.{Min}
use Rattle.tree_index.specs.Layouts.{EachTreeAt, Lies}
use Rattle.tree_index.specs.Links.{child}
use Rattle.tree_index.specs.Nodes.{childless, keys}
use Rattle.tree_index.specs.Trees.{In, On, Ordered, Tree, fork, height, leaf}
use Rattle.std.specs.List.{slice_get}

-- where the tree was, the link leads to one in order that has the key at the number, or nowhere, and every other key as it was;
-- without the key it is no higher, no node has another key, and the nodes outside the tree are as they were
pub record Becomes {K : Type 0} (order : K → K → Ordering) (before after : List (Node K)) (t : Tree K) (link : Option ℕ) (key : K) (number : Option ℕ) : Type 0 where
  pub tree : Tree K
  pub lies : Lies after link tree
  pub ordered : Ordered order tree
  pub here : (n : ℕ) → (In tree n key → number ≡ Some n) × (number ≡ Some n → In tree n key)
  pub others : (n : ℕ) (k : K) → (key ≢ k) → (In tree n k → In t n k) × (In t n k → In tree n k)
  pub no_higher : number ≡ None → height tree ≤ height t
  pub same_keys : keys after ≡ keys before
  pub outside : (n : ℕ) → ((k : K) → In t n k → ⊥) → slice_get after n ≡ slice_get before n

-- the link leads to a node with the key and no children
abbrev pub Fresh : {K : Type 0} → List (Node K) → Option ℕ → K → Type 0
Fresh nodes new key = (place : ℕ) × (new ≡ Some place) × (slice_get nodes place ≡ Some (childless (Some key)))

-- a tree without the key becomes one with it, at the new node
abbrev pub Inserts : {K : Type 0} → (K → K → Ordering) → List (Node K) → List (Node K) → Option ℕ → K → Option ℕ → ℕ → Option ℕ → Type 0
Inserts order before after at key new depth link =
    Fresh before new key → EachTreeAt order before at depth (λ t. ((n : ℕ) → In t n key → ⊥) → Becomes order before after t link key new)

-- a tree becomes one without the key
abbrev pub Removes : {K : Type 0} → (K → K → Ordering) → List (Node K) → List (Node K) → Option ℕ → K → ℕ → Option ℕ → Type 0
Removes order before after at key depth link = EachTreeAt order before at depth (λ t. Becomes order before after t link key None)

-- the parts of a fork, which lie at its links, become the fork without its own key
abbrev pub Joins : {K : Type 0} → (K → K → Ordering) → List (Node K) → List (Node K) → Links → ℕ → Option ℕ → Type 0
Joins {K} order before after links depth link =
    (parts : Side → Tree K) (n : ℕ) (k : K) → Ordered order (fork parts n k) → ((side : Side) → Lies before (child links side) (parts side)) → height (parts Right) ≤ depth →
    Becomes order before after (fork parts n k) link k None

-- the node has the least key of the tree, and the tree becomes one without it; none where the tree is empty
abbrev pub LosesMin : {K : Type 0} → (K → K → Ordering) → List (Node K) → List (Node K) → Option Min → Tree K → Type 0
LosesMin order before after None t = (t ≡ leaf) × (after ≡ before)
LosesMin {K} order before after (Some least) t =
    (key : K) × In t least.place key × ((n : ℕ) (k : K) → In t n k → (key ≢ k) → On order Left key k) × Becomes order before after t least.rest key None
