-- Nodes: the slots that they stand for, what a link leads to, and what a write leaves.
-- Nothing here speaks of trees: these are the words for single reads and writes, true on any memory.
use Rattle.std.specs.Prelude.{◌≡◌, ℕ, zero, suc, List, [], ◌∷◌, map, take, Some, None, Option, ◌≢◌}
use Rattle.tree_index.specs.declared.link.Links.{Links}
use Rattle.tree_index.specs.declared.node.Found.{Found}
use Rattle.tree_index.specs.declared.node.Node.{Node}
use Rattle.tree_index.specs.Links.{max_keys}
use Rattle.std.specs.List.{slice_get}

-- a node with the key, or none, and no children
abbrev pub childless : {K : Type 0} → Option K → Node K
childless key = record { key = key; links = record { left = None; right = None } }

-- for each place the key of its node, or none
abbrev pub keys : {K : Type 0} → List (Node K) → List (Option K)
keys nodes = map (λ node. node.key) nodes

-- the slots of a tree in the nodes: the node of a number lies at that place, and nodes past the most that a tree uses have no number
abbrev pub slots_in : {K : Type 0} → List (Node K) → List (Option K)
slots_in nodes = keys (take max_keys nodes)

-- what the link leads to: a node with a key, or none where there is no such node
abbrev pub Leads : {K : Type 0} → List (Node K) → Option ℕ → Option (Found K) → Type 0
Leads {K} nodes at None = (place : ℕ) (key : K) (links : Links) → at ≡ Some place → slice_get nodes place ≢ Some (record { key = Some key; links = links })
Leads nodes at (Some found) = (at ≡ Some found.place) × (slice_get nodes found.place ≡ Some (record { key = Some found.key; links = found.links }))

-- the nodes with other links at a place
abbrev pub relinked : {K : Type 0} → List (Node K) → ℕ → Links → List (Node K)
relinked [] place links = []
relinked (node ∷ nodes) zero links = record { key = node.key; links = links } ∷ nodes
relinked (node ∷ nodes) (suc place) links = node ∷ relinked nodes place links
