-- Sides, and the two links of a node: each the place of the node that it leads to, or none.
use Rattle.std.specs.Prelude.{ℕ, Some, None, Option}
use Rattle.std.specs.declared.cmp.Ordering.TheVariants.{Less, Equal, Greater}
use Rattle.std.specs.declared.cmp.Ordering.{Ordering}
use Rattle.tree_index.specs.declared.link.Links.{Links}
use Rattle.tree_index.specs.declared.link.Side.{Side}
use Rattle.tree_index.specs.declared.link.Side.TheVariants.{Left, Right}

-- the most keys that a tree holds, and the most nodes that it uses
abbrev pub max_keys : ℕ
max_keys = 512

-- on which side of a node a key belongs, by how it compares with the node's key; none where they are equal
abbrev pub side_of : Ordering → Option Side
side_of Less = Some Left
side_of Equal = None
side_of Greater = Some Right

-- the link on a side
abbrev pub child : Links → Side → Option ℕ
child links Left = links.left
child links Right = links.right

-- the links with another one on a side
abbrev pub with_child : Links → Side → Option ℕ → Links
with_child links Left link = record { left = link; right = links.right }
with_child links Right link = record { left = links.left; right = link }
