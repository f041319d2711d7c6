-- The write is `relinked` at the place, and nothing past the nodes.
use Rattle.std.proofs.Common.{◌≤◌, length, arith}
use Rattle.tree_index.proofs.Nodes.{relinked_is_set, relinked_past}
use Rattle.tree_index.proofs.node.relink.Goals as goal

pub returns-then-place-nodes : goal.returns-then-place-nodes
returns-then-place-nodes g c = record { after = rw c.from-place.ensures (relinked_is_set c.args.nodes.now c.args.place c.args.links c.index-nodes-place.result) }

pub returns-else-place-nodes : goal.returns-else-place-nodes
returns-else-place-nodes g c = let past : length c.args.nodes.now ≤ c.args.place = omega arith in record { after = relinked_past c.args.nodes.now c.args.place c.args.links past }
