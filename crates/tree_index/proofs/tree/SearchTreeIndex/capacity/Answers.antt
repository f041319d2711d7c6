-- As many slots as nodes.
use Rattle.std.proofs.Common.{sym}
use Rattle.tree_index.proofs.Nodes.{slots_long}
use Rattle.tree_index.proofs.Soundness.{held_room}
use Rattle.tree_index.proofs.tree.SearchTreeIndex.capacity.Goals as goal

pub returns : goal.returns
returns g c = record { answer = sym (slots_long _ (held_room g.K.Key.order g.met.K.Key.total _ _ c.args.self.now.sound)) }
