use Rattle.std.proofs.Common.{length}
use Rattle.tree_index.proofs.Lookups.{Finds, OnTheWay, reach}
use Rattle.tree_index.proofs.tree.SearchTreeIndex.find.Given as goal

-- what answers for the tree at the link answers for the whole
abbrev pub invariant-loop-found : goal.invariant-loop-found
invariant-loop-found g l = OnTheWay g.K.Key.order l.self.nodes.now l.initial.at l.at (Finds l.key) (λ found. found)

-- what is left of the way
abbrev pub decreases-loop-found : goal.decreases-loop-found
decreases-loop-found g l = reach l.self.nodes.now (length l.self.nodes.now) l.at
