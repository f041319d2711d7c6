use Rattle.std.proofs.Common.{length}
use Rattle.tree_index.proofs.Lookups.{LeastIn, OnTheWay, or_else, reach}
use Rattle.tree_index.proofs.tree.SearchTree.least_beyond.Given as goal

-- what answers for the tree at the link, or else the best so far, answers for the whole
abbrev pub invariant-loop-found : goal.invariant-loop-found
invariant-loop-found g l = OnTheWay g.K.Key.order l.self.nodes.now l.initial.at l.at (LeastIn g.K.Key.order l.given) (λ least. or_else least l.best)

-- what is left of the way
abbrev pub decreases-loop-found : goal.decreases-loop-found
decreases-loop-found g l = reach l.self.nodes.now (length l.self.nodes.now) l.at
