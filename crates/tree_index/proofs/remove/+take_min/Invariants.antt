use Rattle.tree_index.proofs.remove.+take_min.Given as goal

-- the nodes that a way down may still have
abbrev pub decreases-take_min : goal.decreases-take_min
decreases-take_min g l = l.depth
