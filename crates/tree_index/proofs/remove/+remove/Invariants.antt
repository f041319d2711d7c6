use Rattle.tree_index.proofs.remove.+remove.Given as goal

-- the nodes that a way down may still have
abbrev pub decreases-remove : goal.decreases-remove
decreases-remove g l = l.depth
