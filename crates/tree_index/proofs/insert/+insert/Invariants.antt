use Rattle.tree_index.proofs.insert.+insert.Given as goal

-- the nodes that a way down may still have
abbrev pub decreases-insert : goal.decreases-insert
decreases-insert g l = l.depth
