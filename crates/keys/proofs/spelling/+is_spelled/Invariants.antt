use Rattle.keys.proofs.spelling.+is_spelled.Given as goal

-- the characters that are left
abbrev pub decreases-is_spelled : goal.decreases-is_spelled
decreases-is_spelled l = l.characters
