use Rattle.bucket_index.proofs.Chains.{Passed}
use Rattle.bucket_index.proofs.chain.seek.Given as goal

-- the link is the one after so many steps, and no cell before it is wanted
abbrev pub invariant-loop-step : goal.invariant-loop-step
invariant-loop-step g l = Passed (goal.F-post g l.wanted) l.cells l.initial.at l.at l._step
