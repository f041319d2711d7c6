use Rattle.std.proofs.Common.{rules}
use Rattle.bucket_index.proofs.Chains.{passed_more, passed_end, passed_found}
use Rattle.bucket_index.proofs.chain.seek.Goals as goal

pub loop-step-preserved : goal.loop-step-preserved
loop-step-preserved g c = passed_more _ _ _ _ _ c.in_ok-cell.cell c.loop-step.invariant (search rules) (search rules)

pub returns-in_err-cell : goal.returns-in_err-cell
returns-in_err-cell g c = record { answer = passed_end _ _ _ _ _ c.from_residual.result c.loop-step.invariant (search rules) (search rules) }

pub returns-then-wanted : goal.returns-then-wanted
returns-then-wanted g c = record { answer = passed_found _ _ _ _ _ c.in_ok-cell.cell c.loop-step.invariant (search rules) (search rules) }
