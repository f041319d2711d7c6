-- What the engine promises of the call gives the law; the ticket goes with the answer.
use Rattle.std.proofs.Common.{sym, ap}
use Rattle.ledger.specs.declared.call.Call.TheVariants.{Basic}
use Rattle.ledger.specs.declared.call.BasicCall.TheVariants.{Commit}
use Rattle.ledger.specs.declared.answer.Granted.TheVariants.{Stamp}
use Rattle.store.specs.Law.{no_shelf}
use Rattle.store.proofs.Answered.{same_answer}
use Rattle.store.proofs.Called.{commit_promised}
use Rattle.store.proofs.typed.commit_job.Goals as goal

pub returns-clause-law : goal.returns-clause-law
returns-clause-law g c =
    (commit_promised g.met.I.Key.Key.total c.args.store.now c.commit-ended.new.self (no_shelf g.row.R.Denot) c.id.result _ _ c.commit-ended.result (ap (λ t. Basic (Commit t)) (sym c.id.ensures.answer))
    (same_answer (λ s. Stamp s) c.args.ticket c.commit-ended.result c.settle.result c.settle.ensures.answer) c.commit-ended.ensures.answer c.commit-ended.ensures.after c.commit-ended.ensures.unchanged).law
