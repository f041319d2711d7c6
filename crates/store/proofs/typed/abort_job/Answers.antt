-- What the engine promises of the call gives the law; the ticket goes with the answer.
use Rattle.std.proofs.Common.{sym, ap}
use Rattle.ledger.specs.declared.call.Call.TheVariants.{Basic}
use Rattle.ledger.specs.declared.call.BasicCall.TheVariants.{Abort}
use Rattle.ledger.specs.declared.answer.Granted.TheVariants.{Done}
use Rattle.store.specs.Law.{no_shelf}
use Rattle.store.proofs.Answered.{same_answer}
use Rattle.store.proofs.Called.{abort_promised}
use Rattle.store.proofs.typed.abort_job.Goals as goal

pub returns-clause-law : goal.returns-clause-law
returns-clause-law g c =
    (abort_promised g.met.I.Key.Key.total c.args.store.now c.abort-ended.new.self (no_shelf g.row.R.Denot) c.id.result _ _ c.abort-ended.result (ap (λ t. Basic (Abort t)) (sym c.id.ensures.answer))
    (same_answer (λ u. Done) c.args.ticket c.abort-ended.result c.settle.result c.settle.ensures.answer) c.abort-ended.ensures.answer c.abort-ended.ensures.after c.abort-ended.ensures.unchanged).law
