-- What the engine promises of the call gives the law; the ticket goes with the answer.
use Rattle.std.proofs.Common.{sym, ap}
use Rattle.ledger.specs.declared.call.Call.TheVariants.{Basic}
use Rattle.ledger.specs.declared.call.BasicCall.TheVariants.{End}
use Rattle.ledger.specs.declared.answer.Granted.TheVariants.{Done}
use Rattle.store.specs.Law.{no_shelf}
use Rattle.store.proofs.Answered.{same_answer}
use Rattle.store.proofs.Called.{end_promised}
use Rattle.store.proofs.typed.end_report.Goals as goal

pub returns-clause-law : goal.returns-clause-law
returns-clause-law g c =
    (end_promised g.met.I.Key.Key.total c.args.store.now c.end-ended.new.self (no_shelf g.row.R.Denot) c.id.result _ _ c.end-ended.result (ap (λ t. Basic (End t)) (sym c.id.ensures.answer))
    (same_answer (λ u. Done) c.args.ticket c.end-ended.result c.settle.result c.settle.ensures.answer) c.end-ended.ensures.answer c.end-ended.ensures.after c.end-ended.ensures.index).law
