-- What the engine promises of the call gives the law; the ticket goes with the answer.
use Rattle.std.proofs.Common.{Ok, refl, ap, ◌∙◌}
use Rattle.ledger.specs.declared.call.Call.TheVariants.{Basic}
use Rattle.ledger.specs.declared.call.BasicCall.TheVariants.{BeginReport}
use Rattle.ledger.specs.declared.answer.Granted.TheVariants.{Report}
use Rattle.store.specs.Law.{no_shelf}
use Rattle.store.proofs.Answered.{granted_answer, refused_answer}
use Rattle.store.proofs.Called.{begin_report_promised}
use Rattle.store.proofs.typed.begin_report.Goals as goal

pub returns-in_err-id : goal.returns-in_err-id
returns-in_err-id g c = record {
  law = (begin_report_promised g.met.I.Key.Key.total c.args.store.now c.begin_report.new.self (no_shelf g.row.R.Denot) (Basic BeginReport) _ c.begin_report.result refl
      (refused_answer (λ p. Report p.0 p.1) (λ p. Report p.0.id p.1) c.begin_report.result c.from_residual.result _ c.in_err-id.was c.from_residual.ensures.1) c.begin_report.ensures.answer c.begin_report.ensures.after c.begin_report.ensures.index).law;
}

pub returns : goal.returns
returns g c = record {
  law = (begin_report_promised g.met.I.Key.Key.total c.args.store.now c.begin_report.new.self (no_shelf g.row.R.Denot) (Basic BeginReport) _ c.begin_report.result refl
      (ap (λ t. Ok (Report t c.in_ok-id.stamp)) c.issue.ensures.answer ∙ granted_answer (λ p. Report p.0 p.1) c.begin_report.result _ c.in_ok-id.was) c.begin_report.ensures.answer c.begin_report.ensures.after c.begin_report.ensures.index).law;
}
