-- What the engine promises of the call gives the law; the ticket goes with the answer.
use Rattle.std.proofs.Common.{Ok, refl, ap, ◌∙◌}
use Rattle.ledger.specs.declared.call.Call.TheVariants.{Basic}
use Rattle.ledger.specs.declared.call.BasicCall.TheVariants.{BeginJob}
use Rattle.ledger.specs.declared.answer.Granted.TheVariants.{Job}
use Rattle.store.specs.Law.{no_shelf}
use Rattle.store.proofs.Answered.{granted_answer, refused_answer}
use Rattle.store.proofs.Called.{begin_job_promised}
use Rattle.store.proofs.typed.begin_job.Goals as goal

pub returns-in_err-begin_job : goal.returns-in_err-begin_job
returns-in_err-begin_job g c = record {
  law = (begin_job_promised g.met.I.Key.Key.total c.args.store.now c.begin_job.new.self (no_shelf g.row.R.Denot) (Basic BeginJob) _ c.begin_job.result refl
      (refused_answer (λ t. Job t) (λ t. Job t.id) c.begin_job.result c.from_residual.result _ c.in_err-begin_job.was c.from_residual.ensures.1) c.begin_job.ensures.answer c.begin_job.ensures.after c.begin_job.ensures.index).law;
}

pub returns : goal.returns
returns g c = record {
  law = (begin_job_promised g.met.I.Key.Key.total c.args.store.now c.begin_job.new.self (no_shelf g.row.R.Denot) (Basic BeginJob) _ c.begin_job.result refl
      (ap (λ t. Ok (Job t)) c.issue.ensures.answer ∙ granted_answer (λ t. Job t) c.begin_job.result _ c.in_ok-begin_job.was) c.begin_job.ensures.answer c.begin_job.ensures.after c.begin_job.ensures.index).law;
}
