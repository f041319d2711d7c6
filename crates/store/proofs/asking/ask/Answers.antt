-- Each arm is one call of the store: what the engine promises of it gives what is promised of the call, refused and granted.
use Rattle.std.proofs.Common.{refl, ap}
use Rattle.ledger.specs.declared.call.Call.TheVariants.{Basic}
use Rattle.ledger.specs.declared.answer.Granted.TheVariants.{Report, Job, Record, Stamp}
use Rattle.store.proofs.Answered.{done_answer, granted_answer, refused}
use Rattle.store.proofs.Called.{begin_report_promised, begin_job_promised, end_promised, commit_promised, abort_promised, age_promised, remove_promised, put_promised, look_promised, read_promised}
use Rattle.store.proofs.asking.ask.Goals as goal

pub returns-in_err-ticket-in-BeginReport : goal.returns-in_err-ticket-in-BeginReport
returns-in_err-ticket-in-BeginReport g c =
    begin_report_promised g.met.I.Key.Key.total c.args.store.now c.begin_report.new.self c.args.shelf.now _ _ c.begin_report.result (ap Basic c.in-BeginReport.is)
    (refused (λ p. Report p.0 p.1) c.begin_report.result c.from_residual.result _ c.in_err-ticket-in-BeginReport.was c.from_residual.ensures.1) c.begin_report.ensures.answer c.begin_report.ensures.after c.begin_report.ensures.index

pub returns-in_ok-ticket-in-BeginReport : goal.returns-in_ok-ticket-in-BeginReport
returns-in_ok-ticket-in-BeginReport g c =
    begin_report_promised g.met.I.Key.Key.total c.args.store.now c.begin_report.new.self c.args.shelf.now _ _ c.begin_report.result (ap Basic c.in-BeginReport.is)
    (granted_answer (λ p. Report p.0 p.1) c.begin_report.result _ c.in_ok-ticket-in-BeginReport.was) c.begin_report.ensures.answer c.begin_report.ensures.after c.begin_report.ensures.index

pub returns-in_err-ticket-in-BeginJob : goal.returns-in_err-ticket-in-BeginJob
returns-in_err-ticket-in-BeginJob g c =
    begin_job_promised g.met.I.Key.Key.total c.args.store.now c.begin_job.new.self c.args.shelf.now _ _ c.begin_job.result (ap Basic c.in-BeginJob.is)
    (refused (λ t. Job t) c.begin_job.result c.from_residual-in_err-ticket-in-BeginJob.result _ c.in_err-ticket-in-BeginJob.was c.from_residual-in_err-ticket-in-BeginJob.ensures.1) c.begin_job.ensures.answer c.begin_job.ensures.after c.begin_job.ensures.index

pub returns-in_ok-ticket-in-BeginJob : goal.returns-in_ok-ticket-in-BeginJob
returns-in_ok-ticket-in-BeginJob g c =
    begin_job_promised g.met.I.Key.Key.total c.args.store.now c.begin_job.new.self c.args.shelf.now _ _ c.begin_job.result (ap Basic c.in-BeginJob.is)
    (granted_answer (λ t. Job t) c.begin_job.result _ c.in_ok-ticket-in-BeginJob.was) c.begin_job.ensures.answer c.begin_job.ensures.after c.begin_job.ensures.index

pub returns-in_err-read-in-Read : goal.returns-in_err-read-in-Read
returns-in_err-read-in-Read g c =
    read_promised g.met.I.Key.Key.total c.args.store.now c.args.shelf.now c.in-Read.report c.in-Read.key _ _ c.read.result (ap Basic c.in-Read.is)
    (refused (λ o. Record o) c.read.result c.from_residual-in_err-read-in-Read.result _ c.in_err-read-in-Read.was c.from_residual-in_err-read-in-Read.ensures.1) c.read.ensures.answer

pub returns-in_ok-read-in-Read : goal.returns-in_ok-read-in-Read
returns-in_ok-read-in-Read g c =
    read_promised g.met.I.Key.Key.total c.args.store.now c.args.shelf.now c.in-Read.report c.in-Read.key _ _ c.read.result (ap Basic c.in-Read.is)
    (granted_answer (λ o. Record o) c.read.result _ c.in_ok-read-in-Read.was) c.read.ensures.answer

pub returns-in_err-look-in-Look : goal.returns-in_err-look-in-Look
returns-in_err-look-in-Look g c =
    look_promised g.met.I.Key.Key.total c.args.store.now c.look.new.self c.args.shelf.now c.in-Look.job c.in-Look.key _ _ c.look.result (ap Basic c.in-Look.is)
    (refused (λ o. Record o) c.look.result c.from_residual-in_err-look-in-Look.result _ c.in_err-look-in-Look.was c.from_residual-in_err-look-in-Look.ensures.1) c.look.ensures.answer c.look.ensures.index

pub returns-in_ok-look-in-Look : goal.returns-in_ok-look-in-Look
returns-in_ok-look-in-Look g c =
    look_promised g.met.I.Key.Key.total c.args.store.now c.look.new.self c.args.shelf.now c.in-Look.job c.in-Look.key _ _ c.look.result (ap Basic c.in-Look.is)
    (granted_answer (λ o. Record o) c.look.result _ c.in_ok-look-in-Look.was) c.look.ensures.answer c.look.ensures.index

pub returns-in-Put : goal.returns-in-Put
returns-in-Put g c =
    put_promised g.met.I.Key.Key.total c.args.store.now c.put.new.self c.args.shelf.now c.in-Put.job c.in-Put.key c.in-Put.item c.put.new.shelf _ _ c.put.result (ap Basic c.in-Put.is)
    (done_answer c.put.result c.and.result c.and.ensures) c.put.ensures.answer

pub returns-in-Remove : goal.returns-in-Remove
returns-in-Remove g c =
    remove_promised g.met.I.Key.Key.total c.args.store.now c.remove.new.self c.args.shelf.now c.in-Remove.job c.in-Remove.key _ _ c.remove.result (ap Basic c.in-Remove.is)
    (done_answer c.remove.result c.and-in-Remove.result c.and-in-Remove.ensures) c.remove.ensures.answer

pub returns-in_err-commit-in-Commit : goal.returns-in_err-commit-in-Commit
returns-in_err-commit-in-Commit g c =
    commit_promised g.met.I.Key.Key.total c.args.store.now c.commit.new.self c.args.shelf.now c.in-Commit.job _ _ c.commit.result (ap Basic c.in-Commit.is)
    (refused (λ s. Stamp s) c.commit.result c.from_residual-in_err-commit-in-Commit.result _ c.in_err-commit-in-Commit.was c.from_residual-in_err-commit-in-Commit.ensures.1) c.commit.ensures.answer c.commit.ensures.after c.commit.ensures.unchanged

pub returns-in_ok-commit-in-Commit : goal.returns-in_ok-commit-in-Commit
returns-in_ok-commit-in-Commit g c =
    commit_promised g.met.I.Key.Key.total c.args.store.now c.commit.new.self c.args.shelf.now c.in-Commit.job _ _ c.commit.result (ap Basic c.in-Commit.is)
    (granted_answer (λ s. Stamp s) c.commit.result _ c.in_ok-commit-in-Commit.was) c.commit.ensures.answer c.commit.ensures.after c.commit.ensures.unchanged

pub returns-in-Abort : goal.returns-in-Abort
returns-in-Abort g c =
    abort_promised g.met.I.Key.Key.total c.args.store.now c.abort.new.self c.args.shelf.now c.in-Abort.job _ _ c.abort.result (ap Basic c.in-Abort.is)
    (done_answer c.abort.result c.and-in-Abort.result c.and-in-Abort.ensures) c.abort.ensures.answer c.abort.ensures.after c.abort.ensures.unchanged

pub returns-in-End : goal.returns-in-End
returns-in-End g c =
    end_promised g.met.I.Key.Key.total c.args.store.now c.end.new.self c.args.shelf.now c.in-End.report _ _ c.end.result (ap Basic c.in-End.is)
    (done_answer c.end.result c.and-in-End.result c.and-in-End.ensures) c.end.ensures.answer c.end.ensures.after c.end.ensures.index

pub returns-in-Age : goal.returns-in-Age
returns-in-Age g c =
    age_promised g.met.I.Key.Key.total c.args.store.now c.age-looked.new.self c.args.shelf.now c.in-Age.limit _ _ c.age-looked.result.looked c.age-looked.result.freed (ap Basic c.in-Age.is)
    refl c.age-looked.ensures.looked c.age-looked.ensures.freed c.age-looked.ensures.after
