-- The ledger of a store: the reports, jobs, drafts and versions that a list of calls tells of.
-- It is fed by arguments and answers alone and knows nothing of places; a version stays listed for ever.
use Rattle.std.specs.Prelude.{ℕ, ◌+◌, cond, not, List, [], ◌∷◌, ◌++◌, map, Some, None, count_by, filter, ◌==◌}
use Rattle.std.specs.declared.cmp.Ordering.{Ordering}
use Rattle.ledger.specs.declared.call.Call.{Call}
use Rattle.ledger.specs.declared.call.Call.TheVariants.{Walk, Basic}
use Rattle.ledger.specs.declared.call.BasicCall.TheVariants.{BeginReport, BeginJob, Read, Look, Put, Remove, Commit, Abort, End, Age}
use Rattle.ledger.specs.declared.place.Report.{Report}
use Rattle.ledger.specs.Words.{listed}
use Rattle.ledger.specs.Versions.{Version, wanted, drafted, settled_all, without_drafts}
use Rattle.ledger.specs.Control.{reports_but}
use Rattle.ledger.specs.Calls.{Answer, Exchange, granted, given}

-- the stamp, what is open, and every draft and version, listed for ever
pub record Ledger (K R : Type 0) : Type 0 where
  pub stamp : ℕ
  pub reports : List Report
  -- the running numbers of the open jobs
  pub jobs : List ℕ
  pub versions : List (Version K R)

-- how many versions are wanted
abbrev pub how_many_wanted : {K R : Type 0} → Ledger K R → ℕ
how_many_wanted l = count_by (wanted l.reports) l.versions

-- the ledger with other reports
abbrev pub set_reports : {K R : Type 0} → Ledger K R → List Report → Ledger K R
set_reports l reports = record l { reports = reports }

-- the ledger with other jobs
abbrev pub set_jobs : {K R : Type 0} → Ledger K R → List ℕ → Ledger K R
set_jobs l jobs = record l { jobs = jobs }

-- the ledger with other versions
abbrev pub set_versions : {K R : Type 0} → Ledger K R → List (Version K R) → Ledger K R
set_versions l versions = record l { versions = versions }

-- one is added to the stamp
abbrev pub raised : {K R : Type 0} → Ledger K R → Ledger K R
raised l = record l { stamp = l.stamp + 1 }

-- the job is closed
abbrev pub closed : {K R : Type 0} → ℕ → Ledger K R → Ledger K R
closed t l = set_jobs l (filter (λ j. not (j == t)) l.jobs)

module _ {K R : Type 0} (order : K → K → Ordering) where
  -- what a granted call changes in the ledger
  abbrev pub noted : Ledger K R → Call K R → Answer K R → Ledger K R
  noted l (Walk t after) a = l
  noted l (Basic BeginReport) a = set_reports l (l.reports ++ map (λ t. record { ticket = t.number; stamp = l.stamp }) (listed (given a)))
  noted l (Basic BeginJob) a = set_jobs l (l.jobs ++ map (λ t. t.number) (listed (given a)))
  noted l (Basic (Read t k)) a = l
  noted l (Basic (Look t k)) a = l
  noted l (Basic (Put t k r)) a = set_versions l (drafted order t.number k (Some r) l.versions)
  noted l (Basic (Remove t k)) a = set_versions l (drafted order t.number k None l.versions)
  noted l (Basic (Commit t)) a = closed t.number (raised (set_versions l (settled_all order t.number (l.stamp + 1) l.versions)))
  noted l (Basic (Abort t)) a = closed t.number (set_versions l (without_drafts order t.number l.versions))
  noted l (Basic (End t)) a = set_reports l (reports_but t.number l.reports)
  noted l (Basic (Age limit)) a = l

  -- the ledger after a list of calls, the newest first, of a store that began at the first stamp
  abbrev pub ledger : ℕ → List (Exchange K R) → Ledger K R
  ledger first_stamp [] = record { stamp = first_stamp; reports = []; jobs = []; versions = [] }
  ledger first_stamp (e ∷ past) = let l = ledger first_stamp past in cond (granted e.answer) (noted l e.call e.answer) l
