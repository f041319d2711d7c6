-- A call with its answer, and what calls and answers are by the kinds that the rules speak of.
-- Steps, ledger and laws go by these classes, so each rule is said once for all calls of a class.
use Rattle.std.specs.Prelude.{ℕ, Bool, true, false, Some, None, Option, Ok, Err, Result, is_ok}
use Rattle.keys.specs.Refusals.{Code}
use Rattle.ledger.specs.declared.call.TicketId.{TicketId}
use Rattle.ledger.specs.declared.call.Call.{Call}
use Rattle.ledger.specs.declared.call.Call.TheVariants.{Walk, Basic}
use Rattle.ledger.specs.declared.call.BasicCall.TheVariants.{BeginReport, BeginJob, Read, Look, Put, Remove, Commit, Abort, End, Age}
use Rattle.ledger.specs.declared.answer.Granted.{Granted}
use Rattle.ledger.specs.declared.answer.Granted.TheVariants.{Report, Job}
use Rattle.ledger.specs.declared.answer.Refusal.{Refusal}
use Rattle.ledger.specs.Refusals.{code}

-- what a call answers: what it was granted, or why it was refused; src/answer.rt has it under the same name
abbrev pub Answer : Type 0 → Type 0 → Type 0
Answer K R = Result (Granted K R) Refusal

-- one call: what was asked, the length of the shelf handed over with it, and what was answered
pub record Exchange (K R : Type 0) : Type 0 where
  pub call : Call K R
  pub shelf : ℕ
  pub answer : Answer K R

-- what a call, when granted, does to the versions
pub data Change (K R : Type 0) : Type 0 where
  keeps : Change K R
  -- the job's draft at the key is now this record, or none
  drafts : ℕ → K → Option R → Change K R
  -- the job's drafts are committed
  commits : ℕ → Change K R
  -- the job's drafts go
  aborts : ℕ → Change K R
  -- superseded versions with finish below the limit go where they are not wanted
  ages : ℕ → Change K R

-- what each call does to the versions; a granted call's ticket is one of this store, so its running number tells the job
abbrev pub change : {K R : Type 0} → Call K R → Change K R
change (Walk t after) = keeps
change (Basic BeginReport) = keeps
change (Basic BeginJob) = keeps
change (Basic (Read t k)) = keeps
change (Basic (Look t k)) = keeps
change (Basic (Put t k r)) = drafts t.number k (Some r)
change (Basic (Remove t k)) = drafts t.number k None
change (Basic (Commit t)) = commits t.number
change (Basic (Abort t)) = aborts t.number
change (Basic (End t)) = keeps
change (Basic (Age limit)) = ages limit

-- is it an age call?
abbrev pub is_age : {K R : Type 0} → Change K R → Bool
is_age (ages limit) = true
is_age _ = false

-- read, look and put receive the shelf, no other call
abbrev pub receives_shelf : {K R : Type 0} → Call K R → Bool
receives_shelf (Basic (Read t k)) = true
receives_shelf (Basic (Look t k)) = true
receives_shelf (Basic (Put t k r)) = true
receives_shelf _ = false

-- the refusal that an answer tells, by its number and values; none where the call was granted
abbrev pub refusal : {K R : Type 0} → Answer K R → Option Code
refusal (Ok g) = None
refusal (Err why) = Some (code why)

-- was the call granted?
abbrev pub granted : {K R : Type 0} → Answer K R → Bool
granted a = is_ok a

-- the ticket that an answer gives out
abbrev pub given : {K R : Type 0} → Answer K R → Option TicketId
given (Ok (Report t s)) = Some t
given (Ok (Job t)) = Some t
given _ = None
