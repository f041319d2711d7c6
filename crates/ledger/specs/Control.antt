-- The control state of a store: its number, its stamp, the next running number, and the open reports and jobs with the keys that they hold.
-- Reports and jobs stand in the order of their tickets, the keys of a job in the order in which its holds began.
use Rattle.std.specs.Prelude.{ℕ, ◌+◌, Bool, cond, not, ◌&&◌, List, [], ◌∷◌, ◌++◌, map, length, None, filter, Option, ◌==◌, nat_le}
use Rattle.std.specs.declared.cmp.Ordering.{Ordering}
use Rattle.std.specs.Option.{unwrap_or}
use Rattle.ledger.specs.declared.call.TicketId.{TicketId}
use Rattle.ledger.specs.declared.place.Report.{Report}
use Rattle.ledger.specs.Limits.{row_entries}
use Rattle.ledger.specs.Words.{when, first, any, same}

-- an open job: its ticket's running number and the keys that it holds
pub record Job (K : Type 0) : Type 0 where
  pub ticket : ℕ
  pub keys : List K

-- the store's number, the stamp of its last commit, the next running number, and what is open
pub record Control (K : Type 0) : Type 0 where
  pub store : ℕ
  pub stamp : ℕ
  pub next : ℕ
  pub reports : List Report
  pub jobs : List (Job K)

-- the control state with other reports
abbrev pub with_reports : {K : Type 0} → Control K → List Report → Control K
with_reports c reports = record c { reports = reports }

-- the control state with other jobs
abbrev pub with_jobs : {K : Type 0} → Control K → List (Job K) → Control K
with_jobs c jobs = record c { jobs = jobs }

-- the next running number is given out
abbrev pub numbered : {K : Type 0} → Control K → Control K
numbered c = record c { next = c.next + 1 }

-- one is added to the stamp
abbrev pub stamped : {K : Type 0} → Control K → Control K
stamped c = record c { stamp = c.stamp + 1 }

-- the ticket that the next begin gives out
abbrev pub next_ticket : {K : Type 0} → Control K → TicketId
next_ticket c = record { store = c.store; number = c.next }

-- one more report is open, at the store's stamp
abbrev pub report_opened : {K : Type 0} → Control K → Control K
report_opened c = numbered (with_reports c (c.reports ++ (record { ticket = c.next; stamp = c.stamp } ∷ [])))

-- one more job is open, and holds no key
abbrev pub job_opened : {K : Type 0} → Control K → Control K
job_opened c = numbered (with_jobs c (c.jobs ++ (record { ticket = c.next; keys = [] } ∷ [])))

-- the stamp of the open report with the running number
abbrev pub report_at : ℕ → List Report → Option ℕ
report_at t = first (λ r. when (r.ticket == t) r.stamp)

-- the keys of the open job with the running number
abbrev pub job_at : {K : Type 0} → ℕ → List (Job K) → Option (List K)
job_at t = first (λ j. when (j.ticket == t) j.keys)

-- what is found under the ticket's running number, if the ticket is one of this store
abbrev pub of_store : {K X : Type 0} → Control K → TicketId → Option X → Option X
of_store c t found = cond (t.store == c.store) found None

-- the stamp of the open report with the ticket
abbrev pub stamp_of : {K : Type 0} → Control K → TicketId → Option ℕ
stamp_of c t = of_store c t (report_at t.number c.reports)

-- the keys of the open job with the ticket
abbrev pub keys_of : {K : Type 0} → Control K → TicketId → Option (List K)
keys_of c t = of_store c t (job_at t.number c.jobs)

-- the open reports but for one
abbrev pub reports_but : ℕ → List Report → List Report
reports_but t = filter (λ r. not (r.ticket == t))

-- the open jobs but for one
abbrev pub jobs_but : {K : Type 0} → ℕ → List (Job K) → List (Job K)
jobs_but t = filter (λ j. not (j.ticket == t))

-- the report with the ticket is closed
abbrev pub report_closed : {K : Type 0} → Control K → TicketId → Control K
report_closed c t = with_reports c (reports_but t.number c.reports)

-- the job with the ticket is closed, and holds nothing any more
abbrev pub job_closed : {K : Type 0} → Control K → TicketId → Control K
job_closed c t = with_jobs c (jobs_but t.number c.jobs)

module _ {K : Type 0} (order : K → K → Ordering) where
  -- is the key among these?
  abbrev pub has_key : K → List K → Bool
  has_key k = any (λ q. same order q k)

  -- the running number of another open job that holds the key
  abbrev pub other_holder : ℕ → K → List (Job K) → Option ℕ
  other_holder t k = first (λ j. when (not (j.ticket == t) && has_key k j.keys) j.ticket)

  -- the job holds the key from now on, if it did not already
  abbrev pub holding : ℕ → K → List (Job K) → List (Job K)
  holding t k = map (λ j. cond (j.ticket == t && not (has_key k j.keys)) (record j { keys = j.keys ++ (k ∷ []) }) j)

  -- is a new entry needed for the key, and is every entry of the job's row used?
  abbrev pub row_full : ℕ → K → List (Job K) → Bool
  row_full t k jobs = let keys = unwrap_or (job_at t jobs) [] in not (has_key k keys) && nat_le row_entries (length keys)

  -- the job with the ticket holds the key, where the test says so
  abbrev pub held_if : Bool → Control K → TicketId → K → Control K
  held_if test c t k = with_jobs c (cond test (holding t.number k c.jobs) c.jobs)
