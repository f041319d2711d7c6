-- Beginning reports and jobs and ending reports: what each answers, and the table afterwards.
use Rattle.std.specs.Prelude.{◌+◌, List, [], ◌∷◌, ◌++◌, length, Option}
use Rattle.keys.specs.Refusals.{Code}
use Rattle.ledger.specs.Limits.{max_jobs, max_reports}
use Rattle.ledger.specs.Steps.{fewer_than}
use Rattle.ledger.specs.declared.call.TicketId.{TicketId}
use Rattle.table.specs.Checks.{number_left}
use Rattle.table.specs.Lists.{without_ticket}
use Rattle.table.specs.Rows.{new_row}
use Rattle.table.specs.Views.{View, report_number, with_jobs, with_reports}

module _ {K : Type 0} where
  abbrev pub begin_report_checks : View K → List (Option Code)
  begin_report_checks v = fewer_than max_reports (length v.reports) ∷ number_left v ∷ []

  abbrev pub begin_job_checks : View K → List (Option Code)
  begin_job_checks v = fewer_than max_jobs (length v.jobs) ∷ number_left v ∷ []

  -- the ticket that the next begin gives out
  abbrev pub next_ticket : View K → TicketId
  next_ticket v = record { store = v.store; number = v.next }

  -- the next running number is given out
  abbrev pub numbered : View K → View K
  numbered v =
      record { store = v.store; stamp = v.stamp; next = v.next + 1; places = v.places; reports = v.reports; jobs = v.jobs }

  -- one more report is open, at the store's stamp
  abbrev pub report_opened : View K → View K
  report_opened v = numbered (with_reports v (v.reports ++ record { ticket = v.next; stamp = v.stamp } ∷ []))

  -- one more job is open, and holds no key
  abbrev pub job_opened : View K → View K
  job_opened v = numbered (with_jobs v (v.jobs ++ new_row v.next ∷ []))

  -- the report with the ticket is closed
  abbrev pub report_closed : View K → TicketId → View K
  report_closed v t = with_reports v (without_ticket report_number t.number v.reports)
