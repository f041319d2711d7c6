-- What a table means: its numbers, and its three lists as lists.
-- Contracts equate the view at exit with a function of the view at entry, or relate the two.
use Rattle.std.specs.Prelude.{ℕ, cond, List, [], replicate, None, Ok, Err, Option, Result, ◌==◌, slice_index_or}
use Rattle.ledger.specs.Places.{free}
use Rattle.ledger.specs.declared.call.TicketId.{TicketId}
use Rattle.ledger.specs.declared.place.Place.{Place}
use Rattle.ledger.specs.declared.place.PlaceState.{PlaceState}
use Rattle.ledger.specs.declared.place.Report.{Report}
use Rattle.table.specs.Lists.{with_ticket, replaced}
use Rattle.table.specs.declared.row.Row.{Row}
use Rattle.table.specs.declared.table.Table.{Table}

pub record View (K : Type 0) : Type 0 where
  pub store : ℕ
  pub stamp : ℕ
  pub next : ℕ
  pub places : List (Place K)
  pub reports : List Report
  pub jobs : List Row

abbrev pub view : {K : Type 0} → Table K → View K
view t = record {
  store = t.store;
  stamp = t.stamp;
  next = t.next;
  places = t.places.items;
  reports = t.reports.items.items;
  jobs = t.jobs.items.items;
}

-- the view of a table that was just made
abbrev pub new_view : {K : Type 0} → ℕ → ℕ → ℕ → ℕ → View K
new_view store places stamp ticket =
    record { store = store; stamp = stamp; next = ticket; places = replicate places free; reports = []; jobs = [] }

-- the same with other places
abbrev pub with_places : {K : Type 0} → View K → List (Place K) → View K
with_places v places =
    record { store = v.store; stamp = v.stamp; next = v.next; places = places; reports = v.reports; jobs = v.jobs }

-- the same with other open reports
abbrev pub with_reports : {K : Type 0} → View K → List Report → View K
with_reports v reports =
    record { store = v.store; stamp = v.stamp; next = v.next; places = v.places; reports = reports; jobs = v.jobs }

-- the same with other rows
abbrev pub with_jobs : {K : Type 0} → View K → List Row → View K
with_jobs v jobs =
    record { store = v.store; stamp = v.stamp; next = v.next; places = v.places; reports = v.reports; jobs = jobs }

-- the running number of a report or job, as they are listed
abbrev pub report_number : Report → ℕ
report_number r = r.ticket

abbrev pub row_number : Row → ℕ
row_number r = r.ticket

-- the same with the row in the place of the one of the same job
abbrev pub with_row : {K : Type 0} → View K → Row → View K
with_row v row = with_jobs v (replaced row_number row v.jobs)

-- the state of a place; free past the last one
abbrev pub at : {K : Type 0} → List (Place K) → ℕ → PlaceState K
at places n = (slice_index_or places n free).state

-- what is found under a ticket's running number, if the ticket is one of this store
abbrev pub of_store : {K X : Type 0} → View K → TicketId → Option X → Option X
of_store v t found = cond (t.store == v.store) found None

-- the open report with the ticket
abbrev pub open_report : {K : Type 0} → View K → TicketId → Option Report
open_report v t = of_store v t (with_ticket report_number t.number v.reports)

-- the row of the open job with the ticket
abbrev pub open_job : {K : Type 0} → View K → TicketId → Option Row
open_job v t = of_store v t (with_ticket row_number t.number v.jobs)

-- what is left: the one where the call was granted, the other where it was refused
abbrev pub if_granted : {A E X : Type 0} → Result A E → X → X → X
if_granted (Ok a) changed before = changed
if_granted (Err e) changed before = before
