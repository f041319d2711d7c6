-- Commits and aborts: what the entries of a job's row make of the places, and the table afterwards.
use Rattle.std.specs.Prelude.{ℕ, ◌+◌, List, [], ◌∷◌, Some, None, fold, Option}
use Rattle.keys.specs.Refusals.{Code}
use Rattle.ledger.specs.declared.call.TicketId.{TicketId}
use Rattle.ledger.specs.declared.place.Place.{Place}
use Rattle.ledger.specs.declared.place.PlaceEvent.{PlaceEvent}
use Rattle.ledger.specs.declared.place.PlaceEvent.TheVariants.{Abort, Commit}
use Rattle.table.specs.Checks.{job_open, row_of, stamp_left}
use Rattle.table.specs.Drafts.{turned}
use Rattle.table.specs.Lists.{without_ticket}
use Rattle.table.specs.Rows.{entries_of}
use Rattle.table.specs.Views.{View, row_number, with_jobs, with_places}
use Rattle.table.specs.declared.row.HeldKey.{HeldKey}

-- what the event makes of the place, if there is one
abbrev pub turned_at : {K : Type 0} → PlaceEvent K → Option ℕ → List (Place K) → List (Place K)
turned_at event None places = places
turned_at event (Some n) places = turned event n places

-- a commit turns the current version, if the job has a draft at the key, and then the draft
abbrev pub settled_by : {K : Type 0} → ℕ → Option ℕ → Option ℕ → List (Place K) → List (Place K)
settled_by stamp None current places = places
settled_by stamp (Some d) current places = turned (Commit stamp) d (turned_at (Commit stamp) current places)

-- the places after the commit of one entry
abbrev pub settled : {K : Type 0} → ℕ → List (Place K) → HeldKey → List (Place K)
settled stamp places e = settled_by stamp e.draft e.current places

-- the places after the abort of one entry
abbrev pub undone : {K : Type 0} → List (Place K) → HeldKey → List (Place K)
undone places e = turned_at Abort e.draft places

module _ {K : Type 0} where
  abbrev pub commit_checks : View K → TicketId → List (Option Code)
  commit_checks v t = job_open v t ∷ stamp_left v ∷ []

  abbrev pub abort_checks : View K → TicketId → List (Option Code)
  abort_checks v t = job_open v t ∷ []

  -- the table without the job's row
  abbrev pub job_closed : View K → TicketId → View K
  job_closed v t = with_jobs v (without_ticket row_number t.number v.jobs)

  -- one is added to the stamp
  abbrev pub stamped : View K → View K
  stamped v =
      record { store = v.store; stamp = v.stamp + 1; next = v.next; places = v.places; reports = v.reports; jobs = v.jobs }

  -- the table after a commit
  abbrev pub committed : View K → TicketId → View K
  committed v t =
      with_places (stamped (job_closed v t)) (fold (settled (v.stamp + 1)) v.places (entries_of (row_of v t)))

  -- the table after an abort
  abbrev pub aborted : View K → TicketId → View K
  aborted v t = with_places (job_closed v t) (fold undone v.places (entries_of (row_of v t)))
