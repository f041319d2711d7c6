-- A store's table and shelf in the ledger's words.
-- Places and reports are the ledger's own; the keys that a job holds are read off the places that its row names, in the order of its entries.
use Rattle.std.specs.Prelude.{ℕ, List, map, Some, None, Option}
use Rattle.ledger.specs.declared.place.Place.{Place}
use Rattle.ledger.specs.Words.{picked}
use Rattle.ledger.specs.Places.{key_of}
use Rattle.ledger.specs.Control.{Control, Job}
use Rattle.ledger.specs.Steps.{State}
use Rattle.table.specs.declared.row.HeldKey.{HeldKey}
use Rattle.table.specs.declared.row.Row.{Row}
use Rattle.table.specs.Rows.{entries_of, place_of}
use Rattle.table.specs.Views.{View, at}

-- the key of the place with the number, if there is one and it is not free
abbrev pub key_at : {K : Type 0} → List (Place K) → Option ℕ → Option K
key_at places None = None
key_at places (Some n) = key_of (at places n)

-- the key that an entry holds: that of its draft, or else of its current version
abbrev pub key_held : {K : Type 0} → List (Place K) → HeldKey → Option K
key_held places e = key_at places (place_of e)

-- the keys that some entries hold
abbrev pub keys_held : {K : Type 0} → List (Place K) → List HeldKey → List K
keys_held places = picked (key_held places)

-- the job of a row
abbrev pub job_in : {K : Type 0} → List (Place K) → Row → Job K
job_in places row = record { ticket = row.ticket; keys = keys_held places (entries_of row) }

-- the jobs of some rows
abbrev pub jobs_in : {K : Type 0} → List (Place K) → List Row → List (Job K)
jobs_in places = map (job_in places)

-- the control state of a store with this table
abbrev pub control : {K : Type 0} → View K → Control K
control v = record { store = v.store; stamp = v.stamp; next = v.next; reports = v.reports; jobs = jobs_in v.places v.jobs }

-- the state of a store with this table and shelf
abbrev pub state : {K R : Type 0} → View K → List R → State K R
state v shelf = record { control = control v; places = v.places; shelf = shelf }
