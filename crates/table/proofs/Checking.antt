-- Checks one after the other: a check that passes leaves the answer to the next ones, the first that fails is the answer.
use Rattle.std.proofs.Common.{◌≡◌, Some, None, Ok, Err, Option, refl}
use Rattle.keys.specs.Refusals.{Code}
use Rattle.ledger.specs.Words.{or_else}
use Rattle.ledger.specs.declared.call.TicketId.{TicketId}
use Rattle.std.specs.Option.{ok_or}
use Rattle.table.specs.Checks.{job_open, row_of, unless}
use Rattle.table.specs.Views.{View, open_job}
use Rattle.table.specs.declared.row.Row.{Row}

pub passes : {check rest r : Option Code} → check ≡ None → rest ≡ r → or_else check rest ≡ r
passes e h = rw e h

-- what the answer of a check tells of it
pub passed : {A : Type 0} (check : Option Code) (a b : A) → Ok a ≡ unless check b → check ≡ None
passed None a b e = refl
passed (Some why) a b e = cc

pub failed : {A : Type 0} (check : Option Code) (why : Code) (b : A) → Err why ≡ unless check b → check ≡ Some why
failed None why b e = cc
failed (Some y) why b e = cc

-- what a ticket's check found
pub found_some : {X : Type 0} (o : Option X) (x : X) (why : Code) → Ok x ≡ ok_or o why → o ≡ Some x
found_some None x why e = cc
found_some (Some y) x why e = cc

module _ {K : Type 0} (v : View K) (t : TicketId) (row : Row) (found : open_job v t ≡ Some row) where
  pub job_is_open : job_open v t ≡ None
  job_is_open = rw found

  pub row_found : row_of v t ≡ row
  row_found = rw found
