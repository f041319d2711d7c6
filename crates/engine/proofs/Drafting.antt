-- The checks of a draft's place, as a call states them by its ticket and as the code makes them by the job's row.
use Rattle.std.proofs.Common.{◌≡◌, ℕ, not, ◌&&◌, [], ◌∷◌, is_some, Some, Option, Ordering}
use Rattle.keys.specs.Refusals.{Code, plain}
use Rattle.ledger.specs.Steps.{all_wanted}
use Rattle.ledger.specs.Words.{when}
use Rattle.ledger.specs.declared.call.TicketId.{TicketId}
use Rattle.table.proofs.Checking.{row_found}
use Rattle.table.specs.Checks.{place_left, row_left, sent_back, something_there, record_by}
use Rattle.table.specs.Drafts.{Placed}
use Rattle.table.specs.Holds.{draft_at, entry_at}
use Rattle.table.specs.Rows.{is_row_full}
use Rattle.table.specs.Views.{View, open_job}
use Rattle.table.specs.declared.row.Row.{Row}
use Rattle.table.specs.Checks.{row_of}

module _ {K : Type 0} (order : K → K → Ordering) (v : View K) (t : TicketId) (key : K) (row : Row) (found : open_job v t ≡ Some row) where
  pub same_room : (r : Option Code) →
      sent_back (when (not (is_some (entry_at order v.places key row)) && is_row_full row) (plain 9) ∷ when (not (is_some (draft_at order v.places key row)) && all_wanted v.reports v.places) (plain 10) ∷ []) ≡ r →
      sent_back (row_left order v t key ∷ place_left order v t key ∷ []) ≡ r
  same_room r e = rw (row_found v t row found) e

  pub same_there : (r : Option Code) → when (not (record_by order v.places key (draft_at order v.places key row))) (plain 8) ≡ r → something_there order v t key ≡ r
  same_there r e = rw (row_found v t row found) e

  pub same_placed : (w : View K) (n : ℕ) → Placed order v w row key n → Placed order v w (row_of v t) key n
  same_placed w n placed = rw (row_found v t row found) placed
