-- What each call checks, in its order, and the refusal that each check gives, by its number and values.
-- A call is answered by the first refusal that its checks give, or else granted.
use Rattle.std.specs.Prelude.{◌≡◌, ℕ, Bool, true, false, not, ◌&&◌, List, length, is_some, Some, None, Ok, Err, Option, Result, ◌==◌, nat_le, nat_lt}
use Rattle.std.specs.declared.cmp.Ordering.{Ordering}
use Rattle.keys.specs.Refusals.{Code, plain}
use Rattle.ledger.specs.Limits.{last_stamp, last_ticket}
use Rattle.ledger.specs.Places.{carries, is_current}
use Rattle.ledger.specs.Steps.{all_wanted, told_holder}
use Rattle.ledger.specs.Words.{any, first, when}
use Rattle.ledger.specs.declared.call.TicketId.{TicketId}
use Rattle.ledger.specs.declared.place.Place.{Place}
use Rattle.ledger.specs.declared.place.PlaceState.{PlaceState}
use Rattle.ledger.specs.declared.place.PlaceState.TheVariants.{Free, Unstamped, Gone, Current, Superseded}
use Rattle.std.specs.Option.{unwrap_or}
use Rattle.table.specs.Holds.{draft_at, entry_at, other_holder}
use Rattle.table.specs.Rows.{is_row_full, no_row}
use Rattle.table.specs.Views.{View, at, open_job, open_report}
use Rattle.table.specs.declared.row.Row.{Row}

-- the answer, unless there is a refusal
abbrev pub unless : {A : Type 0} → Option Code → A → Result A Code
unless None answer = Ok answer
unless (Some why) answer = Err why

-- the first refusal that the checks give
abbrev pub sent_back : List (Option Code) → Option Code
sent_back = first (λ check. check)

-- the answer of a call that makes these checks, in this order
abbrev pub checked : {A : Type 0} → List (Option Code) → A → Result A Code
checked checks answer = unless (sent_back checks) answer

-- a call that makes these checks: granted it leaves the one, refused the other
abbrev pub Outcome : {A : Type 0} → List (Option Code) → (A → Type 0) → Type 0 → Result A Code → Type 0
Outcome checks Granted Refused (Ok answer) = (sent_back checks ≡ None) × Granted answer
Outcome checks Granted Refused (Err why) = (sent_back checks ≡ Some why) × Refused

module _ {K : Type 0} where
  -- 6: the next running number would pass the last
  abbrev pub number_left : View K → Option Code
  number_left v = when (nat_lt last_ticket v.next) (plain 6)

  -- 4: it is not an open ticket of this store and of the kind that the call takes
  abbrev pub report_open : View K → TicketId → Option Code
  report_open v t = when (not (is_some (open_report v t))) (plain 4)

  abbrev pub job_open : View K → TicketId → Option Code
  job_open v t = when (not (is_some (open_job v t))) (plain 4)

  -- 3: the shelf's length is not the count of places
  abbrev pub shelf_fits : View K → ℕ → Option Code
  shelf_fits v n = when (not (n == length v.places)) (plain 3)

  -- 11: the stamps are used up
  abbrev pub stamp_left : View K → Option Code
  stamp_left v = when (nat_le last_stamp v.stamp) (plain 11)

  -- the row of the job; its ticket has been checked where this is used
  abbrev pub row_of : View K → TicketId → Row
  row_of v t = unwrap_or (open_job v t) no_row

  -- is it an unstamped record?
  abbrev pub is_unstamped : PlaceState K → Bool
  is_unstamped Free = false
  is_unstamped (Unstamped k j) = true
  is_unstamped (Gone k j) = false
  is_unstamped (Current k b) = false
  is_unstamped (Superseded k b f) = false

module _ {K : Type 0} (order : K → K → Ordering) where
  -- is it the key's current version?
  abbrev pub is_current_of : K → PlaceState K → Bool
  is_current_of key p = is_current p && carries order key p

  -- has the key a current version?
  abbrev pub has_current : List (Place K) → K → Bool
  has_current places key = any (λ p. is_current_of key p.state) places

  -- would look answer a record, by the place of the job's draft?
  abbrev pub record_by : List (Place K) → K → Option ℕ → Bool
  record_by places key (Some d) = is_unstamped (at places d)
  record_by places key None = has_current places key

  -- 7: another open job holds the key
  abbrev pub not_held : View K → TicketId → K → Option Code
  not_held v t key = told_holder (other_holder order v.places key t.number v.jobs)

  -- 8: look would answer none
  abbrev pub something_there : View K → TicketId → K → Option Code
  something_there v t key = when (not (record_by v.places key (draft_at order v.places key (row_of v t)))) (plain 8)

  -- 9: a new entry is needed and all are used
  abbrev pub row_left : View K → TicketId → K → Option Code
  row_left v t key = when (not (is_some (entry_at order v.places key (row_of v t))) && is_row_full (row_of v t)) (plain 9)

  -- a look needs an entry only where it finds a current version
  abbrev pub row_left_to_look : View K → TicketId → K → Option Code
  row_left_to_look v t key =
      when (not (is_some (entry_at order v.places key (row_of v t))) && is_row_full (row_of v t) && has_current v.places key) (plain 9)

  -- 10: a place is needed, since the job has no draft at the key, and every place holds a wanted version
  abbrev pub place_left : View K → TicketId → K → Option Code
  place_left v t key = when (not (is_some (draft_at order v.places key (row_of v t))) && all_wanted v.reports v.places) (plain 10)
