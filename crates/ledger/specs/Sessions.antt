-- Sessions: lists of calls with their answers, for stores whose keys and records are numbers.
-- Each shows what the laws leave to the steps alone: tickets and stamps as they are answered, counts of ageing, the limits, and the order of the checks.
use Rattle.std.specs.Prelude.{ℕ, zero, suc, List, [], ◌∷◌, ◌++◌, map, reverse, Some, None, Ok, Err}
use Rattle.keys.specs.Orders.{ordered}
use Rattle.ledger.specs.declared.call.TicketId.{TicketId}
use Rattle.ledger.specs.declared.call.Call.{Call}
use Rattle.ledger.specs.declared.call.Call.TheVariants.{Walk, Basic}
use Rattle.ledger.specs.declared.call.BasicCall.TheVariants.{BeginReport, BeginJob, Read, Look, Put, Remove, Commit, Abort, End, Age}
use Rattle.ledger.specs.declared.answer.Granted.TheVariants.{Report, Job, Record, Next, Done, Stamp, Aged}
use Rattle.ledger.specs.declared.answer.Refusal.TheVariants.{WrongShelf, NotOpen, TooManyOpen, OutOfTickets, Held, NothingThere, RowFull, StoreFull, OutOfStamps}
use Rattle.ledger.specs.Calls.{Answer, Exchange}
use Rattle.ledger.specs.Steps.{State, Numbers, Run}

-- some run from an opening with the numbers is this session, its calls in the order in which they were made
abbrev pub Happens : Numbers → List (Exchange ℕ ℕ) → Type 0
Happens o session = (s : State ℕ ℕ) × Run ordered o (reverse session) s

-- store 7 with so many places, first stamp 0 and first ticket 1
abbrev pub store_of : ℕ → Numbers
store_of places = record { store = 7; places = places; stamp = 0; ticket = 1 }

-- store 7 with one place, its first stamp and its first ticket each one before the last
abbrev pub store_near_end : Numbers
store_near_end = record { store = 7; places = 1; stamp = 3999999999; ticket = 3999999999 }

-- a ticket of store 7
abbrev pub ticket : ℕ → TicketId
ticket n = record { store = 7; number = n }

-- calls and answers, each call with a shelf of this length
abbrev pub with_shelf : ℕ → List (Call ℕ ℕ × Answer ℕ ℕ) → List (Exchange ℕ ℕ)
with_shelf n = map (λ x. record { call = x.0; shelf = n; answer = x.1 })

-- a report keeps the version that it sees; when it has ended, age frees that version
abbrev pub kept_for_report : List (Call ℕ ℕ × Answer ℕ ℕ)
kept_for_report =
    (Basic BeginJob, Ok (Job (ticket 1)))
    ∷ (Basic (Put (ticket 1) 5 3), Ok Done)
    ∷ (Basic (Commit (ticket 1)), Ok (Stamp 1))
    ∷ (Basic BeginReport, Ok (Report (ticket 2) 1))
    ∷ (Basic BeginJob, Ok (Job (ticket 3)))
    ∷ (Basic (Put (ticket 3) 5 4), Ok Done)
    ∷ (Basic (Commit (ticket 3)), Ok (Stamp 2))
    ∷ (Basic (Read (ticket 2) 5), Ok (Record (Some 3)))
    ∷ (Basic (Age 3), Ok (Aged 1 0))
    ∷ (Basic (Read (ticket 2) 5), Ok (Record (Some 3)))
    ∷ (Basic (End (ticket 2)), Ok Done)
    ∷ (Basic (Age 2), Ok (Aged 0 0))
    ∷ (Basic (Age 3), Ok (Aged 1 1))
    ∷ (Basic (Age 3), Ok (Aged 0 0))
    ∷ (Basic (Read (ticket 2) 5), Err NotOpen)
    ∷ []

-- with one place, a second put on a committed key finds none
abbrev pub no_second_place : List (Call ℕ ℕ × Answer ℕ ℕ)
no_second_place =
    (Basic BeginJob, Ok (Job (ticket 1)))
    ∷ (Basic (Put (ticket 1) 5 3), Ok Done)
    ∷ (Basic (Put (ticket 1) 5 4), Ok Done)
    ∷ (Basic (Commit (ticket 1)), Ok (Stamp 1))
    ∷ (Basic BeginJob, Ok (Job (ticket 2)))
    ∷ (Basic (Put (ticket 2) 5 6), Err StoreFull)
    ∷ []

-- with three places, the version between two reports goes when a fourth is put, and both reports see what they saw
abbrev pub between_reports : List (Call ℕ ℕ × Answer ℕ ℕ)
between_reports =
    (Basic BeginReport, Ok (Report (ticket 1) 0))
    ∷ (Basic BeginJob, Ok (Job (ticket 2)))
    ∷ (Basic (Put (ticket 2) 5 10), Ok Done)
    ∷ (Basic (Commit (ticket 2)), Ok (Stamp 1))
    ∷ (Basic BeginReport, Ok (Report (ticket 3) 1))
    ∷ (Basic BeginJob, Ok (Job (ticket 4)))
    ∷ (Basic (Put (ticket 4) 5 20), Ok Done)
    ∷ (Basic (Commit (ticket 4)), Ok (Stamp 2))
    ∷ (Basic BeginJob, Ok (Job (ticket 5)))
    ∷ (Basic (Put (ticket 5) 5 30), Ok Done)
    ∷ (Basic (Commit (ticket 5)), Ok (Stamp 3))
    ∷ (Basic BeginJob, Ok (Job (ticket 6)))
    ∷ (Basic (Put (ticket 6) 5 40), Ok Done)
    ∷ (Basic (Read (ticket 3) 5), Ok (Record (Some 10)))
    ∷ (Basic (Read (ticket 1) 5), Ok (Record None))
    ∷ []

-- holds, by put and by look, and what ends them; another store's ticket; a ticket of the other kind
abbrev pub holds_and_tickets : List (Call ℕ ℕ × Answer ℕ ℕ)
holds_and_tickets =
    (Basic BeginJob, Ok (Job (ticket 1)))
    ∷ (Basic BeginJob, Ok (Job (ticket 2)))
    ∷ (Basic (Remove (ticket 1) 5), Err NothingThere)
    ∷ (Basic (Put (ticket 1) 5 3), Ok Done)
    ∷ (Basic (Look (ticket 2) 5), Err (Held 1))
    ∷ (Basic (Remove (ticket 2) 5), Err (Held 1))
    ∷ (Basic (Commit (ticket 1)), Ok (Stamp 1))
    ∷ (Basic (Look (ticket 2) 5), Ok (Record (Some 3)))
    ∷ (Basic (Look (ticket 2) 6), Ok (Record None))
    ∷ (Basic BeginJob, Ok (Job (ticket 3)))
    ∷ (Basic (Put (ticket 3) 5 8), Err (Held 2))
    ∷ (Basic (Put (ticket 3) 6 8), Ok Done)
    ∷ (Basic (Remove (ticket 2) 5), Ok Done)
    ∷ (Basic (Look (ticket 2) 5), Ok (Record None))
    ∷ (Basic (Abort (ticket 2)), Ok Done)
    ∷ (Basic (Look (ticket 3) 5), Ok (Record (Some 3)))
    ∷ (Basic BeginReport, Ok (Report (ticket 4) 1))
    ∷ (Basic (Look (ticket 4) 5), Err NotOpen)
    ∷ (Basic (Read (record { store = 8; number = 4 }) 5), Err NotOpen)
    ∷ []

-- walk goes from key to key, past one that the report does not see
abbrev pub from_key_to_key : List (Call ℕ ℕ × Answer ℕ ℕ)
from_key_to_key =
    (Basic BeginJob, Ok (Job (ticket 1)))
    ∷ (Basic (Put (ticket 1) 7 70), Ok Done)
    ∷ (Basic (Put (ticket 1) 5 50), Ok Done)
    ∷ (Basic (Commit (ticket 1)), Ok (Stamp 1))
    ∷ (Basic BeginJob, Ok (Job (ticket 2)))
    ∷ (Basic (Put (ticket 2) 6 60), Ok Done)
    ∷ (Basic BeginReport, Ok (Report (ticket 3) 1))
    ∷ (Walk (ticket 3) None, Ok (Next (Some 5)))
    ∷ (Walk (ticket 3) (Some 5), Ok (Next (Some 7)))
    ∷ (Walk (ticket 3) (Some 7), Ok (Next None))
    ∷ []

-- so many reports begin one after the other, from this running number on
abbrev pub reports_begin : ℕ → ℕ → List (Call ℕ ℕ × Answer ℕ ℕ)
reports_begin zero n = []
reports_begin (suc count) n = (Basic BeginReport, Ok (Report (ticket n) 0)) ∷ reports_begin count (suc n)

-- so many jobs begin one after the other, from this running number on
abbrev pub jobs_begin : ℕ → ℕ → List (Call ℕ ℕ × Answer ℕ ℕ)
jobs_begin zero n = []
jobs_begin (suc count) n = (Basic BeginJob, Ok (Job (ticket n))) ∷ jobs_begin count (suc n)

-- sixteen reports and eight jobs may be open, and no more
abbrev pub as_many_as_may : List (Call ℕ ℕ × Answer ℕ ℕ)
as_many_as_may = reports_begin 16 1 ++ ((Basic BeginReport, Err TooManyOpen) ∷ jobs_begin 8 17) ++ ((Basic BeginJob, Err TooManyOpen) ∷ [])

-- job 1 puts this key and so many after it
abbrev pub keys_put : ℕ → ℕ → List (Call ℕ ℕ × Answer ℕ ℕ)
keys_put zero k = []
keys_put (suc count) k = (Basic (Put (ticket 1) k 0), Ok Done) ∷ keys_put count (suc k)

-- with thirty-two places, the thirty-third key finds the row full first, and a remove of nothing finds that before
abbrev pub row_used : List (Call ℕ ℕ × Answer ℕ ℕ)
row_used = ((Basic BeginJob, Ok (Job (ticket 1))) ∷ keys_put 32 0) ++ ((Basic (Put (ticket 1) 32 0), Err RowFull) ∷ (Basic (Remove (ticket 1) 32), Err NothingThere) ∷ [])

-- the last running number is given out, and the last stamp, and no more
abbrev pub no_more_numbers : List (Call ℕ ℕ × Answer ℕ ℕ)
no_more_numbers =
    (Basic BeginJob, Ok (Job (ticket 3999999999)))
    ∷ (Basic BeginJob, Ok (Job (ticket 4000000000)))
    ∷ (Basic BeginReport, Err OutOfTickets)
    ∷ (Basic (Commit (ticket 3999999999)), Ok (Stamp 4000000000))
    ∷ (Basic (Commit (ticket 4000000000)), Err OutOfStamps)
    ∷ (Basic (Abort (ticket 4000000000)), Ok Done)
    ∷ []

-- of two places: a shelf of another length is refused where one is received, behind the ticket and before the key
abbrev pub other_shelves : List (Exchange ℕ ℕ)
other_shelves =
    with_shelf 2 ((Basic BeginJob, Ok (Job (ticket 1))) ∷ (Basic BeginJob, Ok (Job (ticket 2))) ∷ (Basic (Put (ticket 1) 5 3), Ok Done) ∷ [])
    ++ with_shelf 1 ((Basic (Look (ticket 2) 5), Err WrongShelf) ∷ (Basic (Put (ticket 3) 5 4), Err NotOpen) ∷ (Basic (Commit (ticket 1)), Ok (Stamp 1)) ∷ [])

-- all of them happen
pub record Sessions : Type 0 where
  pub kept : Happens (store_of 64) (with_shelf 64 kept_for_report)
  pub second : Happens (store_of 1) (with_shelf 1 no_second_place)
  pub between : Happens (store_of 3) (with_shelf 3 between_reports)
  pub holds : Happens (store_of 4) (with_shelf 4 holds_and_tickets)
  pub walks : Happens (store_of 4) (with_shelf 4 from_key_to_key)
  pub many : Happens (store_of 1) (with_shelf 1 as_many_as_may)
  pub row : Happens (store_of 32) (with_shelf 32 row_used)
  pub numbers : Happens store_near_end (with_shelf 1 no_more_numbers)
  pub shelves : Happens (store_of 2) other_shelves
