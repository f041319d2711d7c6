-- A store by its control state, its places and its shelf: what each call checks, answers and moves, and the runs of calls from an opening on.
-- Refusals, answers and the control state afterwards go by a summary, which does not tell which place holds what.
-- Only the place that a put or remove takes among free ones is left open.
use Rattle.std.specs.Prelude.{◌≡◌, ℕ, ◌+◌, ◌<◌, Bool, true, cond, not, ◌&&◌, ◌||◌, List, [], ◌∷◌, ◌++◌, map, length, replicate, is_some, Some, None, count_by, Option, Ok, ◌==◌, nat_le, nat_lt, slice_index_or, slice_set}
use Rattle.std.specs.declared.cmp.Ordering.{Ordering}
use Rattle.std.specs.Option.{unwrap_or}
use Rattle.keys.specs.Refusals.{Code, plain}
use Rattle.ledger.specs.declared.call.TicketId.{TicketId}
use Rattle.ledger.specs.declared.call.Call.{Call}
use Rattle.ledger.specs.declared.call.Call.TheVariants.{Walk, Basic}
use Rattle.ledger.specs.declared.call.BasicCall.TheVariants.{BeginReport, BeginJob, Read, Look, Put, Remove, Commit, Abort, End, Age}
use Rattle.ledger.specs.declared.answer.Granted.{Granted}
use Rattle.ledger.specs.declared.answer.Granted.TheVariants.{Report as ReportBegun, Job as JobBegun, Record, Next, Done, Stamp, Aged}
use Rattle.ledger.specs.declared.place.Place.{Place}
use Rattle.ledger.specs.declared.place.PlaceEvent.{PlaceEvent}
use Rattle.ledger.specs.declared.place.PlaceEvent.TheVariants as event
use Rattle.ledger.specs.declared.place.PlaceState.{PlaceState}
use Rattle.ledger.specs.declared.place.PlaceState.TheVariants.{Free, Unstamped, Gone, Current, Superseded}
use Rattle.ledger.specs.declared.place.Report.{Report}
use Rattle.ledger.specs.Limits.{max_reports, max_jobs, last_stamp, last_ticket}
use Rattle.ledger.specs.Words.{when, listed, first, any, every, least}
use Rattle.ledger.specs.Places.{after, free, is_free, is_draft_of, is_finished, is_wanted, is_settled_by, carries}
use Rattle.ledger.specs.Versions.{Version, draft, committed, wanted, finished, has_draft, looked, finds_current, seen_at, keys_seen}
use Rattle.ledger.specs.Control.{Control, stamped, next_ticket, stamp_of, keys_of, report_opened, job_opened, report_closed, job_closed, held_if, other_holder, row_full}
use Rattle.ledger.specs.Calls.{Exchange, Change, keeps, drafts, commits, aborts, ages, change, refusal}

-- a store: its control state, its places and its shelf
pub record State (K R : Type 0) : Type 0 where
  pub control : Control K
  pub places : List (Place K)
  -- the caller's records, one for each place
  pub shelf : List R

-- what refusals and answers depend on: the control state, the versions in the places, in whatever order, and how many places there are
pub record Summary (K R : Type 0) : Type 0 where
  pub control : Control K
  pub versions : List (Version K R)
  pub places : ℕ

-- the version that a place in the state holds, with the record on the shelf
abbrev pub version_in : {K R : Type 0} → PlaceState K → R → Option (Version K R)
version_in Free r = None
version_in (Unstamped k j) r = Some (draft j k (Some r))
version_in (Gone k j) r = Some (draft j k None)
version_in (Current k b) r = Some (committed k r b None)
version_in (Superseded k b f) r = Some (committed k r b (Some f))

-- the versions that the places hold
abbrev pub versions_in : {K R : Type 0} → List (Place K) → List R → List (Version K R)
versions_in [] shelf = []
versions_in (p ∷ places) [] = []
versions_in (p ∷ places) (r ∷ shelf) = listed (version_in p.state r) ++ versions_in places shelf

-- what a store's places come to, whichever place holds what
abbrev pub summary : {K R : Type 0} → State K R → Summary K R
summary s = record { control = s.control; versions = versions_in s.places s.shelf; places = length s.places }

-- does every place hold a wanted version?
abbrev pub all_wanted : {K : Type 0} → List Report → List (Place K) → Bool
all_wanted reports = every (λ p. is_wanted reports p.state)

-- 5: so many reports or jobs are open already
abbrev pub fewer_than : ℕ → ℕ → Option Code
fewer_than limit count = when (nat_le limit count) (plain 5)

-- 7: another open job holds the key; its running number is told
abbrev pub told_holder : Option ℕ → Option Code
told_holder None = None
told_holder (Some t) = Some (record { number = 7; values = t ∷ [] })

module _ {K R : Type 0} (order : K → K → Ordering) where
  -- 6: the next running number would pass the last
  abbrev pub number_left : Summary K R → Option Code
  number_left b = when (nat_lt last_ticket b.control.next) (plain 6)

  -- 4: it is not an open report's ticket of this store
  abbrev pub report_open : Summary K R → TicketId → Option Code
  report_open b t = when (not (is_some (stamp_of b.control t))) (plain 4)

  -- 4: it is not an open job's ticket of this store
  abbrev pub job_open : Summary K R → TicketId → Option Code
  job_open b t = when (not (is_some (keys_of b.control t))) (plain 4)

  -- 3: the shelf's length is not the count of places
  abbrev pub shelf_fits : Summary K R → ℕ → Option Code
  shelf_fits b n = when (not (n == b.places)) (plain 3)

  -- 7: another open job holds the key
  abbrev pub not_held : Summary K R → TicketId → K → Option Code
  not_held b t k = told_holder (other_holder order t.number k b.control.jobs)

  -- 8: look would answer none
  abbrev pub something_there : Summary K R → TicketId → K → Option Code
  something_there b t k = when (not (is_some (looked order t.number k b.versions))) (plain 8)

  -- 9: a new entry is needed and all are used
  abbrev pub row_left : Summary K R → TicketId → K → Option Code
  row_left b t k = when (row_full order t.number k b.control.jobs) (plain 9)

  -- a look needs an entry only where it finds a current version
  abbrev pub row_left_to_look : Summary K R → TicketId → K → Option Code
  row_left_to_look b t k = when (finds_current order t.number k b.versions && row_full order t.number k b.control.jobs) (plain 9)

  -- 10: a place is needed, since the job has no draft at the key, and every place holds a wanted version
  abbrev pub place_left : Bool → Summary K R → TicketId → K → Option Code
  place_left full b t k = when (not (has_draft order t.number k b.versions) && full) (plain 10)

  -- 11: the store's stamp is the last
  abbrev pub stamp_left : Summary K R → Option Code
  stamp_left b = when (b.control.stamp == last_stamp) (plain 11)

  -- what each call checks, in this order; full says that every place holds a wanted version, n is the length of the shelf
  abbrev pub checks : Bool → Summary K R → Call K R → ℕ → List (Option Code)
  checks full b (Walk t from) n = report_open b t ∷ []
  checks full b (Basic BeginReport) n = fewer_than max_reports (length b.control.reports) ∷ number_left b ∷ []
  checks full b (Basic BeginJob) n = fewer_than max_jobs (length b.control.jobs) ∷ number_left b ∷ []
  checks full b (Basic (Read t k)) n = report_open b t ∷ shelf_fits b n ∷ []
  checks full b (Basic (Look t k)) n = job_open b t ∷ shelf_fits b n ∷ not_held b t k ∷ row_left_to_look b t k ∷ []
  checks full b (Basic (Put t k r)) n = job_open b t ∷ shelf_fits b n ∷ not_held b t k ∷ row_left b t k ∷ place_left full b t k ∷ []
  checks full b (Basic (Remove t k)) n = job_open b t ∷ not_held b t k ∷ something_there b t k ∷ row_left b t k ∷ place_left full b t k ∷ []
  checks full b (Basic (Commit t)) n = job_open b t ∷ stamp_left b ∷ []
  checks full b (Basic (Abort t)) n = job_open b t ∷ []
  checks full b (Basic (End t)) n = report_open b t ∷ []
  checks full b (Basic (Age limit)) n = []

  -- the first refusal that a call meets
  abbrev pub sent_back : Bool → Summary K R → Call K R → ℕ → Option Code
  sent_back full b c n = first (λ check. check) (checks full b c n)

  -- the stamp that the report sees; the ticket has been checked, so 0 stands for no report
  abbrev pub sight : Summary K R → TicketId → ℕ
  sight b t = unwrap_or (stamp_of b.control t) 0

  -- what a granted call answers
  abbrev pub answered : Summary K R → Call K R → Granted K R
  answered b (Walk t from) = Next (least order (keys_seen order (sight b t) from b.versions))
  answered b (Basic BeginReport) = ReportBegun (next_ticket b.control) b.control.stamp
  answered b (Basic BeginJob) = JobBegun (next_ticket b.control)
  answered b (Basic (Read t k)) = Record (seen_at order (sight b t) k b.versions)
  answered b (Basic (Look t k)) = Record (looked order t.number k b.versions)
  answered b (Basic (Put t k r)) = Done
  answered b (Basic (Remove t k)) = Done
  answered b (Basic (Commit t)) = Stamp (b.control.stamp + 1)
  answered b (Basic (Abort t)) = Done
  answered b (Basic (End t)) = Done
  answered b (Basic (Age limit)) =
      Aged (count_by (finished (λ f. nat_lt f limit)) b.versions) (count_by (λ v. finished (λ f. nat_lt f limit) v && not (wanted b.control.reports v)) b.versions)

  -- the control state after a granted call
  abbrev pub control_after : Summary K R → Call K R → Control K
  control_after b (Walk t from) = b.control
  control_after b (Basic BeginReport) = report_opened b.control
  control_after b (Basic BeginJob) = job_opened b.control
  control_after b (Basic (Read t k)) = b.control
  control_after b (Basic (Look t k)) = held_if order (finds_current order t.number k b.versions) b.control t k
  control_after b (Basic (Put t k r)) = held_if order true b.control t k
  control_after b (Basic (Remove t k)) = held_if order true b.control t k
  control_after b (Basic (Commit t)) = stamped (job_closed b.control t)
  control_after b (Basic (Abort t)) = job_closed b.control t
  control_after b (Basic (End t)) = report_closed b.control t
  control_after b (Basic (Age limit)) = b.control

-- how a job's commit at the stamp moves a place
abbrev pub place_settled : {K : Type 0} → ℕ → ℕ → (K → Bool) → Place K → Place K
place_settled t stamp written p = cond (is_settled_by t written p.state) (after p (event.Commit stamp)) p

-- how a job's abort moves a place
abbrev pub place_aborted : {K : Type 0} → ℕ → Place K → Place K
place_aborted t p = cond (is_draft_of t p.state) (after p event.Abort) p

-- how ageing moves a place, of the superseded versions whose finish passes the test
abbrev pub place_aged : {K : Type 0} → (ℕ → Bool) → List Report → Place K → Place K
place_aged test reports p = cond (is_finished test p.state && not (is_wanted reports p.state)) (after p event.Age) p

-- the event of a put, or of a remove, at the place that it takes
abbrev pub draft_event : {K R : Type 0} → ℕ → K → Option R → PlaceEvent K
draft_event t k (Some r) = event.Put k t
draft_event t k None = event.Remove k t

-- a put writes its record on the shelf, a remove nothing
abbrev pub shelved : {R : Type 0} → Option R → ℕ → List R → List R
shelved (Some r) n shelf = slice_set shelf n r
shelved None n shelf = shelf

module _ {K R : Type 0} (order : K → K → Ordering) where
  -- the places that a put or remove finds: when it needs one and none is free, all superseded versions are aged first
  abbrev pub ready : State K R → ℕ → K → List (Place K)
  ready s t k = cond (has_draft order t k (summary s).versions || any (λ p. is_free p.state) s.places) s.places (map (place_aged (λ f. true) s.control.reports) s.places)

  -- does the place suit: that of the job's draft at the key if it has one, else a free one?
  abbrev pub suits : State K R → ℕ → K → PlaceState K → Bool
  suits s t k p = cond (has_draft order t k (summary s).versions) (is_draft_of t p && carries order k p) (is_free p)

  -- a put or remove takes any place that suits
  abbrev pub Takes : State K R → ℕ → K → ℕ → Type 0
  Takes s t k n = (n < length s.places) × (suits s t k (slice_index_or (ready s t k) n free).state ≡ true)

  -- how a granted call moves the places and the shelf
  abbrev pub Moves : State K R → Change K R → List (Place K) → List R → Type 0
  Moves s keeps places shelf = (places ≡ s.places) × (shelf ≡ s.shelf)
  Moves s (drafts t k d) places shelf = (n : ℕ) × Takes s t k n × (places ≡ slice_set (ready s t k) n (after (slice_index_or (ready s t k) n free) (draft_event t k d))) × (shelf ≡ shelved d n s.shelf)
  Moves s (commits t) places shelf = (places ≡ map (place_settled t (s.control.stamp + 1) (λ k. has_draft order t k (summary s).versions)) s.places) × (shelf ≡ s.shelf)
  Moves s (aborts t) places shelf = (places ≡ map (place_aborted t) s.places) × (shelf ≡ s.shelf)
  Moves s (ages limit) places shelf = (places ≡ map (place_aged (λ f. nat_lt f limit) s.control.reports) s.places) × (shelf ≡ s.shelf)

  -- a granted call
  pub record GrantedStep (s : State K R) (e : Exchange K R) (s' : State K R) : Type 0 where
    pub answer : e.answer ≡ Ok (answered order (summary s) e.call)
    pub control : s'.control ≡ control_after order (summary s) e.call
    pub moves : Moves s (change e.call) s'.places s'.shelf

  -- a refused call tells the refusal, by its number and values, and changes nothing
  pub record SentBack (why : Code) (s : State K R) (e : Exchange K R) (s' : State K R) : Type 0 where
    pub answer : refusal e.answer ≡ Some why
    pub unchanged : s' ≡ s

  -- what a call comes to: it meets no refusal and is granted, or it meets one and is sent back
  abbrev pub Outcome : Option Code → State K R → Exchange K R → State K R → Type 0
  Outcome None s e s' = GrantedStep s e s'
  Outcome (Some why) s e s' = SentBack why s e s'

  -- the step from a store to the store after one call
  abbrev pub Step : State K R → Exchange K R → State K R → Type 0
  Step s e s' = Outcome (sent_back order (all_wanted s.control.reports s.places) (summary s) e.call e.shelf) s e s'

-- what a store is opened with, besides its index
pub record Numbers : Type 0 where
  pub store : ℕ
  pub places : ℕ
  -- the first stamp
  pub stamp : ℕ
  -- the first running number
  pub ticket : ℕ

-- the control state at opening
abbrev pub first_control : {K : Type 0} → Numbers → Control K
first_control o = record { store = o.store; stamp = o.stamp; next = o.ticket; reports = []; jobs = [] }

-- a store at opening: every place is free, and the shelf has a record for each
pub record Opened {K R : Type 0} (o : Numbers) (s : State K R) : Type 0 where
  pub control : s.control ≡ first_control o
  pub places : s.places ≡ replicate o.places free
  pub shelf : length s.shelf ≡ o.places

-- a list of calls on one store and its shelf, from its opening on; the newest call first
abbrev pub Run : {K R : Type 0} → (K → K → Ordering) → Numbers → List (Exchange K R) → State K R → Type 0
Run order o [] s = Opened o s
Run {K} {R} order o (e ∷ past) s = (before : State K R) × Run order o past before × Step order before e s
