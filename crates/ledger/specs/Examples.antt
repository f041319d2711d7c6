-- Worked examples of the definitions, as one statement: spans, ageing, drafts of one job, and whole sessions.
use Rattle.std.specs.Prelude.{◌≡◌, ℕ, true, false, List, [], ◌∷◌, Some, Ok, nat_lt}
use Rattle.std.specs.declared.cmp.Ordering.{Ordering}
use Rattle.ledger.specs.declared.call.TicketId.{TicketId}
use Rattle.ledger.specs.declared.call.Call.TheVariants.{Basic}
use Rattle.ledger.specs.declared.call.BasicCall.TheVariants.{Put, Remove, Commit}
use Rattle.ledger.specs.declared.answer.Granted.TheVariants.{Done, Stamp}
use Rattle.ledger.specs.declared.place.PlaceState.TheVariants.{Current, Superseded}
use Rattle.ledger.specs.declared.place.PlaceEvent.TheVariants as event
use Rattle.ledger.specs.Places.{after, free, spans}
use Rattle.ledger.specs.Versions.{current_at}
use Rattle.ledger.specs.Calls.{Exchange}
use Rattle.ledger.specs.Ledger.{ledger}
use Rattle.ledger.specs.Steps.{place_aged}
use Rattle.ledger.specs.Laws.{left}
use Rattle.ledger.specs.Sessions.{Sessions}

module _ (K R : Type 0) (order : K → K → Ordering) where
  -- a granted remove, put and commit of one job, the newest first
  abbrev pub remove_then_put : TicketId → K → R → ℕ → List (Exchange K R) → List (Exchange K R)
  remove_then_put job k r stamp past =
      record { call = Basic (Commit job); shelf = 0; answer = Ok (Stamp stamp) }
      ∷ record { call = Basic (Put job k r); shelf = 0; answer = Ok Done }
      ∷ record { call = Basic (Remove job k); shelf = 0; answer = Ok Done }
      ∷ past

  pub record Examples : Type 0 where
    -- a span from 1 to 2 holds stamp 1, and not 2
    pub span_holds : spans 1 (Some 2) 1 ≡ true
    pub span_ends : spans 1 (Some 2) 2 ≡ false
    -- limit 2 passes over finish 2, limit 3 does not
    pub limit_passes : (k : K) → place_aged (λ f. nat_lt f 2) [] (record { state = Superseded k 1 2 }) ≡ record { state = Superseded k 1 2 }
    pub limit_frees : (k : K) → place_aged (λ f. nat_lt f 3) [] (record { state = Superseded k 1 2 }) ≡ free
    -- remove, then put, in one job leaves the record: in the list of calls, in the ledger and in the place
    pub leaves_record : (job : TicketId) (k : K) (r : R) (stamp : ℕ) (past : List (Exchange K R)) → left order k (remove_then_put job k r stamp past) ≡ Some r
    pub lists_record : (job : TicketId) (k : K) (r : R) (stamp first_stamp : ℕ) → current_at order k (ledger order first_stamp (remove_then_put job k r stamp [])).versions ≡ Some r
    pub keeps_place : (k : K) (job stamp : ℕ) → after (after (after free (event.Remove k job)) (event.Put k job)) (event.Commit stamp) ≡ record { state = Current k stamp }
    -- sessions, call by call
    pub sessions : Sessions
