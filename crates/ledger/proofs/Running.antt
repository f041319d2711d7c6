-- Sessions by computation: the proof that no run sticks gives, call by call, an answer and the store after it; run on the calls of a session it gives the session's answers.
use Rattle.std.proofs.Common.{◌≡◌, ℕ, List, [], ◌∷◌, reverse, length, replicate, sym, refl, ◌∙◌, subst}
use Rattle.std.proofs.lemmas.List.{length-replicate}
use Rattle.keys.specs.Orders.{ordered}
use Rattle.ledger.specs.Places.{free}
use Rattle.ledger.specs.Calls.{Exchange}
use Rattle.ledger.specs.Steps.{State, Numbers, first_control, Run}
use Rattle.ledger.specs.Sessions.{Happens, Sessions, store_of, store_near_end, with_shelf, kept_for_report, no_second_place, between_reports, holds_and_tickets, from_key_to_key, as_many_as_may, row_used, no_more_numbers, other_shelves}
use Rattle.ledger.proofs.Going.{later_place, some_place, takes, moves, answers}

-- a run, with the store that it reached
record ReachedBy (o : Numbers) : Type 0 where
  past : List (Exchange ℕ ℕ)
  state : State ℕ ℕ
  run : Run ordered o past state
  lengths : length state.shelf ≡ length state.places

opened : (o : Numbers) → ReachedBy o
opened o = record {
  past = [];
  state = record { control = first_control o; places = replicate o.places free; shelf = replicate o.places 0 };
  run = record { control = refl; places = refl; shelf = length-replicate o.places 0 };
  lengths = length-replicate o.places 0 ∙ sym (length-replicate o.places free);
}

-- the calls, the newest first, each with the length of the shelf
asking : (o : Numbers) → List (Exchange ℕ ℕ) → ReachedBy o
asking o [] = opened o
asking o (e ∷ es) =
    let r = asking o es in
    let a = answers ordered r.state r.lengths e.call e.shelf in
    record { past = record { call = e.call; shelf = e.shelf; answer = a.answer } ∷ r.past; state = a.after; run = (r.state, r.run, a.step); lengths = a.lengths }

happens : (o : Numbers) (session : List (Exchange ℕ ℕ)) → (asking o (reverse session)).past ≡ reverse session → Happens o session
happens o session e = let r = asking o (reverse session) in (r.state, subst (λ past. Run ordered o past r.state) e r.run)

pub sessions : Sessions
unfolding asking opened answers moves takes some_place later_place
sessions = record {
  kept = happens (store_of 64) (with_shelf 64 kept_for_report) refl;
  second = happens (store_of 1) (with_shelf 1 no_second_place) refl;
  between = happens (store_of 3) (with_shelf 3 between_reports) refl;
  holds = happens (store_of 4) (with_shelf 4 holds_and_tickets) refl;
  walks = happens (store_of 4) (with_shelf 4 from_key_to_key) refl;
  many = happens (store_of 1) (with_shelf 1 as_many_as_may) refl;
  row = happens (store_of 32) (with_shelf 32 row_used) refl;
  numbers = happens store_near_end (with_shelf 1 no_more_numbers) refl;
  shelves = happens (store_of 2) other_shelves refl;
}
