-- Opening a store: what it checks, in its order, and what of its answer contracts speak of.
-- The first check is on the numbers alone; the second on the slots of the index.
use Rattle.std.specs.Prelude.{ℕ, Bool, not, ◌&&◌, List, [], ◌∷◌, length, Some, None, Ok, Err, Option, Result, ◌==◌, nat_le}
use Rattle.engine.specs.declared.refusal.OpenError.{OpenError}
use Rattle.engine.specs.declared.refusal.OpenError.TheVariants.{Refused, NoMemory}
use Rattle.engine.specs.declared.store.Store.{Store}
use Rattle.engine.specs.Limits.{last_store, max_places}
use Rattle.engine.specs.Refusals.{open_code}
use Rattle.index.specs.Slots.{count_of}
use Rattle.index.specs.declared.index.Index as index
use Rattle.keys.specs.declared.key.Key as key
use Rattle.keys.specs.Refusals.{Code, plain}
use Rattle.ledger.specs.Limits.{last_stamp, last_ticket}
use Rattle.ledger.specs.Words.{when}

-- is each number in its range: store number, count of places, first stamp, first ticket?
abbrev pub in_ranges : ℕ → ℕ → ℕ → ℕ → Bool
in_ranges store places stamp ticket =
    nat_le store last_store && nat_le 1 places && nat_le places max_places && nat_le stamp last_stamp && nat_le 1 ticket && nat_le ticket last_ticket

-- has the index no key, and a number for each place?
abbrev pub is_fit : {K : Type 0} → List (Option K) → ℕ → Bool
is_fit slots places = count_of slots == 0 && nat_le places (length slots)

-- 1: a number is outside its range; 2: the index is not empty, or its capacity is below the count of places
abbrev pub open_checks : {K : Type 0} → List (Option K) → ℕ → ℕ → ℕ → ℕ → List (Option Code)
open_checks slots store places stamp ticket =
    when (not (in_ranges store places stamp ticket)) (plain 1) ∷ when (not (is_fit slots places)) (plain 2) ∷ []

module _ {I K : Type 0} {i : index.Ghosts I K} {k : key.Ghosts K} where
  -- the refusal that an opening answers; want of memory is none
  abbrev pub refusal_of : Result (Store I K i k) (OpenError I) → Option Code
  refusal_of (Ok s) = None
  refusal_of (Err (Refused why given)) = Some (open_code why)
  refusal_of (Err (NoMemory given)) = None

  -- the index of the store that was opened, or the one that was given back
  abbrev pub index_of : Result (Store I K i k) (OpenError I) → I
  index_of (Ok s) = s.index
  index_of (Err (Refused why given)) = given
  index_of (Err (NoMemory given)) = given
