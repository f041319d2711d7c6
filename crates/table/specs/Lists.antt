-- What is found in a list: a position that passes a test, and the element that has a ticket.
-- Stands on the ledger's small words; rows, reports and places are searched by these.
use Rattle.std.specs.Prelude.{◌≡◌, ℕ, ◌<◌, Bool, true, false, cond, List, [], ◌∷◌, length, Some, None, Option, ◌==◌, slice_index_or}
use Rattle.std.specs.List.{position as first_position}
use Rattle.ledger.specs.Words.{when, first, any}

-- the first position whose element passes the test; a proof sees the library's word for it only where it asks to
unfoldable pub position : {X : Type 0} → (X → Bool) → List X → Option ℕ
position test xs = first_position test xs

-- a position whose element passes the test, or none where no element passes; which of several is left open
abbrev pub Finds : {X : Type 0} → X → (X → Bool) → List X → Option ℕ → Type 0
Finds default test xs (Some n) = (n < length xs) × (test (slice_index_or xs n default) ≡ true)
Finds default test xs None = any test xs ≡ false

module _ {X : Type 0} (number : X → ℕ) where
  -- the element with the ticket
  abbrev pub with_ticket : ℕ → List X → Option X
  with_ticket t = first (λ x. when (number x == t) x)

  -- the list without the element with the ticket
  abbrev pub without_ticket : ℕ → List X → List X
  without_ticket t [] = []
  without_ticket t (x ∷ xs) = cond (number x == t) xs (x ∷ without_ticket t xs)

  -- the list with the element in the place of the one that has its ticket
  abbrev pub replaced : X → List X → List X
  replaced y [] = []
  replaced y (x ∷ xs) = cond (number x == number y) (y ∷ xs) (x ∷ replaced y xs)
