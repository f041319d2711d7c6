-- The refusals of a store's calls as they are told: each with its number and its values.
use Rattle.std.specs.Prelude.{◌≡◌, [], ◌∷◌}
use Rattle.keys.specs.Refusals.{Code, plain}
use Rattle.ledger.specs.declared.answer.Refusal.{Refusal}
use Rattle.ledger.specs.declared.answer.Refusal.TheVariants.{WrongShelf, NotOpen, TooManyOpen, OutOfTickets, Held, NothingThere, RowFull, StoreFull, OutOfStamps}

-- the number and the values of a refusal; 7 tells the ticket number of the job that holds the key
abbrev pub code : Refusal → Code
code WrongShelf = plain 3
code NotOpen = plain 4
code TooManyOpen = plain 5
code OutOfTickets = plain 6
code (Held ticket) = record { number = 7; values = ticket ∷ [] }
code NothingThere = plain 8
code RowFull = plain 9
code StoreFull = plain 10
code OutOfStamps = plain 11

-- no two refusals are told alike
abbrev pub CodesDiffer : Type 0
CodesDiffer = (why why' : Refusal) → code why ≡ code why' → why ≡ why'
