-- How a refusal is told to a caller: by its number, and by the values that go with it.
-- Each refusal enum of a crate has a function to Code, and promises are made of results as they are told.
use Rattle.std.specs.Prelude.{ℕ, List, [], Ok, Err, Result}

pub record Code : Type 0 where
  pub number : ℕ
  pub values : List ℕ

-- a refusal with no values
abbrev pub plain : ℕ → Code
plain n = record { number = n; values = [] }

-- a result, its refusal as it is told
abbrev pub told : {A E : Type 0} → (E → Code) → Result A E → Result A Code
told code (Ok a) = Ok a
told code (Err e) = Err (code e)
