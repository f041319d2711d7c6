-- The lines of an input. Each ends in byte 10, which the last may lack.
-- An empty input has no line, and one that ends in byte 10 has no further line behind it.
use Rattle.std.specs.Prelude.{◌≡◌, ℕ, Bool, true, cond, List, [], ◌∷◌, Some, None, Option, ◌==◌, ◌≢◌}
use Rattle.std.specs.List.{flat_map, AllByRecursion}
use Rattle.page.specs.Texts.{ended}

-- lines with one more byte in front of the first
abbrev pub prepend : ℕ → List (List ℕ) → List (List ℕ)
prepend byte [] = (byte ∷ []) ∷ []
prepend byte (line ∷ lines) = (byte ∷ line) ∷ lines

-- byte 10 ends a line; any other byte belongs to the line that follows it
unfoldable pub input_lines : List ℕ → List (List ℕ)
input_lines [] = []
input_lines (byte ∷ bytes) = cond (byte == 10) ([] ∷ input_lines bytes) (prepend byte (input_lines bytes))

-- whether the last line has its byte 10; an empty input lacks none
abbrev pub closed : List ℕ → Bool
closed [] = true
closed (byte ∷ []) = byte == 10
closed (byte ∷ next ∷ bytes) = closed (next ∷ bytes)

-- a text with no byte 10 in it
abbrev pub OneLine : List ℕ → Type 0
OneLine text = AllByRecursion (λ byte. byte ≢ 10) text

-- the lines, each with its byte 10, are the input, with a byte 10 added where the last lacks it
pub record LinesOf (input : List ℕ) (lines : List (List ℕ)) : Type 0 where
  pub whole : flat_map ended lines ≡ cond (closed input) input (ended input)
  pub single : AllByRecursion OneLine lines

-- the first line is taken off; or there is none
abbrev pub TakesLine : List (List ℕ) → Option (List ℕ) → List (List ℕ) → Type 0
TakesLine before None after = before ≡ []
TakesLine before (Some line) after = before ≡ line ∷ after
