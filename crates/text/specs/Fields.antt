-- Fields of a text, each parted from the next by one space (byte 32).
-- A text is its first field, a space and the later fields; without a space it is one field.
use Rattle.std.specs.Prelude.{ℕ, Bool, not, List, ◌==◌}
use Rattle.std.specs.List.{before_first, after_first, list_all}

-- the first field
unfoldable pub first_field : List ℕ → List ℕ
first_field s = before_first (λ b. b == 32) s

-- what stands behind the first field and its space
unfoldable pub later_fields : List ℕ → List ℕ
later_fields s = after_first (λ b. b == 32) s

-- a text without a space, which can be a field
abbrev pub one_field : List ℕ → Bool
one_field s = list_all (λ b. not (b == 32)) s
