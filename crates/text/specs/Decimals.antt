-- Decimal numbers: what a text of digits stands for.
-- The text of a number is the standard library's `decimal`.
use Rattle.std.specs.Prelude.{ℕ, cond, ◌&&◌, ◌||◌, List, length, None, Option, ◌==◌, nat_lt, slice_index}
use Rattle.text.specs.Digits.{number_of, at_most}

-- the number of a text without sign and without leading zeros, up to a limit
unfoldable pub decimal_of : ℕ → List ℕ → Option ℕ
decimal_of limit s =
    cond (length s == 0 || (slice_index s 0 == 48 && nat_lt 1 (length s))) None (at_most limit (number_of 10 s))
