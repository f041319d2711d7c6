-- Digits, and numbers in a base: read from a text, and written with a given count of digits.
-- All bases share their digits, 0 to 9 and then A to Z; I, O and Q are left out and stand for none.
use Rattle.std.specs.List.{fold}
use Rattle.std.specs.Prelude.{ℕ, zero, suc, ◌+◌, ◌-◌, ◌*◌, ◌/◌, ◌%◌, Bool, cond, not, ◌&&◌, ◌||◌, List, [], ◌∷◌, ◌++◌, Some, None, Option, ◌==◌, nat_le, nat_lt}

-- the letters of vehicle texts: A to Z (65 to 90) without I, O and Q
abbrev pub vehicle_letter : ℕ → Bool
vehicle_letter b = nat_le 65 b && nat_le b 90 && not (b == 73 || b == 79 || b == 81)

-- the digit that a byte stands for, or 255 for one that is no vehicle character
abbrev pub digit_of : ℕ → ℕ
digit_of b = cond (nat_le 48 b && nat_le b 57) (b - 48) (cond (vehicle_letter b) (b - 65 + 10) 255)

-- the byte that stands for a digit
abbrev pub digit_byte : ℕ → ℕ
digit_byte d = cond (nat_lt d 10) (48 + d) (65 + (d - 10))

-- a number with one more digit behind it; none where that is no digit of the base
abbrev pub with_digit : ℕ → Option ℕ → ℕ → Option ℕ
with_digit base None d = None
with_digit base (Some n) d = cond (nat_lt d base) (Some (n * base + d)) None

-- a number with the digits of a text behind it
abbrev pub with_digits : ℕ → Option ℕ → List ℕ → Option ℕ
with_digits base n s = fold (λ m b. with_digit base m (digit_of b)) n s

-- the number that a text writes in a base
abbrev pub number_of : ℕ → List ℕ → Option ℕ
number_of base s = with_digits base (Some 0) s

-- a number that does not pass a limit
abbrev pub at_most : ℕ → Option ℕ → Option ℕ
at_most limit None = None
at_most limit (Some n) = cond (nat_le n limit) (Some n) None

-- the last digits of a number in a base, so many of them
unfoldable pub last_digits : ℕ → ℕ → ℕ → List ℕ
last_digits base zero n = []
last_digits base (suc count) n = last_digits base count (n / base) ++ (digit_byte (n % base) ∷ [])
