-- Which pairs of numbers a vehicle text gives: nine and eight digits in base 36, and none of them the digit of I, O or Q.
use Rattle.std.specs.Prelude.{ℕ, zero, suc, ◌/◌, ◌%◌, Bool, not, ◌&&◌, ◌||◌, ◌==◌}

-- digits of vehicle characters: 18, 24 and 26 would be I, O and Q
abbrev pub vehicle_digit : ℕ → Bool
vehicle_digit d = not (d == 18 || d == 24 || d == 26)

-- so many digits in base 36 write the number, each of a vehicle character
unfoldable pub vehicle_digits : ℕ → ℕ → Bool
vehicle_digits zero n = n == 0
vehicle_digits (suc k) n = vehicle_digit (n % 36) && vehicle_digits k (n / 36)

-- some vehicle text gives the two numbers
abbrev pub spelled : ℕ → ℕ → Bool
spelled first second = vehicle_digits 9 first && vehicle_digits 8 second
