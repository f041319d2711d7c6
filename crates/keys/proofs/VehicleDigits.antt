-- The digits of a number one by one: the last digit, and the digits before it.
use Rattle.std.proofs.Common.{◌≡◌, ℕ, zero, suc, ◌-◌, ◌/◌, ◌%◌, ◌&&◌, eqb, refl, ap, arith}
use Rattle.keys.specs.VehicleDigits.{vehicle_digit, vehicle_digits}

pub no_digits : (k n : ℕ) → k ≡ 0 → vehicle_digits k n ≡ eqb n 0
unfolding vehicle_digits
no_digits k n e = rw e refl

pub last_digit : (k n : ℕ) → (k ≡ 0 → ⊥) → vehicle_digits k n ≡ vehicle_digit (n % 36) && vehicle_digits (k - 1) (n / 36)
unfolding vehicle_digits
last_digit zero n h = absurd (h refl)
last_digit (suc k) n h = let e : k ≡ suc k - 1 = omega arith in ap (λ j. vehicle_digit (n % 36) && vehicle_digits j (n / 36)) e
