-- Vehicle keys as text: seventeen vehicle characters, of which the first nine and the last eight each write a number in base 36.
-- Keys are told apart by their numbers, so the definitions speak of the two numbers, and of the one key that has them.
use Rattle.std.specs.Option.{option_zip}
use Rattle.std.specs.Prelude.{◌≡◌, ℕ, Bool, true, false, cond, refl, List, ◌++◌, length, take, drop, Some, None, Ok, Err, Option, Result, ◌==◌}
use Rattle.keys.specs.Refusals.{Code}
use Rattle.keys.specs.VehicleDigits.{spelled}
use Rattle.keys.specs.Vehicles.{numbers}
use Rattle.keys.specs.declared.vehicle.VehicleKey.{VehicleKey}
use Rattle.text.specs.Digits.{number_of, last_digits}
use Rattle.text.specs.Refusals.{code}
use Rattle.text.specs.declared.refusal.TextRefusal.{TextRefusal}

-- the numbers of the key that a text stands for
unfoldable pub vehicle_key_of : List ℕ → Option (ℕ × ℕ)
vehicle_key_of s = cond (length s == 17) (option_zip (number_of 36 (take 9 s)) (number_of 36 (drop 9 s))) None

-- the key with these two numbers, by the test whether a text gives them, since a key holds what the test says
abbrev pub key_with : (first second : ℕ) (b : Bool) → spelled first second ≡ b → Option VehicleKey
key_with first second true e = Some (record { first = first; second = second; spelled = e })
key_with first second false e = None

-- the key with the numbers that were found; none where no text gives them
abbrev pub key_of : Option (ℕ × ℕ) → Option VehicleKey
key_of None = None
key_of (Some p) = key_with p.0 p.1 (spelled p.0 p.1) refl

-- the key that a text stands for
abbrev pub vehicle_of : List ℕ → Option VehicleKey
vehicle_of s = key_of (vehicle_key_of s)

-- the text of a key
unfoldable pub vehicle_key_text : VehicleKey → List ℕ
vehicle_key_text key = last_digits 36 9 key.first ++ last_digits 36 8 key.second

-- a result by the numbers of its key, its refusal as it is told
abbrev pub numbered : Result VehicleKey TextRefusal → Result (ℕ × ℕ) Code
numbered (Ok key) = Ok (numbers key)
numbered (Err e) = Err (code e)
