-- Vehicle keys by their numbers.
use Rattle.std.specs.Prelude.{ℕ}
use Rattle.keys.specs.declared.vehicle.VehicleKey.{VehicleKey}

-- the two numbers of a key
abbrev pub numbers : VehicleKey → ℕ × ℕ
numbers key = (key.first, key.second)
