-- Coolant temperatures in degrees Celsius, and their texts.
-- A byte holds the degrees above -40, so its values are just those of the range.
use Rattle.std.specs.Prelude.{ℕ, ◌+◌, ◌-◌, ◌≤◌, Bool, cond, ◌&&◌, List, length, drop, ℤ, pos, negsuc, ◌-ℤ◌, Some, None, Option, ◌==◌, int_le, nat_lt, slice_index}
use Rattle.std.specs.Fmt.{signed_decimal}
use Rattle.text.specs.Decimals.{decimal_of}
use Rattle.text.specs.declared.coolant.Coolant.{Coolant}

-- a temperature in degrees
abbrev pub celsius : Coolant → ℤ
celsius coolant = pos coolant.raw -ℤ pos 40

-- whether so many degrees are from -40 to 215
abbrev pub in_range : ℤ → Bool
in_range degrees = int_le (negsuc 39) degrees && int_le degrees (pos 215)

-- the text of a temperature: the degrees in decimal, with a minus sign below zero
unfoldable pub coolant_text : Coolant → List ℕ
coolant_text coolant = signed_decimal (celsius coolant)

-- the temperature of so many degrees below zero; -0 is none
abbrev pub below_zero : Option ℕ → Option Coolant
below_zero None = None
below_zero (Some n) = cond (n == 0) None (Some (record { raw = 40 - n }))

-- the temperature of so many degrees from zero up
abbrev pub from_zero : Option ℕ → Option Coolant
from_zero None = None
from_zero (Some n) = Some (record { raw = 40 + n })

-- the temperature that a text stands for, from -40 to 215; byte 45 is the minus sign
unfoldable pub coolant_of : List ℕ → Option Coolant
coolant_of s =
    cond (nat_lt 0 (length s) && slice_index s 0 == 45) (below_zero (decimal_of 40 (drop 1 s))) (from_zero (decimal_of 215 s))

-- the range of a temperature's byte, which every temperature of a program keeps
abbrev pub CoolantFits : Coolant → Type 0
CoolantFits coolant = coolant.raw ≤ 255
