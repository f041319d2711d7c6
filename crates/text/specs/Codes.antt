-- Trouble codes and code keys as text.
-- A code text is a letter for the top two of sixteen bits and four hexadecimal digits for the low fourteen, so that the first of these is 0 to 3.
-- A code key's text is the unit in hexadecimal, a colon and the code text.
use Rattle.std.specs.Prelude.{ℕ, ◌+◌, ◌*◌, ◌/◌, ◌%◌, ◌<◌, cond, ◌&&◌, List, ◌∷◌, ◌++◌, length, take, drop, Some, None, Option, ◌==◌, slice_index}
use Rattle.keys.specs.declared.code.CodeKey.{CodeKey}
use Rattle.std.specs.Option.{option_map, option_zip}
use Rattle.text.specs.declared.code.TroubleCode.{TroubleCode}
use Rattle.text.specs.Digits.{number_of, at_most, last_digits}

-- the letters P, C, B, U stand for 0 to 3
abbrev pub letter_value : ℕ → Option ℕ
letter_value b =
    cond (b == 80) (Some 0) (cond (b == 67) (Some 1) (cond (b == 66) (Some 2) (cond (b == 85) (Some 3) None)))

-- the letter of a value from 0 to 3
abbrev pub letter_of : ℕ → ℕ
letter_of n = cond (n == 0) 80 (cond (n == 1) 67 (cond (n == 2) 66 85))

-- the code that a text stands for
unfoldable pub code_of : List ℕ → Option ℕ
code_of s =
    cond (length s == 5)
    (option_map (λ bits. bits.0 * 0x4000 + bits.1) (option_zip (letter_value (slice_index s 0)) (at_most 0x3FFF (number_of 16 (drop 1 s))))) None

-- the trouble code that a text stands for
abbrev pub trouble_code_of : List ℕ → Option TroubleCode
trouble_code_of s = option_map (λ bits. record { bits = bits }) (code_of s)

-- the text of a code
unfoldable pub code_text : ℕ → List ℕ
code_text code = letter_of (code / 0x4000) ∷ last_digits 16 4 (code % 0x4000)

-- the code key that a text stands for; byte 58 is the colon
unfoldable pub code_key_of : List ℕ → Option CodeKey
code_key_of s =
    cond (length s == 10 && slice_index s 4 == 58)
    (option_map (λ key. record { unit = key.0; code = key.1 }) (option_zip (number_of 16 (take 4 s)) (code_of (drop 5 s)))) None

-- the text of a code key
unfoldable pub code_key_text : CodeKey → List ℕ
code_key_text key = last_digits 16 4 key.unit ++ 58 ∷ code_text key.code

-- the range of a trouble code's bits, which every trouble code of a program keeps
abbrev pub TroubleCodeFits : TroubleCode → Type 0
TroubleCodeFits code = code.bits < 0x10000

-- the ranges of a code key's numbers, which every code key of a program keeps
abbrev pub CodeKeyFits : CodeKey → Type 0
CodeKeyFits key = (key.unit < 0x10000) × (key.code < 0x10000)
