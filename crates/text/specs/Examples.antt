-- Worked examples of the texts, each with what a reader tells of it.
-- They are about the definitions by which each reader answers.
use Rattle.std.specs.Prelude.{◌≡◌, Ok, Err, codes}
use Rattle.std.specs.Option.{ok_or}
use Rattle.keys.specs.Refusals.{plain}
use Rattle.text.specs.Codes.{code_of}
use Rattle.text.specs.VehicleKeys.{vehicle_key_of}

-- C1234 is 5234 in hexadecimal and U3FFF is FFFF; P4000 gets 12, since its digit passes 3;
-- 00000000Z0000000A packs to 35 and 10; a text with an I gets 12
abbrev pub TextExamples : Type 0
TextExamples =
    (ok_or (code_of (codes "C1234")) (plain 12) ≡ Ok 0x5234)
    × (ok_or (code_of (codes "U3FFF")) (plain 12) ≡ Ok 0xFFFF)
    × (ok_or (code_of (codes "P4000")) (plain 12) ≡ Err (plain 12))
    × (ok_or (vehicle_key_of (codes "00000000Z0000000A")) (plain 12) ≡ Ok (35, 10))
    × (ok_or (vehicle_key_of (codes "I0000000Z0000000A")) (plain 12) ≡ Err (plain 12))
