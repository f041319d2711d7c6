-- Records as text: their fields in decimal, each parted from the next by one space (byte 32).
-- A text whose fields are not of the record's ranges stands for none.
use Rattle.std.specs.Option.{option_map, option_zip}
use Rattle.std.specs.Prelude.{ℕ, ◌≤◌, List, ◌∷◌, ◌++◌, decimal, Option}
use Rattle.text.specs.Coolants.{coolant_of, coolant_text}
use Rattle.text.specs.Decimals.{decimal_of}
use Rattle.text.specs.Fields.{first_field, later_fields}
use Rattle.text.specs.declared.record.FaultRecord.{FaultRecord}
use Rattle.text.specs.declared.record.VehicleRecord.{VehicleRecord}

-- the fault record that a text stands for
unfoldable pub fault_of : List ℕ → Option FaultRecord
fault_of s =
    option_map (λ f. record { status = f.0; occurrences = f.1.0; engine_speed = f.1.1.0; coolant = f.1.1.1 })
    (option_zip (decimal_of 255 (first_field s))
    (option_zip (decimal_of 65535 (first_field (later_fields s)))
    (option_zip (decimal_of 65535 (first_field (later_fields (later_fields s))))
    (coolant_of (later_fields (later_fields (later_fields s)))))))

-- the text of a fault record
unfoldable pub fault_text : FaultRecord → List ℕ
fault_text f =
    decimal f.status ++ 32 ∷ (decimal f.occurrences ++ 32 ∷ (decimal f.engine_speed ++ 32 ∷ coolant_text f.coolant))

-- the ranges of a fault record's numbers, which every fault record of a program keeps
abbrev pub FaultFits : FaultRecord → Type 0
FaultFits f = (f.status ≤ 255) × (f.occurrences ≤ 65535) × (f.engine_speed ≤ 65535) × (f.coolant.raw ≤ 255)

-- the vehicle record that a text stands for
unfoldable pub vehicle_record_of : List ℕ → Option VehicleRecord
vehicle_record_of s =
    option_map (λ v. record { kilometres = v.0; work_order = v.1 })
    (option_zip (decimal_of 4294967295 (first_field s)) (decimal_of 4294967295 (later_fields s)))

-- the text of a vehicle record
abbrev pub vehicle_record_text : VehicleRecord → List ℕ
vehicle_record_text v = decimal v.kilometres ++ 32 ∷ decimal v.work_order

-- the ranges of a vehicle record's numbers, which every vehicle record of a program keeps
abbrev pub VehicleRecordFits : VehicleRecord → Type 0
VehicleRecordFits v = (v.kilometres ≤ 4294967295) × (v.work_order ≤ 4294967295)
