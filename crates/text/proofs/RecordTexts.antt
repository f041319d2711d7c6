-- Records as text: what is read is the record's own text, and the text of every record reads back.
-- Field by field, with the laws of decimals, of temperatures and of fields.
use Rattle.std.proofs.Common.{ℕ, ◌^◌, ◌<◌, ◌≤◌, List, ◌∷◌, ◌++◌, decimal, Option, refl, arith}
use Rattle.std.specs.Option.{option_zip}
use Rattle.text.specs.Decimals.{decimal_of}
use Rattle.text.specs.Fields.{first_field, later_fields}
use Rattle.text.specs.Own.{Own}
use Rattle.text.specs.Records.{fault_of, fault_text, FaultFits, vehicle_record_of, vehicle_record_text, VehicleRecordFits}
use Rattle.text.proofs.CoolantTexts.{own_coolant}
use Rattle.text.proofs.DecimalTexts.{own_decimal}
use Rattle.text.proofs.FieldTexts.{decimal_one_field}
use Rattle.text.proofs.OwnTexts.{own_fields, own_made}

-- a decimal number and what stands behind it
own_behind : {Y : Type 0} (limit : ℕ) (value : List ℕ → Option Y) (text : Y → List ℕ) (Fits : Y → Type 0) → limit < 2 ^ 64 → Own value text Fits →
    Own (λ s. option_zip (decimal_of limit (first_field s)) (value (later_fields s))) (λ p. decimal p.0 ++ 32 ∷ text p.1) (λ p. (p.0 ≤ limit) × Fits p.1)
own_behind limit value text Fits h own =
    own_fields _ _ _ _ _ _ (own_decimal limit h) (λ n le. decimal_one_field n (omega arith)) own

pub own_fault : Own fault_of fault_text FaultFits
unfolding fault_of fault_text
own_fault =
    own_made _ _ _ _ (λ f. (f.status, (f.occurrences, (f.engine_speed, f.coolant)))) _
    (λ x. refl) (λ y. refl) (λ x h. (h.0, h.1.0, h.1.1.0, h.1.1.1)) (λ y h. (h.0, (h.1, (h.2, h.3))))
    (own_behind 255 _ _ _ (omega arith) (own_behind 65535 _ _ _ (omega arith) (own_behind 65535 _ _ _ (omega arith) own_coolant)))

pub own_vehicle_record : Own vehicle_record_of vehicle_record_text VehicleRecordFits
unfolding vehicle_record_of
own_vehicle_record =
    own_made _ _ _ _ (λ v. (v.kilometres, v.work_order)) _ (λ x. refl) (λ y. refl) (λ x h. h) (λ y h. h)
    (own_behind 4294967295 _ _ _ (omega arith) (own_decimal 4294967295 (omega arith)))
