-- That the order of vehicle keys is total, for the key kind to name.
-- Two vehicle keys of equal numbers are the same: the proof in the key is a fact about a test, so there is only one.
use Rattle.std.proofs.Common.{◌≡◌, true, rules}
use mathlib.Core.Bool.{Bool-set}
use mathlib.Core.HLevel.{is_prop→PathP}
use Rattle.keys.specs.Orders.{Total, by_parts}
use Rattle.keys.specs.VehicleDigits.{spelled as spelled_by}
use Rattle.keys.specs.declared.vehicle.VehicleKey.{VehicleKey}

pub same_vehicle : (a b : VehicleKey) → a.first ≡ b.first → a.second ≡ b.second → a ≡ b
same_vehicle a b p q =
    λ i. record {
      first = p i;
      second = q i;
      spelled = is_prop→PathP (λ i. spelled_by (p i) (q i) ≡ true) (λ i. Bool-set (spelled_by (p i) (q i)) true) a.spelled b.spelled i;
    }

pub vehicles_ordered : Total {K = VehicleKey} (λ a b. by_parts a.first a.second b.first b.second)
vehicles_ordered =
    record {
      itself = λ a. search rules;
      same = λ a b e. same_vehicle a b (search rules) (search rules);
      turned = λ a b e. search rules;
      back = λ a b e. search rules;
      passes = λ a b c e f. search rules;
    }
