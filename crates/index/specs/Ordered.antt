-- The keys of an index in their order: the least of them, or the least of those greater than a given one.
use Rattle.std.specs.Prelude.{◌≡◌, ℕ, zero, suc, List, [], ◌∷◌, Some, None, Option, ◌≢◌}
use Rattle.std.specs.declared.cmp.Ordering.TheVariants.{Less}
use Rattle.std.specs.declared.cmp.Ordering.{Ordering}
use Rattle.keys.specs.Orders.{ranked}
use Rattle.index.specs.Slots.{Maps}

-- the key is greater than the given one, if one is given
abbrev pub Beyond : {K : Type 0} → (K → K → Ordering) → Option K → K → Type 0
Beyond order None key = Unit {0}
Beyond order (Some given) key = order given key ≡ Less

-- the answer is the least key beyond the given one with its number, or none where there is none
abbrev pub LeastBeyond : {K : Type 0} → (K → K → Ordering) → Option K → List (Option K) → Option (K × ℕ) → Type 0
LeastBeyond {K} order given slots None = (n : ℕ) (key : K) → Maps slots n key → Beyond order given key → ⊥
LeastBeyond {K} order given slots (Some pair) =
    Maps slots pair.1 pair.0 × Beyond order given pair.0 ×
    ((n : ℕ) (key : K) → Maps slots n key → Beyond order given key → order key pair.0 ≢ Less)

-- the key of the first slot, if it is beyond the given one
abbrev pub if_beyond : {K : Type 0} → (K → K → Ordering) → Option K → K → Option (K × ℕ)
if_beyond order None key = Some (key, zero)
if_beyond order (Some given) key = ranked (order given key) (Some (key, zero)) None None

-- a pair found in the slots behind the first one
abbrev pub pair_behind_first : {K : Type 0} → Option (K × ℕ) → Option (K × ℕ)
pair_behind_first None = None
pair_behind_first (Some pair) = Some (pair.0, suc pair.1)

-- the pair with the lesser key
abbrev pub lesser : {K : Type 0} → (K → K → Ordering) → Option (K × ℕ) → Option (K × ℕ) → Option (K × ℕ)
lesser order None other = other
lesser order (Some pair) None = Some pair
lesser order (Some pair) (Some other) = ranked (order other.0 pair.0) (Some other) (Some pair) (Some pair)

-- the least key beyond the given one with its number, or none
abbrev pub least : {K : Type 0} → (K → K → Ordering) → Option K → List (Option K) → Option (K × ℕ)
least order given [] = None
least order given (None ∷ slots) = pair_behind_first (least order given slots)
least order given (Some key ∷ slots) = lesser order (if_beyond order given key) (pair_behind_first (least order given slots))
