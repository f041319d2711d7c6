-- Small words on tests, lists and keys that the other definitions are written with.
-- Stands on the standard library alone; the words on options and lists are the library's own, as the rules call them.
use Rattle.std.specs.Prelude.{Bool, true, cond, List, [], ◌∷◌, Some, None, Option}
use Rattle.std.specs.declared.cmp.Ordering.{Ordering}
use Rattle.std.specs.Ordering.{is_eq, is_lt}
pub use Rattle.std.specs.Bool.{then_some as when}
pub use Rattle.std.specs.Option.{option_or as or_else, option_to_list as listed}
pub use Rattle.std.specs.List.{filter_map as picked, list_any as any, list_all as every}

-- what f finds first in a list
abbrev pub first : {X Y : Type 0} → (X → Option Y) → List X → Option Y
first f [] = None
first f (x ∷ xs) = or_else (f x) (first f xs)

module _ {K : Type 0} (order : K → K → Ordering) where
  -- are two keys the same?
  abbrev pub same : K → K → Bool
  same a b = is_eq (order a b)

  -- is the first of two keys less than the second?
  abbrev pub less : K → K → Bool
  less a b = is_lt (order a b)

  -- is the key greater than the given one, if one is given?
  abbrev pub beyond : Option K → K → Bool
  beyond None k = true
  beyond (Some q) k = less q k

  -- the lesser of a key and of another, if there is another
  abbrev pub lesser : K → Option K → K
  lesser k None = k
  lesser k (Some q) = cond (less q k) q k

  -- the least of some keys
  abbrev pub least : List K → Option K
  least [] = None
  least (k ∷ ks) = Some (lesser k (least ks))
