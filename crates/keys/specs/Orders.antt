-- What a total order is, and the order of two pairs of numbers by their first and then by their second parts.
use Rattle.std.specs.Prelude.{◌≡◌, ℕ, cond, ◌==◌, nat_lt}
use Rattle.std.specs.declared.cmp.Ordering.TheVariants.{Less, Equal, Greater}
use Rattle.std.specs.declared.cmp.Ordering.{Ordering}

-- exactly one of less, equal, greater holds of any two (the order is a function to the three), equal of the same alone;
-- greater just where the other way round is less; less passes on
pub record Total {K : Type 0} (order : K → K → Ordering) : Type 0 where
  pub itself : (a : K) → order a a ≡ Equal
  pub same : (a b : K) → order a b ≡ Equal → a ≡ b
  pub turned : (a b : K) → order a b ≡ Less → order b a ≡ Greater
  pub back : (a b : K) → order a b ≡ Greater → order b a ≡ Less
  pub passes : (a b c : K) → order a b ≡ Less → order b c ≡ Less → order a c ≡ Less

-- the order of whole numbers
abbrev pub ordered : ℕ → ℕ → Ordering
ordered m n = cond (nat_lt m n) Less (cond (m == n) Equal Greater)

-- a pair of numbers against another: by the first parts, and where these are equal by the second
abbrev pub by_parts : ℕ → ℕ → ℕ → ℕ → Ordering
by_parts first second first' second' = cond (nat_lt first first') Less (cond (first == first') (ordered second second') Greater)

-- one of three, as the first of two keys stands to the second
abbrev pub ranked : {X : Type 0} → Ordering → X → X → X → X
ranked Less less equal greater = less
ranked Equal less equal greater = equal
ranked Greater less equal greater = greater
