-- What is used of a total order again and again: a key is another or it is not, and less never goes both ways.
use Rattle.std.proofs.Common.{◌≡◌, ◌⊎◌, Ordering, Less, Equal, Greater, sym, refl, subst, inl, inr}
use Rattle.keys.specs.Orders.{Total}

module _ {K : Type 0} (order : K → K → Ordering) (total : Total order) where
  pub never_less : (a : K) → order a a ≡ Less → ⊥
  never_less a h = let e : order a a ≡ Equal = total.itself a in cc

  pub less_apart : (a b : K) → order a b ≡ Less → a ≡ b → ⊥
  less_apart a b h e = never_less a (subst (λ (c : K). order a c ≡ Less) (sym e) h)

  pub not_both_less : (a b : K) → order a b ≡ Less → order b a ≡ Less → ⊥
  not_both_less a b h i = never_less a (total.passes a b a h i)

  pub same_or_not : (a b : K) → (a ≡ b) ⊎ (a ≡ b → ⊥)
  same_or_not a b = go (order a b) refl
    where
      go : (o : Ordering) → order a b ≡ o → (a ≡ b) ⊎ (a ≡ b → ⊥)
      go Less e = inr (less_apart a b e)
      go Equal e = inl (total.same a b e)
      go Greater e = inr (λ same. less_apart b a (total.back a b e) (sym same))
