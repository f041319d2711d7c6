-- The least of some keys: it does not depend on their order in the list, and it is the one that is there and that no other is below.
use Rattle.std.proofs.Common.{◌≡◌, Bool, true, false, cond, ◌⊎◌, List, [], ◌∷◌, Some, None, Option, Ordering, Less, Equal, Greater, sym, refl, ap, ◌∙◌, subst, inl, inr}
use Rattle.std.specs.List.{cons_option, AllByRecursion}
use Rattle.std.proofs.ByRecursion.{All-weaker}
use Rattle.std.specs.Ordering.{is_lt}
use Rattle.keys.specs.Orders.{Total}
use Rattle.ledger.specs.Words.{less, lesser, least}
use Rattle.ledger.proofs.Permutations.{Perm, none, skip, swap, then}

-- the key is one of these
abbrev pub In : {K : Type 0} → K → List K → Type 0
In k [] = ⊥
In k (q ∷ qs) = (q ≡ k) ⊎ In k qs

pub in_behind : {K : Type 0} (k : K) (o : Option K) (ks : List K) → In k ks → In k (cons_option o ks)
in_behind k None ks i = i
in_behind k (Some q) ks i = inr i

-- what holds of each of some keys holds of one of them
pub all_in : {K : Type 0} (P : K → Type 0) (ks : List K) (k : K) → AllByRecursion P ks → In k ks → P k
all_in P [] k a i = absurd i
all_in P (q ∷ qs) k a (inl e) = subst P e a.0
all_in P (q ∷ qs) k a (inr i) = all_in P qs k a.1 i

module _ {K : Type 0} (order : K → K → Ordering) (tot : Total order) where
  abbrev min : K → K → K
  min a b = cond (less order b a) b a

  less_is : (a b : K) → less order a b ≡ true → order a b ≡ Less
  less_is a b h = go (order a b) h
    where
      go : (o : Ordering) → is_lt o ≡ true → o ≡ Less
      go Less h = refl
      go Equal h = cc
      go Greater h = cc

  less_passes : (a b c : K) → less order a b ≡ true → less order b c ≡ true → less order a c ≡ true
  less_passes a b c p q = ap is_lt (tot.passes a b c (less_is a b p) (less_is b c q))

  min_comm : (a b : K) → min a b ≡ min b a
  min_comm a b = go (order a b) refl
    where
      go : (o : Ordering) → order a b ≡ o → cond (is_lt (order b a)) b a ≡ cond (is_lt (order a b)) a b
      go Less e = rw (e, tot.turned a b e)
      go Greater e = rw (e, tot.back a b e)
      go Equal e = let s = tot.same a b e in rw s

  -- z is not below y, nor y below x, so z is not below x
  pub not_below : (x y z : K) → less order z y ≡ false → less order y x ≡ false → less order z x ≡ false
  not_below x y z p q = go (less order z x) refl (order y x) refl q
    where
      go : (c : Bool) → less order z x ≡ c → (o : Ordering) → order y x ≡ o → is_lt o ≡ false → less order z x ≡ false
      go false e o eo qo = e
      go true e Less eo qo = cc
      go true e Equal eo qo = cc (tot.same y x eo)
      go true e Greater eo qo = cc (less_passes z x y e (ap is_lt (tot.back y x eo)))

  min_assoc : (x y z : K) → min x (min y z) ≡ min (min x y) z
  min_assoc x y z = go (less order z y) (less order y x) refl refl
    where
      go : (p q : Bool) → less order z y ≡ p → less order y x ≡ q → cond (less order (cond p z y) x) (cond p z y) x ≡ cond (less order z (cond q y x)) z (cond q y x)
      go true true ep eq = rw (ep, less_passes z y x ep eq)
      go true false ep eq = refl
      go false true ep eq = rw (ep, eq)
      go false false ep eq = rw (eq, not_below x y z ep eq)

  lesser_swap : (x y : K) (o : Option K) → lesser order x (Some (lesser order y o)) ≡ lesser order y (Some (lesser order x o))
  lesser_swap x y None = min_comm x y
  lesser_swap x y (Some z) = min_assoc x y z ∙ (ap (λ m. min m z) (min_comm x y) ∙ sym (min_assoc y x z))

  pub least_perm : {xs ys : List K} → Perm xs ys → least order xs ≡ least order ys
  least_perm none = refl
  least_perm (skip {x} p) = ap (λ o. Some (lesser order x o)) (least_perm p)
  least_perm (swap {x} {y} {xs} {ys} p) = ap Some (lesser_swap x y (least order xs)) ∙ ap (λ o. Some (lesser order y (Some (lesser order x o)))) (least_perm p)
  least_perm (then p q) = least_perm p ∙ least_perm q

  less_not_itself : (a : K) → less order a a ≡ false
  less_not_itself a = ap is_lt (tot.itself a)

  less_not_back : (a b : K) → less order a b ≡ true → less order b a ≡ false
  less_not_back a b h = ap is_lt (tot.turned a b (less_is a b h))

  -- of two keys neither of which is below the other, the second is the first
  neither_below : (a b : K) → less order a b ≡ false → less order b a ≡ false → a ≡ b
  neither_below a b p q = go (order a b) refl
    where
      go : (o : Ordering) → order a b ≡ o → a ≡ b
      go Less e = cc (ap is_lt e)
      go Equal e = tot.same a b e
      go Greater e = cc (ap is_lt (tot.back a b e))

  -- the key is one of these, and none of them is below it
  abbrev pub IsLeast : List K → K → Type 0
  IsLeast ks k = In k ks × AllByRecursion (λ q. less order q k ≡ false) ks

  pub least_there : (ks : List K) (k : K) → least order ks ≡ Some k → IsLeast ks k
  least_there [] k e = cc
  least_there (q ∷ qs) k e = go qs (least order qs) refl e (λ m em. least_there qs m em)
    where
      go : (qs : List K) (o : Option K) → least order qs ≡ o → Some (lesser order q o) ≡ Some k → ((m : K) → least order qs ≡ Some m → IsLeast qs m) → IsLeast (q ∷ qs) k
      go [] None eo ek rec = let eq : q ≡ k = cc in subst (IsLeast (q ∷ [])) eq (inl refl, (less_not_itself q, tt))
      go [] (Some m) eo ek rec = cc
      go (x ∷ xs) None eo ek rec = cc
      go (x ∷ xs) (Some m) eo ek rec = pick (less order m q) refl ek (rec m eo)
        where
          pick : (b : Bool) → less order m q ≡ b → Some (cond b m q) ≡ Some k → IsLeast (x ∷ xs) m → IsLeast (q ∷ (x ∷ xs)) k
          pick true eb ek i = let em : m ≡ k = cc in subst (IsLeast (q ∷ (x ∷ xs))) em (inr i.0, (less_not_back m q eb, i.1))
          pick false eb ek i = let eq : q ≡ k = cc in subst (IsLeast (q ∷ (x ∷ xs))) eq (inl refl, (less_not_itself q, All-weaker (λ x. less order x m ≡ false) (λ x. less order x q ≡ false) (λ x h. not_below q m x h eb) (x ∷ xs) i.1))

  -- a key that is there, and that no key there is below, is the least
  pub least_is : (ks : List K) (k : K) → IsLeast ks k → least order ks ≡ Some k
  least_is [] k i = absurd i.0
  least_is (q ∷ qs) k i =
      let m = lesser order q (least order qs) in
      let l = least_there (q ∷ qs) m refl in
      ap Some (neither_below m k (all_in (λ x. less order x k ≡ false) (q ∷ qs) m i.1 l.0) (all_in (λ x. less order x m ≡ false) (q ∷ qs) k l.1 i.0))
