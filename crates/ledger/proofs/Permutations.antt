-- Lists with the same elements in any order, and what does not depend on the order: sums, what holds of each, filters.
-- The places of a store hold the versions of the ledger in an order of their own; this is all that is needed to see past it.
use Rattle.std.proofs.Common.{◌≡◌, ℕ, Bool, true, false, cond, not, List, [], ◌∷◌, ◌++◌, sum_by, Some, None, filter, Option, sym, refl, ap, ◌∙◌, subst, arith}
use Rattle.std.specs.List.{cons_option, flat_map, AllByRecursion}
use Rattle.std.proofs.lemmas.List.{append-nil, append_assoc}
use Rattle.std.proofs.lemmas.List.Sums.{sum_by-cons}
use Rattle.ledger.specs.Words.{when, picked}

pub data Perm {X : Type 0} : List X → List X → Type 0 where
  none : Perm [] []
  skip : {x : X} {xs ys : List X} → Perm xs ys → Perm (x ∷ xs) (x ∷ ys)
  swap : {x y : X} {xs ys : List X} → Perm xs ys → Perm (x ∷ (y ∷ xs)) (y ∷ (x ∷ ys))
  then : {xs ys zs : List X} → Perm xs ys → Perm ys zs → Perm xs zs

pub perm_refl : {X : Type 0} (xs : List X) → Perm xs xs
perm_refl [] = none
perm_refl (x ∷ xs) = skip (perm_refl xs)

pub perm_eq : {X : Type 0} (xs ys : List X) → xs ≡ ys → Perm xs ys
perm_eq xs ys e = subst (λ zs. Perm xs zs) e (perm_refl xs)

pub perm_sym : {X : Type 0} {xs ys : List X} → Perm xs ys → Perm ys xs
perm_sym none = none
perm_sym (skip p) = skip (perm_sym p)
perm_sym (swap p) = swap (perm_sym p)
perm_sym (then p q) = then (perm_sym q) (perm_sym p)

pub perm_append_left : {X : Type 0} (zs : List X) {xs ys : List X} → Perm xs ys → Perm (zs ++ xs) (zs ++ ys)
perm_append_left [] p = p
perm_append_left (z ∷ zs) p = skip (perm_append_left zs p)

pub perm_append_right : {X : Type 0} (zs : List X) {xs ys : List X} → Perm xs ys → Perm (xs ++ zs) (ys ++ zs)
perm_append_right zs none = perm_refl zs
perm_append_right zs (skip p) = skip (perm_append_right zs p)
perm_append_right zs (swap p) = swap (perm_append_right zs p)
perm_append_right zs (then p q) = then (perm_append_right zs p) (perm_append_right zs q)

-- an element may stand in front of a part or behind it
perm_front : {X : Type 0} (x : X) (xs ys : List X) → Perm (x ∷ (xs ++ ys)) (xs ++ (x ∷ ys))
perm_front x [] ys = perm_refl (x ∷ ys)
perm_front x (z ∷ xs) ys = then (swap (perm_refl (xs ++ ys))) (skip (perm_front x xs ys))

pub perm_turn : {X : Type 0} (xs ys : List X) → Perm (xs ++ ys) (ys ++ xs)
perm_turn [] ys = perm_eq ys (ys ++ []) (sym (append-nil ys))
perm_turn (x ∷ xs) ys = then (skip (perm_turn xs ys)) (perm_front x ys xs)

-- a part that stands in front of the second may stand in front of the first
pub perm_shift : {X : Type 0} (xs ys zs ws : List X) → Perm ws (ys ++ zs) → Perm (xs ++ ws) (ys ++ (xs ++ zs))
perm_shift xs ys zs ws p =
    then (perm_append_left xs p)
    (then (perm_eq (xs ++ (ys ++ zs)) ((xs ++ ys) ++ zs) (sym (append_assoc xs ys zs)))
    (then (perm_append_right zs (perm_turn xs ys)) (perm_eq ((ys ++ xs) ++ zs) (ys ++ (xs ++ zs)) (append_assoc ys xs zs))))

pub perm_all : {X : Type 0} (P : X → Type 0) {xs ys : List X} → Perm xs ys → AllByRecursion P xs → AllByRecursion P ys
perm_all P none a = a
perm_all P (skip p) a = (a.0, perm_all P p a.1)
perm_all P (swap p) a = (a.1.0, (a.0, perm_all P p a.1.1))
perm_all P (then p q) a = perm_all P q (perm_all P p a)

pub perm_sum : {X : Type 0} (f : X → ℕ) {xs ys : List X} → Perm xs ys → sum_by f xs ≡ sum_by f ys
perm_sum f none = refl
perm_sum f (skip {x} {xs} {ys} p) =
    let i = perm_sum f p in
    omega (arith, sum_by-cons f x xs, sum_by-cons f x ys)
perm_sum f (swap {x} {y} {xs} {ys} p) =
    let i = perm_sum f p in
    omega (arith, sum_by-cons f x (y ∷ xs), sum_by-cons f y xs, sum_by-cons f y (x ∷ ys), sum_by-cons f x ys)
perm_sum f (then p q) = perm_sum f p ∙ perm_sum f q

pub perm_joined : {X Y : Type 0} (f : X → List Y) {xs ys : List X} → Perm xs ys → Perm (flat_map f xs) (flat_map f ys)
perm_joined f none = none
perm_joined f (skip {x} p) = perm_append_left (f x) (perm_joined f p)
perm_joined f (swap {x} {y} {xs} {ys} p) =
    then (perm_shift (f x) (f y) (flat_map f xs) (f y ++ flat_map f xs) (perm_refl (f y ++ flat_map f xs)))
    (perm_append_left (f y) (perm_append_left (f x) (perm_joined f p)))
perm_joined f (then p q) = then (perm_joined f p) (perm_joined f q)

pub perm_picked : {X Y : Type 0} (g : X → Option Y) {xs ys : List X} → Perm xs ys → Perm (picked g xs) (picked g ys)
perm_picked g none = none
perm_picked {X} {Y} g (skip {x} {xs} {ys} p) = go (g x) (perm_picked g p)
  where
    go : (o : Option Y) → Perm (picked g xs) (picked g ys) → Perm (cons_option o (picked g xs)) (cons_option o (picked g ys))
    go None q = q
    go (Some y) q = skip q
perm_picked {X} {Y} g (swap {x} {y} {xs} {ys} p) = go (g x) (g y) (perm_picked g p)
  where
    go : (o p : Option Y) → Perm (picked g xs) (picked g ys) → Perm (cons_option o (cons_option p (picked g xs))) (cons_option p (cons_option o (picked g ys)))
    go None None q = q
    go None (Some y) q = skip q
    go (Some x) None q = skip q
    go (Some x) (Some y) q = swap q
perm_picked g (then p q) = then (perm_picked g p) (perm_picked g q)

-- a filter picks what passes
pub picked_kept : {X : Type 0} (test : X → Bool) (xs : List X) → picked (λ x. when (test x) x) xs ≡ filter test xs
picked_kept test [] = refl
picked_kept {X} test (x ∷ xs) = go (test x) (picked_kept test xs)
  where
    go : (b : Bool) → picked (λ x. when (test x) x) xs ≡ filter test xs → cons_option (when b x) (picked (λ x. when (test x) x) xs) ≡ cond b (x ∷ filter test xs) (filter test xs)
    go true e = ap (λ zs. x ∷ zs) e
    go false e = e

pub perm_kept : {X : Type 0} (test : X → Bool) (xs ys : List X) → Perm xs ys → Perm (filter test xs) (filter test ys)
perm_kept test xs ys p =
    subst (λ zs. Perm zs (filter test ys)) (picked_kept test xs) (subst (λ zs. Perm (picked (λ x. when (test x) x) xs) zs) (picked_kept test ys) (perm_picked (λ x. when (test x) x) p))

-- a list falls into what passes and what does not
pub kept_both : {X : Type 0} (test : X → Bool) (xs : List X) → Perm (filter test xs ++ filter (λ x. not (test x)) xs) xs
kept_both test [] = none
kept_both {X} test (x ∷ xs) = go (test x) (filter test xs) (filter (λ y. not (test y)) xs) (kept_both test xs)
  where
    go : (b : Bool) (ys zs : List X) → Perm (ys ++ zs) xs → Perm (cond b (x ∷ ys) ys ++ cond (not b) (x ∷ zs) zs) (x ∷ xs)
    go true ys zs p = skip p
    go false ys zs p = then (perm_sym (perm_front x ys zs)) (skip p)
