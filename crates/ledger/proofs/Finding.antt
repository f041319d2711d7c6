-- What `first`, `any` and counts give on lists that were joined, filtered or shuffled.
-- The one idea: where at most one element of a list is found, its place in the list does not matter.
use Rattle.std.proofs.Common.{◌≡◌, ℕ, ◌+◌, ◌≤◌, Bool, true, false, cond, ◌&&◌, ◌||◌, List, [], ◌∷◌, ◌++◌, is_some, Some, None, sum_by, count_by, filter, Option, sym, refl, ap, ◌∙◌, subst, arith}
use Rattle.std.specs.List.{cons_option, AllByRecursion}
use Rattle.std.proofs.lemmas.List.Sums.{sum_by-cons}
use Rattle.ledger.specs.Words.{when, listed, picked, first, or_else, any}
use Rattle.ledger.proofs.Permutations.{Perm, none, skip, swap, then, perm_sum}

-- each element, from what holds of all
pub all_of : {X : Type 0} (P : X → Type 0) → ((x : X) → P x) → (xs : List X) → AllByRecursion P xs
all_of P h [] = tt
all_of P h (x ∷ xs) = (h x, all_of P h xs)

-- each element, from two facts of it
pub all_both : {X : Type 0} (P Q S : X → Type 0) → ((x : X) → P x → Q x → S x) → (xs : List X) → AllByRecursion P xs → AllByRecursion Q xs → AllByRecursion S xs
all_both P Q S h [] a b = tt
all_both P Q S h (x ∷ xs) a b = (h x a.0 b.0, all_both P Q S h xs a.1 b.1)

pub all_append_parts : {X : Type 0} (P : X → Type 0) (xs ys : List X) → AllByRecursion P (xs ++ ys) → AllByRecursion P xs × AllByRecursion P ys
all_append_parts P [] ys a = (tt, a)
all_append_parts P (x ∷ xs) ys a = let r = all_append_parts P xs ys a.1 in ((a.0, r.0), r.1)

-- each that is picked, from what holds of what each element gives
pub all_picked : {X Y : Type 0} (P : Y → Type 0) (g : X → Option Y) (xs : List X) → AllByRecursion (λ x. AllByRecursion P (listed (g x))) xs → AllByRecursion P (picked g xs)
all_picked P g [] a = tt
all_picked {X} {Y} P g (x ∷ xs) a = go (g x) a.0 (all_picked P g xs a.1)
  where
    go : (o : Option Y) → AllByRecursion P (listed o) → AllByRecursion P (picked g xs) → AllByRecursion P (cons_option o (picked g xs))
    go None h i = i
    go (Some y) h i = (h.0, i)

pub picked_self : {X : Type 0} (g : X → Option X) (xs : List X) → AllByRecursion (λ x. g x ≡ Some x) xs → picked g xs ≡ xs
picked_self g [] a = refl
picked_self g (x ∷ xs) a = rw a.0 (ap (λ zs. x ∷ zs) (picked_self g xs a.1))

pub picked_none : {X Y : Type 0} (g : X → Option Y) (xs : List X) → AllByRecursion (λ x. g x ≡ None) xs → picked g xs ≡ []
picked_none g [] a = refl
picked_none g (x ∷ xs) a = rw a.0 (picked_none g xs a.1)

pub kept_all : {X : Type 0} (t : X → Bool) (xs : List X) → AllByRecursion (λ x. t x ≡ true) xs → filter t xs ≡ xs
kept_all t [] a = refl
kept_all t (x ∷ xs) a = rw a.0 (ap (λ zs. x ∷ zs) (kept_all t xs a.1))

pub any_kept : {X : Type 0} (p t : X → Bool) (xs : List X) → any p xs ≡ false → any p (filter t xs) ≡ false
any_kept p t [] h = refl
any_kept {X} p t (x ∷ xs) h = go (p x) (t x) refl h (λ h'. any_kept p t xs h')
  where
    go : (a b : Bool) → p x ≡ a → (a || any p xs) ≡ false → (any p xs ≡ false → any p (filter t xs) ≡ false) → any p (cond b (x ∷ filter t xs) (filter t xs)) ≡ false
    go true b e h rec = cc
    go false true e h rec = rw e (rec h)
    go false false e h rec = rec h

-- sums and counts
pub sum_mono : {X : Type 0} (f g : X → ℕ) (xs : List X) → AllByRecursion (λ x. f x ≤ g x) xs → sum_by f xs ≤ sum_by g xs
sum_mono f g [] a = omega arith
sum_mono f g (x ∷ xs) a =
    let i = sum_mono f g xs a.1 in
    let h = a.0 in
    omega (arith, sum_by-cons f x xs, sum_by-cons g x xs)

pub count_kept_le : {X : Type 0} (p q : X → Bool) (xs : List X) → count_by p (filter q xs) ≤ count_by p xs
count_kept_le p q [] = omega arith
count_kept_le {X} p q (x ∷ xs) = go (q x) (count_kept_le p q xs)
  where
    go : (b : Bool) → count_by p (filter q xs) ≤ count_by p xs → count_by p (cond b (x ∷ filter q xs) (filter q xs)) ≤ count_by p (x ∷ xs)
    go true i = omega (arith, sum_by-cons (λ x. cond (p x) 1 0) x (filter q xs), sum_by-cons (λ x. cond (p x) 1 0) x xs)
    go false i = omega (arith, sum_by-cons (λ x. cond (p x) 1 0) x xs)

pub count_none : {X : Type 0} (p : X → Bool) (xs : List X) → AllByRecursion (λ x. p x ≡ false) xs → count_by p xs ≡ 0
count_none p [] a = refl
count_none p (x ∷ xs) a =
    let i = count_none p xs a.1 in
    let h : ◌≡◌ {A = ℕ} (cond (p x) 1 0) 0 = rw a.0 in
    omega (arith, sum_by-cons (λ x. cond (p x) 1 0) x xs)

pub all_none : {X : Type 0} (p : X → Bool) (xs : List X) → count_by p xs ≡ 0 → AllByRecursion (λ x. p x ≡ false) xs
all_none p [] e = tt
all_none {X} p (x ∷ xs) e = (go (p x) refl, all_none p xs (omega (arith, sum_by-cons (λ x. cond (p x) 1 0) x xs)))
  where
    go : (b : Bool) → p x ≡ b → p x ≡ false
    go false q = q
    go true q =
        let h : ◌≡◌ {A = ℕ} (cond (p x) 1 0) 1 = rw q in
        absurd (omega (arith, sum_by-cons (λ x. cond (p x) 1 0) x xs))

-- finding
abbrev pub found : {X Y : Type 0} → (X → Option Y) → X → Bool
found f x = is_some (f x)

pub none_if : {X : Type 0} (o : Option X) → is_some o ≡ false → o ≡ None
none_if None e = refl
none_if (Some x) e = cc

pub found_when : {X : Type 0} (b : Bool) (x : X) → is_some (when b x) ≡ b
found_when true x = refl
found_when false x = refl

pub when_off : {X : Type 0} (b c : Bool) (x : X) → c ≡ false → when (b && c) x ≡ None
when_off true c x e = rw e
when_off false c x e = refl

pub or_none : {Y : Type 0} (o : Option Y) → or_else o None ≡ o
or_none None = refl
or_none (Some y) = refl

pub first_same : {X Y : Type 0} (f g : X → Option Y) (xs : List X) → AllByRecursion (λ x. f x ≡ g x) xs → first f xs ≡ first g xs
first_same f g [] a = refl
first_same f g (x ∷ xs) a = rw a.0 (ap (λ o. or_else (g x) o) (first_same f g xs a.1))

pub first_append : {X Y : Type 0} (f : X → Option Y) (xs ys : List X) → first f (xs ++ ys) ≡ or_else (first f xs) (first f ys)
first_append f [] ys = refl
first_append {X} {Y} f (x ∷ xs) ys = ap (λ o. or_else (f x) o) (first_append f xs ys) ∙ sym (or_assoc (f x) (first f xs) (first f ys))
  where
    or_assoc : (a b c : Option Y) → or_else (or_else a b) c ≡ or_else a (or_else b c)
    or_assoc None b c = refl
    or_assoc (Some y) b c = refl

pub first_none : {X Y : Type 0} (f : X → Option Y) (xs : List X) → AllByRecursion (λ x. f x ≡ None) xs → first f xs ≡ None
first_none f [] a = refl
first_none f (x ∷ xs) a = rw a.0 (first_none f xs a.1)

-- nothing is found, so nothing is there
pub none_found : {X Y : Type 0} (f : X → Option Y) (xs : List X) → first f xs ≡ None → AllByRecursion (λ x. f x ≡ None) xs
none_found f [] e = tt
none_found {X} {Y} f (x ∷ xs) e = go (f x) refl e (λ e'. none_found f xs e')
  where
    go : (o : Option Y) → f x ≡ o → or_else o (first f xs) ≡ None → (first f xs ≡ None → AllByRecursion (λ x. f x ≡ None) xs) → (f x ≡ None) × AllByRecursion (λ x. f x ≡ None) xs
    go None p e rec = (p, rec e)
    go (Some y) p e rec = cc

-- what f finds in the option
abbrev pub and_then : {X Y : Type 0} → Option X → (X → Option Y) → Option Y
and_then None f = None
and_then (Some x) f = f x

-- what is found after g changed each element
pub first_picked : {X Y Z : Type 0} (f : Y → Option Z) (h : X → Option Z) (g : X → Option Y) (xs : List X) → AllByRecursion (λ x. and_then (g x) f ≡ h x) xs → first f (picked g xs) ≡ first h xs
first_picked f h g [] a = refl
first_picked {X} {Y} {Z} f h g (x ∷ xs) a = go (g x) (h x) a.0 (first_picked f h g xs a.1)
  where
    go : (o : Option Y) (r : Option Z) → and_then o f ≡ r → first f (picked g xs) ≡ first h xs → first f (cons_option o (picked g xs)) ≡ or_else r (first h xs)
    go None r e i = rw (← e) i
    go (Some y) r e i = rw (e, i)

-- how much is found after g changed each element
pub count_picked : {X Y Z : Type 0} (f : Y → Option Z) (g : X → Option Y) (xs : List X) → count_by (found f) (picked g xs) ≡ count_by (λ x. is_some (and_then (g x) f)) xs
count_picked f g [] = refl
count_picked {X} {Y} {Z} f g (x ∷ xs) =
    let i = count_picked f g xs in
    let o = one (g x) in
    omega (arith, sum_by-cons (λ x. cond (is_some (and_then (g x) f)) 1 0) x xs)
  where
    one : (o : Option Y) → count_by (found f) (cons_option o (picked g xs)) ≡ cond (is_some (and_then o f)) 1 0 + count_by (found f) (picked g xs)
    one None = omega arith
    one (Some y) = omega (arith, sum_by-cons (λ y. cond (found f y) 1 0) y (picked g xs))

pub first_kept : {X Y : Type 0} (f : X → Option Y) (t : X → Bool) (xs : List X) → ((x : X) → t x ≡ false → f x ≡ None) → first f (filter t xs) ≡ first f xs
first_kept f t [] h = refl
first_kept {X} {Y} f t (x ∷ xs) h = go (t x) refl (first_kept f t xs h)
  where
    go : (b : Bool) → t x ≡ b → first f (filter t xs) ≡ first f xs → first f (cond b (x ∷ filter t xs) (filter t xs)) ≡ or_else (f x) (first f xs)
    go true e i = ap (λ o. or_else (f x) o) i
    go false e i = rw (h x e) i

first_swap : {Y : Type 0} (a b o : Option Y) → cond (is_some a) 1 0 + cond (is_some b) 1 0 ≤ 1 → or_else a (or_else b o) ≡ or_else b (or_else a o)
first_swap None b o h = refl
first_swap (Some y) None o h = refl
first_swap (Some y) (Some z) o h = absurd (omega arith)

-- where at most one is found, the order does not matter
pub first_perm : {X Y : Type 0} (f : X → Option Y) {xs ys : List X} → Perm xs ys → count_by (found f) xs ≤ 1 → first f xs ≡ first f ys
first_perm f none h = refl
first_perm {X} {Y} f (skip {x} {xs} {ys} p) h =
    ap (λ o. or_else (f x) o) (first_perm f p (omega (arith, sum_by-cons (λ x. cond (found f x) 1 0) x xs)))
first_perm {X} {Y} f (swap {x} {y} {xs} {ys} p) h =
    first_swap (f x) (f y) (first f xs) (omega (arith, sum_by-cons (λ x. cond (found f x) 1 0) x (y ∷ xs), sum_by-cons (λ x. cond (found f x) 1 0) y xs))
    ∙ ap (λ o. or_else (f y) (or_else (f x) o)) (first_perm f p (omega (arith, sum_by-cons (λ x. cond (found f x) 1 0) x (y ∷ xs), sum_by-cons (λ x. cond (found f x) 1 0) y xs)))
first_perm f (then {xs} {ys} p q) h = first_perm f p h ∙ first_perm f q (subst (λ n. n ≤ 1) (perm_sum (λ x. cond (found f x) 1 0) p) h)
