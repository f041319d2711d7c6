-- Lists whose elements are all different, and what all or some elements of a list have.
-- Serves running numbers, and the keys that jobs hold.
use Rattle.std.proofs.Common.{◌≡◌, ℕ, ◌+◌, ◌<◌, Bool, true, false, cond, ◌⊎◌, List, [], ◌∷◌, ◌++◌, map, filter, Some, None, Option, sym, refl, ap, subst, inl, inr, ⊎_elim, arith}
use Rattle.std.specs.List.{cons_option, flat_map, AllByRecursion}
use Rattle.std.proofs.ByRecursion.{All-append, All-push, All-weaker}
use Rattle.ledger.proofs.Finding.{all_append_parts}
use Rattle.bridge.specs.Soundness.{Apart, SomeOf, GivenOut}

-- the list has the element
abbrev pub Has : {X : Type 0} → X → List X → Type 0
Has x = SomeOf (λ y. y ≡ x)

-- no element of the one list is one of the other
abbrev pub Off : {X : Type 0} → List X → List X → Type 0
Off xs ys = AllByRecursion (λ x. AllByRecursion (λ y. x ≡ y → ⊥) ys) xs

pub some_all : {X : Type 0} (P Q : X → Type 0) (xs : List X) → SomeOf P xs → AllByRecursion Q xs → (x : X) × P x × Q x
some_all P Q [] s a = absurd s
some_all P Q (x ∷ xs) (inl p) a = (x, p, a.0)
some_all P Q (x ∷ xs) (inr s) a = some_all P Q xs s a.1

pub some_map : {X : Type 0} (P Q S : X → Type 0) → ((x : X) → P x → Q x → S x) → (xs : List X) → SomeOf P xs → AllByRecursion Q xs → SomeOf S xs
some_map P Q S f [] s a = s
some_map P Q S f (x ∷ xs) (inl p) a = inl (f x p a.0)
some_map P Q S f (x ∷ xs) (inr s) a = inr (some_map P Q S f xs s a.1)

pub some_left : {X : Type 0} (P : X → Type 0) (xs ys : List X) → SomeOf P xs → SomeOf P (xs ++ ys)
some_left P [] ys s = absurd s
some_left P (x ∷ xs) ys (inl p) = inl p
some_left P (x ∷ xs) ys (inr s) = inr (some_left P xs ys s)

pub some_right : {X : Type 0} (P : X → Type 0) (xs ys : List X) → SomeOf P ys → SomeOf P (xs ++ ys)
some_right P [] ys s = s
some_right P (x ∷ xs) ys s = inr (some_right P xs ys s)

pub has_behind : {X : Type 0} (x : X) (o : Option X) (xs : List X) → Has x xs → Has x (cons_option o xs)
has_behind x None xs h = h
has_behind x (Some y) xs h = inr h

pub some_parts : {X : Type 0} (P : X → Type 0) (xs ys : List X) → SomeOf P (xs ++ ys) → SomeOf P xs ⊎ SomeOf P ys
some_parts P [] ys s = inr s
some_parts P (x ∷ xs) ys (inl p) = inl (inl p)
some_parts P (x ∷ xs) ys (inr s) = ⊎_elim (λ h. inl (inr h)) (λ h. inr h) (some_parts P xs ys s)

pub not_has : {X : Type 0} (x : X) (xs : List X) → AllByRecursion (λ y. x ≡ y → ⊥) xs → Has x xs → ⊥
not_has x [] a h = h
not_has x (y ∷ ys) a (inl e) = a.0 (sym e)
not_has x (y ∷ ys) a (inr h) = not_has x ys a.1 h

pub has_not : {X : Type 0} (x : X) (xs : List X) → (Has x xs → ⊥) → AllByRecursion (λ y. x ≡ y → ⊥) xs
has_not x [] h = tt
has_not x (y ∷ ys) h = (λ e. h (inl (sym e)), has_not x ys (λ s. h (inr s)))

pub off_has : {X : Type 0} (x : X) (xs ys : List X) → Off xs ys → Has x xs → Has x ys → ⊥
off_has x [] ys o a b = a
off_has x (z ∷ xs) ys o (inl e) b = not_has x ys (subst (λ w. AllByRecursion (λ y. w ≡ y → ⊥) ys) e o.0) b
off_has x (z ∷ xs) ys o (inr a) b = off_has x xs ys o.1 a b

pub apart_parts : {X : Type 0} (xs ys : List X) → Apart (xs ++ ys) → Apart xs × Apart ys × Off xs ys
apart_parts [] ys a = (tt, a, tt)
apart_parts (x ∷ xs) ys a =
    let i = apart_parts xs ys a.1 in
    let h = all_append_parts (λ y. x ≡ y → ⊥) xs ys a.0 in
    ((h.0, i.0), i.1, (h.1, i.2))

pub apart_join : {X : Type 0} (xs ys : List X) → Apart xs → Apart ys → Off xs ys → Apart (xs ++ ys)
apart_join [] ys a b o = b
apart_join (x ∷ xs) ys a b o = (All-append (λ y. x ≡ y → ⊥) xs ys a.0 o.0, apart_join xs ys a.1 b o.1)

pub apart_push : {X : Type 0} (x : X) (xs : List X) → Apart xs → (Has x xs → ⊥) → Apart (xs ++ (x ∷ []))
apart_push x [] a h = (tt, tt)
apart_push x (y ∷ ys) a h = (All-push (λ z. y ≡ z → ⊥) ys x a.0 (λ e. h (inl e)), apart_push x ys a.1 (λ s. h (inr s)))

module _ {X Y : Type 0} (f : X → List Y) (p : X → Bool) where
  all_joined_kept : (P : Y → Type 0) (xs : List X) → AllByRecursion P (flat_map f xs) → AllByRecursion P (flat_map f (filter p xs))
  all_joined_kept P [] a = tt
  all_joined_kept P (x ∷ xs) a = let h = all_append_parts P (f x) (flat_map f xs) a in go (p x) h (all_joined_kept P xs h.1)
    where
      go : (b : Bool) → AllByRecursion P (f x) × AllByRecursion P (flat_map f xs) → AllByRecursion P (flat_map f (filter p xs)) → AllByRecursion P (flat_map f (cond b (x ∷ filter p xs) (filter p xs)))
      go true h i = All-append P (f x) (flat_map f (filter p xs)) h.0 i
      go false h i = i

  -- what is joined stays apart where some elements go
  pub apart_joined_kept : (xs : List X) → Apart (flat_map f xs) → Apart (flat_map f (filter p xs))
  apart_joined_kept [] a = tt
  apart_joined_kept (x ∷ xs) a = let h = apart_parts (f x) (flat_map f xs) a in go (p x) h (apart_joined_kept xs h.1)
    where
      go : (b : Bool) → Apart (f x) × Apart (flat_map f xs) × Off (f x) (flat_map f xs) → Apart (flat_map f (filter p xs)) → Apart (flat_map f (cond b (x ∷ filter p xs) (filter p xs)))
      go true h i = apart_join (f x) (flat_map f (filter p xs)) h.0 i (All-weaker (λ y. AllByRecursion (λ z. y ≡ z → ⊥) (flat_map f xs)) (λ y. AllByRecursion (λ z. y ≡ z → ⊥) (flat_map f (filter p xs))) (λ y a. all_joined_kept (λ z. y ≡ z → ⊥) xs a) (f x) h.2)
      go false h i = i

module _ {X Y : Type 0} (f : X → Y) (p : X → Bool) where
  all_map_kept : (P : Y → Type 0) (xs : List X) → AllByRecursion P (map f xs) → AllByRecursion P (map f (filter p xs))
  all_map_kept P [] a = tt
  all_map_kept P (x ∷ xs) a = go (p x) (all_map_kept P xs a.1)
    where
      go : (b : Bool) → AllByRecursion P (map f (filter p xs)) → AllByRecursion P (map f (cond b (x ∷ filter p xs) (filter p xs)))
      go true i = (a.0, i)
      go false i = i

  apart_map_kept : (xs : List X) → Apart (map f xs) → Apart (map f (filter p xs))
  apart_map_kept [] a = tt
  apart_map_kept (x ∷ xs) a = go (p x) (apart_map_kept xs a.1)
    where
      go : (b : Bool) → Apart (map f (filter p xs)) → Apart (map f (cond b (x ∷ filter p xs) (filter p xs)))
      go true i = (all_map_kept (λ y. f x ≡ y → ⊥) xs a.0, i)
      go false i = i

pub kept_map : {X Y : Type 0} (f : X → Y) (p : Y → Bool) (xs : List X) → filter p (map f xs) ≡ map f (filter (λ x. p (f x)) xs)
kept_map f p [] = refl
kept_map {X} {Y} f p (x ∷ xs) = go (p (f x)) (kept_map f p xs)
  where
    go : (b : Bool) → filter p (map f xs) ≡ map f (filter (λ x. p (f x)) xs) → cond b (f x ∷ filter p (map f xs)) (filter p (map f xs)) ≡ map f (cond b (x ∷ filter (λ x. p (f x)) xs) (filter (λ x. p (f x)) xs))
    go true i = ap (λ ys. f x ∷ ys) i
    go false i = i

-- the next running number is given out
pub given_one : (n : ℕ) (xs : List ℕ) → GivenOut n xs → GivenOut (n + 1) (xs ++ (n ∷ []))
given_one n xs g = (
  apart_push n xs g.0 (λ h. let m = some_all (λ y. y ≡ n) (λ t. t < n) xs h g.1 in omega (arith, m.1, m.2)),
  All-push (λ t. t < n + 1) xs n (All-weaker (λ t. t < n) (λ t. t < n + 1) (λ x lt. omega arith) xs g.1) (omega arith),
)

-- it is given out to another
pub given_else : (n : ℕ) (xs : List ℕ) → GivenOut n xs → GivenOut (n + 1) xs
given_else n xs g = (g.0, All-weaker (λ t. t < n) (λ t. t < n + 1) (λ x lt. omega arith) xs g.1)

-- some are closed
pub given_kept : {X : Type 0} (f : X → ℕ) (p : X → Bool) (n : ℕ) (xs : List X) → GivenOut n (map f xs) → GivenOut n (map f (filter p xs))
given_kept f p n xs g = (apart_map_kept f p xs g.0, all_map_kept f p (λ t. t < n) xs g.1)
