-- Numbers in a base as text: digits that are read are the last digits of their number, and a number's last digits are read back
-- where they are all of its digits and each stands for itself. Both by induction from the last digit, which is where a number grows.
use Rattle.std.proofs.Common.{◌≡◌, ℕ, zero, suc, ◌+◌, ◌*◌, ◌/◌, ◌%◌, ◌^◌, ◌<◌, ◌≤◌, Bool, true, false, cond, List, [], ◌∷◌, ◌++◌, length, get_or, take, Some, None, Option, sym, refl, ap, ◌∙◌, subst, inl, inr, mod-lt, mul_comm, div-lt_iff_lt-mul, div-add-mod', add-one, arith, length-append, length-take}
use native.Mathlib.Nat.{pow-succ', pow-zero}
use lib.Arith.{digits_div, digits_lt, digits_mod}
use Rattle.std.proofs.lemmas.List.{take_all, take_more}
use Rattle.std.proofs.lemmas.List.Sums.{fold_push}
use Rattle.std.proofs.lemmas.Bool.{cases_lt, lt-ltb, le-ltb}
use Rattle.std.proofs.lemmas.Bool.Decides.{nat_tests}
use Rattle.text.specs.Digits.{digit_of, digit_byte, with_digit, with_digits, number_of, at_most, last_digits}
use Rattle.text.proofs.Reading.{at_most_is}

pub some_if : {X : Type 0} (b : Bool) (x : Option X) (v : X) → cond b x None ≡ Some v → (b ≡ true) × (x ≡ Some v)
some_if true x v e = (refl, e)
some_if false x v e = absurd (cc)

-- what is no number stays none
pub none_after : (base : ℕ) (s : List ℕ) → with_digits base None s ≡ None
none_after base [] = refl
none_after base (b ∷ bs) = none_after base bs

digit_parts : (base : ℕ) (o : Option ℕ) (d v : ℕ) → with_digit base o d ≡ Some v → (n : ℕ) × (o ≡ Some n) × (d < base) × (v ≡ n * base + d)
digit_parts base None d v e = absurd (cc)
digit_parts base (Some n) d v e =
    elim (cases_lt d base) [
      | inl h ↦ let t = lt-ltb d base h in let f : Some (n * base + d) ≡ Some v = simp t at e in (n, refl, h, cc)
      | inr h ↦ let t = le-ltb d base h in let n = simp t at e in absurd (cc)
    ]

-- what holds of the empty text, and with every digit that is put behind, holds of each text that writes a number
pub by_last_digit : (base : ℕ) (P : ℕ → ℕ → List ℕ → Type 0) → P 0 0 [] →
    ((count n b : ℕ) (s : List ℕ) → digit_of b < base → P count n s → P (suc count) (n * base + digit_of b) (s ++ (b ∷ []))) →
    (count : ℕ) (s : List ℕ) (v : ℕ) → length s ≡ count → number_of base s ≡ Some v → P count v s
by_last_digit base P none more zero [] v h e = let z : 0 ≡ v = cc in subst (λ (n : ℕ). P 0 n []) z none
by_last_digit base P none more zero (b ∷ bs) v h e = absurd (omega arith)
by_last_digit base P none more (suc count) s v h e =
    let b = get_or s count 0 in
    let front = take count s in
    let parts : s ≡ front ++ (b ∷ []) = sym (take_all (count + 1) s (omega arith)) ∙ take_more s count 0 (omega arith) in
    let p = digit_parts base _ (digit_of b) v (sym (fold_push _ (Some 0) front b) ∙ ap (number_of base) (sym parts) ∙ e) in
    let before = by_last_digit base P none more count front p.0 (length-take count s ∙ omega arith) p.1 in
    let whole = more count p.0 b front p.2 before in
    subst (λ (n : ℕ). P (suc count) n s) (sym p.3) (subst (λ (xs : List ℕ). P (suc count) (p.0 * base + digit_of b) xs) (sym parts) whole)

own_byte : (b : ℕ) → digit_of b < 36 → digit_byte (digit_of b) ≡ b
own_byte b h = grind (arith, nat_tests)

-- a text that writes a number consists of the number's last digits
pub own_digits : (base : ℕ) → base ≤ 36 → (count : ℕ) (s : List ℕ) (v : ℕ) → length s ≡ count → number_of base s ≡ Some v → last_digits base count v ≡ s
unfolding last_digits
own_digits base h =
    by_last_digit base (λ count v s. last_digits base count v ≡ s) refl
    (λ count n b s d e. rw (digits_div n d, digits_mod n d, e, own_byte b (omega (arith, d))))

-- so many digits write no larger number
pub digits_bound : (base count : ℕ) (s : List ℕ) (v : ℕ) → length s ≡ count → number_of base s ≡ Some v → v < base ^ count
digits_bound base =
    by_last_digit base (λ count v s. v < base ^ count) (omega (arith, pow-zero base))
    (λ count n b s d e. rw (pow-succ' base count, mul_comm base (base ^ count)) (digits_lt e d))

-- so a limit above it changes nothing
pub within_limit : (base count limit : ℕ) (s : List ℕ) (o : Option ℕ) → length s ≡ count → base ^ count ≤ limit + 1 → number_of base s ≡ o → at_most limit o ≡ o
within_limit base count limit s None h g e = refl
within_limit base count limit s (Some v) h g e = at_most_is limit v (omega (arith, digits_bound base count s v h e))

-- one digit more is put behind the others, and no digits are no bytes
pub one_more : (base count n : ℕ) → last_digits base (count + 1) n ≡ last_digits base count (n / base) ++ digit_byte (n % base) ∷ []
unfolding last_digits
one_more base count n = rw (add-one count) refl

pub no_digits : (base : ℕ) (out : List ℕ) (n : ℕ) → length out ≡ 0 → last_digits base (length out) n ≡ out
unfolding last_digits
no_digits base [] n h = refl
no_digits base (b ∷ bs) n h = absurd (omega arith)

pub ruleset written = (one_more, no_digits)

pub length_last_digits : (base count n : ℕ) → length (last_digits base count n) ≡ count
unfolding last_digits
length_last_digits base zero n = refl
length_last_digits base (suc count) n =
    length-append (last_digits base count (n / base)) (digit_byte (n % base) ∷ []) ∙ ap (λ m. m + 1) (length_last_digits base count (n / base)) ∙ add-one count

-- a number is read back from so many digits where these are all of its digits, and each stands for itself
pub digits_back : (base : ℕ) (All : ℕ → ℕ → Type 0) → 0 < base → ((n : ℕ) → All 0 n → n ≡ 0) →
    ((count n : ℕ) → All (suc count) n → (digit_of (digit_byte (n % base)) ≡ n % base) × All count (n / base)) →
    (count n : ℕ) → All count n → number_of base (last_digits base count n) ≡ Some n
unfolding last_digits
digits_back base All h none more zero n a = ap Some (sym (none n a))
digits_back base All h none more (suc count) n a =
    let p = more count n a in
    let w = digits_back base All h none more count (n / base) p.1 in
    let t = lt-ltb (n % base) base (mod-lt n h) in
    fold_push _ (Some 0) (last_digits base count (n / base)) (digit_byte (n % base))
    ∙ ap (λ o. with_digit base o (digit_of (digit_byte (n % base)))) w ∙ ap (with_digit base (Some (n / base))) p.0
    ∙ rw t (ap Some (div-add-mod' n base))

hex_byte : (d : ℕ) → d < 16 → digit_of (digit_byte d) ≡ d
hex_byte d h = grind (arith, nat_tests)

pub hex_back : (count n : ℕ) → n < 16 ^ count → number_of 16 (last_digits 16 count n) ≡ Some n
hex_back =
    digits_back 16 (λ count n. n < 16 ^ count) (omega arith) (λ n a. omega arith)
    (λ count n a. (hex_byte (n % 16) (omega arith), (div-lt_iff_lt-mul (omega arith)).1 (omega (arith, pow-succ' 16 count, mul_comm (16 ^ count) 16))))
