-- Decimal numbers as text: what is read is the number's own text, and the text of every number up to the limit reads back.
-- The standard library's `decimal` writes what a fold over digits reads; ours is that fold where all bytes are digits.
use Rattle.std.proofs.Common.{◌≡◌, ℕ, ◌+◌, ◌-◌, ◌*◌, ◌^◌, ◌<◌, ◌≤◌, Bool, true, false, cond, ◌&&◌, ◌||◌, eqb, ltb, List, [], ◌∷◌, length, get_or, Some, None, decimal, Option, sym, refl, ap, ◌∙◌, inl, inr, arith, rules}
use Rattle.std.proofs.lemmas.Fmt.{decimal_digit, decimal_nonempty, decimal-digits_value, digits_decimal, first_decimal, digits_value-decimal}
use Rattle.std.proofs.lemmas.Str.Parse.{IsNumeralModel, numerals_by_fold}
use Rattle.std.proofs.lemmas.Bool.{and_parts, cases_lt, lt-ltb, le-ltb}
use Rattle.std.proofs.lemmas.Bool.Decides.{nat_tests}
use Rattle.std.specs.Char.{is_ascii_digit}
use Rattle.std.specs.Str.{all_ascii_digits}
use Rattle.text.specs.Decimals.{decimal_of}
use Rattle.text.specs.Own.{Own}
use Rattle.text.specs.Digits.{digit_of, with_digits, at_most}
use Rattle.text.proofs.NumberTexts.{none_after}
use Rattle.text.proofs.Reading.{at_most_is, at_most_parts}

abbrev read_on : ℕ → List ℕ → ℕ
read_on n [] = n
read_on n (b ∷ bs) = read_on (n * 10 + (b - 48)) bs

folds : IsNumeralModel (λ s. all_ascii_digits s ≡ true) (read_on 0)
folds = numerals_by_fold _ (search rules) read_on (search rules)

digit_is : (b : ℕ) → is_ascii_digit b ≡ true → (digit_of b ≡ b - 48) × (digit_of b < 10)
digit_is b h = grind (arith, nat_tests)

is_digit : (b : ℕ) → digit_of b < 10 → (is_ascii_digit b ≡ true) × (digit_of b ≡ b - 48)
is_digit b h = grind (arith, nat_tests)

read_digits : (s : List ℕ) (n : ℕ) → all_ascii_digits s ≡ true → with_digits 10 (Some n) s ≡ Some (read_on n s)
read_digits [] n h = refl
read_digits (b ∷ bs) n h =
    let p = and_parts (is_ascii_digit b) (all_ascii_digits bs) h in
    let d = digit_is b p.0 in
    let t = lt-ltb (digit_of b) 10 d.1 in
    simp t (ap (λ m. with_digits 10 (Some (n * 10 + m)) bs) d.0 ∙ read_digits bs (n * 10 + (b - 48)) p.1)

digits_read : (s : List ℕ) (n v : ℕ) → with_digits 10 (Some n) s ≡ Some v → (all_ascii_digits s ≡ true) × (v ≡ read_on n s)
digits_read [] n v e = (refl, cc)
digits_read (b ∷ bs) n v e =
    elim (cases_lt (digit_of b) 10) [
      | inl h ↦
          let t = lt-ltb (digit_of b) 10 h in
          let d = is_digit b h in
          let i = digits_read bs (n * 10 + digit_of b) v (simp t at e) in
          (rw d.0 i.0, i.1 ∙ ap (λ m. read_on (n * 10 + m) bs) d.1)
      | inr h ↦ let t = le-ltb (digit_of b) 10 h in let n : None ≡ Some v = sym (none_after 10 bs) ∙ (simp t at e) in absurd (cc)
    ]

-- the test that refuses the empty text and leading zeros
passed : (b : Bool) (x : Option ℕ) (v : ℕ) → cond b None x ≡ Some v → (b ≡ false) × (x ≡ Some v)
passed true x v e = absurd (cc)
passed false x v e = (refl, e)

well_begun : (n b : ℕ) → (eqb n 0 || (eqb b 48 && ltb 1 n)) ≡ false → (0 < n) × (b ≡ 48 → n ≡ 1)
well_begun n b e = (grind (arith, nat_tests), λ f. grind (arith, nat_tests))

begun_well : (n b : ℕ) → 0 < n → (b ≡ 48 → n ≡ 1) → (eqb n 0 || (eqb b 48 && ltb 1 n)) ≡ false
begun_well n b h f = grind (arith, nat_tests, f)

only_zero : (v : ℕ) → v < 2 ^ 64 → get_or (decimal v) 0 0 ≡ 48 → length (decimal v) ≡ 1
only_zero v h e = grind (arith, first_decimal v, decimal_digit v)

-- a text that reads as a number is the number's own
pub decimal_forth : (limit : ℕ) (s : List ℕ) (v : ℕ) → limit < 2 ^ 64 → decimal_of limit s ≡ Some v → (v ≤ limit) × (decimal v ≡ s)
unfolding decimal_of
decimal_forth limit s v h e =
    let plain = passed (eqb (length s) 0 || (eqb (get_or s 0 0) 48 && ltb 1 (length s))) _ v e in
    let begun = well_begun (length s) (get_or s 0 0) plain.0 in
    let p = at_most_parts limit (with_digits 10 (Some 0) s) v plain.1 in
    let r = digits_read s 0 v p.0 in
    let own = decimal-digits_value folds s r.0 begun.0 begun.1 (omega (arith, r.1)) in
    (p.1, ap decimal r.1 ∙ own)

-- the text of every number up to the limit reads back
pub decimal_back : (limit v : ℕ) → limit < 2 ^ 64 → v ≤ limit → decimal_of limit (decimal v) ≡ Some v
unfolding decimal_of
decimal_back limit v h g =
    let lt : v < 2 ^ 64 = omega arith in
    let d = read_digits (decimal v) 0 (digits_decimal folds v lt) ∙ ap Some (digits_value-decimal folds v lt) in
    let c = begun_well (length (decimal v)) (get_or (decimal v) 0 0) (decimal_nonempty v lt) (only_zero v lt) in
    simp c (ap (at_most limit) d ∙ at_most_is limit v g)

pub all_digits : (v : ℕ) → v < 2 ^ 64 → all_ascii_digits (decimal v) ≡ true
all_digits v h = digits_decimal folds v h

-- a text that reads as a number is not empty
pub decimal_some_bytes : (limit : ℕ) (s : List ℕ) (v : ℕ) → limit < 2 ^ 64 → decimal_of limit s ≡ Some v → 0 < length s
decimal_some_bytes limit s v h e =
    let p = decimal_forth limit s v h e in
    omega (arith, decimal_nonempty v (omega arith), ap length p.1)

pub own_decimal : (limit : ℕ) → limit < 2 ^ 64 → Own (decimal_of limit) decimal (λ n. n ≤ limit)
own_decimal limit h = record {
  forth = λ s v e. let d = decimal_forth limit s v h e in (decimal_some_bytes limit s v h e, d.0, d.1);
  back = λ v g. decimal_back limit v h g;
}

pub own_u8 : Own (decimal_of 255) decimal (λ n. n ≤ 255)
own_u8 = own_decimal 255 (omega arith)

pub own_u16 : Own (decimal_of 65535) decimal (λ n. n ≤ 65535)
own_u16 = own_decimal 65535 (omega arith)

pub own_u32 : Own (decimal_of 4294967295) decimal (λ n. n ≤ 4294967295)
own_u32 = own_decimal 4294967295 (omega arith)
