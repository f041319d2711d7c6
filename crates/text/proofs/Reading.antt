-- A number that is read digit by digit, and given up as soon as it passes the limit.
-- The loop keeps the number of the digits so far, so that the digits that are left complete it to the number of the whole text;
-- once past the limit, or at a byte that is no digit, no more digits bring the number back.
use Rattle.std.proofs.Common.{◌≡◌, ℕ, ◌+◌, ◌<◌, ◌≤◌, List, [], ◌∷◌, length, get_or, drop, Some, None, Option, refl, ap, le-mul_of_pos_right, arith}
use Rattle.std.proofs.lemmas.List.{drop_more, drop_all}
use Rattle.std.proofs.lemmas.Bool.Decides.{nat_tests}
use Rattle.text.specs.Digits.{digit_of, with_digit, with_digits, at_most}

pub at_most_parts : (limit : ℕ) (o : Option ℕ) (n : ℕ) → at_most limit o ≡ Some n → (o ≡ Some n) × (n ≤ limit)
at_most_parts limit o n e = grind (arith, nat_tests)

pub at_most_is : (limit n : ℕ) → n ≤ limit → at_most limit (Some n) ≡ Some n
at_most_is limit n h = grind (arith, nat_tests)

stays_past : (base limit : ℕ) (o : Option ℕ) (d : ℕ) → at_most limit o ≡ None → at_most limit (with_digit base o d) ≡ None
stays_past base limit None d e = refl
stays_past base limit (Some n) d e = grind (arith, nat_tests, le-mul_of_pos_right {m = base} n)

pub past_to_end : (base limit : ℕ) (o : Option ℕ) (s : List ℕ) → at_most limit o ≡ None → at_most limit (with_digits base o s) ≡ None
past_to_end base limit o [] e = e
past_to_end base limit o (b ∷ bs) e =
    past_to_end base limit (with_digit base o (digit_of b)) bs (stays_past base limit o (digit_of b) e)

-- a turn at place i
pub next_digit : (base n i : ℕ) (s : List ℕ) → i < length s →
    with_digits base (Some n) (drop i s) ≡ with_digits base (with_digit base (Some n) (digit_of (get_or s i 0))) (drop (i + 1) s)
next_digit base n i s h = ap (with_digits base (Some n)) (drop_more s i 0 h)

pub no_more : (base n i : ℕ) (s : List ℕ) → length s ≤ i → with_digits base (Some n) (drop i s) ≡ Some n
no_more base n i s h = ap (with_digits base (Some n)) (drop_all i s h)

-- what the loop over the digits is proved by
pub ruleset turns = (next_digit, no_more, past_to_end, at_most_parts)
