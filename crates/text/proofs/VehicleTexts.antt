-- Vehicle keys as text: what is read is the key's own text, and the text of every key reads back.
-- Digits that were read are those of vehicle characters, so their numbers are spelled, which is what a key asks for;
-- and the digits of spelled numbers stand for themselves, so they read back.
use Rattle.std.proofs.Common.{◌≡◌, ℕ, ◌/◌, ◌%◌, ◌<◌, Bool, true, false, cond, eqb, List, ◌++◌, length, take, drop, Some, None, Option, Result, Ok, Err, sym, refl, ap, ◌∙◌, arith, length-append, length-drop, take-append-drop, length-take, MatchResult}
use lib.Arith.{digits_div, digits_mod}
use Rattle.std.proofs.lemmas.List.{drop_at, take_at}
use Rattle.std.proofs.lemmas.Bool.{and_from, and_parts, cond-true, false≢true, eq-eqb, eqb-true}
use Rattle.std.proofs.lemmas.Bool.Decides.{nat_tests}
use Rattle.std.specs.Option.{option_map, ok_or}
use Rattle.std.specs.Result.{result_map_both}
use Rattle.std.proofs.lemmas.Option.{none-some}
use Rattle.keys.specs.Refusals.{plain, told}
use Rattle.keys.specs.VehicleOrder.{same_vehicle}
use Rattle.keys.specs.VehicleDigits.{spelled, vehicle_digit, vehicle_digits}
use Rattle.keys.specs.Vehicles.{numbers}
use Rattle.keys.specs.declared.vehicle.VehicleKey.{VehicleKey}
use Rattle.text.specs.Digits.{digit_of, digit_byte, number_of, at_most, last_digits}
use Rattle.text.specs.Own.{Own}
use Rattle.text.specs.Refusals.{code}
use Rattle.text.specs.VehicleKeys.{key_of, key_with, numbered, vehicle_key_of, vehicle_key_text, vehicle_of}
use Rattle.text.specs.declared.refusal.TextRefusal.{TextRefusal}
use Rattle.text.specs.declared.refusal.TextRefusal.TheVariants.{Malformed}
use Rattle.text.proofs.NumberTexts.{by_last_digit, digits_back, length_last_digits, own_digits, some_if, within_limit}
use Rattle.text.proofs.OwnTexts.{zip_parts}

read_digit : (b : ℕ) → digit_of b < 36 → vehicle_digit (digit_of b) ≡ true
read_digit b h = grind (arith, nat_tests)

own_digit : (d : ℕ) → d < 36 → vehicle_digit d ≡ true → digit_of (digit_byte d) ≡ d
own_digit d h v = grind (arith, nat_tests)

read_spelled : (count : ℕ) (s : List ℕ) (v : ℕ) → length s ≡ count → number_of 36 s ≡ Some v → vehicle_digits count v ≡ true
unfolding vehicle_digits
read_spelled =
    by_last_digit 36 (λ count v s. vehicle_digits count v ≡ true) refl
    (λ count n b s d e. rw (digits_div n d, digits_mod n d) (and_from _ _ (read_digit b d) e))

spelled_back : (count n : ℕ) → vehicle_digits count n ≡ true → number_of 36 (last_digits 36 count n) ≡ Some n
unfolding vehicle_digits
spelled_back =
    digits_back 36 (λ count n. vehicle_digits count n ≡ true) (omega arith) (λ n a. eqb-true n 0 a)
    (λ count n a. let p = and_parts (vehicle_digit (n % 36)) (vehicle_digits count (n / 36)) a in (own_digit (n % 36) (omega arith) p.0, p.1))

-- the two parts of a text that reads as a key, and the number of each
text_parts : (s : List ℕ) (first second : ℕ) → vehicle_key_of s ≡ Some (first, second) →
    (length s ≡ 17) × (number_of 36 (take 9 s) ≡ Some first) × (number_of 36 (drop 9 s) ≡ Some second)
unfolding vehicle_key_of
text_parts s first second e =
    let p = some_if (eqb (length s) 17) _ (first, second) e in
    let q = zip_parts _ _ (first, second) p.1 in
    (eqb-true (length s) 17 p.0, q.0, q.1)

-- the lengths of the two parts
module _ (s : List ℕ) (h : length s ≡ 17) where
  nine : length (take 9 s) ≡ 9
  nine = length-take 9 s ∙ omega arith

  eight : length (drop 9 s) ≡ 8
  eight = length-drop 9 s ∙ omega arith

-- numbers that a text gives are those of a key
pub pair_spelled : (s : List ℕ) (first second : ℕ) → length s ≡ 17 → number_of 36 (take 9 s) ≡ Some first → number_of 36 (drop 9 s) ≡ Some second →
    spelled first second ≡ true
pair_spelled s first second h e f = and_from _ _ (read_spelled 9 (take 9 s) first (nine s h) e) (read_spelled 8 (drop 9 s) second (eight s h) f)

-- a text that reads as a key is the key's own
pub vehicle_key_forth : (s : List ℕ) (key : VehicleKey) → vehicle_key_of s ≡ Some (numbers key) → vehicle_key_text key ≡ s
unfolding vehicle_key_text
vehicle_key_forth s key e =
    let p = text_parts s key.first key.second e in
    let a = own_digits 36 (omega arith) 9 (take 9 s) key.first (nine s p.0) p.1 in
    let b = own_digits 36 (omega arith) 8 (drop 9 s) key.second (eight s p.0) p.2 in
    rw (a, b) (take-append-drop 9 s)

-- the text of every key reads back
pub vehicle_key_back : (key : VehicleKey) → vehicle_key_of (vehicle_key_text key) ≡ Some (numbers key)
unfolding vehicle_key_of vehicle_key_text
vehicle_key_back key =
    let first = last_digits 36 9 key.first in
    let second = last_digits 36 8 key.second in
    let n = length_last_digits 36 9 key.first in
    let long : length (first ++ second) ≡ 17 = length-append first second ∙ omega (arith, length_last_digits 36 8 key.second) in
    let t = eq-eqb _ 17 long in
    let k = and_parts (vehicle_digits 9 key.first) (vehicle_digits 8 key.second) key.spelled in
    let a = ap (number_of 36) (take_at first second 9 n) ∙ spelled_back 9 key.first k.0 in
    let b = ap (number_of 36) (drop_at first second 9 n) ∙ spelled_back 8 key.second k.1 in
    simp t (simp (a, b))

-- nine and eight digits in base 36 never pass the limit at which they are read
pub first_read : (s : List ℕ) → length s ≡ 17 → at_most 18446744073709551615 (number_of 36 (take 9 s)) ≡ number_of 36 (take 9 s)
first_read s h = within_limit 36 9 18446744073709551615 (take 9 s) _ (nine s h) (omega arith) refl

pub second_read : (s : List ℕ) → length s ≡ 17 → at_most 18446744073709551615 (number_of 36 (drop 9 s)) ≡ number_of 36 (drop 9 s)
second_read s h = within_limit 36 8 18446744073709551615 (drop 9 s) _ (eight s h) (omega arith) refl

-- a key is the one with its numbers
with_own : (key : VehicleKey) (b : Bool) (e : spelled key.first key.second ≡ b) → key_with key.first key.second b e ≡ Some key
with_own key true e = ap Some (same_vehicle (record { first = key.first; second = key.second; spelled = e }) key refl refl)
with_own key false e = absurd (false≢true (sym e ∙ key.spelled))

pub key_again : (key : VehicleKey) → key_of (Some (numbers key)) ≡ Some key
key_again key = with_own key (spelled key.first key.second) refl

with_spelled : (first second : ℕ) (b : Bool) (e : spelled first second ≡ b) → b ≡ true → option_map numbers (key_with first second b e) ≡ Some (first, second)
with_spelled first second true e h = refl
with_spelled first second false e h = absurd (false≢true h)

spelled_numbers : (o : Option (ℕ × ℕ)) → ((first second : ℕ) → o ≡ Some (first, second) → spelled first second ≡ true) → option_map numbers (key_of o) ≡ o
spelled_numbers None h = refl
spelled_numbers (Some p) h = with_spelled p.0 p.1 (spelled p.0 p.1) refl (h p.0 p.1 refl)

-- numbers that a text gives are those of the key for which it stands
pub vehicle_numbers : (s : List ℕ) → option_map numbers (vehicle_of s) ≡ vehicle_key_of s
vehicle_numbers s = spelled_numbers (vehicle_key_of s) (λ first second e. let p = text_parts s first second e in pair_spelled s first second p.0 p.1 p.2)

pub own_vehicle_key : Own vehicle_of vehicle_key_text (λ _. Unit {0})
own_vehicle_key = record {
  forth = λ s key e.
      let told : vehicle_key_of s ≡ Some (numbers key) = sym (vehicle_numbers s) ∙ ap (option_map numbers) e in
      (omega (arith, (text_parts s key.first key.second told).0), tt, vehicle_key_forth s key told);
  back = λ key _. ap key_of (vehicle_key_back key) ∙ key_again key;
}

-- what the reader of keys is proved by
pub ruleset key_laws = (own_vehicle_key, first_read, second_read, pair_spelled)

-- a result of an option is told by the numbers that the option has
pub told_by_numbers : (o : Option VehicleKey) (r : Result VehicleKey TextRefusal) (p : Option (ℕ × ℕ)) → r ≡ ok_or o Malformed → option_map numbers o ≡ p → numbered r ≡ ok_or p (plain 12)
told_by_numbers None r p e f = rw (e, sym f) refl
told_by_numbers (Some key) r p e f = rw (e, sym f) refl

-- what a text reads as is told by the numbers that it gives
pub read_numbers : (s : List ℕ) (r : Result VehicleKey TextRefusal) → told code r ≡ ok_or (vehicle_of s) (plain 12) → numbered r ≡ ok_or (vehicle_key_of s) (plain 12)
read_numbers s r e = by_told r ∙ ap (result_map_both numbers (λ c. c)) e ∙ mapped (vehicle_of s) ∙ ap (λ p. ok_or p (plain 12)) (vehicle_numbers s)
  where
    by_told : (r : Result VehicleKey TextRefusal) → numbered r ≡ result_map_both numbers (λ c. c) (told code r)
    by_told (Ok key) = refl
    by_told (Err why) = refl

    mapped : (o : Option VehicleKey) → result_map_both numbers (λ c. c) (ok_or o (plain 12)) ≡ ok_or (option_map numbers o) (plain 12)
    mapped None = refl
    mapped (Some key) = refl

-- just the numbers that some text gives are granted
pub granted_by_texts : (first second : ℕ) (o : Option VehicleKey) (r : Result VehicleKey TextRefusal) → r ≡ ok_or o Malformed →
    option_map numbers o ≡ cond (spelled first second) (Some (first, second)) None →
    MatchResult r (λ key. vehicle_key_of (vehicle_key_text key) ≡ Some (first, second)) (λ _. (s : List ℕ) → vehicle_key_of s ≡ Some (first, second) → ⊥)
granted_by_texts first second None r e f =
    rw e (λ s g.
    let p = text_parts s first second g in
    let t = pair_spelled s first second p.0 p.1 p.2 in
    none-some (first, second) (f ∙ cond-true (spelled first second) _ _ t))
granted_by_texts first second (Some key) r e f = rw e (vehicle_key_back key ∙ sym (some_if (spelled first second) _ (numbers key) (sym f)).1)
