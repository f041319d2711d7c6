-- Coolant temperatures as text: what is read is the temperature's own text, and the text of every temperature reads back.
-- A text has one of two kinds, with and without a minus sign.
use Rattle.std.proofs.Common.{◌≡◌, ℕ, ◌+◌, ◌-◌, ◌<◌, ◌≤◌, Bool, true, false, cond, ◌&&◌, eqb, ltb, ◌⊎◌, List, [], ◌∷◌, length, get_or, drop, Some, None, decimal, Option, sym, refl, ap, ◌∙◌, inl, inr, arith}
use Rattle.std.proofs.lemmas.List.{drop_more}
use Rattle.std.proofs.lemmas.Bool.{and_parts, cases_eq, cases_lt, eq-eqb, eqb-true, lt-ltb, ltb-true, ne_eqb}
use Rattle.std.proofs.lemmas.Bool.Decides.{nat_tests}
use Rattle.std.specs.Str.{all_ascii_digits}
use Rattle.text.specs.Coolants.{below_zero, from_zero, coolant_of, coolant_text}
use Rattle.text.specs.Decimals.{decimal_of}
use Rattle.text.specs.Own.{Own}
use Rattle.text.specs.declared.coolant.Coolant.{Coolant}
use Rattle.text.proofs.DecimalTexts.{all_digits, decimal_back, decimal_forth, decimal_some_bytes}

-- the two kinds of a temperature's text
pub coolant_below_zero : (c : Coolant) → c.raw < 40 → coolant_text c ≡ 45 ∷ decimal (40 - c.raw)
unfolding coolant_text
coolant_below_zero c h = grind (arith, nat_tests)

pub coolant_from_zero : (c : Coolant) → 40 ≤ c.raw → coolant_text c ≡ decimal (c.raw - 40)
unfolding coolant_text
coolant_from_zero c h = grind (arith, nat_tests)

either_way : {X : Type 0} (b : Bool) (x y : Option X) (v : X) → cond b x y ≡ Some v → ((b ≡ true) × (x ≡ Some v)) ⊎ ((b ≡ false) × (y ≡ Some v))
either_way true x y v e = inl (refl, e)
either_way false x y v e = inr (refl, e)

same_raw : (x : ℕ) (c : Coolant) → Some (record { raw = x }) ≡ Some c → c.raw ≡ x
same_raw x c e = let g : record { raw = x } ≡ c = cc in ap (λ (y : Coolant). y.raw) (sym g)

below_parts : (o : Option ℕ) (c : Coolant) → below_zero o ≡ Some c → (n : ℕ) × (o ≡ Some n) × (0 < n) × (c.raw ≡ 40 - n)
below_parts None c e = absurd (cc)
below_parts (Some n) c e =
    elim (cases_eq n 0) [
      | inl z ↦ let t = eq-eqb n 0 z in let n = simp t at e in absurd (cc)
      | inr z ↦ let t = ne_eqb n 0 z in (n, refl, omega arith, same_raw (40 - n) c (simp t at e))
    ]

from_parts : (o : Option ℕ) (c : Coolant) → from_zero o ≡ Some c → (n : ℕ) × (o ≡ Some n) × (c.raw ≡ 40 + n)
from_parts None c e = absurd (cc)
from_parts (Some n) c e = (n, refl, same_raw (40 + n) c e)

-- a text that reads as a temperature is its own
pub coolant_forth : (s : List ℕ) (c : Coolant) → coolant_of s ≡ Some c → (0 < length s) × (c.raw ≤ 255) × (coolant_text c ≡ s)
unfolding coolant_of
coolant_forth s c e = elim (either_way (ltb 0 (length s) && eqb (get_or s 0 0) 45) (below_zero (decimal_of 40 (drop 1 s))) (from_zero (decimal_of 215 s)) c e) [
  | inl p ↦
      let t = and_parts _ _ p.0 in
      let l = ltb-true 0 (length s) t.0 in
      let m = eqb-true (get_or s 0 0) 45 t.1 in
      let q = below_parts _ c p.1 in
      let d = decimal_forth 40 (drop 1 s) q.0 (omega arith) q.1 in
      let v : 40 - c.raw ≡ q.0 = omega arith in
      (l, omega arith, coolant_below_zero c (omega arith) ∙ ap (λ n. 45 ∷ decimal n) v ∙ ap (λ ys. 45 ∷ ys) d.1 ∙ ap (λ x. x ∷ drop 1 s) (sym m) ∙ sym (drop_more s 0 0 l))
  | inr p ↦
      let q = from_parts _ c p.1 in
      let d = decimal_forth 215 s q.0 (omega arith) q.1 in
      let v : c.raw - 40 ≡ q.0 = omega arith in
      (decimal_some_bytes 215 s q.0 (omega arith) q.1, omega arith, coolant_from_zero c (omega arith) ∙ ap decimal v ∙ d.1)
]

no_minus : (s : List ℕ) → all_ascii_digits s ≡ true → (ltb 0 (length s) && eqb (get_or s 0 0) 45) ≡ false
no_minus [] h = refl
no_minus (b ∷ bs) h = grind (arith, nat_tests)

-- the text of every temperature reads back
pub coolant_back : (c : Coolant) → c.raw ≤ 255 → coolant_of (coolant_text c) ≡ Some c
unfolding coolant_of
coolant_back c h = elim (cases_lt c.raw 40) [
  | inl p ↦
      let n = 40 - c.raw in
      let t = lt-ltb 0 (length (45 ∷ decimal n)) (omega arith) in
      let z = ne_eqb n 0 (omega arith) in
      let same : 40 - n ≡ c.raw = omega arith in
      ap coolant_of (coolant_below_zero c p) ∙ simp (t, decimal_back 40 n (omega arith) (omega arith), z) (ap (λ x. Some (record { raw = x })) same)
  | inr p ↦
      let n = c.raw - 40 in
      let same : 40 + n ≡ c.raw = omega arith in
      ap coolant_of (coolant_from_zero c p)
      ∙ simp (no_minus (decimal n) (all_digits n (omega arith)), decimal_back 215 n (omega arith) (omega arith)) (ap (λ x. Some (record { raw = x })) same)
]

pub own_coolant : Own coolant_of coolant_text (λ c. c.raw ≤ 255)
own_coolant = record { forth = coolant_forth; back = coolant_back }
