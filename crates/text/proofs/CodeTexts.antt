-- Codes and code keys as text: what is read is the value's own text, and the text of every value reads back.
-- The letter and the hexadecimal digits are each read back by themselves; a code is put together from its top two bits and its other fourteen.
use Rattle.std.proofs.Common.{◌≡◌, ℕ, zero, suc, ◌+◌, ◌*◌, ◌/◌, ◌%◌, ◌<◌, ◌≤◌, Bool, true, false, cond, not, ◌&&◌, eqb, ◌==◌, List, [], ◌∷◌, ◌++◌, length, get_or, take, drop, Option, Some, None, sym, refl, ap, ◌∙◌, append_assoc, arith, length-append, length-drop, take-append-drop, length-take}
use Rattle.std.specs.Option.{option_map, option_zip}
use Rattle.std.specs.Prelude.{slice_index}
use Rattle.std.proofs.lemmas.List.{take_at, drop_at, drop_more, get_or_at}
use Rattle.std.proofs.lemmas.Bool.{and_parts, and_from, eqb-true, eq-eqb}
use Rattle.std.proofs.lemmas.Bool.Decides.{nat_tests}
use Rattle.keys.specs.declared.code.CodeKey.{CodeKey}
use Rattle.text.specs.Codes.{letter_value, letter_of, code_of, code_text, code_key_of, code_key_text, trouble_code_of, CodeKeyFits, TroubleCodeFits}
use Rattle.text.specs.Digits.{digit_byte, number_of, at_most, last_digits}
use Rattle.text.specs.Fields.{one_field}
use Rattle.text.specs.Own.{Own}
use Rattle.text.proofs.FieldTexts.{one_field_append}
use Rattle.text.proofs.NumberTexts.{digits_bound, hex_back, length_last_digits, own_digits, some_if, within_limit}
use Rattle.text.proofs.OwnTexts.{map_part, own_made, zip_parts}
use Rattle.text.proofs.Reading.{at_most_is, at_most_parts}

letter_back : (n : ℕ) → n < 4 → letter_value (letter_of n) ≡ Some n
letter_back n h = grind (arith, nat_tests)

own_letter : (b n : ℕ) → letter_value b ≡ Some n → (n < 4) × (letter_of n ≡ b)
own_letter b n e = grind (arith, nat_tests)

-- the text of every code reads back
pub code_back : (v : ℕ) → v < 65536 → code_of (code_text v) ≡ Some v
unfolding code_of code_text
code_back v h =
    let t = eq-eqb (length (letter_of (v / 0x4000) ∷ last_digits 16 4 (v % 0x4000))) 5 (omega (arith, length_last_digits)) in
    let l = letter_back (v / 0x4000) (omega arith) in
    let d = ap (at_most 0x3FFF) (hex_back 4 (v % 0x4000) (omega arith)) ∙ at_most_is 0x3FFF (v % 0x4000) (omega arith) in
    simp t (simp (l, d) (ap Some (omega arith)))

-- a text that reads as a code is the code's own
pub code_forth : (s : List ℕ) (v : ℕ) → code_of s ≡ Some v → (v < 65536) × (code_text v ≡ s)
unfolding code_of code_text
code_forth s v e =
    let p = some_if (eqb (length s) 5) _ v e in
    let n = eqb-true (length s) 5 p.0 in
    let m = map_part (λ bits. bits.0 * 0x4000 + bits.1) _ v p.1 in
    let is : m.0.0 * 0x4000 + m.0.1 ≡ v = m.2 in
    let q = zip_parts _ _ m.0 m.1 in
    let l = own_letter (get_or s 0 0) m.0.0 q.0 in
    let low = at_most_parts 0x3FFF _ m.0.1 q.1 in
    let d = own_digits 16 (omega arith) 4 (drop 1 s) m.0.1 (length-drop 1 s ∙ omega arith) low.0 in
    let f : v / 0x4000 ≡ m.0.0 = omega arith in
    let g : v % 0x4000 ≡ m.0.1 = omega arith in
    (omega arith, rw (f, g, d, l.1) (sym (drop_more s 0 0 (omega arith))))

length_code_text : (v : ℕ) → length (code_text v) ≡ 5
unfolding code_text
length_code_text v = omega (arith, length_last_digits 16 4 (v % 0x4000))

-- the text of every code key reads back
pub code_key_back : (key : CodeKey) → CodeKeyFits key → code_key_of (code_key_text key) ≡ Some key
unfolding code_key_of code_key_text
code_key_back key fits =
    let unit = last_digits 16 4 key.unit in
    let code = code_text key.code in
    let n = length_last_digits 16 4 key.unit in
    let long : length (unit ++ 58 ∷ code) ≡ 10 = length-append unit (58 ∷ code) ∙ omega (arith, length_code_text key.code) in
    let colon = get_or_at unit 58 code 0 4 n in
    let t = and_from _ _ (eq-eqb _ 10 long) (eq-eqb _ 58 colon) in
    let a = ap (number_of 16) (take_at unit (58 ∷ code) 4 n) ∙ hex_back 4 key.unit fits.0 in
    let past = drop_at (unit ++ (58 ∷ [])) code 5 (length-append unit (58 ∷ []) ∙ omega arith) in
    let b = ap (λ x. code_of (drop 5 x)) (sym (append_assoc unit (58 ∷ []) code)) ∙ ap code_of past ∙ code_back key.code fits.1 in
    simp t (simp (a, b))

-- a text that reads as a code key is the key's own
pub code_key_forth : (s : List ℕ) (key : CodeKey) → code_key_of s ≡ Some key → CodeKeyFits key × (code_key_text key ≡ s)
unfolding code_key_of code_key_text
code_key_forth s key e =
    let p = some_if (eqb (length s) 10 && eqb (get_or s 4 0) 58) _ key e in
    let t = and_parts _ _ p.0 in
    let n = eqb-true (length s) 10 t.0 in
    let colon = eqb-true (get_or s 4 0) 58 t.1 in
    let m = map_part _ _ key p.1 in
    let q = zip_parts (number_of 16 (take 4 s)) (code_of (drop 5 s)) m.0 m.1 in
    let short : length (take 4 s) ≡ 4 = length-take 4 s ∙ omega arith in
    let unit : number_of 16 (take 4 s) ≡ Some key.unit = q.0 ∙ ap (λ k. Some k.unit) m.2 in
    let code : code_of (drop 5 s) ≡ Some key.code = q.1 ∙ ap (λ k. Some k.code) m.2 in
    let u = own_digits 16 (omega arith) 4 (take 4 s) key.unit short unit in
    let b = digits_bound 16 4 (take 4 s) key.unit short unit in
    let c = code_forth (drop 5 s) key.code code in
    ((b, c.0), rw (u, c.1) (ap (λ x. take 4 s ++ x ∷ drop 5 s) (sym colon) ∙ ap (λ xs. take 4 s ++ xs) (sym (drop_more s 4 0 (omega arith))) ∙ take-append-drop 4 s))

code_some_bytes : (v : ℕ) → 0 < length (code_text v)
code_some_bytes v = omega (arith, length_code_text v)

pub own_trouble_code : Own trouble_code_of (λ code. code_text code.bits) TroubleCodeFits
own_trouble_code =
    own_made code_of code_text (λ v. v < 0x10000) (λ v. record { bits = v }) (λ code. code.bits) _ (λ x. refl) (λ y. refl) (λ x h. h) (λ y h. h)
    (record {
      forth = λ s v e. let c = code_forth s v e in (omega (arith, code_some_bytes v, ap length c.1), c.0, c.1);
      back = code_back;
    })

key_some_bytes : (key : CodeKey) → 0 < length (code_key_text key)
unfolding code_key_text
key_some_bytes key = simp length-append (omega arith)

pub own_code_key : Own code_key_of code_key_text CodeKeyFits
own_code_key = record {
  forth = λ s key e. let k = code_key_forth s key e in (omega (arith, key_some_bytes key, ap length k.1), k.0, k.1);
  back = code_key_back;
}

-- four digits never pass the limit at which a unit is read
pub unit_read : (s : List ℕ) → 4 ≤ length s → at_most 65535 (number_of 16 (take 4 s)) ≡ number_of 16 (take 4 s)
unit_read s h = within_limit 16 4 65535 (take 4 s) _ (length-take 4 s ∙ omega arith) (omega arith) refl

-- a text that ends in no code's is no code key's, whatever stands before the colon
pub no_code : (s : List ℕ) → code_of (drop 5 s) ≡ None → code_key_of s ≡ None
unfolding code_key_of
no_code s e = rw e (go (length s == 10 && slice_index s 4 == 58) (number_of 16 (take 4 s)))
  where
    go : (b : Bool) (unit : Option ℕ) → cond b (option_map {U = CodeKey} (λ key. record { unit = key.0; code = key.1 }) (option_zip unit None)) None ≡ None
    go true None = refl
    go true (Some n) = refl
    go false unit = refl

-- a text with a code behind its first five bytes has a code key's length
pub key_length : (s : List ℕ) (v : ℕ) → code_of (drop 5 s) ≡ Some v → length s ≡ 10
key_length s v e = let c = code_forth (drop 5 s) v e in omega (arith, ap length c.1, length_code_text v, length-drop 5 s)

-- what the reader of code keys is proved by
pub ruleset key_laws = (own_code_key, unit_read, key_length)

-- a code key's text has no space, so it is found again between other fields
byte_no_space : (d : ℕ) → not (eqb (digit_byte d) 32) ≡ true
byte_no_space d = grind (arith, nat_tests)

letter_no_space : (n : ℕ) → not (eqb (letter_of n) 32) ≡ true
letter_no_space n = grind (arith, nat_tests)

digits_one_field : (base count n : ℕ) → one_field (last_digits base count n) ≡ true
unfolding last_digits
digits_one_field base zero n = refl
digits_one_field base (suc count) n = one_field_append (last_digits base count (n / base)) _ (digits_one_field base count (n / base)) (rw (byte_no_space (n % base)))

pub code_key_one_field : (key : CodeKey) → one_field (code_key_text key) ≡ true
unfolding code_key_text code_text
code_key_one_field key =
    one_field_append (last_digits 16 4 key.unit) _ (digits_one_field 16 4 key.unit)
    (rw (letter_no_space (key.code / 0x4000)) (digits_one_field 16 4 (key.code % 0x4000)))
