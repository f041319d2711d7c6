-- Fields parted by one space: a text with a space is its first field, the space and the rest; and where the first field has no space,
-- field and rest are found again.
use Rattle.std.proofs.Common.{◌≡◌, ℕ, ◌+◌, ◌^◌, ◌<◌, true, not, eqb, List, [], ◌∷◌, ◌++◌, length, drop, decimal, sym, refl, ap, ◌∙◌, inl, inr, append_assoc, arith, length-append}
use Rattle.std.proofs.lemmas.List.{drop_all, drop_at, take_at}
use Rattle.std.proofs.lemmas.Bool.{and_from, and_parts, cases_lt, eqb-true}
use Rattle.std.proofs.lemmas.List.Folds.{list_all-append}
use Rattle.std.proofs.lemmas.List.Sums.{passes_at_first, split_at_first}
use Rattle.std.specs.List.{position_or_len}
use Rattle.std.proofs.lemmas.Bool.Decides.{nat_tests}
use Rattle.std.specs.Char.{is_ascii_digit}
use Rattle.std.specs.Str.{all_ascii_digits}
use Rattle.text.specs.Fields.{first_field, later_fields, one_field}
use Rattle.text.proofs.DecimalTexts.{all_digits}

-- a text whose rest is not empty is its first field, a space and the rest
pub fields_forth : (s first rest : List ℕ) → first_field s ≡ first → later_fields s ≡ rest → 0 < length rest → first ++ 32 ∷ rest ≡ s
unfolding first_field later_fields
fields_forth s first rest e f h = elim (cases_lt (position_or_len (λ b. eqb b 32) s) (length s)) [
  | inl p ↦
      let space = eqb-true _ 32 (passes_at_first (λ b. eqb b 32) s 0 p) in
      let parts = split_at_first (λ b. eqb b 32) s 0 p in
      cc
  | inr p ↦ let z : length rest ≡ 0 = ap length (sym f ∙ drop_all _ s (omega arith)) in absurd (omega arith)
]

-- two fields are not empty
pub fields_some_bytes : (first rest : List ℕ) → 0 < length (first ++ 32 ∷ rest)
fields_some_bytes first rest = simp length-append (omega arith)

-- where the first space stands behind a first field
space_behind : (first rest : List ℕ) → one_field first ≡ true → position_or_len (λ b. eqb b 32) (first ++ 32 ∷ rest) ≡ length first
space_behind [] rest h = refl
space_behind (b ∷ bs) rest h = let q = and_parts (not (eqb b 32)) (one_field bs) h in rw q.0 (omega (arith, space_behind bs rest q.1))

pub first_field_back : (first rest : List ℕ) → one_field first ≡ true → first_field (first ++ 32 ∷ rest) ≡ first
unfolding first_field
first_field_back first rest h = grind (arith, space_behind first rest h, take_at)

pub later_fields_back : (first rest : List ℕ) → one_field first ≡ true → later_fields (first ++ 32 ∷ rest) ≡ rest
unfolding later_fields
later_fields_back first rest h =
    let l : length (first ++ (32 ∷ [])) ≡ length first + 1 = length-append first (32 ∷ []) in
    ap (λ n. drop (n + 1) (first ++ 32 ∷ rest)) (space_behind first rest h)
    ∙ ap (drop (length first + 1)) (sym (append_assoc first (32 ∷ []) rest)) ∙ drop_at (first ++ (32 ∷ [])) rest (length first + 1) l

pub one_field_append : (xs ys : List ℕ) → one_field xs ≡ true → one_field ys ≡ true → one_field (xs ++ ys) ≡ true
one_field_append xs ys h g = list_all-append _ xs ys ∙ and_from _ _ h g

digit_no_space : (b : ℕ) → is_ascii_digit b ≡ true → not (eqb b 32) ≡ true
digit_no_space b h = grind (arith, nat_tests)

digits_one_field : (s : List ℕ) → all_ascii_digits s ≡ true → one_field s ≡ true
digits_one_field [] h = refl
digits_one_field (b ∷ bs) h = let p = and_parts (is_ascii_digit b) (all_ascii_digits bs) h in rw (digit_no_space b p.0) (digits_one_field bs p.1)

-- a decimal number is one field, so it is found again in front of others
pub decimal_one_field : (v : ℕ) → v < 2 ^ 64 → one_field (decimal v) ≡ true
decimal_one_field v h = digits_one_field (decimal v) (all_digits v h)
