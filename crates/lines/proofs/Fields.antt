-- What the reader of lines finds of their fields, as the definitions have it.
-- There is a second field where some byte is a space.
use Rattle.std.proofs.Common.{◌≡◌, ℕ, ◌≤◌, false, not, eqb, ◌==◌, List, [], ◌∷◌, ◌++◌, length, get_or, refl, ap, inl, inr, arith}
use Rattle.std.proofs.lemmas.List.{take_rest}
use Rattle.std.proofs.lemmas.Bool.{and_right, cases_Bool, eq-eqb}
use Rattle.std.specs.List.{between, list_any}
use Rattle.text.specs.Fields.{one_field}
use Rattle.lines.specs.Commands.{with_fields, command_of}

-- a text is one field where none of its bytes is a space
pub one_field_any : (s : List ℕ) → one_field s ≡ not (list_any (λ b. b == 32) s)
one_field_any [] = refl
one_field_any (b ∷ bs) = elim (cases_Bool (eqb b 32)) [
  | inl t ↦ rw t refl
  | inr f ↦ rw f (one_field_any bs)
]

-- a line of a letter, a space and fields
pub command_fields : (line : List ℕ) → 2 ≤ length line → get_or line 1 0 ≡ 32 →
    with_fields (get_or line 0 0) (between 2 (length line) line) ≡ command_of line
command_fields [] h e = absurd (omega arith)
command_fields (letter ∷ []) h e = absurd (omega arith)
command_fields (letter ∷ byte ∷ s) h e = rw (eq-eqb byte 32 e) (ap (with_fields letter) (take_rest (letter ∷ byte ∷ s) 2))

-- two fields are not one
pub two_fields : (first rest : List ℕ) → one_field (first ++ 32 ∷ rest) ≡ false
two_fields [] rest = refl
two_fields (b ∷ bs) rest = and_right (not (eqb b 32)) (one_field (bs ++ 32 ∷ rest)) (two_fields bs rest)
