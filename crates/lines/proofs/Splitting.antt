-- Cutting an input into lines, and joining them.
-- A line without byte 10 in front of a byte 10 is the first line of what they begin; so cutting undoes joining, and there is only one way to cut.
use Rattle.std.proofs.Common.{◌≡◌, ℕ, suc, ◌+◌, ◌<◌, ◌≤◌, ◌==◌, eqb, Bool, true, false, cond, List, [], ◌∷◌, ◌++◌, length, take, drop, sym, refl, ap, ◌∙◌, subst, inl, inr, append_assoc, length-drop, arith}
use Rattle.std.proofs.lemmas.Bool.{cases_eq, cases_lt, ne_eqb, cases_Bool}
use native.Mathlib.Numerals.{unary_clauses}
use Rattle.std.proofs.lemmas.List.{drop_all, take_all}
use Rattle.std.specs.List.{flat_map, after_first, before_first, position_or_len, AllByRecursion}
use Rattle.page.specs.Texts.{ended}
use Rattle.lines.specs.Inputs.{prepend, input_lines, closed, OneLine, LinesOf}

-- nothing to cut
pub no_lines : (s : List ℕ) → length s ≡ 0 → input_lines s ≡ []
unfolding input_lines
no_lines [] h = refl
no_lines (byte ∷ s) h = absurd (omega arith)

-- a line and its end are cut off
pub cut_line : (line rest : List ℕ) → OneLine line → input_lines (line ++ 10 ∷ rest) ≡ line ∷ input_lines rest
unfolding input_lines
cut_line [] rest h = refl
cut_line (byte ∷ line) rest h = rw (ne_eqb byte 10 h.0) (ap (prepend byte) (cut_line line rest h.1))

-- as the code finds them: the first byte 10, or none
abbrev end_of : List ℕ → ℕ
end_of = position_or_len (λ b. b == 10)

at_end_of : (s : List ℕ) → end_of s < length s → input_lines s ≡ take (end_of s) s ∷ input_lines (drop (end_of s + 1) s)
unfolding input_lines
at_end_of [] h = absurd (omega arith)
at_end_of (byte ∷ bytes) h = elim (cases_Bool (eqb byte 10)) [
  | inl t ↦ rw t refl
  | inr f ↦
      let more : 1 + end_of bytes ≡ suc (end_of bytes) = omega arith in
      let rest = simp unary_clauses at (ap (prepend byte) (at_end_of bytes (omega (arith, rw f at h)))) in
      rw (f, more) (simp unary_clauses rest)
]

no_end : (s : List ℕ) (byte : ℕ) → length (byte ∷ s) ≤ end_of (byte ∷ s) → input_lines (byte ∷ s) ≡ (byte ∷ s) ∷ []
unfolding input_lines
no_end [] byte h = elim (cases_Bool (eqb byte 10)) [
  | inl t ↦ absurd (omega (arith, rw t at h))
  | inr f ↦ rw f refl
]
no_end (next ∷ s) byte h = elim (cases_Bool (eqb byte 10)) [
  | inl t ↦ absurd (omega (arith, rw t at h))
  | inr f ↦ rw f (ap (prepend byte) (no_end s next (omega (arith, rw f at h))))
]

-- as the code cuts: what stands before the first byte 10, and what stands behind it
pub first_line : (s : List ℕ) → 0 < length s → input_lines s ≡ before_first (λ b. b == 10) s ∷ input_lines (after_first (λ b. b == 10) s)
first_line [] h = absurd (omega arith)
first_line (byte ∷ s) h = elim (cases_lt (end_of (byte ∷ s)) (length (byte ∷ s))) [
  | inl l ↦ at_end_of (byte ∷ s) l
  | inr l ↦
      let t = take_all (end_of (byte ∷ s)) (byte ∷ s) l in
      let d = drop_all (end_of (byte ∷ s) + 1) (byte ∷ s) (omega (arith, l)) in
      no_end s byte l ∙ ap (λ ls. (byte ∷ s) ∷ ls) (sym (no_lines [] refl)) ∙ ap (λ line. line ∷ input_lines []) (sym t) ∙ ap (λ rest. take (end_of (byte ∷ s)) (byte ∷ s) ∷ input_lines rest) (sym d)
]

pub less_left : (s : List ℕ) → 0 < length s → length (after_first (λ b. b == 10) s) < length s
less_left s h = let n = length-drop (end_of s + 1) s in omega (arith, n)

-- cutting undoes joining
pub cut_joined : (lines : List (List ℕ)) → AllByRecursion OneLine lines → input_lines (flat_map ended lines) ≡ lines
cut_joined [] h = no_lines [] refl
cut_joined (line ∷ lines) h =
    ap input_lines (append_assoc line (10 ∷ []) (flat_map ended lines)) ∙ cut_line line (flat_map ended lines) h.0
    ∙ ap (λ ls. line ∷ ls) (cut_joined lines h.1)

-- one byte more in front: a byte 10 is a line by itself, any other belongs to the first line
at_end : (bytes : List ℕ) → input_lines (10 ∷ bytes) ≡ [] ∷ input_lines bytes
unfolding input_lines
at_end bytes = refl

at_other : (byte : ℕ) (bytes : List ℕ) → (byte ≡ 10 → ⊥) → input_lines (byte ∷ bytes) ≡ prepend byte (input_lines bytes)
unfolding input_lines
at_other byte bytes n = rw (ne_eqb byte 10 n)

closed_at_end : (bytes : List ℕ) → closed (10 ∷ bytes) ≡ closed bytes
closed_at_end [] = refl
closed_at_end (b ∷ bs) = refl

-- what is so of lines that begin at a byte 10, and of those that begin at another, is so of all
by_first : (P : List ℕ → Type 0) → P [] → ((bytes : List ℕ) → P bytes → P (10 ∷ bytes)) →
    ((byte : ℕ) (bytes : List ℕ) → (byte ≡ 10 → ⊥) → P bytes → P (byte ∷ bytes)) → (s : List ℕ) → P s
by_first P none end other [] = none
by_first P none end other (byte ∷ bytes) = elim (cases_eq byte 10) [
  | inl e ↦ subst (λ (b : ℕ). P (b ∷ bytes)) (sym e) (end bytes (by_first P none end other bytes))
  | inr n ↦ other byte bytes n (by_first P none end other bytes)
]

-- joining undoes cutting
abbrev Whole : List ℕ → Type 0
Whole s = flat_map ended (input_lines s) ≡ cond (closed s) s (ended s)

cond_cons : (t : Bool) (b : ℕ) (x y : List ℕ) → b ∷ cond t x y ≡ cond t (b ∷ x) (b ∷ y)
cond_cons true b x y = refl
cond_cons false b x y = refl

joined_prepend : (byte : ℕ) (lines : List (List ℕ)) → 0 < length lines → flat_map ended (prepend byte lines) ≡ byte ∷ flat_map ended lines
joined_prepend byte [] h = absurd (omega arith)
joined_prepend byte (line ∷ lines) h = refl

some_line : (lines : List (List ℕ)) (byte : ℕ) → 0 < length (prepend byte lines)
some_line [] byte = omega arith
some_line (line ∷ lines) byte = omega arith

some_lines : (byte : ℕ) (bytes : List ℕ) → 0 < length (input_lines (byte ∷ bytes))
some_lines byte bytes = elim (cases_eq byte 10) [
  | inl e ↦ subst (λ (b : ℕ). 0 < length (input_lines (b ∷ bytes))) (sym e) (rw (at_end bytes) (omega arith))
  | inr n ↦ rw (at_other byte bytes n) (some_line (input_lines bytes) byte)
]

whole_end : (bytes : List ℕ) → Whole bytes → Whole (10 ∷ bytes)
whole_end bytes w =
    ap (flat_map ended) (at_end bytes) ∙ ap (λ xs. 10 ∷ xs) w ∙ cond_cons (closed bytes) 10 bytes (ended bytes)
    ∙ ap (λ t. cond t (10 ∷ bytes) (ended (10 ∷ bytes))) (sym (closed_at_end bytes))

whole_other : (byte : ℕ) (bytes : List ℕ) → (byte ≡ 10 → ⊥) → Whole bytes → Whole (byte ∷ bytes)
whole_other byte [] n w = ap (flat_map ended) (at_other byte [] n ∙ ap (prepend byte) (no_lines [] refl)) ∙ ap (λ t. cond t (byte ∷ []) (ended (byte ∷ []))) (sym (ne_eqb byte 10 n))
whole_other byte (next ∷ s) n w =
    ap (flat_map ended) (at_other byte (next ∷ s) n) ∙ joined_prepend byte (input_lines (next ∷ s)) (some_lines next s)
    ∙ ap (λ xs. byte ∷ xs) w ∙ cond_cons (closed (next ∷ s)) byte (next ∷ s) (ended (next ∷ s))

single_prepend : (byte : ℕ) (lines : List (List ℕ)) → (byte ≡ 10 → ⊥) → AllByRecursion OneLine lines → AllByRecursion OneLine (prepend byte lines)
single_prepend byte [] n h = ((n, tt), tt)
single_prepend byte (line ∷ lines) n h = ((n, h.0), h.1)

pub lines_of : (s : List ℕ) → LinesOf s (input_lines s)
lines_of s = record {
  whole = by_first Whole (ap (flat_map ended) (no_lines [] refl)) whole_end whole_other s;
  single =
      by_first (λ s. AllByRecursion OneLine (input_lines s)) (rw (no_lines [] refl) tt) (λ bytes h. rw (at_end bytes) (tt, h))
      (λ byte bytes n h. rw (at_other byte bytes n) (single_prepend byte (input_lines bytes) n h)) s;
}

-- a byte 10 behind a last line that lacks it changes nothing
cut_ended : (s : List ℕ) → closed s ≡ false → input_lines (ended s) ≡ input_lines s
cut_ended s o =
    let w : flat_map ended (input_lines s) ≡ ended s = (lines_of s).whole ∙ ap (λ t. cond t s (ended s)) o in
    ap input_lines (sym w) ∙ cut_joined (input_lines s) (lines_of s).single

pub lines_only : (s : List ℕ) (lines : List (List ℕ)) → LinesOf s lines → lines ≡ input_lines s
lines_only s lines h =
    sym (cut_joined lines h.single) ∙ ap input_lines h.whole ∙ elim (cases_Bool (closed s)) [
      | inl t ↦ ap (λ t. input_lines (cond t s (ended s))) t
      | inr o ↦ ap (λ t. input_lines (cond t s (ended s))) o ∙ cut_ended s o
    ]
