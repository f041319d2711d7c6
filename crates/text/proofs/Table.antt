-- A table that follows a rule. One test over all of its entries, which antt computes, shows the rule at every place,
-- so that no entry is written again in a proof.
use Rattle.std.proofs.Common.{◌≡◌, ℕ, zero, suc, ◌+◌, ◌<◌, Bool, true, ◌&&◌, eqb, List, [], ◌∷◌, length, get_or, ap, ◌∙◌, arith}
use Rattle.std.proofs.lemmas.Bool.Decides.{nat_tests}

-- each entry is what the rule says of its place, counted from i
abbrev pub follows : (ℕ → ℕ) → ℕ → List ℕ → Bool
follows rule i [] = true
follows rule i (x ∷ xs) = eqb x (rule i) && follows rule (suc i) xs

entry : (rule : ℕ → ℕ) (i : ℕ) (xs : List ℕ) → follows rule i xs ≡ true → (k : ℕ) → k < length xs → get_or xs k 0 ≡ rule (i + k)
entry rule i [] e k h = absurd (omega arith)
entry rule i (x ∷ xs) e zero h = grind (arith, nat_tests)
entry rule i (x ∷ xs) e (suc k) h = entry rule (suc i) xs (grind (arith, nat_tests)) k (omega arith) ∙ ap rule (omega arith)

-- the rule at place k of a table of n entries
pub ruled : (rule : ℕ → ℕ) (n k i : ℕ) → i ≡ k → k < n → (table : List ℕ) → length table ≡ n → follows rule 0 table ≡ true → get_or table i 0 ≡ rule k
ruled rule n k i same h table e t = entry rule 0 table t i (omega arith) ∙ ap rule (omega arith)
