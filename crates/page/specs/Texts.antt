-- How the texts of lines are put together: from fields, parted by a space (byte 32), and the byte 10 that ends a line.
use Rattle.std.specs.Prelude.{ℕ, List, [], ◌∷◌, ◌++◌}

-- two fields, parted by one space
abbrev pub spaced : List ℕ → List ℕ → List ℕ
spaced first rest = first ++ 32 ∷ rest

-- a line with the byte that ends it
abbrev pub ended : List ℕ → List ℕ
ended line = line ++ 10 ∷ []

-- fields, each parted from the next by one space
abbrev pub fields : List (List ℕ) → List ℕ
fields [] = []
fields (field ∷ []) = field
fields (field ∷ next ∷ more) = spaced field (fields (next ∷ more))
