-- The limits of the bucket index, which the code has as CAPACITY and BUCKETS.
use Rattle.std.specs.Prelude.{ℕ}

-- how many numbers there are
abbrev pub capacity : ℕ
capacity = 512

-- how many buckets there are
abbrev pub buckets : ℕ
buckets = 64
