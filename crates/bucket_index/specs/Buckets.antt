-- The buckets: which one a key belongs to, how their chains hold the keys, and what a sound memory is.
use Rattle.std.specs.Prelude.{◌≡◌, ℕ, ◌+◌, ◌%◌, List, Some, Option}
use Rattle.index.specs.Slots.{Apart, Maps, count_of}
use Rattle.keys.specs.declared.code.CodeKey.{CodeKey}
use Rattle.std.specs.List.{slice_get}
use Rattle.bucket_index.specs.Chains.{along, keys_in}
use Rattle.bucket_index.specs.Limits.{buckets}
use Rattle.bucket_index.specs.declared.chain.Cell.{Cell}

-- the bucket of a key
abbrev pub bucket_of : CodeKey → ℕ
bucket_of key = (key.unit + key.code) % buckets

-- the chain from the link leads along the cells whose keys belong to the bucket: no others, all of them, each once
pub record Holds (cells : List Cell) (bucket : ℕ) (link : Option ℕ) : Type 0 where
  pub its : (i n : ℕ) → along cells link i ≡ Some n → (key : CodeKey) × Maps (keys_in cells) n key × (bucket_of key ≡ bucket)
  pub all : (n : ℕ) (key : CodeKey) → Maps (keys_in cells) n key → bucket_of key ≡ bucket → (i : ℕ) × (along cells link i ≡ Some n)
  pub once : (i j n : ℕ) → along cells link i ≡ Some n → along cells link j ≡ Some n → i ≡ j

-- each bucket's chain holds its keys
abbrev pub Chained : List (Option ℕ) → List Cell → Type 0
Chained heads cells = (bucket : ℕ) (link : Option ℕ) → slice_get heads bucket ≡ Some link → Holds cells bucket link

-- what a new memory is and every call keeps: each bucket's chain holds its keys, no key has two numbers, and the count is right
pub record Sound (heads : List (Option ℕ)) (cells : List Cell) (count : ℕ) : Type 0 where
  pub chains : Chained heads cells
  pub apart : Apart (keys_in cells)
  pub counted : count ≡ count_of (keys_in cells)
