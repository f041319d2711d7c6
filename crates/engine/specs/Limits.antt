-- The limits of a store, in one place.
use Rattle.std.specs.Prelude.{ℕ}

-- the last store number
abbrev pub last_store : ℕ
last_store = 65535

-- the most places that a store can have
abbrev pub max_places : ℕ
max_places = 512
