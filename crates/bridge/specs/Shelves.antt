-- The shelf that a call is handed, and the store's own.
-- A shelf of another length is no store's own: the call leaves it alone, and the store's own is not touched.
use Rattle.std.specs.Prelude.{◌≡◌, cond, List, length, ◌==◌}

-- the shelf handed over is the store's own, or it has another length
abbrev pub Own : {R : Type 0} → List R → List R → Type 0
Own own handed = length handed ≡ length own → handed ≡ own

-- the store's own shelf after a call that was handed a shelf and left it so
abbrev pub kept : {R : Type 0} → List R → List R → List R → List R
kept own handed left = cond (length handed == length own) left own
