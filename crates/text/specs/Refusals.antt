-- The refusal of a text as it is told: every promise of a reader speaks of this number.
-- A case that is added to the enum is given its number here.
use Rattle.keys.specs.Refusals.{Code, plain}
use Rattle.text.specs.declared.refusal.TextRefusal.{TextRefusal}
use Rattle.text.specs.declared.refusal.TextRefusal.TheVariants.{Malformed}

-- the number and the values of a refusal
abbrev pub code : TextRefusal → Code
code Malformed = plain 12
