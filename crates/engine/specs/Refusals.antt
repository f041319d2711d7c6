-- The refusals of an opening as they are told: each with its number; none has values.
use Rattle.engine.specs.declared.refusal.OpenRefusal.{OpenRefusal}
use Rattle.engine.specs.declared.refusal.OpenRefusal.TheVariants.{OutOfRange, UnfitIndex}
use Rattle.keys.specs.Refusals.{Code, plain}

-- why an opening is refused
abbrev pub open_code : OpenRefusal → Code
open_code OutOfRange = plain 1
open_code UnfitIndex = plain 2
