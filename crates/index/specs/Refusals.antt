-- The refusals of an index as they are told: each with its number; none has values.
use Rattle.keys.specs.Refusals.{Code, plain}
use Rattle.index.specs.declared.refusal.AddRefusal.{AddRefusal}
use Rattle.index.specs.declared.refusal.AddRefusal.TheVariants.{NumberTooHigh, NumberInUse, KeyThere}
use Rattle.index.specs.declared.refusal.DiscardRefusal.{DiscardRefusal}
use Rattle.index.specs.declared.refusal.DiscardRefusal.TheVariants.{NumberFree}

-- why an add is refused
abbrev pub add_code : AddRefusal → Code
add_code NumberTooHigh = plain 14
add_code NumberInUse = plain 15
add_code KeyThere = plain 16

-- why a discard is refused
abbrev pub discard_code : DiscardRefusal → Code
discard_code NumberFree = plain 17
