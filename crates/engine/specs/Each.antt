-- A step that is taken for each key that a job holds, told by what its call leaves of index and places.
use Rattle.std.specs.Prelude.{◌≡◌, Bool, List, Option}
use Rattle.std.specs.Borrow.{MutBor}
use Rattle.engine.specs.Agreement.{KeepsBut}
use Rattle.ledger.specs.declared.place.Place.{Place}
use Rattle.table.specs.declared.row.HeldKey.{HeldKey}

module _ {I K : Type 0} (post : MutBor I → MutBor (List (Place K)) → HeldKey → Bool → MutBor I → MutBor (List (Place K)) → Type 0) where
  -- the step makes this of the places
  abbrev pub Makes : (List (Place K) → HeldKey → List (Place K)) → Type 0
  Makes run = (i i' : MutBor I) (ps ps' : MutBor (List (Place K))) (held : HeldKey) (lost : Bool) → post i ps held lost i' ps' → ps'.now ≡ run ps.now held

  -- the step keeps index and places in agreement, but for keys that have lost their numbers
  abbrev pub KeepsEach : (I → List (Option K)) → Type 0
  KeepsEach slots = (i i' : MutBor I) (ps ps' : MutBor (List (Place K))) (held : HeldKey) (lost : Bool) → post i ps held lost i' ps' → KeepsBut lost (slots i.now) ps.now (slots i'.now) ps'.now
