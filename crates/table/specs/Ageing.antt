-- Ageing: which superseded versions it looks at, which it frees, and the places that a new draft finds.
use Rattle.std.specs.Prelude.{ℕ, Bool, true, cond, not, ◌&&◌, List, map, Some, None, count_by, Option, nat_lt}
use Rattle.ledger.specs.Places.{is_finished, is_free, is_wanted}
use Rattle.ledger.specs.Steps.{place_aged}
use Rattle.ledger.specs.Words.{any}
use Rattle.ledger.specs.declared.place.Place.{Place}
use Rattle.ledger.specs.declared.place.PlaceState.{PlaceState}
use Rattle.ledger.specs.declared.place.Report.{Report}
use Rattle.table.specs.Views.{View}

-- does the finish stamp lie below the limit? with no limit every one does
abbrev pub within : Option ℕ → ℕ → Bool
within None finish = true
within (Some limit) finish = nat_lt finish limit

module _ {K : Type 0} where
  -- does ageing look at the place?
  abbrev pub is_looked_at : Option ℕ → PlaceState K → Bool
  is_looked_at limit p = is_finished (λ finish. within limit finish) p

  -- does ageing free the place?
  abbrev pub is_freed : Option ℕ → List Report → PlaceState K → Bool
  is_freed limit reports p = is_looked_at limit p && not (is_wanted reports p)

  -- how many places ageing looks at
  abbrev pub looked_at : Option ℕ → View K → ℕ
  looked_at limit v = count_by (λ p. is_looked_at limit p.state) v.places

  -- how many places ageing frees
  abbrev pub freed : Option ℕ → View K → ℕ
  freed limit v = count_by (λ p. is_freed limit v.reports p.state) v.places

  -- the places after ageing
  abbrev pub aged : Option ℕ → View K → List (Place K)
  aged limit v = map (place_aged (λ finish. within limit finish) v.reports) v.places

  -- the places that a new draft finds: when none is free, all superseded versions are aged first
  abbrev pub ready : View K → List (Place K)
  ready v = cond (any (λ p. is_free p.state) v.places) v.places (aged None v)
