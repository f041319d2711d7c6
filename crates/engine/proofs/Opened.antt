-- A store that was just opened: no key has a number, and no place carries a key.
use Rattle.std.proofs.Common.{◌≡◌, ℕ, zero, suc, ◌≤◌, true, List, length, replicate, Option, refl, ap, arith}
use lib.ListN.{length-replicate}
use Rattle.engine.specs.Agreement.{Agree}
use Rattle.engine.specs.Limits.{max_places}
use Rattle.engine.specs.Opening.{in_ranges}
use Rattle.index.proofs.Slots.{count_fewer}
use Rattle.index.specs.Slots.{count_of}
use Rattle.ledger.specs.Places.{free, key_of}
use Rattle.ledger.specs.declared.place.PlaceState.TheVariants.{Free}
use Rattle.std.proofs.lemmas.Bool.{and_parts, leb-true}
use Rattle.table.specs.Views.{at}

all_free : (K : Type 0) (places n : ℕ) → at (replicate places (free {K = K})) n ≡ Free
all_free K zero n = refl
all_free K (suc places) zero = refl
all_free K (suc places) (suc n) = all_free K places n

pub opened_agrees : {K : Type 0} {slots : List (Option K)} {places : ℕ} → count_of slots ≡ 0 → places ≤ length slots → Agree slots (replicate places free)
opened_agrees {K} {slots} {places} none enough = record {
  enough = let l = length-replicate places (free {K = K}) in omega arith;
  numbered = λ n key e. let c = count_fewer slots n key e in absurd (omega arith);
  listed = λ none n key e. cc (ap key_of (all_free K places n));
}

-- an opening within the ranges has no more places than a store can have
pub few_places : (store places stamp ticket : ℕ) → in_ranges store places stamp ticket ≡ true → places ≤ max_places
few_places store places stamp ticket h = leb-true places max_places (and_parts _ _ (and_parts _ _ (and_parts _ _ (and_parts _ _ h).0).0).0).1
