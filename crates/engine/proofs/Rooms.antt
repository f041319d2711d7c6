-- Room for a new draft: a free place, or one that ageing frees. A place that is not wanted and not free holds a superseded
-- version that no report needs, so ageing all frees it; where every place is wanted there is none of either kind.
use Rattle.std.proofs.Common.{◌≡◌, ℕ, zero, suc, ◌<◌, Bool, true, false, not, ◌&&◌, List, [], ◌∷◌, length, get_or, None, sym, refl, ap, ◌∙◌, subst, arith}
use Rattle.ledger.specs.Places.{free, is_free, is_wanted}
use Rattle.ledger.specs.Steps.{all_wanted, place_aged}
use Rattle.ledger.specs.Words.{any, every}
use Rattle.ledger.specs.declared.place.PlaceState.{PlaceState}
use Rattle.ledger.specs.declared.place.PlaceState.TheVariants.{Free, Unstamped, Gone, Current, Superseded}
use Rattle.ledger.specs.declared.place.Report.{Report}
use Rattle.std.proofs.lemmas.List.{get_or-map}
use Rattle.std.proofs.lemmas.Bool.{and_left, and_right, both_ways, not-true, or_parts}
use Rattle.table.proofs.Seeing.{any_at}
use Rattle.table.specs.Ageing.{aged, ready, within}
use Rattle.table.specs.Drafts.{Room}
use Rattle.table.specs.Views.{View, at}

every_not : {X : Type 0} (test : X → Bool) (xs : List X) (n : ℕ) (d : X) → n < length xs → test (get_or xs n d) ≡ false → every test xs ≡ false
every_not test [] n d below off = absurd (omega arith)
every_not test (x ∷ xs) zero d below off = and_left (test x) (every test xs) off
every_not test (x ∷ xs) (suc n) d below off = and_right (test x) (every test xs) (every_not test xs n d (omega arith) off)

pub every_all : {X : Type 0} (test : X → Bool) (xs : List X) → any (λ x. not (test x)) xs ≡ false → every test xs ≡ true
every_all test [] none = refl
every_all test (x ∷ xs) none = go (test x) (or_parts (not (test x)) (any (λ y. not (test y)) xs) none).0 (every_all test xs (or_parts (not (test x)) (any (λ y. not (test y)) xs) none).1)
  where
    go : (b : Bool) → not b ≡ false → every test xs ≡ true → (b && every test xs) ≡ true
    go true e h = h
    go false e h = absurd (both_ways true e refl)

any_not : {X : Type 0} (test : X → Bool) (xs : List X) (n : ℕ) (d : X) → n < length xs → any test xs ≡ false → test (get_or xs n d) ≡ false
any_not test [] n d below none = absurd (omega arith)
any_not test (x ∷ xs) zero d below none = (or_parts (test x) (any test xs) none).0
any_not test (x ∷ xs) (suc n) d below none = any_not test xs n d (omega arith) (or_parts (test x) (any test xs) none).1

free_unwanted : {K : Type 0} (reports : List Report) (s : PlaceState K) → is_free s ≡ true → is_wanted reports s ≡ false
free_unwanted reports Free e = refl
free_unwanted reports (Unstamped k j) e = absurd (both_ways false refl e)
free_unwanted reports (Gone k j) e = absurd (both_ways false refl e)
free_unwanted reports (Current k b) e = absurd (both_ways false refl e)
free_unwanted reports (Superseded k b f) e = absurd (both_ways false refl e)

unwanted_freed : {K : Type 0} (reports : List Report) (s : PlaceState K) → is_free s ≡ false → is_wanted reports s ≡ false →
    is_free (place_aged (λ finish. within None finish) reports (record { state = s })).state ≡ true
unwanted_freed reports Free e h = absurd (both_ways true e refl)
unwanted_freed reports (Unstamped k j) e h = absurd (both_ways true h refl)
unwanted_freed reports (Gone k j) e h = absurd (both_ways true h refl)
unwanted_freed reports (Current k b) e h = absurd (both_ways true h refl)
unwanted_freed reports (Superseded k b f) e h = rw h

module _ {K : Type 0} (v : View K) (n : ℕ) (below : n < length v.places) where
  -- there is a free place
  pub room_free : is_free (at v.places n) ≡ true → (all_wanted v.reports v.places ≡ false) × (ready v ≡ v.places) × Room v n
  room_free on =
      let some : any (λ p. is_free p.state) v.places ≡ true = any_at (λ p. is_free p.state) v.places n free below on in
      let same : ready v ≡ v.places = rw some in (
        every_not (λ p. is_wanted v.reports p.state) v.places n free below (free_unwanted v.reports (at v.places n) on),
        same,
        (below, subst (λ places. is_free (at places n) ≡ true) (sym same) on),
      )

  -- there is none, and ageing makes one
  pub room_aged : any (λ p. is_free p.state) v.places ≡ false → not (is_wanted v.reports (at v.places n)) ≡ true →
      (all_wanted v.reports v.places ≡ false) × (ready v ≡ aged None v) × Room v n
  room_aged none off =
      let same : ready v ≡ aged None v = rw none in
      let unwanted : is_wanted v.reports (at v.places n) ≡ false = not-true (is_wanted v.reports (at v.places n)) off in
      let taken : is_free (at v.places n) ≡ false = any_not (λ p. is_free p.state) v.places n free below none in
      let there : get_or (aged None v) n free ≡ place_aged (λ finish. within None finish) v.reports (get_or v.places n free) = get_or-map (place_aged (λ finish. within None finish) v.reports) v.places n free free below in (
        every_not (λ p. is_wanted v.reports p.state) v.places n free below unwanted,
        same,
        (below, subst (λ places. is_free (at places n) ≡ true) (sym same) (ap (λ p. is_free p.state) there ∙ unwanted_freed v.reports (at v.places n) taken unwanted)),
      )
