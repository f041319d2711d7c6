-- Whether a search found a place is whether any place passes its test, and so with what a job finds at a key.
use Rattle.std.proofs.Common.{◌≡◌, ℕ, ◌<◌, Bool, true, false, not, ◌&&◌, List, [], ◌∷◌, length, get_or, is_some, Some, None, Option, Ordering, sym, refl, ap, ◌∙◌, subst}
use Rattle.keys.specs.Refusals.{plain}
use Rattle.ledger.specs.Places.{free}
use Rattle.ledger.specs.Words.{any, when}
use Rattle.ledger.specs.declared.call.TicketId.{TicketId}
use Rattle.table.specs.Checks.{has_current, is_current_of, row_left_to_look}
use Rattle.table.specs.Holds.{draft_at, entry_at}
use Rattle.table.specs.Lists.{Finds, position}
use Rattle.table.specs.Reads.{Sees}
use Rattle.table.specs.Rows.{draft_in, entries_of, is_row_full}
use Rattle.table.specs.Views.{View, open_job}
use Rattle.table.specs.declared.row.Row.{Row}
use Rattle.table.proofs.Finding.{finds_position}
-- one element that passes is enough
pub use Rattle.std.proofs.lemmas.List.Folds.{list_any_at as any_at}

pub finds_any : {X : Type 0} (d : X) (test : X → Bool) (xs : List X) (r : Option ℕ) → Finds d test xs r → any test xs ≡ is_some r
finds_any d test xs None none = none
finds_any d test xs (Some n) found = any_at test xs n d found.0 found.1

-- what a position tells
finds : {X : Type 0} (d : X) (test : X → Bool) (xs : List X) → Finds d test xs (position test xs)
unfolding position
finds d test xs = finds_position d test xs _ refl

pub position_some : {X : Type 0} (d : X) (test : X → Bool) (xs : List X) (i : ℕ) → position test xs ≡ Some i → (i < length xs) × (test (get_or xs i d) ≡ true)
position_some d test xs i e = subst (Finds d test xs) e (finds d test xs)

pub position_any : {X : Type 0} (test : X → Bool) (xs : List X) → is_some (position test xs) ≡ any test xs
unfolding position
position_any test [] = refl
position_any test (x ∷ xs) = sym (finds_any x test (x ∷ xs) _ (finds x test (x ∷ xs)))

pub position_none : {X : Type 0} (test : X → Bool) (xs : List X) → position test xs ≡ None → any test xs ≡ false
position_none test xs e = sym (position_any test xs) ∙ ap is_some e

module _ {K : Type 0} (order : K → K → Ordering) (v : View K) (t : TicketId) (key : K) (row : Row) (place : Option ℕ) where
  same_need : (entry : Option ℕ) → Sees order v.places key (draft_in (entries_of row) entry) place →
      (not (is_some entry) && is_row_full row && has_current order v.places key) ≡ (not (is_some entry) && is_row_full row && is_some place)
  same_need (Some i) sees = refl
  same_need None sees = ap (λ b. is_row_full row && b) (finds_any free (λ p. is_current_of order key p.state) v.places place sees)

  -- a look needs an entry where it found a place and the job has no entry for the key
  pub look_needs : open_job v t ≡ Some row → Sees order v.places key (draft_at order v.places key row) place →
      row_left_to_look order v t key ≡ when (not (is_some (entry_at order v.places key row)) && is_row_full row && is_some place) (plain 9)
  look_needs found sees = rw found (ap (λ b. when b (plain 9)) (same_need (entry_at order v.places key row) sees))
