-- The element with a ticket stands at the first position of the ticket: there it is looked up, taken out and written over.
use Rattle.std.proofs.Common.{◌≡◌, ℕ, ◌+◌, ◌<◌, ◌≤◌, Bool, true, false, cond, not, eqb, List, [], ◌∷◌, length, get_or, set, Some, None, sym, refl, ◌∙◌, subst, arith}
use Rattle.std.proofs.Math.Numerals.{one-add}
use Rattle.std.proofs.lemmas.Bool.{ltb-true}
use Rattle.std.proofs.lemmas.List.{set_past}
use Rattle.std.proofs.lemmas.List.Folds.{find_at}
use Rattle.std.proofs.lemmas.Grind.{common_steps}
use Rattle.std.proofs.lemmas.Iterator.Adapters.{option_map_id}
use Rattle.std.proofs.lemmas.Option.{cond_some, slice_get-get_or, slice_get_past}
use Rattle.std.specs.List.{find, position, position_or_len, remove}
use Rattle.table.specs.Lists.{with_ticket, without_ticket, replaced}
use Rattle.table.proofs.Finding.{first_when, none_past}

-- what stands at the position of a ticket
pub record AtTicket {X : Type 0} (number : X → ℕ) (t : ℕ) (xs : List X) (i : ℕ) : Type 0 where
  pub within : i < length xs
  pub found : (d : X) → with_ticket number t xs ≡ Some (get_or xs i d)
  pub rest : without_ticket number t xs ≡ remove xs i
  pub written : (y : X) → number y ≡ t → replaced number y xs ≡ set xs i y

-- no element has the ticket
pub record NoTicket {X : Type 0} (number : X → ℕ) (t : ℕ) (xs : List X) : Type 0 where
  pub found : with_ticket number t xs ≡ None
  pub rest : without_ticket number t xs ≡ xs
  pub written : (y : X) → number y ≡ t → replaced number y xs ≡ xs

remove_past : {X : Type 0} (xs : List X) (i : ℕ) → length xs ≤ i → remove xs i ≡ xs
remove_past xs i past = grind (arith, common_steps)

module _ {X : Type 0} (number : X → ℕ) (t : ℕ) where
  abbrev has : X → Bool
  has x = eqb (number x) t

  -- the first position of the ticket, or the length
  abbrev first : List X → ℕ
  first = position_or_len has

  pub found_is : (xs : List X) → with_ticket number t xs ≡ find has xs
  found_is xs = first_when has (λ x. x) xs ∙ option_map_id (find has xs)

  rest_at : (xs : List X) → without_ticket number t xs ≡ remove xs (first xs)
  rest_at [] = refl
  rest_at (x ∷ xs) =
      elim (has x) as (λ b. cond b xs (x ∷ without_ticket number t xs) ≡ remove (x ∷ xs) (cond (not b) (1 + first xs) 0)) [ true ↦ refl | false ↦ rw (one-add, rest_at xs) ]

  written_at : (y : X) → number y ≡ t → (xs : List X) → replaced number y xs ≡ set xs (first xs) y
  written_at y e [] = refl
  written_at y e (x ∷ xs) = rw e
      (elim (has x) as (λ b. cond b (y ∷ xs) (x ∷ replaced number y xs) ≡ set (x ∷ xs) (cond (not b) (1 + first xs) 0) y) [ true ↦ refl | false ↦ rw (one-add, written_at y e xs) ])

  pub at_ticket : (xs : List X) (i : ℕ) → position has xs ≡ Some i → AtTicket number t xs i
  at_ticket xs i e =
      let there = cond_some _ _ _ e in
      let within : first xs < length xs = ltb-true _ _ there.0 in
      subst (AtTicket number t xs) there.1 (record {
        within = within;
        found = λ d. found_is xs ∙ (find_at has xs ∙ slice_get-get_or xs (first xs) d within);
        rest = rest_at xs;
        written = λ y h. written_at y h xs;
      })

  pub no_ticket : (xs : List X) → position has xs ≡ None → NoTicket number t xs
  no_ticket xs e =
      let past : length xs ≤ first xs = none_past _ _ (sym e) in
      record {
        found = found_is xs ∙ (find_at has xs ∙ slice_get_past xs (first xs) past);
        rest = rest_at xs ∙ remove_past xs (first xs) past;
        written = λ y h. written_at y h xs ∙ set_past xs (first xs) y past;
      }
