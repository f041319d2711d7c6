-- (c), of 10: a call that meets no earlier refusal gets 10 exactly when it needs a place and the wanted versions are as many as the places.
-- A run meets the refusals of its model, whose versions are the ledger's. Only put and remove check for a place, last of all,
-- and in the model that check counts the wanted versions.
use Rattle.std.proofs.Common.{◌≡◌, ℕ, Bool, true, false, not, ◌&&◌, ◌↔◌, List, [], ◌∷◌, ◌++◌, Some, None, count_by, Option, Ordering, unwrap_or, sym, refl, ap, subst}
use Rattle.std.specs.List.{AllByRecursion}
use Rattle.std.proofs.lemmas.Bool.{eqb-true, eq-eqb}
use Rattle.keys.specs.Orders.{Total}
use Rattle.keys.specs.Refusals.{Code, plain}
use Rattle.ledger.specs.declared.call.Call.{Call}
use Rattle.ledger.specs.declared.call.Call.TheVariants.{Basic}
use Rattle.ledger.specs.declared.call.BasicCall.TheVariants.{Put, Remove}
use Rattle.ledger.specs.Words.{when, first, or_else}
use Rattle.ledger.specs.Versions.{has_draft, wanted}
use Rattle.ledger.specs.Calls.{Exchange, drafts, change, refusal}
use Rattle.ledger.specs.Ledger.{Ledger, ledger, how_many_wanted}
use Rattle.ledger.specs.Steps.{State, Summary, job_open, shelf_fits, not_held, something_there, row_left, checks, Outcome, Numbers, Run}
use Rattle.ledger.specs.Laws.{but_for_age, asked, refused_earlier, NeedsPlace, FullIsFull}
use Rattle.ledger.proofs.Finding.{first_append}
use Rattle.ledger.proofs.Model.{full, met, moved_on}
use Rattle.ledger.proofs.Following.{same_met}
use Rattle.ledger.proofs.Runs.{model, model_of, sound_model, run_agrees}
use Rattle.ledger.proofs.Listed.{ledger_of, ledger_is}
use Rattle.ledger.proofs.Checks.{Tells, Known, tells_when, tells_holder, tells_first, checks_tell}

-- the check for a place, behind checks that are earlier in the order
last_check : (early : List (Option Code)) → AllByRecursion (Tells (λ c. refused_earlier (Some c) ≡ true)) early → (d f : Bool) → refused_earlier (first (λ check. check) (early ++ (when (not d && f) (plain 10) ∷ []))) ≡ false → (first (λ check. check) (early ++ (when (not d && f) (plain 10) ∷ [])) ≡ Some (plain 10)) ↔ ((d ≡ false) × (f ≡ true))
last_check early tell d f = subst (λ o. refused_earlier o ≡ false → (o ≡ Some (plain 10)) ↔ ((d ≡ false) × (f ≡ true))) (sym (first_append (λ check. check) early (when (not d && f) (plain 10) ∷ []))) (go (first (λ check. check) early) refl d f)
  where
    go : (o : Option Code) → first (λ check. check) early ≡ o → (d f : Bool) → refused_earlier (or_else o (or_else (when (not d && f) (plain 10)) None)) ≡ false → (or_else o (or_else (when (not d && f) (plain 10)) None) ≡ Some (plain 10)) ↔ ((d ≡ false) × (f ≡ true))
    go (Some c) eo d f early_not = cc (tells_first (λ c. refused_earlier (Some c) ≡ true) early tell c eo)
    go None eo true f e = (λ h. cc, λ p. cc)
    go None eo false true e = (λ h. (refl, refl), λ p. refl)
    go None eo false false e = (λ h. cc, λ p. cc)

module _ {K R : Type 0} (order : K → K → Ordering) where
  -- a call that drafts nothing never gets 10
  not_ten : (b : Summary K R) (c : Call K R) (n : ℕ) → ((t : ℕ) (k : K) (d : Option R) → change c ≡ drafts t k d → ⊥) → met order b c n ≡ Some (plain 10) → ⊥
  not_ten b c n none e = tells_first P (checks order (full b) b c n) (checks_tell order P known (full b) b c n (λ t k d h. absurd (none t k d h))) (plain 10) e refl
    where
      P : Code → Type 0
      P c = c.number ≡ 10 → ⊥

      known : Known P
      known = record { shelf = λ z. cc; ticket = λ z. cc; too_many = λ z. cc; number = λ z. cc; holder = λ t z. cc; absent = λ z. cc; row = λ z. cc; stamp = λ z. cc }

  -- in the model
  ten_is_full : (b : Summary K R) (c : Call K R) (n : ℕ) → refused_earlier (met order b c n) ≡ false → (met order b c n ≡ Some (plain 10)) ↔ (NeedsPlace order b.versions (change c) × (count_by (wanted b.control.reports) b.versions ≡ b.places))
  ten_is_full b c n early = go c n early
    where
      counted : {X Y : Type 0} → (X ↔ (Y × (full b ≡ true))) → X ↔ (Y × (count_by (wanted b.control.reports) b.versions ≡ b.places))
      counted i = (λ x. let p = i.0 x in (p.0, eqb-true (count_by (wanted b.control.reports) b.versions) b.places p.1), λ p. i.1 (p.0, eq-eqb (count_by (wanted b.control.reports) b.versions) b.places p.1))

      none_needed : (c : Call K R) (n : ℕ) {Y : Type 0} → ((t : ℕ) (k : K) (d : Option R) → change c ≡ drafts t k d → ⊥) → (met order b c n ≡ Some (plain 10)) ↔ (⊥ × Y)
      none_needed c n none = (λ h. absurd (not_ten b c n none h), λ p. absurd p.0)

      Early : Code → Type 0
      Early c = refused_earlier (Some c) ≡ true

      go : (c : Call K R) (n : ℕ) → refused_earlier (met order b c n) ≡ false → (met order b c n ≡ Some (plain 10)) ↔ (NeedsPlace order b.versions (change c) × (count_by (wanted b.control.reports) b.versions ≡ b.places))
      go (Basic (Put t k r)) n e =
          counted (last_check (job_open order b t ∷ shelf_fits order b n ∷ not_held order b t k ∷ row_left order b t k ∷ [])
          (tells_when Early (plain 4) refl _, (tells_when Early (plain 3) refl _, (tells_holder Early (λ t. refl) _, (tells_when Early (plain 9) refl _, tt))))
          (has_draft order t.number k b.versions) (full b) e)
      go (Basic (Remove t k)) n e =
          counted (last_check (job_open order b t ∷ not_held order b t k ∷ something_there order b t k ∷ row_left order b t k ∷ [])
          (tells_when Early (plain 4) refl _, (tells_holder Early (λ t. refl) _, (tells_when Early (plain 8) refl _, (tells_when Early (plain 9) refl _, tt))))
          (has_draft order t.number k b.versions) (full b) e)
      go c n e = none_needed c n (λ t k d h. cc)

module _ {K R : Type 0} (order : K → K → Ordering) (tot : Total order) where
  -- no call changes the count of places
  places_stay : (o : Numbers) (cs : List (Call K R × Option ℕ)) → (model order tot o cs).places ≡ o.places
  places_stay o [] = refl
  places_stay o (c ∷ cs) = go (met order (model order tot o cs) c.0 (unwrap_or c.1 0)) (places_stay o cs)
    where
      go : (met : Option Code) → (model order tot o cs).places ≡ o.places → (moved_on order met (model order tot o cs) c.0).places ≡ o.places
      go (Some why) e = e
      go None e = e

  pub model_places : (o : Numbers) (past : List (Exchange K R)) → (model_of order tot o past).places ≡ o.places
  model_places o past = places_stay o (asked (but_for_age past))

  -- a run tells the refusal that its model meets
  run_refused : (o : Numbers) (e : Exchange K R) (past : List (Exchange K R)) (s : State K R) → Run order o (e ∷ past) s → refusal e.answer ≡ met order (model_of order tot o past) e.call e.shelf
  run_refused o e past s r = go (met order b e.call e.shelf) (subst (λ m. Outcome order m r.0 e s) (same_met order tot b r.0 (run_agrees order tot o past r.0 r.1) (sound_model order tot o past) e.call e.shelf) r.2)
    where
      b : Summary K R
      b = model_of order tot o past

      go : (m : Option Code) → Outcome order m r.0 e s → refusal e.answer ≡ m
      go (Some why) h = h.answer
      go None h = ap refusal h.answer

  pub full_is_full : (o : Numbers) (e : Exchange K R) (past : List (Exchange K R)) (s : State K R) → Run order o (e ∷ past) s → FullIsFull order o e past
  full_is_full o e past s r = go (model_of order tot o past) (ledger order o.stamp past) o.places (refusal e.answer) (ledger_is order tot o past r.0 r.1) (model_places o past) (run_refused o e past s r)
    where
      go : (b : Summary K R) (l : Ledger K R) (places : ℕ) (m : Option Code) → l ≡ ledger_of b → b.places ≡ places → m ≡ met order b e.call e.shelf → refused_earlier m ≡ false → (m ≡ Some (plain 10)) ↔ (NeedsPlace order l.versions (change e.call) × (how_many_wanted l ≡ places))
      go b l places m el ep em = rw (el, ← ep, em) (ten_is_full order b e.call e.shelf)
