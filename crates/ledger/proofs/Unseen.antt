-- (b): the answers to calls other than age are a function of the numbers at opening and of what was asked, age calls left out.
use Rattle.std.proofs.Common.{◌≡◌, ℕ, Bool, true, false, cond, not, List, [], ◌∷◌, Option, Ordering, unwrap_or, sym, refl, ap, ◌∙◌}
use Rattle.keys.specs.Orders.{Total}
use Rattle.ledger.specs.declared.call.Call.{Call}
use Rattle.ledger.specs.Calls.{Answer, Exchange, change, is_age}
use Rattle.ledger.specs.Steps.{State, Numbers, Run}
use Rattle.ledger.specs.Laws.{but_for_age, asked, answers, AgeIsUnseen}
use Rattle.ledger.proofs.Model.{met}
use Rattle.ledger.proofs.Runs.{replied, shelf_ignored, model, model_of, run_answers}

module _ {K R : Type 0} (order : K → K → Ordering) (tot : Total order) where
  -- what the model answers, call by call
  abbrev replies : Numbers → List (Call K R × Option ℕ) → List (Answer K R)
  replies o [] = []
  replies o (c ∷ cs) = replied order (met order (model order tot o cs) c.0 (unwrap_or c.1 0)) (model order tot o cs) c.0 ∷ replies o cs

  determined : (o : Numbers) (past : List (Exchange K R)) (s : State K R) → Run order o past s → answers (but_for_age past) ≡ replies o (asked (but_for_age past))
  determined o [] s r = refl
  determined o (e ∷ past) s r = go (is_age (change e.call)) refl (determined o past r.0 r.1)
    where
      go : (x : Bool) → is_age (change e.call) ≡ x → answers (but_for_age past) ≡ replies o (asked (but_for_age past)) → answers (cond (not x) (e ∷ but_for_age past) (but_for_age past)) ≡ replies o (asked (cond (not x) (e ∷ but_for_age past) (but_for_age past)))
      go false y ih =
          let b = model_of order tot o past in
          let here = run_answers order tot o e past s r y ∙ ap (λ m. replied order m b e.call) (sym (shelf_ignored order b e.call e.shelf)) in
          λ i. here i ∷ ih i
      go true y ih = ih

  pub age_is_unseen : (o : Numbers) (past : List (Exchange K R)) (s : State K R) → Run order o past s → AgeIsUnseen order o past
  age_is_unseen o past s r past' s' r' e = determined o past s r ∙ (ap (replies o) e ∙ sym (determined o past' s' r'))
