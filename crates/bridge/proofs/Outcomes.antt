-- A call whose result is the first refusal of its checks, or else granted, makes the ledger's step:
-- it is enough that its checks are the ledger's and that, granted, it does what the ledger says.
use Rattle.std.proofs.Common.{◌≡◌, ℕ, List, Some, None, Ok, Err, Option, Result, Ordering, sym, refl, ◌∙◌, subst}
use Rattle.keys.specs.Refusals.{Code, told}
use Rattle.ledger.specs.declared.call.Call.{Call}
use Rattle.ledger.specs.declared.answer.Granted.{Granted}
use Rattle.ledger.specs.declared.answer.Refusal.{Refusal}
use Rattle.ledger.specs.Refusals.{code}
use Rattle.ledger.specs.Calls.{Answer}
use Rattle.ledger.specs.Steps.{Step, GrantedStep, summary, sent_back, all_wanted}
use Rattle.table.specs.Views.{View, if_granted}
use Rattle.table.specs.Checks.{unless, checked, Outcome, sent_back as first_refusal}
use Rattle.bridge.specs.Answers.{answer_of, exchange}
use Rattle.bridge.specs.States.{state}
use Rattle.bridge.specs.Soundness.{Sound}

ok_parts : {A : Type 0} (why : Option Code) (x answer : A) → Ok x ≡ unless why answer → (why ≡ None) × (x ≡ answer)
ok_parts None x answer e = (refl, cc)
ok_parts (Some y) x answer e = cc

err_parts : {A : Type 0} (why : Option Code) (y : Code) (answer : A) → Err y ≡ unless why answer → why ≡ Some y
err_parts None y answer e = cc
err_parts (Some z) y answer e = cc

module _ {K R : Type 0} (order : K → K → Ordering) where
  -- the step of a call, from a table and shelf to a table and shelf, and soundness of the table after it
  abbrev pub Goes : View K → List R → Call K R → ℕ → Answer K R → View K → List R → Type 0
  Goes v own c n a w own' = Step order (state v own) (exchange c n a) (state w own') × Sound w

  -- the first refusal that the ledger has the call meet
  abbrev pub met : View K → List R → Call K R → ℕ → Option Code
  met v own c n = sent_back order (all_wanted v.reports v.places) (summary (state v own)) c n

  refused : (v : View K) (own : List R) (c : Call K R) (n : ℕ) (why : Refusal) → met v own c n ≡ Some (code why) → Step order (state v own) (exchange c n (Err why)) (state v own)
  refused v own c n why e = rw e (record { answer = refl; unchanged = refl })

  granted : (v w : View K) (own own' : List R) (c : Call K R) (n : ℕ) (a : Answer K R) → met v own c n ≡ None → GrantedStep order (state v own) (exchange c n a) (state w own') → Step order (state v own) (exchange c n a) (state w own')
  granted v w own own' c n a e g = rw e g

  -- a call with one answer when granted, which leaves the shelf alone
  pub by_checks : {A : Type 0} (v w : View K) (own : List R) (c : Call K R) (n : ℕ) (says : A → Granted K R) (checks : List (Option Code)) (answer : A) (r : Result A Refusal)
      → met v own c n ≡ first_refusal checks → told code r ≡ checked checks answer → Sound v
      → (first_refusal checks ≡ None → GrantedStep order (state v own) (exchange c n (Ok (says answer))) (state w own) × Sound w)
      → Goes v own c n (answer_of says r) (if_granted r w v) own
  by_checks {A} v w own c n says checks answer (Ok a) em er s g =
      let h = ok_parts (first_refusal checks) a answer er in
      let x = g h.0 in
      (granted v w own own c n (Ok (says a)) (em ∙ h.0) (subst (λ y. GrantedStep order (state v own) (exchange c n (Ok (says y))) (state w own)) (sym h.1) x.0), x.1)
  by_checks {A} v w own c n says checks answer (Err why) em er s g = (refused v own c n why (em ∙ err_parts (first_refusal checks) (code why) answer er), s)

  -- a call with an answer, and a table and shelf afterwards, that are related to what was before
  pub by_outcome : {A : Type 0} (v w : View K) (own own' : List R) (c : Call K R) (n : ℕ) (says : A → Granted K R) (checks : List (Option Code)) (Does : A → Type 0) (Leaves : Type 0) (r : Result A Refusal)
      → met v own c n ≡ first_refusal checks → Outcome checks Does Leaves (told code r) → Sound v
      → (Leaves → (w ≡ v) × (own' ≡ own))
      → ((a : A) → first_refusal checks ≡ None → Does a → GrantedStep order (state v own) (exchange c n (Ok (says a))) (state w own') × Sound w)
      → Goes v own c n (answer_of says r) w own'
  by_outcome {A} v w own own' c n says checks Does Leaves (Ok a) em h s l g = let x = g a h.0 h.1 in (granted v w own own' c n (Ok (says a)) (em ∙ h.0) x.0, x.1)
  by_outcome {A} v w own own' c n says checks Does Leaves (Err why) em h s l g =
      let u = l h.1 in
      subst (λ x. Goes v own c n (Err why) x own') (sym u.0) (subst (λ xs. Goes v own c n (Err why) v xs) (sym u.1) (refused v own c n why (em ∙ h.0), s))
