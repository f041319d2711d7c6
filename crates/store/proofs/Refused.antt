-- A refused call changes nothing, from what the engine promises of each call.
use Rattle.std.proofs.Common.{◌≡◌, OnErr, List, Ok, Err, Option, Result, sym, refl, ap, ◌∙◌, subst}
use Rattle.keys.specs.declared.key.Key as Key
use Rattle.index.specs.declared.index.Index as Index
use Rattle.keys.specs.Refusals.{Code, told}
use Rattle.ledger.specs.declared.answer.Granted.{Granted}
use Rattle.ledger.specs.declared.answer.Refusal.{Refusal}
use Rattle.ledger.specs.Refusals.{code}
use Rattle.ledger.specs.Calls.{Answer}
use Rattle.table.specs.Views.{View, view, if_granted}
use Rattle.table.specs.Checks.{Outcome}
use Rattle.engine.specs.declared.store.Store.{Store}
use Rattle.engine.specs.Calls.{Unchanged}
use Rattle.bridge.specs.Answers.{answer_of}
use Rattle.store.specs.Law.{RefusedLeavesAll}

-- where something holds, it holds where the result is a refusal
pub on_err : {A E P : Type 0} (r : Result A E) → P → OnErr r P
on_err (Ok x) p = tt
on_err (Err why) p = p

module _ {A I K R : Type 0} {i : Index.Ghosts I K} {k : Key.Ghosts K} (says : A → Granted K R) (s s' : Store I K i k) (a : Answer K R) (handed left : List R) where
  -- only a result that is a refusal is answered as one
  pub leaves_all : (r : Result A Refusal) → a ≡ answer_of says r → ((why : Refusal) → r ≡ Err why → Unchanged s s' × (left ≡ handed)) → RefusedLeavesAll a s s' handed left
  leaves_all (Ok x) ea h = subst (λ b. RefusedLeavesAll b s s' handed left) (sym ea) tt
  leaves_all (Err why) ea h = subst (λ b. RefusedLeavesAll b s s' handed left) (sym ea) (h why refl)

  -- a call that leaves the index alone, and the table as it was where it is refused
  pub table_leaves : (r : Result A Refusal) (w : View K) → a ≡ answer_of says r → view s'.table ≡ if_granted r w (view s.table) → ((why : Refusal) → r ≡ Err why → s'.index ≡ s.index) → left ≡ handed → RefusedLeavesAll a s s' handed left
  table_leaves r w ea ev ei el = leaves_all r ea (λ why er. ((ei why er, ev ∙ ap (λ x. if_granted x w (view s.table)) er), el))

  -- a call that says itself what a refusal leaves
  pub outcome_leaves_all : (checks : List (Option Code)) (Does : A → Type 0) (Leaves : Type 0) (r : Result A Refusal) → a ≡ answer_of says r → Outcome checks Does Leaves (told code r) → (Leaves → Unchanged s s' × (left ≡ handed)) → RefusedLeavesAll a s s' handed left
  outcome_leaves_all checks Does Leaves r ea h f = leaves_all r ea (λ why er. f (subst (λ x. Outcome checks Does Leaves (told code x)) er h).1)
