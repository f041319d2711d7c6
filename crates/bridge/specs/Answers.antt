-- Calls with their answers, as the ledger records them, from the results of the store's methods.
use Rattle.std.specs.Prelude.{ℕ, Result}
use Rattle.std.specs.Result.{result_map_both}
use Rattle.ledger.specs.declared.call.Call.{Call}
use Rattle.ledger.specs.declared.answer.Granted.{Granted}
use Rattle.ledger.specs.declared.answer.Refusal.{Refusal}
use Rattle.ledger.specs.Calls.{Answer, Exchange}

-- the answer of a call: what a granted one says, or the refusal
abbrev pub answer_of : {A K R : Type 0} → (A → Granted K R) → Result A Refusal → Answer K R
answer_of says = result_map_both says (λ why. why)

-- a call that was handed a shelf of the length, with its answer
abbrev pub exchange : {K R : Type 0} → Call K R → ℕ → Answer K R → Exchange K R
exchange c n a = record { call = c; shelf = n; answer = a }
