-- What a function hands on of a call's result is the answer that the result says.
use Rattle.std.proofs.Common.{◌≡◌, IsErrAnd, Ok, Err, Result, sym, refl, ap, ◌∙◌}
use Rattle.std.specs.Result.{result_and}
use Rattle.ledger.specs.Calls.{Answer}
use Rattle.ledger.specs.declared.answer.Granted.{Granted}
use Rattle.ledger.specs.declared.answer.Granted.TheVariants.{Done}
use Rattle.ledger.specs.declared.answer.Refusal.{Refusal}
use Rattle.bridge.specs.Answers.{answer_of}
use Rattle.store.specs.declared.tickets.Ticket.{Ticket}
use Rattle.store.specs.declared.tickets.GivenBack.{GivenBack}
use Rattle.store.specs.Tickets.{back, but_for_ticket}

pub refused_answer : {A B K R : Type 0} (says : A → Granted K R) (says' : B → Granted K R) (r : Result A Refusal) (b : Result B Refusal) (why : Refusal) → r ≡ Err why → IsErrAnd b (λ x. x ≡ why) → answer_of says' b ≡ answer_of says r
refused_answer says says' r (Ok x) why e h = absurd h
refused_answer says says' r (Err x) why e h = ap Err h ∙ ap (answer_of says) (sym e)

pub refused : {A K R : Type 0} (says : A → Granted K R) (r : Result A Refusal) (b : Answer K R) (why : Refusal) → r ≡ Err why → IsErrAnd b (λ x. x ≡ why) → b ≡ answer_of says r
refused says r (Ok x) why e h = absurd h
refused says r (Err x) why e h = ap Err h ∙ ap (answer_of says) (sym e)

pub granted_answer : {A K R : Type 0} (says : A → Granted K R) (r : Result A Refusal) (x : A) → r ≡ Ok x → Ok (says x) ≡ answer_of says r
granted_answer says r x e = ap (answer_of says) (sym e)

-- where the answer says no more than that the call was done
pub done_answer : {K R : Type 0} (r : Result (Unit {0}) Refusal) (a : Answer K R) → a ≡ result_and r (Ok Done) → a ≡ answer_of (λ u. Done) r
done_answer (Ok u) a e = e
done_answer (Err why) a e = e

-- a ticket given back leaves the answer as it was
pub same_answer : {A Kind K R : Type 0} (says : A → Granted K R) (ticket : Ticket Kind) (r : Result A Refusal) (a : Result A (GivenBack Kind)) → a ≡ back ticket r → answer_of says (but_for_ticket a) ≡ answer_of says r
same_answer {A} {Kind} {K} {R} says ticket r a e = ap (λ x. answer_of says (but_for_ticket x)) e ∙ go r
  where
    go : (r : Result A Refusal) → answer_of says (but_for_ticket (back ticket r)) ≡ answer_of says r
    go (Ok x) = refl
    go (Err why) = refl
