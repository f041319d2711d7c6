-- A refused end, commit or abort gives the ticket back.
use Rattle.std.specs.Prelude.{◌≡◌, IfErr, Result}
use Rattle.std.specs.Result.{result_map_both}
use Rattle.ledger.specs.declared.answer.Refusal.{Refusal}
use Rattle.store.specs.declared.tickets.Ticket.{Ticket}
use Rattle.store.specs.declared.tickets.GivenBack.{GivenBack}

-- a refusal gives the ticket back
abbrev pub back : {A Kind : Type 0} → Ticket Kind → Result A Refusal → Result A (GivenBack Kind)
back ticket = result_map_both (λ a. a) (λ why. record { why = why; ticket = ticket })

-- the result without the ticket that it gives back
abbrev pub but_for_ticket : {A Kind : Type 0} → Result A (GivenBack Kind) → Result A Refusal
but_for_ticket = result_map_both (λ a. a) (λ e. e.why)

-- refused, it is this very ticket that is given back
abbrev pub GivesBack : {A Kind : Type 0} → Ticket Kind → Result A (GivenBack Kind) → Type 0
GivesBack ticket result = IfErr result (λ e. e.ticket ≡ ticket)
