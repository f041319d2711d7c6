-- Refusals by what is told of them: the number and the values of a refusal say which one it is.
-- So an answer that tells a code is pinned, though the steps speak of codes alone.
use Rattle.std.proofs.Common.{◌≡◌, cond, eqb, get_or, Some, Ok, Err, sym, refl, ap, ◌∙◌}
use Rattle.keys.specs.Refusals.{Code}
use Rattle.ledger.specs.declared.answer.Refusal.{Refusal}
use Rattle.ledger.specs.declared.answer.Refusal.TheVariants.{WrongShelf, NotOpen, TooManyOpen, OutOfTickets, Held, NothingThere, RowFull, StoreFull, OutOfStamps}
use Rattle.ledger.specs.Refusals.{code}
use Rattle.ledger.specs.Calls.{Answer, refusal}

-- the refusal with the code
abbrev pub refusal_of : Code → Refusal
refusal_of c =
    let is = eqb c.number in
    cond (is 3) WrongShelf
    (cond (is 4) NotOpen
    (cond (is 5) TooManyOpen (cond (is 6) OutOfTickets (cond (is 7) (Held (get_or c.values 0 0)) (cond (is 8) NothingThere (cond (is 9) RowFull (cond (is 10) StoreFull OutOfStamps)))))))

code_tells : (why : Refusal) → refusal_of (code why) ≡ why
code_tells OutOfStamps = refl
code_tells _ = refl

pub code_injective : (why why' : Refusal) → code why ≡ code why' → why ≡ why'
code_injective why why' e = sym (code_tells why) ∙ (ap refusal_of e ∙ code_tells why')

-- an answer that tells a code is the refusal with that code
pub refused_as : {K R : Type 0} (a : Answer K R) (c : Code) → refusal a ≡ Some c → a ≡ Err (refusal_of c)
refused_as (Ok g) c e = cc
refused_as (Err why) c e = let ec : code why ≡ c = cc in ap Err (sym (code_tells why) ∙ ap refusal_of ec)
