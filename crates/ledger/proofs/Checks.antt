-- The checks of the calls: which codes they can tell, and what is known when none of them refuses.
use Rattle.std.proofs.Common.{◌≡◌, ℕ, Bool, true, false, List, [], ◌∷◌, Some, None, Option, Ordering, refl, subst}
use Rattle.std.specs.List.{AllByRecursion}
use Rattle.keys.specs.Refusals.{Code, plain}
use Rattle.ledger.specs.declared.call.Call.{Call}
use Rattle.ledger.specs.declared.call.Call.TheVariants.{Walk, Basic}
use Rattle.ledger.specs.declared.call.BasicCall.TheVariants.{BeginReport, BeginJob, Read, Look, Put, Remove, Commit, Abort, End, Age}
use Rattle.ledger.specs.Words.{when, first}
use Rattle.ledger.specs.Calls.{drafts, change}
use Rattle.ledger.specs.Steps.{Summary, told_holder, checks}

-- what the check tells, if it refuses, is so
abbrev pub Tells : (Code → Type 0) → Option Code → Type 0
Tells P o = (c : Code) → o ≡ Some c → P c

pub tells_when : (P : Code → Type 0) (c : Code) → P c → (b : Bool) → Tells P (when b c)
tells_when P c p true c' e = let ec : c ≡ c' = cc in subst P ec p
tells_when P c p false c' e = cc

pub tells_holder : (P : Code → Type 0) → ((t : ℕ) → P (record { number = 7; values = t ∷ [] })) → (o : Option ℕ) → Tells P (told_holder o)
tells_holder P p None c e = cc
tells_holder P p (Some t) c e = let ec : record { number = 7; values = t ∷ [] } ≡ c = cc in subst P ec (p t)

-- so is what the first check that refuses tells
pub tells_first : (P : Code → Type 0) (cs : List (Option Code)) → AllByRecursion (Tells P) cs → Tells P (first (λ check. check) cs)
tells_first P [] a c e = cc
tells_first P (None ∷ cs) a c e = tells_first P cs a.1 c e
tells_first P (Some x ∷ cs) a c e = a.0 c e

-- it is so of the code of each refusal of a call but 10
pub record Known (P : Code → Type 0) : Type 0 where
  pub shelf : P (plain 3)
  pub ticket : P (plain 4)
  pub too_many : P (plain 5)
  pub number : P (plain 6)
  pub holder : (t : ℕ) → P (record { number = 7; values = t ∷ [] })
  pub absent : P (plain 8)
  pub row : P (plain 9)
  pub stamp : P (plain 11)

module _ {K R : Type 0} (order : K → K → Ordering) (P : Code → Type 0) (known : Known P) where
  -- then it is so of all that the checks of a call tell, if it is so of 10 for a call that drafts
  pub checks_tell : (full : Bool) (b : Summary K R) (c : Call K R) (n : ℕ) → ((t : ℕ) (k : K) (d : Option R) → change c ≡ drafts t k d → P (plain 10)) → AllByRecursion (Tells P) (checks order full b c n)
  checks_tell full b (Walk t from) n ten = (tells_when P (plain 4) known.ticket _, tt)
  checks_tell full b (Basic BeginReport) n ten = (tells_when P (plain 5) known.too_many _, (tells_when P (plain 6) known.number _, tt))
  checks_tell full b (Basic BeginJob) n ten = (tells_when P (plain 5) known.too_many _, (tells_when P (plain 6) known.number _, tt))
  checks_tell full b (Basic (Read t k)) n ten = (tells_when P (plain 4) known.ticket _, (tells_when P (plain 3) known.shelf _, tt))
  checks_tell full b (Basic (Look t k)) n ten = (tells_when P (plain 4) known.ticket _, (tells_when P (plain 3) known.shelf _, (tells_holder P known.holder _, (tells_when P (plain 9) known.row _, tt))))
  checks_tell full b (Basic (Put t k r)) n ten =
      (tells_when P (plain 4) known.ticket _, (tells_when P (plain 3) known.shelf _, (tells_holder P known.holder _, (tells_when P (plain 9) known.row _, (tells_when P (plain 10) (ten t.number k (Some r) refl) _, tt)))))
  checks_tell full b (Basic (Remove t k)) n ten =
      (tells_when P (plain 4) known.ticket _, (tells_holder P known.holder _, (tells_when P (plain 8) known.absent _, (tells_when P (plain 9) known.row _, (tells_when P (plain 10) (ten t.number k None refl) _, tt)))))
  checks_tell full b (Basic (Commit t)) n ten = (tells_when P (plain 4) known.ticket _, (tells_when P (plain 11) known.stamp _, tt))
  checks_tell full b (Basic (Abort t)) n ten = (tells_when P (plain 4) known.ticket _, tt)
  checks_tell full b (Basic (End t)) n ten = (tells_when P (plain 4) known.ticket _, tt)
  checks_tell full b (Basic (Age limit)) n ten = tt

-- a check that lets the call pass
pub passed : (b : Bool) (c : Code) → when b c ≡ None → b ≡ false
passed true c e = cc
passed false c e = refl
