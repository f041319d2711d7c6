-- A walk leads on by what the engine promises of it; every other call is asked as on any index.
use Rattle.ledger.specs.declared.answer.Granted.TheVariants.{Next}
use Rattle.store.proofs.Answered.{granted_answer, refused}
use Rattle.store.proofs.Called.{walk_promised}
use Rattle.store.proofs.ordered.ask_ordered.Goals as goal

pub returns-in_err-walk-in-Walk : goal.returns-in_err-walk-in-Walk
returns-in_err-walk-in-Walk g c =
    walk_promised g.met.I.Key.Key.total c.args.store.now c.args.shelf.now c.in-Walk.report c.in-Walk.after _ _ c.walk.result c.in-Walk.is (refused (λ o. Next o) c.walk.result c.from_residual.result _ c.in_err-walk-in-Walk.was c.from_residual.ensures.1) c.walk.ensures.answer

pub returns-in_ok-walk-in-Walk : goal.returns-in_ok-walk-in-Walk
returns-in_ok-walk-in-Walk g c =
    walk_promised g.met.I.Key.Key.total c.args.store.now c.args.shelf.now c.in-Walk.report c.in-Walk.after _ _ c.walk.result c.in-Walk.is (granted_answer (λ o. Next o) c.walk.result _ c.in_ok-walk-in-Walk.was) c.walk.ensures.answer
