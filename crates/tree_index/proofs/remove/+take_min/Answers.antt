-- Each way out of a turn of `take_min`: no node there, no way left, nothing on the left, or the least node came from the left.
use Rattle.tree_index.proofs.Layouts.{too_deep}
use Rattle.tree_index.proofs.Steps.{takes_here, takes_left, takes_none}
use Rattle.tree_index.proofs.remove.+take_min.Goals as goal

pub returns-in_err-found : goal.returns-in_err-found
returns-in_err-found g t c = record { after = takes_none g.K.Key.order g.met.K.Key.total _ _ _ c.in_err-found.ensures.answer _ c.from_residual.ensures }

pub returns-then-depth-eq0 : goal.returns-then-depth-eq0
returns-then-depth-eq0 g t c = record { after = too_deep g.K.Key.order _ _ _ _ c.in_ok-found.found c.in_ok-found.ensures.answer c.if-depth-eq0.true }

pub returns-in_default : goal.returns-in_default
returns-in_default g t c =
    record {
      after = takes_here g.K.Key.order g.met.K.Key.total _ _ _ c.in_ok-found.found c.in_ok-found.ensures.answer c.if-depth-eq0.false _ c.in_default.ensures.after;
    }

pub returns : goal.returns
returns g t c =
    record {
      after = takes_left g.K.Key.order g.met.K.Key.total _ _ _ c.in_ok-found.found c.in_ok-found.ensures.answer c.if-depth-eq0.false
          _ _ _ c.in-Some.min c.with_child.ensures.answer c.relink.ensures.after c.in-Some.ensures.after;
    }
