-- Each way out of a turn of `remove`: no node there, no way left, the key is this node's, or the part on its side changed.
use Rattle.tree_index.proofs.Layouts.{too_deep}
use Rattle.tree_index.proofs.Steps.{removes_here, removes_leaf, removes_side}
use Rattle.tree_index.proofs.remove.+remove.Goals as goal

pub returns-in_default : goal.returns-in_default
returns-in_default g t c = record { after = removes_leaf g.K.Key.order g.met.K.Key.total _ _ _ c.in_default.ensures.answer _ }

pub returns-then-depth-eq0 : goal.returns-then-depth-eq0
returns-then-depth-eq0 g t c = record { after = too_deep g.K.Key.order _ _ _ _ c.in-Some.found c.in-Some.ensures.answer c.if-depth-eq0.true }

pub returns-in_default-of : goal.returns-in_default-of
returns-in_default-of g t c =
    record {
      after = removes_here g.K.Key.order g.met.K.Key.total _ _ _ c.in-Some.found c.in-Some.ensures.answer c.if-depth-eq0.false _ _ c.compare.ensures.answer c.in_default-of.ensures.answer _ _ c.join.ensures.after;
    }

pub returns : goal.returns
returns g t c =
    record {
      after = removes_side g.K.Key.order g.met.K.Key.total _ _ _ c.in-Some.found c.in-Some.ensures.answer c.if-depth-eq0.false _ _ c.compare.ensures.answer
          c.in-Some-of.side c.in-Some-of.ensures.answer _ _ _ _ _ c.child.ensures.answer c.with_child.ensures.answer c.relink.ensures.after c.remove-link.ensures.after;
    }
