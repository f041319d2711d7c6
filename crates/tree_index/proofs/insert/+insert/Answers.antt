-- Each way out of a turn of `insert`: no node there, no way left, the key is there already, or the part on its side changed.
use Rattle.tree_index.proofs.Layouts.{too_deep}
use Rattle.tree_index.proofs.Steps.{inserts_here, inserts_leaf, inserts_side}
use Rattle.tree_index.proofs.insert.+insert.Goals as goal

pub returns-in_default : goal.returns-in_default
returns-in_default g t c = record { after = inserts_leaf g.K.Key.order g.met.K.Key.total _ _ _ c.in_default.ensures.answer _ _ }

pub returns-then-depth-eq0 : goal.returns-then-depth-eq0
returns-then-depth-eq0 g t c = record { after = λ fresh. too_deep g.K.Key.order _ _ _ _ c.in-Some.found c.in-Some.ensures.answer c.if-depth-eq0.true }

pub returns-in_default-of : goal.returns-in_default-of
returns-in_default-of g t c =
    record {
      after = inserts_here g.K.Key.order g.met.K.Key.total _ _ _ c.in-Some.found c.in-Some.ensures.answer c.if-depth-eq0.false _ _ c.compare.ensures.answer c.in_default-of.ensures.answer _;
    }

pub returns : goal.returns
returns g t c =
    record {
      after = inserts_side g.K.Key.order g.met.K.Key.total _ _ _ c.in-Some.found c.in-Some.ensures.answer c.if-depth-eq0.false _ _ c.compare.ensures.answer
          c.in-Some-of.side c.in-Some-of.ensures.answer _ _ _ _ _ c.child.ensures.answer c.with_child.ensures.answer c.relink.ensures.after _ c.insert-link.ensures.after;
    }
