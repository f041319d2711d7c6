-- The right part is empty, or its least node comes up.
use Rattle.tree_index.proofs.Steps.{joins_least, joins_left}
use Rattle.tree_index.proofs.remove.join.Goals as goal

pub returns-in_default : goal.returns-in_default
returns-in_default g c = record { after = joins_left g.K.Key.order g.met.K.Key.total _ _ _ _ c.in_default.ensures.after }

pub returns : goal.returns
returns g c =
    record {
      after = joins_least g.K.Key.order g.met.K.Key.total _ _ _ _ _ _ c.in-Some.min c.in-Some.ensures.after c.with_child.ensures.answer c.relink.ensures.after;
    }
