-- The node is removed, then freed: what that leaves of the slots, that it is sound, and no higher.
use Rattle.std.proofs.Math.Logic.{∥∥₁_elim, ∥∥₁_map}
use Rattle.std.specs.Coded.{Coded-set, coded_list, coded_option}
use Rattle.tree_index.proofs.Soundness.{discarded_slots, discarded_sound}
use Rattle.tree_index.proofs.tree.unlink.Goals as goal

pub returns : goal.returns
returns g c =
    record {
      after = λ d. ∥∥₁_elim d.sound (Coded-set (coded_list (coded_option g.row.K.coded)) _ _)
          (λ s. discarded_slots g.K.Key.order g.met.K.Key.total _ _ _ _ _ _ _ _ s d.has c.put.ensures.after c.remove-link.ensures.after c.with_less.ensures.answer);
      kept = λ d. ∥∥₁_map d.sound (λ s. (discarded_sound g.K.Key.order g.met.K.Key.total _ _ _ _ _ _ _ _ s d.has c.put.ensures.after c.remove-link.ensures.after c.with_less.ensures.answer).0);
      tree = λ s has. (discarded_sound g.K.Key.order g.met.K.Key.total _ _ _ _ _ _ _ _ s has c.put.ensures.after c.remove-link.ensures.after c.with_less.ensures.answer).0;
      lower = λ s has. discarded_sound g.K.Key.order g.met.K.Key.total _ _ _ _ _ _ _ _ s has c.put.ensures.after c.remove-link.ensures.after c.with_less.ensures.answer;
    }
