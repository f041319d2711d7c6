-- The node is put, then inserted: what that leaves of the slots, and that it is sound. A number of more than two bytes is none of a tree's.
use Rattle.std.proofs.Common.{◌≡◌, ℕ, ◌<◌, Some, None, List, Option, arith}
use Rattle.std.proofs.lemmas.Grind.{common_steps}
use Rattle.std.proofs.lemmas.Option.{slice_get_within}
use Rattle.std.proofs.Math.Logic.{∥∥₁_elim, ∥∥₁_map}
use Rattle.std.specs.Coded.{Coded-set, coded_list, coded_option}
use Rattle.std.specs.List.{slice_get}
use Rattle.tree_index.proofs.Nodes.{length_slots}
use Rattle.tree_index.proofs.Soundness.{added_slots, added_sound}
use Rattle.tree_index.specs.declared.node.Node.{Node}
use Rattle.tree_index.specs.Nodes.{slots_in}
use Rattle.tree_index.proofs.tree.link.Goals as goal

-- a slot's number takes two bytes
small : {K : Type 0} (nodes : List (Node K)) (number : ℕ) (slot : Option K) → slice_get (slots_in nodes) number ≡ Some slot → number < 65536
small nodes number slot there = omega (arith, slice_get_within (slots_in nodes) number slot there, length_slots nodes)

pub returns-in_default : goal.returns-in_default
returns-in_default g c =
    let large : c.args.number < 65536 → ⊥ = λ h. grind (arith, common_steps) in
    record {
      after = λ a. absurd (large (small c.args.nodes.now c.args.number None a.unused));
      kept = λ a. absurd (large (small c.args.nodes.now c.args.number None a.unused));
      tree = λ s unused new. absurd (large (small c.args.nodes.now c.args.number None unused));
    }

pub returns : goal.returns
returns g c =
    let new_is : c.args.number < 65536 → Some c.in-Ok.new ≡ Some c.args.number = λ h. grind (arith, common_steps) in
    record {
      after = λ a. ∥∥₁_elim a.sound (Coded-set (coded_list (coded_option g.row.K.coded)) _ _)
          (λ s. added_slots g.K.Key.order g.met.K.Key.total _ _ _ _ _ _ _ _ _ s a.unused a.new c.put.ensures.after new_is c.insert.ensures.after c.with_more.ensures.answer);
      kept = λ a. ∥∥₁_map a.sound (λ s. added_sound g.K.Key.order g.met.K.Key.total _ _ _ _ _ _ _ _ _ s a.unused a.new c.put.ensures.after new_is c.insert.ensures.after c.with_more.ensures.answer);
      tree = λ s unused new. added_sound g.K.Key.order g.met.K.Key.total _ _ _ _ _ _ _ _ _ s unused new c.put.ensures.after new_is c.insert.ensures.after c.with_more.ensures.answer;
    }
