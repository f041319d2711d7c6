-- The nodes are cut to those that a tree uses, then cleared.
use Rattle.std.proofs.Common.{◌≡◌, ℕ, List, length, take, min, replicate, None, ap, ◌∙◌, arith}
use Rattle.std.proofs.lemmas.Grind.{common_steps}
use Rattle.std.proofs.lemmas.List.{length-replicate, length-take}
use Rattle.tree_index.proofs.Nodes.{length_slots}
use Rattle.tree_index.proofs.Soundness.{empty_slots, empty_sound}
use Rattle.tree_index.specs.declared.node.Node.{Node}
use Rattle.tree_index.specs.Links.{max_keys}
use Rattle.tree_index.specs.Nodes.{childless, slots_in}
use Rattle.tree_index.proofs.tree.SearchTree.new.Goals as goal

-- as many nodes are left as there were slots, each without a key
cleared : {K : Type 0} (before after : List (Node K)) (capacity : ℕ) (node : Node K) → capacity ≡ min (length before) max_keys → node ≡ childless None →
    after ≡ replicate (length (take capacity before)) node → after ≡ replicate (length (slots_in before)) (childless None)
cleared before after capacity node is_capacity is_node filled =
    let used : length (take capacity before) ≡ length (slots_in before) = omega (arith, length-take capacity before, length_slots before) in
    rw (filled, used, is_node)

pub returns-clause-kept : goal.returns-clause-kept
returns-clause-kept g c =
    empty_sound g.K.Key.order g.met.K.Key.total _ _
    (cleared c.args.nodes.now _ _ _ c.used-capacity.ensures.answer c.new.ensures.answer (c.fill.ensures.after (λ y is. grind (arith, common_steps)))) (omega (arith, length_slots c.args.nodes.now))

pub invariant_of-result : goal.invariant_of-result
invariant_of-result g c =
    record {
      sound = ∣ empty_sound g.K.Key.order g.met.K.Key.total _ _
          (cleared c.args.nodes.now _ _ _ c.used-capacity.ensures.answer c.new.ensures.answer (c.fill.ensures.after (λ y is. grind (arith, common_steps)))) (omega (arith, length_slots c.args.nodes.now)) ∣₁;
    }

pub returns-clause-answer : goal.returns-clause-answer
returns-clause-answer g c =
    empty_slots g.K.Key.order g.met.K.Key.total _ _
    (cleared c.args.nodes.now _ _ _ c.used-capacity.ensures.answer c.new.ensures.answer (c.fill.ensures.after (λ y is. grind (arith, common_steps)))) (omega (arith, length_slots c.args.nodes.now))

pub returns-clause-capacity : goal.returns-clause-capacity
returns-clause-capacity g c =
    omega (arith, length_slots c.args.nodes.now, ap length (returns-clause-answer g c) ∙ length-replicate (length (slots_in c.args.nodes.now)) None)
