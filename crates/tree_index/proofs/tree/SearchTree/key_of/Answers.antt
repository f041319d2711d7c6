-- The slots are the keys of the nodes, since there are no more nodes than a tree uses.
use Rattle.std.proofs.Common.{refl, sym, ap, ◌∙◌, arith}
use Rattle.std.proofs.lemmas.Option.{slice_get_past, slice_get_read}
use Rattle.std.specs.List.{slice_get}
use Rattle.index.proofs.Nth.{nth_map}
use Rattle.tree_index.proofs.Nodes.{length_keys, slots_whole}
use Rattle.tree_index.proofs.Soundness.{held_room}
use Rattle.tree_index.specs.Nodes.{keys}
use Rattle.tree_index.proofs.tree.SearchTree.key_of.Goals as goal

pub returns-in_err-get : goal.returns-in_err-get
returns-in_err-get g c =
    let whole = slots_whole _ (held_room g.K.Key.order g.met.K.Key.total _ _ c.args.self.now.sound) in
    record {
      answer = c.from_residual.ensures
          ∙ sym (ap (λ slots. slice_get slots c.args.number) whole ∙ slice_get_past (keys c.args.self.now.nodes.now) c.args.number (omega (arith, length_keys c.args.self.now.nodes.now, c.in_err-get.ensures.lookup)));
    }

pub returns : goal.returns
returns g c =
    let whole = slots_whole _ (held_room g.K.Key.order g.met.K.Key.total _ _ c.args.self.now.sound) in
    record { answer = sym (ap (λ slots. slice_get slots c.args.number) whole ∙ nth_map (λ node. node.key) c.args.self.now.nodes.now c.args.number c.in_ok-get.field-0.now (slice_get_read c.args.self.now.nodes.now _ c.args.number _ refl c.in_ok-get.ensures.lookup.3.0 c.in_ok-get.ensures.lookup.1)) }
