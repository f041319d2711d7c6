use Rattle.std.proofs.Common.{◌≡◌, Some, None, ◌∙◌, rules}
use Rattle.std.proofs.Math.Logic.{∥∥₁_map}
use Rattle.std.specs.List.{slice_get}
use Rattle.std.proofs.lemmas.Option.{slice_get-map}
use Rattle.index.specs.Slots.{number_of}
use Rattle.index.proofs.Slots.{add_granted}
use Rattle.bucket_index.specs.Slots.{keys_of}
use Rattle.bucket_index.specs.Chains.{code_order}
use Rattle.bucket_index.proofs.Buckets.{keys_set}
use Rattle.bucket_index.proofs.Soundness.{linked_sound}
use Rattle.bucket_index.proofs.bucket.BucketIndexIndex.add.Goals as goal

pub invariant_of-self : goal.invariant_of-self
invariant_of-self c =
    record {
      sound = rw (c.link.ensures.heads, c.link.ensures.cells, c.link.ensures.count)
          (∥∥₁_map c.args.self.now.sound
          (linked_sound _ _ c.args.key c.args.self.now.memory.sizes.0 c.args.self.now.memory.sizes.1 _ c.args.number (rw slice_get-map (search rules)) (search rules)));
    }

pub returns : goal.returns
returns c =
    let free : slice_get (keys_of c.args.self.now) c.args.number ≡ Some None = rw slice_get-map (search rules) in
    let new : None ≡ number_of code_order (keys_of c.args.self.now) c.args.key = search rules in
    let granted = add_granted code_order (keys_of c.args.self.now) c.args.key c.args.number free new in
    record {
      answer = granted.0;
      after = rw c.link.ensures.cells (keys_set c.args.self.now.memory.cells c.args.number _) ∙ granted.1;
      kept = λ s. rw (c.link.ensures.heads, c.link.ensures.cells, c.link.ensures.count)
          (linked_sound _ _ c.args.key c.args.self.now.memory.sizes.0 c.args.self.now.memory.sizes.1 _ c.args.number (rw slice_get-map (search rules)) (search rules) s);
    }
