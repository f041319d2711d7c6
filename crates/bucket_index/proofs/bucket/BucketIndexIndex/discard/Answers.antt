use Rattle.std.proofs.Common.{◌∙◌, rules}
use Rattle.std.proofs.Math.Logic.{∥∥₁_map}
use Rattle.index.proofs.Slots.{discard_granted}
use Rattle.bucket_index.specs.Slots.{keys_of}
use Rattle.bucket_index.proofs.Buckets.{maps_here, keys_unlinked}
use Rattle.bucket_index.proofs.Soundness.{unlinked_sound}
use Rattle.bucket_index.proofs.bucket.BucketIndexIndex.discard.Goals as goal

pub invariant_of-self : goal.invariant_of-self
invariant_of-self c =
    record {
      sound = rw (c.free.ensures.heads, c.unlink.ensures.heads, c.free.ensures.cells, c.unlink.ensures.cells, c.free.ensures.count, c.unlink.ensures.count)
          (∥∥₁_map c.args.self.now.sound
          (unlinked_sound _ _ c.in_ok-key.key c.args.self.now.memory.sizes.0 _ _ _ c.in_ok-cell.cell _ c.seek-previous.ensures.answer (record { told = λ cell e. search rules; there = λ cell e f. search rules })
          (search rules) (search rules)));
    }

pub returns : goal.returns
returns c =
    let granted = discard_granted (keys_of c.args.self.now) c.args.number c.in_ok-key.key (maps_here c.args.self.now.memory.cells _ c.in_ok-cell.cell _ (search rules) (search rules)) in
    record {
      answer = granted.0;
      after = rw (c.free.ensures.cells, c.unlink.ensures.cells) (keys_unlinked _ c.args.self.now.memory.cells _ _) ∙ granted.1;
      kept = λ s. rw (c.free.ensures.heads, c.unlink.ensures.heads, c.free.ensures.cells, c.unlink.ensures.cells, c.free.ensures.count, c.unlink.ensures.count)
          (unlinked_sound _ _ c.in_ok-key.key c.args.self.now.memory.sizes.0 _ _ _ c.in_ok-cell.cell _ c.seek-previous.ensures.answer (record { told = λ cell e. search rules; there = λ cell e f. search rules })
          (search rules) (search rules) s);
    }
