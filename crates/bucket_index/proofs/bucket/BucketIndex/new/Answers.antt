use Rattle.bucket_index.proofs.Soundness.{new_sound}
use Rattle.bucket_index.proofs.bucket.BucketIndex.new.Goals as goal

pub returns-clause-kept : goal.returns-clause-kept
returns-clause-kept c = rw (c.blank.ensures.heads, c.blank.ensures.cells, c.blank.ensures.count) new_sound

pub invariant_of-result : goal.invariant_of-result
invariant_of-result c = record { sound = ∣ rw (c.blank.ensures.heads, c.blank.ensures.cells, c.blank.ensures.count) new_sound ∣₁ }
