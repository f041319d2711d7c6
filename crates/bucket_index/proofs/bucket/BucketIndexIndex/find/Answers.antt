use Rattle.std.proofs.Common.{◌≡◌, ◌∙◌, rules}
use Rattle.std.proofs.Math.Logic.{∥∥₁_elim}
use Rattle.std.proofs.Props.{props}
use Rattle.bucket_index.proofs.Soundness.{sound_finds}
use Rattle.bucket_index.proofs.bucket.BucketIndexIndex.find.Goals as goal

pub returns-clause-answer : goal.returns-clause-answer
returns-clause-answer c =
    let same : c.map.result ≡ c.seek.result = search rules in
    ∥∥₁_elim c.args.self.now.sound (search props)
    (λ s. same ∙ sound_finds _ _ c.args.key c.args.self.now.memory.sizes.0 _ _ _ c.seek.ensures.answer (record { told = λ cell e. search rules; there = λ cell e f. search rules }) s)

pub returns-clause-apart : goal.returns-clause-apart
returns-clause-apart c = λ m n key p q. ∥∥₁_elim c.args.self.now.sound (search props) (λ s. s.apart m n key p q)
