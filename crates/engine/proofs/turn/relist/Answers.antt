use Rattle.std.proofs.Math.Logic.{∥∥₁_map}
use Rattle.engine.proofs.turn.relist.Goals as goal

pub returns-then-lost : goal.returns-then-lost
returns-then-lost g c = rw c.if-lost.true (record { index = λ a. ∥∥₁_map a c.list_keys.ensures.index })
