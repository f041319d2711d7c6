use Rattle.std.proofs.Common.{true}
use Rattle.engine.specs.Agreement.{AgreeBut}
use Rattle.engine.proofs.Agreeing.{ListedTo}
use Rattle.engine.proofs.turn.list_keys.Given as goal

abbrev pub invariant-loop-n : goal.invariant-loop-n
invariant-loop-n g l = AgreeBut true (g.I.Index.slots l.initial.index) l.places → ListedTo l.n (g.I.Index.slots l.index) l.places
