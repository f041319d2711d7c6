use Rattle.engine.proofs.Agreeing.{event_keeps}
use Rattle.engine.proofs.turn.turn_place.Goals as goal

pub returns-clause-index : goal.returns-clause-index
returns-clause-index g c = rw (c.tell.ensures.answer, c.tell.ensures.after) (event_keeps g.met.I.Key.Key.total c.args.event c.on.ensures.answer c.key.ensures.answer)
