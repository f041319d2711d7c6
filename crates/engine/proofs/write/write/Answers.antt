use Rattle.std.proofs.Common.{sym}
use Rattle.std.proofs.lemmas.List.{set_past}
use Rattle.engine.proofs.write.write.Goals as goal

pub returns-else-n-items : goal.returns-else-n-items
returns-else-n-items g c = record { after = sym (set_past c.args.items.now c.args.n c.args.item c.if-n-items.false) }
