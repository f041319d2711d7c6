use Rattle.store.proofs.Starting.{led_from}
use Rattle.store.proofs.opening.open.Goals as goal

pub returns-clause-law : goal.returns-clause-law
returns-clause-law g c = led_from g.row.R.Denot c.args.index c.args.opening c.open.result c.open.ensures.answer c.open.ensures.after
