use Rattle.ledger.proofs.Worked.{examples}
use Rattle.ledger.proofs.law.worked_examples.Goals as goal

pub returns : goal.returns
returns g c = record { examples = examples g.K.Key.order g.met.K.Key.total }
