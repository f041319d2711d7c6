use Rattle.ledger.proofs.Codes.{code_injective}
use Rattle.ledger.proofs.Whole.{law_of_runs}
use Rattle.ledger.proofs.law.law_of_runs.Goals as goal

pub returns : goal.returns
returns g c = record { law = law_of_runs g.K.Key.order g.met.K.Key.total; codes = code_injective }
