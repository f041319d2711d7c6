-- The law over a whole list of calls that one call of this crate makes, one after another.
use Rattle.std.specs.Prelude.{ℕ, List, [], ◌∷◌, length}
use Rattle.keys.specs.declared.key.Key as Key
use Rattle.index.specs.declared.index.Index as Index
use Rattle.ledger.specs.declared.call.BasicCall.{BasicCall}
use Rattle.ledger.specs.declared.call.Call.TheVariants.{Basic}
use Rattle.ledger.specs.Calls.{Answer, Exchange}
use Rattle.engine.specs.declared.store.Store.{Store}
use Rattle.bridge.specs.Answers.{exchange}
use Rattle.store.specs.Law.{LeadsTo}

-- the calls with their answers, one after another, in front of what came before; the newest first
abbrev pub exchanges : {K R : Type 0} → List (BasicCall K R) → List (Answer K R) → ℕ → List (Exchange K R) → List (Exchange K R)
exchanges [] answers shelf past = past
exchanges (c ∷ calls) [] shelf past = past
exchanges (c ∷ calls) (a ∷ answers) shelf past = exchanges calls answers shelf (exchange (Basic c) shelf a ∷ past)

-- the list that is longer by these calls and their answers
abbrev pub LeadsThrough : {I K R : Type 0} {i : Index.Ghosts I K} {k : Key.Ghosts K} → List (BasicCall K R) → List (Answer K R) → Store I K i k → Store I K i k → List R → List R → Type 0
LeadsThrough calls answers store store' handed left = LeadsTo (exchanges calls answers (length handed)) store store' handed left
