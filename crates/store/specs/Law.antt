-- The law on a public call: which lists of calls led to a store, and what is then true of the list that is longer by this call.
use Rattle.std.specs.Prelude.{◌≡◌, List, [], ◌∷◌, length, IfOk, OnErr, Result, ◌≢◌}
use Rattle.keys.specs.declared.key.Key as Key
use Rattle.index.specs.declared.index.Index as Index
use Rattle.ledger.specs.declared.call.Call.{Call}
use Rattle.ledger.specs.Calls.{Answer, Exchange}
use Rattle.ledger.specs.Steps.{Numbers, Run}
use Rattle.ledger.specs.Laws.{Law}
use Rattle.table.specs.Views.{view}
use Rattle.engine.specs.declared.open.Opening.{Opening}
use Rattle.engine.specs.declared.store.Store.{Store}
use Rattle.engine.specs.declared.refusal.OpenError.{OpenError}
use Rattle.engine.specs.Calls.{Unchanged}
use Rattle.bridge.specs.Answers.{exchange}
use Rattle.bridge.specs.Shelves.{Own, kept}
use Rattle.bridge.specs.States.{state}
use Rattle.bridge.specs.Soundness.{Sound}

-- the list of calls, the newest first, led from an opening with the numbers to this store with its own shelf
pub record Led {I K R : Type 0} {i : Index.Ghosts I K} {k : Key.Ghosts K} (store : Store I K i k) (own : List R) (o : Numbers) (past : List (Exchange K R)) : Type 0 where
  pub run : Run k.order o past (state (view store.table) own)
  pub table : Sound (view store.table)

-- whatever list of calls led to the store, the list that is made of it leads to the store at exit, and the law of runs holds of that list
abbrev pub LeadsTo : {I K R : Type 0} {i : Index.Ghosts I K} {k : Key.Ghosts K} → (List (Exchange K R) → List (Exchange K R)) → Store I K i k → Store I K i k → List R → List R → Type 0
LeadsTo {I} {K} {R} {i} {k} longer store store' handed left =
    (o : Numbers) (past : List (Exchange K R)) (own : List R) → Own own handed → Led store own o past
    → Led store' (kept own handed left) o (longer past) × Law k.order o (longer past) (state (view store'.table) (kept own handed left))

-- the list that is longer by this call and its answer
abbrev pub LeadsOn : {I K R : Type 0} {i : Index.Ghosts I K} {k : Key.Ghosts K} → Call K R → Answer K R → Store I K i k → Store I K i k → List R → List R → Type 0
LeadsOn call answer store store' handed left = LeadsTo (λ past. exchange call (length handed) answer ∷ past) store store' handed left

-- a shelf of another length than the count of places is left as it was
abbrev pub LeftAlone : {I K R : Type 0} {i : Index.Ghosts I K} {k : Key.Ghosts K} → Store I K i k → List R → List R → Type 0
LeftAlone store handed left = (length handed ≢ length (view store.table).places) → left ≡ handed

-- the numbers that a run begins with, of an opening
abbrev pub numbers : Opening → Numbers
numbers o = record { store = o.store; places = o.places; stamp = o.first_stamp; ticket = o.first_ticket }

-- the empty list of calls led to a store that was opened, with any shelf of its length
abbrev pub LedFrom : {I K : Type 0} {i : Index.Ghosts I K} {k : Key.Ghosts K} → (R : Type 0) → Numbers → Result (Store I K i k) (OpenError I) → Type 0
LedFrom R o opened = IfOk opened (λ store. (own : List R) → length own ≡ o.places → Led store own o [])

-- what a call is handed that receives no shelf
abbrev pub no_shelf : (R : Type 0) → List R
no_shelf R = []

-- a refused call changes nothing: not the index, not the table, not the shelf
abbrev pub RefusedLeavesAll : {I K R : Type 0} {i : Index.Ghosts I K} {k : Key.Ghosts K} → Answer K R → Store I K i k → Store I K i k → List R → List R → Type 0
RefusedLeavesAll answer store store' handed left = OnErr answer (Unchanged store store' × (left ≡ handed))
