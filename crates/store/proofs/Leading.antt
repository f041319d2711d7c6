-- A list of calls leads on by one call: its step joins the run, the table stays sound, and so the law of runs holds of the longer list.
use Rattle.std.proofs.Common.{List, ◌∷◌, length, sym, subst}
use Rattle.keys.specs.declared.key.Key as Key
use Rattle.index.specs.declared.index.Index as Index
use Rattle.keys.specs.Orders.{Total}
use Rattle.ledger.specs.Calls.{Answer}
use Rattle.ledger.specs.declared.call.Call.{Call}
use Rattle.ledger.specs.Steps.{Run}
use Rattle.ledger.proofs.Whole.{law_of_runs}
use Rattle.table.specs.Views.{view}
use Rattle.engine.specs.declared.store.Store.{Store}
use Rattle.bridge.specs.Answers.{exchange}
use Rattle.bridge.specs.Shelves.{Own, kept}
use Rattle.bridge.specs.States.{state}
use Rattle.bridge.specs.Soundness.{Sound}
use Rattle.bridge.proofs.Outcomes.{Goes}
use Rattle.bridge.proofs.Reached.{Reached, reached}
use Rattle.bridge.proofs.Shelves.{kept_same}
use Rattle.store.specs.Law.{LeadsOn}

module _ {I K R : Type 0} {i : Index.Ghosts I K} {k : Key.Ghosts K} (tot : Total k.order) (s s' : Store I K i k) where
  -- any call
  pub leads : (c : Call K R) (a : Answer K R) (handed left : List R)
      → ((own : List R) → Own own handed → Reached k.order (view s.table) own → Sound (view s.table) → Goes k.order (view s.table) own c (length handed) a (view s'.table) (kept own handed left))
      → LeadsOn c a s s' handed left
  leads c a handed left goes o past own mine led =
      let g = goes own mine (reached k.order tot o past (view s.table) own led.run) led.table in
      let run : Run k.order o (exchange c (length handed) a ∷ past) (state (view s'.table) (kept own handed left)) = (state (view s.table) own, led.run, g.0) in
      (record { run = run; table = g.1 }, law_of_runs k.order tot o (exchange c (length handed) a ∷ past) (state (view s'.table) (kept own handed left)) run)

  -- a call that leaves the shelf alone
  pub leads_shelf : (c : Call K R) (a : Answer K R) (handed : List R)
      → ((own : List R) → Own own handed → Reached k.order (view s.table) own → Sound (view s.table) → Goes k.order (view s.table) own c (length handed) a (view s'.table) own)
      → LeadsOn c a s s' handed handed
  leads_shelf c a handed goes = leads c a handed handed
      (λ own mine r so. subst (Goes k.order (view s.table) own c (length handed) a (view s'.table)) (sym (kept_same own handed mine)) (goes own mine r so))
