-- What contracts say of the whole store after a call.
use Rattle.std.specs.Prelude.{◌≡◌}
use Rattle.engine.specs.declared.store.Store.{Store}
use Rattle.index.specs.declared.index.Index as index
use Rattle.keys.specs.declared.key.Key as key
use Rattle.table.specs.Views.{view}

-- a refused call changes nothing: neither the index, nor what the table means
abbrev pub Unchanged : {I K : Type 0} {i : index.Ghosts I K} {k : key.Ghosts K} → Store I K i k → Store I K i k → Type 0
Unchanged s s' = (s'.index ≡ s.index) × (view s'.table ≡ view s.table)
