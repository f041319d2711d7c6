-- The law of runs from its parts: what is true of the newest call of every run is true of each call of a run, since what came before is a run too.
use Rattle.std.proofs.Common.{List, [], ◌∷◌, Ordering, sym, ◌∙◌}
use Rattle.keys.specs.Orders.{Total}
use Rattle.ledger.specs.Calls.{Exchange}
use Rattle.ledger.specs.Steps.{State, Numbers, Run}
use Rattle.ledger.specs.Laws.{EachCall, Newest, ReadIsTrue, LookIsTrue, WalkIsTrue, FullIsFull, AgeFrees, LawOfRuns}
use Rattle.ledger.proofs.Truth.{read_is_true, look_is_true, walk_is_true}
use Rattle.ledger.proofs.Unseen.{age_is_unseen}
use Rattle.ledger.proofs.Full.{full_is_full}
use Rattle.ledger.proofs.Freeing.{age_frees}
use Rattle.ledger.proofs.Going.{goes_on}
use Rattle.ledger.proofs.Reached.{reached_lengths}

module _ {K R : Type 0} (order : K → K → Ordering) (tot : Total order) where
  each_call : (o : Numbers) (P : Exchange K R → List (Exchange K R) → Type 0) → ((e : Exchange K R) (past : List (Exchange K R)) (s : State K R) → Run order o (e ∷ past) s → P e past) → (past : List (Exchange K R)) (s : State K R) → Run order o past s → EachCall P past
  each_call o P h [] s r = tt
  each_call o P h (e ∷ past) s r = (h e past s r, each_call o P h past r.0 r.1)

  newest_frees : (o : Numbers) (past : List (Exchange K R)) (s : State K R) → Run order o past s → Newest (AgeFrees order o s) past
  newest_frees o [] s r = tt
  newest_frees o (e ∷ past) s r = age_frees order tot o e past s r

  pub law_of_runs : LawOfRuns K R order
  law_of_runs o past s r =
      let lengths = reached_lengths order tot o past s r in
      record {
        reads = each_call o (ReadIsTrue order) (read_is_true order tot o) past s r;
        looks = each_call o (LookIsTrue order) (look_is_true order tot o) past s r;
        walks = each_call o (WalkIsTrue order) (walk_is_true order tot o) past s r;
        unseen = age_is_unseen order tot o past s r;
        full = each_call o (FullIsFull order o) (full_is_full order tot o) past s r;
        freed = newest_frees o past s r;
        goes = goes_on order o past s (lengths.1 ∙ sym lengths.0) r;
      }
