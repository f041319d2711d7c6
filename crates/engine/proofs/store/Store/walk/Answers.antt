use Rattle.std.proofs.Common.{◌≡◌, ◌&&◌, Some, Option, unwrap_or, sym, ap, subst}
use Rattle.ledger.specs.Laws.{Least}
use Rattle.ledger.specs.Words.{beyond}
use Rattle.ledger.specs.declared.place.Report.{Report}
use Rattle.std.specs.Option.{option_map}
use Rattle.table.proofs.Checking.{found_some}
use Rattle.table.specs.Reads.{is_visible, sight}
use Rattle.table.specs.Views.{open_report, view}
use Rattle.engine.proofs.store.Store.walk.Goals as goal

pub returns : goal.returns
returns g c =
    let open_is : open_report (view c.args.self.now.table) c.args.report ≡ Some c.in_ok-open.open = found_some _ _ _ c.in_ok-open.ensures.answer in
    let v = view c.args.self.now.table in
    let order = g.I.Key.Key.order in
    let stamp : sight (view c.args.self.now.table) c.args.report ≡ c.in_ok-open.open.stamp = ap (λ (o : Option Report). unwrap_or (option_map (λ r. r.stamp) o) 0) open_is in
    let marks = rw c.deref.ensures.value at c.mark_seen-marks.ensures.answer in
    record {
      answer = (
        rw open_is,
        subst (λ s. Least order (λ key. is_visible order v.places s key && beyond order c.args.after key) c.next_marked.result) (sym stamp) (c.next_marked.ensures.answer c.in_ok-open.open.stamp marks),
      );
    }
