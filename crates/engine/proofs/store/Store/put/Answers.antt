use Rattle.std.proofs.Common.{◌≡◌, Some}
use Rattle.table.proofs.Checking.{found_some, job_is_open, passed, passes}
use Rattle.table.specs.Views.{open_job, view}
use Rattle.engine.proofs.Drafting.{same_placed, same_room}
use Rattle.engine.proofs.store.Store.put.Goals as goal

pub returns : goal.returns
returns g c =
    let v = view c.args.self.now.table in
    let found : open_job (view c.args.self.now.table) c.args.job ≡ Some c.in_ok-row.row = found_some _ _ _ c.in_ok-row.ensures.answer in
    let out = c.in_ok-n.ensures.answer in
    record {
      answer = (
        passes (job_is_open v c.args.job c.in_ok-row.row found)
            (passes (passed _ _ _ c.in_ok-check_shelf.ensures.answer)
            (passes (passed _ _ _ c.in_ok-check_holder.ensures.answer)
            (same_room g.I.Key.Key.order v c.args.job c.args.key c.in_ok-row.row found _ out.0))),
        (
          c.in_ok-n.n,
          (
            view c.draft_place.new.self.table,
            same_placed g.I.Key.Key.order v c.args.job c.args.key c.in_ok-row.row found (view c.draft_place.new.self.table) c.in_ok-n.n out.1,
            c.turn_listed.ensures.after,
          ),
          c.write.ensures.after,
        ),
      );
    }
