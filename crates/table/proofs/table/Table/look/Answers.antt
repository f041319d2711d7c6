use Rattle.std.proofs.Common.{◌≡◌, Some, ◌∙◌}
use Rattle.std.proofs.lemmas.Result.{err_from_is_err_and}
use Rattle.table.specs.Views.{view, open_job}
use Rattle.table.proofs.Checking.{passed, failed, found_some}
use Rattle.table.proofs.Seeing.{look_needs}
use Rattle.table.proofs.table.Table.look.Goals as goal

pub returns-in_err-hold : goal.returns-in_err-hold
returns-in_err-hold g c =
    let found : open_job (view c.args.self.now) c.args.job ≡ Some c.in_ok-row.row = found_some _ _ _ c.in_ok-row.ensures.answer in
    let shelf = passed _ _ _ c.in_ok-check_shelf.ensures.answer in
    let holder = passed _ _ _ c.in_ok-check_holder.ensures.answer in
    let full = look_needs g.K.Key.order (view c.args.self.now) c.args.job c.args.key c.in_ok-row.row c.sees-place.result found c.sees-place.ensures.answer ∙ failed _ _ _ c.in_err-hold.ensures.answer in
    let p = err_from_is_err_and c.from_residual-in_err-hold.result c.from_residual-in_err-hold.ensures.1 in
    rw (p.1, p.2) (record { answer = (rw (full, found, shelf, holder), c.in_err-hold.ensures.after) })

pub returns : goal.returns
returns g c =
    let found : open_job (view c.args.self.now) c.args.job ≡ Some c.in_ok-row.row = found_some _ _ _ c.in_ok-row.ensures.answer in
    let shelf = passed _ _ _ c.in_ok-check_shelf.ensures.answer in
    let holder = passed _ _ _ c.in_ok-check_holder.ensures.answer in
    let room = look_needs g.K.Key.order (view c.args.self.now) c.args.job c.args.key c.in_ok-row.row c.sees-place.result found c.sees-place.ensures.answer ∙ passed _ _ _ c.in_ok-hold.ensures.answer in
    record {
      answer = (
        rw (room, found, shelf, holder),
        record {
          place = c.sees-place.result;
          sees = rw found c.sees-place.ensures.answer;
          answers = c.record_at.ensures.answer;
          after = rw found c.in_ok-hold.ensures.after;
        },
      );
    }
