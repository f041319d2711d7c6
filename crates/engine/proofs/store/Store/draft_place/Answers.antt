use Rattle.std.proofs.Common.{◌≡◌, not, ◌&&◌, is_some, Some, None, Option, sym, refl, ap, ◌∙◌}
use Rattle.keys.specs.Refusals.{Code, plain}
use Rattle.ledger.specs.Steps.{all_wanted}
use Rattle.ledger.specs.Words.{or_else, when}
use Rattle.table.proofs.Checking.{passed, passes}
use Rattle.table.specs.Drafts.{newly}
use Rattle.table.specs.Holds.{entry_at}
use Rattle.table.specs.Rows.{is_row_full, noted}
use Rattle.table.specs.Views.{view, with_row}
use Rattle.engine.proofs.store.Store.draft_place.Goals as goal

-- the last check gave no refusal
last_passed : (check : Option Code) → or_else check None ≡ None → check ≡ None
last_passed None e = refl
last_passed (Some why) e = e

pub returns : goal.returns
returns g c =
    let v = view c.args.self.now.table in
    let order = g.I.Key.Key.order in
    let draft = rw c.deref.ensures.value at (sym c.in_default.ensures.answer) in
    let entry = rw c.deref-2.ensures.value at c.entry_for-entry.ensures.answer in
    let room = c.in_ok-n.ensures.answer in
    record {
      answer = (
        passes (ap (λ o. when (not (is_some o) && is_row_full c.args.row) (plain 9)) (sym entry) ∙ passed _ _ _ c.in_ok-check_room.ensures.answer)
            (passes (ap (λ o. when (not (is_some o) && all_wanted v.reports v.places) (plain 10)) draft ∙ last_passed (when (all_wanted v.reports v.places) (plain 10)) room.0) refl),
        newly c.find_current-current.result draft
            (rw c.deref-3.ensures.value at c.find_current-current.ensures.answer)
            room.1.0
            (c.note.ensures.after
            ∙ (ap (λ o. with_row (view c.free_place.new.self.table) (noted o (record { draft = Some c.in_ok-n.n; current = c.find_current-current.result }) c.args.row)) entry
            ∙ ap (λ u. with_row u (noted (entry_at order v.places c.args.key c.args.row) (record { draft = Some c.in_ok-n.n; current = c.find_current-current.result }) c.args.row)) room.1.1)),
      );
    }
