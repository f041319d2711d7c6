use Rattle.std.proofs.Common.{not, ◌&&◌, eqb, rules, tests, sym, ap, ◌∙◌}
use Rattle.std.proofs.lemmas.Iterator.{YieldsList-from_slice}
use Rattle.std.proofs.lemmas.Iterator.Search.{find_from_yields_List}
use Rattle.std.specs.Option.{option_map}
use Rattle.table.specs.Holds.{row_holds}
use Rattle.table.specs.declared.row.Row.{Row}
use Rattle.table.proofs.Finding.{first_when}
use Rattle.table.proofs.hold.other_holder.Goals as goal

pub returns : goal.returns
returns g c =
    let test = λ (row : Row). not (eqb row.ticket c.args.ticket) && row_holds g.K.Key.order c.args.places.now c.args.key row in
    let found = find_from_yields_List test _ _ c.find.result c.find.ensures.ran (YieldsList-from_slice c.args.rows.now cc) (λ x b q k. search (rules, tests)) in
    record { answer = (search (rules, tests)) ∙ (ap (option_map (λ row. row.ticket)) found ∙ sym (first_when test (λ row. row.ticket) c.args.rows.now)) }
