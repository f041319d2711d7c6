use Rattle.std.proofs.Common.{Some, sym, ap, ◌∙◌, arith}
use Rattle.table.proofs.Tickets.{at_ticket, no_ticket}
use Rattle.table.proofs.open_list.OpenList.find.Goals as goal

pub returns-in_err-i : goal.returns-in_err-i
returns-in_err-i g c =
    let none = no_ticket g.T.Ticketed.number c.args.ticket c.args.self.now.items.items (sym c.in_err-i.ensures.answer) in
    record { answer = c.from_residual.ensures ∙ sym none.found }

pub index-requires : goal.index-requires
index-requires g c =
    let at = at_ticket g.T.Ticketed.number c.args.ticket c.args.self.now.items.items c.in_ok-i.i (sym c.in_ok-i.ensures.answer) in
    omega (arith, at.within)

pub returns : goal.returns
returns g c =
    let at = at_ticket g.T.Ticketed.number c.args.ticket c.args.self.now.items.items c.in_ok-i.i (sym c.in_ok-i.ensures.answer) in
    record { answer = ap Some c.index.ensures ∙ sym (at.found c.index.result.now) }
