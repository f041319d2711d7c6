use Rattle.std.proofs.Common.{sym}
use Rattle.table.proofs.Tickets.{at_ticket, no_ticket}
use Rattle.table.proofs.open_list.OpenList.replace.Goals as goal

pub returns-in-Some : goal.returns-in-Some
returns-in-Some g c =
    let at = at_ticket g.T.Ticketed.number c.ticket.result c.args.self.now.items.items c.in-Some.i (sym c.in-Some.ensures.answer) in
    record { after = sym (at.written c.args.item (sym c.ticket.ensures.answer)) }

pub returns-in_default : goal.returns-in_default
returns-in_default g c =
    let none = no_ticket g.T.Ticketed.number c.ticket.result c.args.self.now.items.items (sym c.in_default.ensures.answer) in
    record { after = sym (none.written c.args.item (sym c.ticket.ensures.answer)) }
