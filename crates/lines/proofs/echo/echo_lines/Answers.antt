use Rattle.std.proofs.lemmas.Result.{err_from_is_err_and}
use Rattle.page.proofs.Printing.{printed_none, printed_next, printed_stop}
use Rattle.lines.proofs.echo.echo_lines.Goals as goal

pub loop-line-preserved : goal.loop-line-preserved
loop-line-preserved c =
    λ after r k. c.loop-line.invariant after r (rw c.in-Some.ensures.steps (printed_next _ _ _ _ _ _ _ c.in_ok-echo_line.ensures.lined k))

pub returns-in_err-echo_line : goal.returns-in_err-echo_line
returns-in_err-echo_line c =
    let e = err_from_is_err_and c.from_residual.result c.from_residual.ensures.1 in
    rw (e.1, e.2) (record { printed = c.loop-line.invariant _ _ (rw c.in-Some.ensures.steps (printed_stop _ _ _ _ _ c.in_err-echo_line.ensures.lined)) })

pub returns : goal.returns
returns c = record { printed = c.loop-line.invariant _ _ (rw c.in-None.ensures.steps (printed_none _)) }
