use Rattle.std.proofs.Common.{map, Result}
use Rattle.page.specs.declared.page.Page.{Page}
use Rattle.page.specs.declared.refusal.PageRefusal.{PageRefusal}
use Rattle.page.specs.Pages.{Printed}
use Rattle.lines.specs.Echoes.{echo_text}
use Rattle.lines.specs.Inputs.{input_lines}
use Rattle.lines.proofs.echo.echo_lines.Given as goal

-- whatever the lines to come do to the page, the whole input does with them
abbrev pub invariant-loop-line : goal.invariant-loop-line
invariant-loop-line l =
    (after : Page) (r : Result (Unit {0}) PageRefusal) → Printed l.page (map echo_text (input_lines l.line-iterator.rest.now)) after r →
    Printed l.initial.page (map echo_text (input_lines l.input)) after r
