-- What is left to print, appended to what is printed, is all of it.
use Rattle.std.proofs.Common.{◌≡◌, drop}
use Rattle.session.specs.Buffer.{append}
use Rattle.session_bytes.specs.Pages.{shown}
use Rattle.plan_text.specs.Text.{figures_lines}
use Rattle.plan_text.proofs.print.figures_lines.Given as goal

abbrev pub invariant-loop-f : goal.invariant-loop-f
invariant-loop-f l =
    (l.page.out.ghost_name ≡ l.fn.page.out.ghost_name)
    × (append (figures_lines (drop l.f-index l.figures)) (shown l.page) ≡ append (figures_lines l.figures) (shown l.fn.page))
