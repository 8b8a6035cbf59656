-- What is left to print, appended to what is printed, is all of it.
use Rattle.std.proofs.Common.{◌≡◌, drop}
use Rattle.session.specs.Buffer.{append}
use Rattle.session_bytes.specs.Pages.{shown}
use Rattle.notes_text.specs.Printing.{lane_lines}
use Rattle.notes_text.proofs.print.order.Given as goal

abbrev pub invariant-loop-lane : goal.invariant-loop-lane
invariant-loop-lane l =
    (l.page.out.ghost_name ≡ l.fn.page.out.ghost_name)
    × (append (lane_lines (drop l.lane-index l.lane-items) l.firsts l.seconds) (shown l.page) ≡ append (lane_lines l.fn.lanes l.fn.a l.fn.b) (shown l.fn.page))
