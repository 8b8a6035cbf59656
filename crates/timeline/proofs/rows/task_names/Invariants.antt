-- The names that are left, appended to the page so far, give what all give.
use Rattle.std.proofs.Common.{◌≡◌, ◌-◌, min}
use Rattle.session.specs.Buffer.{append}
use Rattle.session_bytes.specs.Pages.{shown}
use Rattle.timeline_rows.specs.Rows.{task_names}
use Rattle.timeline.proofs.rows.task_names.Given as goal

abbrev pub invariant-loop-j : goal.invariant-loop-j
invariant-loop-j l =
    (l.page.out.ghost_name ≡ l.fn.page.out.ghost_name)
    × (append (task_names (l.most - l.j) l.j) (shown l.page) ≡ append (task_names (min l.tasks 8) 0) (shown l.fn.page))
