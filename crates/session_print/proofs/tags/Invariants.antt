-- The lines of the tags left, appended to the page so far, give what all lines give.
use Rattle.std.proofs.Common.{◌≡◌, drop}
use Rattle.session.specs.Buffer.{append}
use Rattle.session.specs.Print.{tag_lines}
use Rattle.session_bytes.specs.Pages.{shown}
use Rattle.session_print.proofs.tags.Given as goal

abbrev pub invariant-loop-t : goal.invariant-loop-t
invariant-loop-t l =
    (l.page.out.ghost_name ≡ l.fn.page.out.ghost_name) × (append (tag_lines (drop l.t-index l.ts)) (shown l.page) ≡ append (tag_lines l.ts) (shown l.fn.page))
