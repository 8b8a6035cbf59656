-- What is left, printed on the page so far, gives what all gives on the first page.
use Rattle.std.proofs.Common.{◌≡◌, drop}
use Rattle.session.specs.Buffer.{append}
use Rattle.session_bytes.specs.Pages.{shown}
use Rattle.session_bytes.proofs.Page.bytes.Given as goal

abbrev pub invariant-loop-b : goal.invariant-loop-b
invariant-loop-b l =
    (l.self.out.ghost_name ≡ l.fn.self.out.ghost_name) × (append (drop l.b-index l.s) (shown l.self) ≡ append l.s (shown l.fn.self))
