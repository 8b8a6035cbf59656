-- From the last byte back.
use Rattle.std.proofs.Common.{◌≡◌, ◌-◌}
use Rattle.stdio.specs.Outcomes.{line_start, last_line_start}
use Rattle.stdio.proofs.output.last_line.Given as goal

abbrev pub invariant-loop-i : goal.invariant-loop-i
invariant-loop-i l = line_start l.text (l.i - 1) ≡ last_line_start l.text
