-- How many bytes a line and the end of an input have printed at most. Assumes nothing.
use Rattle.std.specs.Prelude.{ℕ, ◌+◌, ◌≤◌, List, not, length}
use Rattle.std.proofs.Common.{arith, refl, subst, sym}
use Rattle.session.specs.Grammar.{closed_line}
use Rattle.session.specs.OutputLengths.{longest_end}
use Rattle.stdio.specs.declared.input.Input.{Input}
use Rattle.stdio.specs.Inputs.{cut_off}
use Rattle.stdio.specs.Readers.{last_lines}
use Rattle.timeline.specs.Lengths.{longest_rows, rows_bound, timeline_end_bound}
use Rattle.timeline_program.specs.Running.{Running, timeline_output, prints, ends_with}

pub line_spends : (x : Running) (l : List ℕ) → length (prints x l) + longest_end ≤ longest_end + longest_rows
unfolding prints
line_spends x l = omega (arith, rows_bound x.timeline x.nodes x.buckets (closed_line l))

pub some_due : (x : Running) → longest_end ≤ longest_end
some_due x = omega arith

pub end_spends : (x : Running) (p : Input) → length (timeline_output x (last_lines p)) ≤ longest_end
end_spends x p =
    let closed = not (cut_off p) in
    subst (λ (w : List ℕ). length w ≤ longest_end) (sym (ends_with x p closed refl)) (timeline_end_bound x.timeline closed x.nodes x.buckets)
