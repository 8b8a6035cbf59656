-- What is known of a session's memory stays known with a line, and how many bytes a line and the end print at most. Assumes nothing.
use Rattle.std.specs.Prelude.{ℕ, ◌+◌, ◌≤◌, List, [], ◌∷◌, Bool, true, false, length, if◌then◌else◌}
use Rattle.std.proofs.Common.{arith, refl}
use Rattle.session.specs.Grammar.{closed_line, open_line, admissible}
use Rattle.session.specs.OutputLengths.{longest_line, longest_end}
use Rattle.session_state.specs.Handling.{lines_output}
use Rattle.partial_line.specs.PartialLines.{line_bytes}
use Rattle.session_lines.specs.KnownMemory.{KnownIn, line_known}
use Rattle.session_lines.specs.LinesOutside.{outside_last}
use Rattle.session_lines.specs.OutputBounds.{line_bound, end_bound}
use Rattle.stdio.specs.declared.input.Input.{Input}
use Rattle.stdio.specs.Inputs.{cut_off}
use Rattle.stdio.specs.Readers.{last_lines}
use Rattle.session_run.specs.Running.{Running, prints_on, next, prints}

-- memory is known to be sound
abbrev pub Knows : Running → Type 0
Knows x = KnownIn true x.session x.nodes x.buckets

pub line_keeps : (x : Running) (l : List ℕ) → Knows x → Knows (next x l)
unfolding next
line_keeps x l k = line_known true x.session x.nodes x.buckets (closed_line l) k

pub line_spends : (x : Running) (l : List ℕ) → Knows x → length (prints x l) + longest_end ≤ longest_end + longest_line
unfolding prints
line_spends x l k = omega (arith, line_bound x.session x.nodes x.buckets (closed_line l))

pub some_due : (x : Running) → longest_end ≤ longest_end
some_due x = omega arith

pub end_spends : (x : Running) (p : Input) → Knows x → length (prints_on x (last_lines p)) ≤ longest_end
unfolding prints_on last_lines lines_output admissible
end_spends x p k = go (cut_off p)
  where
    go : (b : Bool) → length (lines_output x.session x.nodes x.buckets (if b then (open_line (line_bytes p.line) ∷ []) else [])) ≤ longest_end
    go true =
        let last = open_line (line_bytes p.line) in
        let few = line_bound x.session x.nodes x.buckets last in
        rw (outside_last last refl x.session x.nodes x.buckets []) (omega arith)
    go false = end_bound x.session x.nodes x.buckets
