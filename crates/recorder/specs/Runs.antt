-- The recorder as a program that prints as it goes (line_printers): what is known of it, and how many bytes it writes; and what the whole program comes to, in
-- the terms of the paper: it writes the recording, and where there is none the session's refusal (`recorder_output`). Assumes nothing.
use Rattle.std.specs.Prelude.{ℕ, ◌+◌, ◌≤◌, ◌≡◌, List, true, false, ℤ, pos, length}
use Rattle.std.proofs.Common.{refl, sym, subst, ◌∙◌}
use Rattle.session.specs.Buffer.{buffer}
use Rattle.session.specs.Grammar.{closed_line}
use Rattle.session_state.specs.declared.Phase.{Phase}
use Rattle.session_state.specs.declared.Phase.TheVariants.{Due, Events, Stopped}
use Rattle.session_lines.specs.KnownMemory.{KnownIn}
use Rattle.stdio.specs.declared.input.Input.{Input}
use Rattle.stdio.specs.Inputs.{leaves_out}
use Rattle.stdio.specs.Readers.{Countable, last_lines}
use Rattle.stdio.specs.Outcomes.{status_number, outcome_with}
use Rattle.stdio.specs.Runs.{Prints, Ran, exact}
use Rattle.stdio.specs.Streams.{PrintsLines}
use Rattle.recording.specs.Recording.{close}
use Rattle.recording.specs.Recorder.{longest_header, recorder_output}
use Rattle.recorder_lines.specs.declared.KeptLines.{KeptLines}
use Rattle.recorder_lines.specs.KeptBytes.{append_length}
use Rattle.recorder_lines.specs.KeptLines.{keep_line, kept_after}
use Rattle.recorder.specs.LentRecorder.{Lent, after_line, recorded_from, take_line, line_prints}
use Rattle.recorder.specs.LineRecorder.{recorder_ends}
use Rattle.recorder.specs.OutputBounds.{longest_pair, longest_last, still_due, due_most, line_bound, end_bound}
use Rattle.recorder.specs.Known.{recorded_known}

-- memory is sound, and there is room for the header's lines
abbrev pub Knows : Lent → Type 0
Knows s = KnownIn true s.recorder.session s.nodes s.buckets × (length s.recorder.kept.bytes ≡ longest_header)

pub prints_lines : PrintsLines recorded_from take_line line_prints
unfolding recorded_from take_line line_prints
prints_lines s l ls short = refl

kept_room : (p : Phase) (k : KeptLines) (line : List ℕ) → length (kept_after p k line).bytes ≡ length k.bytes
unfolding kept_after keep_line
kept_room (Due due) k line = append_length (close line) (buffer k.bytes k.len)
kept_room Events k line = refl
kept_room Stopped k line = refl

pub line_keeps : (s : Lent) (l : List ℕ) → Knows s → Knows (take_line s l)
unfolding take_line after_line
line_keeps s l k =
    let r = s.recorder in
    (recorded_known true (closed_line l) r.kept r.session s.nodes s.buckets k.0, kept_room r.session.phase r.kept l ∙ k.1)

-- `longest_pair` bytes for a line, and once the kept header lines and the listing
pub line_spends : (s : Lent) (l : List ℕ) → Knows s
    → length (line_prints s l) + still_due (take_line s l).recorder.session.phase ≤ still_due s.recorder.session.phase + longest_pair
unfolding take_line line_prints after_line
line_spends s l k = line_bound s (closed_line l) k.1

pub due_few : (s : Lent) → still_due s.recorder.session.phase ≤ longest_last
due_few s = due_most s.recorder.session.phase

pub end_spends : (s : Lent) (p : Input) → Knows s → length (recorded_from s (last_lines p)) ≤ still_due s.recorder.session.phase
end_spends s p k = subst (λ (w : List ℕ). length w ≤ still_due s.recorder.session.phase) (sym (recorder_ends s p)) (end_bound s k.1)

-- the whole program; `said` is the status of what its last line says. Where a line is left out the input counts as refused
pub record RanRecorder (status : ℤ) : Type 0 where
  pub said : ℤ
  pub ran : Ran recorder_output said
  pub gives : status ≡ pos (status_number (outcome_with (leaves_out ran.input) ran.exits.outcome))

-- what is in memory is recorded exactly
pub recorder_exact : (input : List ℕ) (p : Input) (text : List ℕ) → Countable input → Prints recorder_output false input p text
    → recorder_output input ≡ text
recorder_exact input p text few x = exact recorder_output input p text few x
