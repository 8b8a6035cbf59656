-- A session as a reader that prints as it goes (stdio, Streams): where it stands, and what is printed if some lines follow. Over pools of at least 64 nodes
-- and 200 buckets that is the paper's transcript (`prints_transcript`), for an input in memory exactly (`session_exact`). Assumes nothing.
use Rattle.std.specs.Prelude.{ℕ, ◌≤◌, ◌≡◌, refl, List, [], Bool, true, false, length}
use Rattle.std.proofs.Common.{sym, ap, ◌∙◌}
use Rattle.session.specs.Grammar.{InputLine, closed_line, input_lines}
use Rattle.session.specs.OutputLengths.{longest_line, longest_end}
use Rattle.session.specs.Transcript.{transcript}
use Rattle.session_state.specs.declared.Session.{Session}
use Rattle.session_state.specs.Handling.{LineEffect, new_session, has_stopped, is_stopped, line_effect, lines_output}
use Rattle.session_lines.specs.PrintsTranscript.{lines_print_transcript}
use Rattle.session_lines.specs.LinesOutside.{outside_same, outside_last, stopped_prints_nothing}
use Rattle.stdio.specs.declared.input.Input.{Input}
use Rattle.stdio.specs.Readers.{OutsideFixes, Countable}
use Rattle.stdio.specs.Runs.{Prints, exact}
use Rattle.stdio.specs.Streams.{PrintsLines, Streamed}

-- a session in the middle of its input, and what the lent pools hold
pub record Running : Type 0 where
  pub session : Session
  pub nodes : List ℕ
  pub buckets : List ℕ

abbrev pub running : Session → List ℕ → List ℕ → Running
running s ns bs = record { session = s; nodes = ns; buckets = bs }

abbrev pub begin : List ℕ → List ℕ → Running
begin ns bs = running new_session ns bs

-- what is printed if these lines follow
unfoldable pub prints_on : Running → List InputLine → List ℕ
prints_on x ls = lines_output x.session x.nodes x.buckets ls

-- what a closed line does
abbrev pub effect : Running → List ℕ → LineEffect
effect x l = line_effect x.session x.nodes x.buckets (closed_line l)

unfoldable pub next : Running → List ℕ → Running
next x l = running (effect x l).session (effect x l).nodes (effect x l).buckets

unfoldable pub prints : Running → List ℕ → List ℕ
prints x l = (effect x l).prints

abbrev pub Reads : Bool → List ℕ → Running → Input → List ℕ → Running → ℕ → List ℕ → Type 0
Reads = Streamed prints_on next prints longest_line longest_end longest_end

-- ---- the laws of such a reader

pub session_lines : PrintsLines prints_on next prints
unfolding prints_on next prints lines_output
session_lines x l ls short = refl

-- a line that is too long or not closed is the last that prints, whatever its bytes are
pub session_outside : OutsideFixes prints_on
unfolding prints_on
session_outside x l m ls el em =
    outside_last l el x.session x.nodes x.buckets ls
    ∙ ap (λ (d : LineEffect). d.prints) (outside_same l m el em x.session x.nodes x.buckets)
    ∙ sym (outside_last m em x.session x.nodes x.buckets [])

-- "After 10, or a refused opening, it prints nothing more."
pub stopped_decides : (x : Running) → has_stopped x.session.phase ≡ true → (ls : List InputLine) → prints_on x ls ≡ prints_on x []
unfolding prints_on
stopped_decides x h ls =
    let silent = stopped_prints_nothing x.session x.nodes x.buckets (is_stopped x.session.phase h) in silent ls ∙ sym (silent [])

-- ---- the transcript

pub prints_transcript : (ns bs : List ℕ) → 2176 ≤ length ns → 13200 ≤ length bs → (xs : List ℕ) → transcript xs ≡ prints_on (begin ns bs) (input_lines xs)
unfolding prints_on transcript
prints_transcript ns bs n b xs = sym (lines_print_transcript ns bs n b (input_lines xs))

pub session_exact : (input : List ℕ) (p : Input) (text : List ℕ) → Countable input → Prints transcript false input p text → transcript input ≡ text
session_exact = exact transcript
