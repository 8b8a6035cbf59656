-- A timeline as a reader that prints as it goes (stdio, Streams): where it stands, and what is printed if some lines follow. For an input in memory that is
-- printed exactly (`timeline_exact`). Assumes nothing.
use Rattle.std.specs.Prelude.{ℕ, ◌≡◌, refl, Bool, true, false, not, replicate, if◌then◌else◌}
use Rattle.std.proofs.Common.{sym, ◌∙◌}
use Rattle.std.proofs.Math.Path.{ap}
use mathlib.Core.List.{List, [], ◌∷◌, ◌++◌, append-nil}
use Rattle.session.specs.Grammar.{InputLine, closed_line, open_line, input_lines, admissible}
use Rattle.session_state.specs.declared.Phase.TheVariants.{Stopped}
use Rattle.session_state.specs.Handling.{LineEffect, reads_events, has_stopped, is_stopped, line_effect}
use Rattle.session_lines.specs.LinesOutside.{outside_same, outside_stops}
use Rattle.stdio.specs.declared.input.Input.{Input}
use Rattle.stdio.specs.Inputs.{cut_off}
use Rattle.stdio.specs.Readers.{OutsideFixes, Countable, last_lines}
use Rattle.stdio.specs.Runs.{Prints, exact}
use Rattle.stdio.specs.Streams.{PrintsLines}
use Rattle.partial_line.specs.PartialLines.{line_bytes}
use Rattle.timeline.specs.declared.Timeline.{Timeline}
use Rattle.timeline.specs.Lines.{new_timeline, front, TimelineEffect, after_line, timeline_line, timeline_end}
use Rattle.timeline.specs.Stopped.{stopped_line, stopped_end}

-- a timeline in the middle of its input, and what the lent pools hold
pub record Running : Type 0 where
  pub timeline : Timeline
  pub nodes : List ℕ
  pub buckets : List ℕ

abbrev pub running : Timeline → List ℕ → List ℕ → Running
running t ns bs = record { timeline = t; nodes = ns; buckets = bs }

abbrev pub begin : List ℕ → List ℕ → Running
begin ns bs = running new_timeline ns bs

-- what a line does
abbrev pub effect : Running → InputLine → TimelineEffect
effect x l = timeline_line x.timeline x.nodes x.buckets l

abbrev pub after : TimelineEffect → Running
after d = running d.timeline d.nodes d.buckets

-- what is printed if these lines follow, one after the other, and at the end
unfoldable pub timeline_output : Running → List InputLine → List ℕ
timeline_output x [] = (timeline_end x.timeline true x.nodes x.buckets).prints
timeline_output x (l ∷ ls) = (effect x l).prints ++ timeline_output (after (effect x l)) ls

-- what is printed for an input, over pools that hold these words
unfoldable pub timeline_over : List ℕ → List ℕ → List ℕ → List ℕ
timeline_over ns bs input = timeline_output (begin ns bs) (input_lines input)

-- over 64 nodes and 200 buckets of zeros: what the program prints
unfoldable pub timeline_transcript : List ℕ → List ℕ
timeline_transcript input = timeline_over (replicate 2176 0) (replicate 13200 0) input

unfoldable pub next : Running → List ℕ → Running
next x l = after (effect x (closed_line l))

unfoldable pub prints : Running → List ℕ → List ℕ
prints x l = (effect x (closed_line l)).prints

-- ---- the laws of such a reader

pub timeline_lines : PrintsLines timeline_output next prints
unfolding timeline_output next prints
timeline_lines x l ls short = refl

stopped_output : (ls : List InputLine) (x : Running) → x.timeline.session.phase ≡ Stopped → timeline_output x ls ≡ []
unfolding timeline_output
stopped_output [] x e = stopped_end x.timeline x.nodes x.buckets e true
stopped_output (l ∷ ls) x e =
    ap (λ (d : TimelineEffect). d.prints ++ timeline_output (after d) ls) (stopped_line x.timeline x.nodes x.buckets e l) ∙ stopped_output ls x e

-- "After 10, or a refused opening, it prints nothing more."
pub stopped_decides : (x : Running) → has_stopped x.timeline.session.phase ≡ true → (ls : List InputLine) → timeline_output x ls ≡ timeline_output x []
stopped_decides x h ls = let e = is_stopped x.timeline.session.phase h in stopped_output ls x e ∙ sym (stopped_output [] x e)

module _ (x : Running) where
  abbrev session_prints : InputLine → List ℕ
  session_prints l = (line_effect x.timeline.session x.nodes x.buckets l).prints

  -- a line that is too long or not closed is the last that prints, and has no row
  outside_last : (l : InputLine) → admissible l ≡ false → (ls : List InputLine) → timeline_output x (l ∷ ls) ≡ session_prints l
  unfolding timeline_output timeline_line after_line front reads_events
  outside_last l out ls =
      let stops = outside_stops l out x.timeline.session x.nodes x.buckets in
      ap (λ (w : List ℕ). (effect x l).prints ++ w) (stopped_output ls (after (effect x l)) stops) ∙ append-nil (effect x l).prints ∙ rw stops

  outside_prints : (l m : InputLine) → admissible l ≡ false → admissible m ≡ false → session_prints l ≡ session_prints m
  outside_prints l m el em = ap (λ (d : LineEffect). d.prints) (outside_same l m el em x.timeline.session x.nodes x.buckets)

  -- the end of the input, whose last line is closed or outside the grammar
  pub ends_with : (p : Input) (closed : Bool) → closed ≡ not (cut_off p)
      → timeline_output x (last_lines p) ≡ (timeline_end x.timeline closed x.nodes x.buckets).prints
  unfolding last_lines timeline_output timeline_end admissible
  ends_with p closed e = rw e (go (cut_off p))
    where
      last : InputLine
      last = open_line (line_bytes p.line)

      go : (b : Bool)
          → timeline_output x (if b then (last ∷ []) else []) ≡ (timeline_end x.timeline (not b) x.nodes x.buckets).prints
      go true = outside_last last refl [] ∙ outside_prints last (open_line []) refl refl
      go false = refl

pub timeline_outside : OutsideFixes timeline_output
timeline_outside x l m ls el em = outside_last x l el ls ∙ outside_prints x l m el em ∙ sym (outside_last x m em [])

-- ---- an input in memory, and pools of zeros

pub timeline_exact : (ns bs input : List ℕ) (p : Input) (text : List ℕ) → Countable input → Prints (timeline_over ns bs) false input p text
    → timeline_over ns bs input ≡ text
timeline_exact ns bs = exact (timeline_over ns bs)

pub over_zeros : (ns bs : List ℕ) → ns ≡ replicate 2176 0 → bs ≡ replicate 13200 0 → (xs : List ℕ) → timeline_transcript xs ≡ timeline_over ns bs xs
unfolding timeline_transcript
over_zeros ns bs n b xs =
    ap (λ (w : List ℕ). timeline_over w (replicate 13200 0) xs) (sym n) ∙ ap (λ (w : List ℕ). timeline_over ns w xs) (sym b)
