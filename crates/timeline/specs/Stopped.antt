-- Once its session has stopped a timeline prints nothing more, whatever lines follow and however the input ends: so that reading on would show nothing
-- (`stopped_rows`, `stopped_end`). Assumes nothing.
use Rattle.std.specs.Prelude.{ℕ, ◌≡◌, Bool, Option}
use Rattle.std.proofs.Math.Path.{refl, ap}
use Rattle.std.proofs.Common.{◌∙◌}
use mathlib.Core.List.{List, [], ◌∷◌, ◌++◌}
use Rattle.std.proofs.Math.Bool.{true, false}
use Rattle.session.specs.declared.EventLine.{EventLine}
use Rattle.session.specs.Grammar.{InputLine, open_line, parse_event_line}
use Rattle.session_state.specs.declared.Phase.{Phase}
use Rattle.session_state.specs.declared.Phase.TheVariants.{Stopped}
use Rattle.session_state.specs.Handling.{LineEffect, reads_events, silent, pools_kept, phase_effect, line_effect, phase_end, end_effect}
use Rattle.timeline.specs.declared.Timeline.{Timeline}
use Rattle.timeline.specs.Lines.{front, count_after, TimelineEffect, after_line, timeline_line, timeline_end}
use Rattle.timeline.specs.EachEvent.{timeline_rows}

-- nothing is done
abbrev pub unmoved : Timeline → List ℕ → List ℕ → TimelineEffect
unmoved t ns bs = record { timeline = t; nodes = ns; buckets = bs; prints = [] }

module _ (t : Timeline) (ns bs : List ℕ) (stopped : t.session.phase ≡ Stopped) where
  not_reading : reads_events t.session.phase ≡ false
  unfolding reads_events
  not_reading = ap reads_events stopped

  session_silent : (l : InputLine) → line_effect t.session ns bs l ≡ silent t.session ns bs
  unfolding line_effect phase_effect
  session_silent l = ap (λ (p : Phase). phase_effect p t.session ns bs l) stopped

  no_row : (x : Option EventLine) → after_line x t (silent t.session ns bs) ≡ unmoved t ns bs
  unfolding after_line silent pools_kept front count_after
  no_row x = rw not_reading

  pub stopped_line : (l : InputLine) → timeline_line t ns bs l ≡ unmoved t ns bs
  unfolding timeline_line
  stopped_line l = ap (after_line (parse_event_line l) t) (session_silent l) ∙ no_row (parse_event_line l)

  pub stopped_rows : (ls : List InputLine) → timeline_rows t ns bs ls ≡ []
  unfolding timeline_rows
  stopped_rows [] = refl
  stopped_rows (l ∷ ls) =
      ap (λ (d : TimelineEffect). d.prints ++ timeline_rows d.timeline d.nodes d.buckets ls) (stopped_line l) ∙ stopped_rows ls

  pub stopped_end : (closed : Bool) → (timeline_end t closed ns bs).prints ≡ []
  unfolding timeline_end end_effect phase_end silent pools_kept
  stopped_end true = ap (λ (p : Phase). (phase_end p t.session ns bs).prints) stopped
  stopped_end false = ap (λ (d : LineEffect). d.prints) (session_silent (open_line []))
