-- A line that is too long or not closed fixes what is said, whatever its bytes are and whatever follows: the same as at an end of the input in its middle.
-- Assumes nothing.
use Rattle.std.specs.Prelude.{◌≡◌, List, ◌∷◌, Bool, true, false, ℕ, if◌then◌else◌}
use Rattle.std.proofs.Common.{ap, ◌∙◌}
use Rattle.schedule_events.specs.Events.{events_of}
use Rattle.session.specs.declared.Header.{Header}
use Rattle.session.specs.declared.HeaderStep.{HeaderStep}
use Rattle.session.specs.declared.HeaderStep.TheVariants.{Absent, Missing}
use Rattle.session.specs.Grammar.{InputLine, admissible}
use Rattle.session.specs.Header.{optional}
use Rattle.session.specs.LineLaws.{outside_event}
use Rattle.session.proofs.LineLaws.{outside_step}
use Rattle.session.specs.Transcript.{is_event, session_opening}
use Rattle.session_state.specs.declared.Phase.{Phase}
use Rattle.session_state.specs.declared.Phase.TheVariants.{Due, Events, Stopped}
use Rattle.mattered.specs.declared.Verdict.TheVariants.{Refused}
use Rattle.mattered_standing.specs.Standings.{standing, after_event, after_header}
use Rattle.mattered_text.specs.Reading.{Place, place, after_line, on_line, header_complete, opened_says, said_at_end}
use Rattle.mattered_text.specs.LinesVerdict.{after_lines, answered, outside_answered, stopped_answered}

-- wherever the input stands
phase_outside : (q : Phase) (h : Header) (outside : Bool) (n : ℕ) (l : InputLine) (ls : List InputLine) → admissible l ≡ false → (w v : List ℕ)
    → answered (place (after_line q (standing q h outside n) false l) v) ls ≡ said_at_end false (place (standing q h outside n) w)
unfolding after_line after_header after_event header_complete said_at_end opened_says
phase_outside (Due due) h outside n l ls e w v =
    ap (λ (a : HeaderStep). answered (place (after_header a h false) v) ls) (outside_step due h l e) ∙ go (optional due)
  where
    go : (b : Bool) → answered (place (after_header (if b then Absent h else Missing) h false) v) ls
        ≡ (if b then opened_says (session_opening h) true (events_of n w) else Refused 10)
    go true = outside_answered h ls 0 v
    go false = stopped_answered h ls false 0 v
phase_outside Events h outside n l ls e w v = outside_answered h ls n v
phase_outside Stopped h outside n l ls e w v = stopped_answered h ls outside n v

pub line_outside : (p : Place) (l : InputLine) (ls : List InputLine) → admissible l ≡ false → answered p (l ∷ ls) ≡ said_at_end false p
unfolding after_lines on_line is_event
line_outside p l ls e =
    let t = p.standing in
    rw (outside_event l e) (phase_outside t.phase t.header t.outside t.count l ls e p.words _)
