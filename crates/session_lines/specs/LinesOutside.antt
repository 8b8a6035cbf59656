-- A line that is too long or not closed is outside the grammar, whatever its bytes are (`outside_same`): the session stops (`outside_stops`). A session
-- that has stopped prints nothing more, whatever follows (`stopped_prints_nothing`). Assumes nothing.
use Rattle.std.specs.Prelude.{◌≡◌, refl, List, [], ◌∷◌, ◌++◌, Bool, true, false, ℕ, eqb, if◌then◌else◌, None}
use Rattle.std.proofs.Common.{sym, ap, ◌∙◌, append-nil}
use Rattle.spec.specs.Entries.{Opened}
use Rattle.session.specs.declared.Header.{Header}
use Rattle.session.specs.declared.HeaderStep.TheVariants.{Absent, Missing}
use Rattle.session.specs.Grammar.{InputLine, admissible}
use Rattle.session.specs.Header.{optional}
use Rattle.session.specs.LineLaws.{outside_event}
use Rattle.session.proofs.LineLaws.{outside_step}
use Rattle.session.specs.Print.{refusal_line}
use Rattle.session_state.specs.declared.Phase.{Phase}
use Rattle.session_state.specs.declared.Phase.TheVariants.{Due, Events, Stopped}
use Rattle.session_state.specs.declared.Session.{Session}
use Rattle.session_state.specs.Handling.{LineEffect, pools_kept, stopped, with_machine, silent, opened_then, open_then}
use Rattle.session_state.specs.Handling.{event_effect, header_effect, phase_effect, line_effect, phase_end, end_effect, lines_output}

-- ---- a line that is too long or not closed: it is outside the grammar, whatever its bytes are

-- what such a line does
unfoldable outside : Phase → Session → List ℕ → List ℕ → LineEffect
outside (Due due) s ns bs = header_effect (if optional due then Absent s.header else Missing) None s ns bs
outside Events s ns bs = event_effect None s ns bs
outside Stopped s ns bs = silent s ns bs

outside_effect : (l : InputLine) → admissible l ≡ false → (s : Session) (ns bs : List ℕ) → line_effect s ns bs l ≡ outside s.phase s ns bs
unfolding line_effect phase_effect outside
outside_effect l e s ns bs = go s.phase
  where
    go : (p : Phase) → phase_effect p s ns bs l ≡ outside p s ns bs
    go (Due due) = rw (outside_step due s.header l e, outside_event l e)
    go Events = rw (outside_event l e)
    go Stopped = refl

-- so all of them do the same
pub outside_same : (l m : InputLine) → admissible l ≡ false → admissible m ≡ false → (s : Session) (ns bs : List ℕ)
    → line_effect s ns bs l ≡ line_effect s ns bs m
outside_same l m el em s ns bs = outside_effect l el s ns bs ∙ sym (outside_effect m em s ns bs)

-- ---- the session stops at it

-- what holds of what is done after an opening that was accepted, and of a refusal, holds of the opening with what is done next
pub opened_either : (P : LineEffect → Type 0) (o : Opened) (h : Header) (ns bs : List ℕ) (next : Session → List ℕ → List ℕ → LineEffect)
    → ((s : Session) (ns' bs' : List ℕ) → P (next s ns' bs')) → P (with_machine Stopped (refusal_line o.refusal) o.machine h ns bs)
    → P (opened_then o h ns bs next)
unfolding opened_then
opened_either P o h ns bs next accepted refused = go (eqb o.refusal 0)
  where
    made : LineEffect
    made = with_machine Events [] o.machine h ns bs

    go : (a : Bool)
        → P (if a then next made.session made.nodes made.buckets else with_machine Stopped (refusal_line o.refusal) o.machine h ns bs)
    go true = accepted made.session made.nodes made.buckets
    go false = refused

pub outside_stops : (l : InputLine) → admissible l ≡ false → (s : Session) (ns bs : List ℕ) → (line_effect s ns bs l).session.phase ≡ Stopped
unfolding outside header_effect open_then event_effect pools_kept stopped silent with_machine
outside_stops l out s ns bs = ap (λ (d : LineEffect). d.session.phase) (outside_effect l out s ns bs) ∙ go s.phase refl
  where
    header : (a : Bool) → (header_effect (if a then Absent s.header else Missing) None s ns bs).session.phase ≡ Stopped
    header true = opened_either (λ d. d.session.phase ≡ Stopped) _ s.header ns bs (event_effect None) (λ s' ns' bs'. refl) refl
    header false = refl

    go : (p : Phase) → s.phase ≡ p → (outside p s ns bs).session.phase ≡ Stopped
    go (Due due) e = header (optional due)
    go Events e = refl
    go Stopped e = e

-- ---- "After 10, or a refused opening, it prints nothing more."

pub stopped_prints_nothing : (s : Session) (ns bs : List ℕ) → s.phase ≡ Stopped → (ls : List InputLine) → lines_output s ns bs ls ≡ []
unfolding lines_output line_effect phase_effect end_effect phase_end silent pools_kept
stopped_prints_nothing s ns bs e [] = ap (λ (p : Phase). (phase_end p s ns bs).prints) e
stopped_prints_nothing s ns bs e (l ∷ ls) =
    ap (λ (p : Phase). (phase_effect p s ns bs l).prints ++ lines_output (phase_effect p s ns bs l).session (phase_effect p s ns bs l).nodes
    (phase_effect p s ns bs l).buckets ls) e
    ∙ stopped_prints_nothing s ns bs e ls

-- so a line outside the grammar is the last that prints
pub outside_last : (l : InputLine) → admissible l ≡ false → (s : Session) (ns bs : List ℕ) (ls : List InputLine)
    → lines_output s ns bs (l ∷ ls) ≡ (line_effect s ns bs l).prints
unfolding lines_output
outside_last l out s ns bs ls =
    let d = line_effect s ns bs l in
    ap (λ (w : List ℕ). d.prints ++ w) (stopped_prints_nothing d.session d.nodes d.buckets (outside_stops l out s ns bs) ls)
    ∙ append-nil d.prints
