-- A line that is too long or not closed refuses the input with the number with which an end there refuses it. Assumes nothing.
use Rattle.std.specs.Prelude.{ℕ, ◌≡◌, List, Bool, if◌then◌else◌, None, Option}
use Rattle.std.proofs.Math.Path.{refl, ap}
use Rattle.std.proofs.Common.{◌∙◌, arith}
use Rattle.std.proofs.Math.Bool.{true, false}
use borrow.Author.Tests.{eqb-false}
use Rattle.std.proofs.Math.Dec.{eqb}
use Rattle.spec.specs.Entries.{opening}
use Rattle.session.specs.declared.EventLine.{EventLine}
use Rattle.session.specs.declared.Header.{Header}
use Rattle.session.specs.declared.HeaderLine.{HeaderLine}
use Rattle.session.specs.declared.HeaderStep.{HeaderStep}
use Rattle.session.specs.declared.HeaderStep.TheVariants.{Absent, Missing}
use Rattle.session.specs.Grammar.{InputLine, admissible, parse_header_line}
use Rattle.session.specs.Header.{optional}
use Rattle.session.specs.LineLaws.{outside_event}
use Rattle.session.proofs.LineLaws.{outside_step}
use Rattle.session_pools.specs.PoolParts.{node_part, bucket_part}
use Rattle.session_state.specs.declared.Phase.{Phase}
use Rattle.session_state.specs.declared.Phase.TheVariants.{Due, Events, Stopped}
use Rattle.session_state.specs.Handling.{reads_events, pools_kept, stopped, event_effect, phase_effect, line_effect, with_machine}
use Rattle.game.specs.Text.{parse_game_line}
use Rattle.std.specs.declared.option.Option.{Option}
use Rattle.std.specs.declared.option.Option.TheVariants.{Some, None}
use Rattle.game_text.specs.Reading.{Place, refused_with, opened, after_event, take_event, take_unasked, take_asked, take_turn}
use Rattle.game_text.specs.Reading.{if_opened, header_taken, phase_taken, on_line, judged, phase_refusal, end_refusal}

outside_game : (l : InputLine) → admissible l ≡ false → parse_game_line l ≡ None
unfolding parse_game_line parse_header_line
outside_game l e = rw e

-- ---- what such a line does where events are read

abbrev outside_place : Place → Place
outside_place p = after_event (event_effect None p.standing.session p.nodes p.buckets)

outside_unasked : (p : Place) (l : InputLine) → p.standing.session.phase ≡ Events → admissible l ≡ false → take_asked None p l ≡ outside_place p
unfolding take_asked take_unasked take_event line_effect phase_effect
outside_unasked p l ph e =
    let s = p.standing.session in
    rw (outside_game l e)
    (ap (λ (q : Phase). after_event (phase_effect q s p.nodes p.buckets l)) ph
    ∙ ap (λ (x : Option EventLine). after_event (event_effect x s p.nodes p.buckets)) (outside_event l e))

turn_refuses : (p : Place) (l : InputLine) → p.standing.session.phase ≡ Events → admissible l ≡ false → (take_turn p l).standing.refused ≡ 10
unfolding take_turn take_asked after_event event_effect pools_kept stopped reads_events refused_with
turn_refuses p l ph e = go p.standing.asked
  where
    go : (a : Option ℕ) → (take_asked a p l).standing.refused ≡ 10
    go None = ap (λ (q : Place). q.standing.refused) (outside_unasked p l ph e)
    go (Some n) = refl

-- ---- where a header line is due

opened_reads : (h : Header) (ns bs : List ℕ) → (opened h ns bs).standing.session.phase ≡ Events
unfolding opened with_machine
opened_reads h ns bs = refl

-- what the opening gives, if it is refused; else what the line gives
if_opened_refuses : (p : Place) (l : InputLine) → p.standing.session.phase ≡ Events → admissible l ≡ false
    → (if_opened p l).standing.refused ≡ judged p.standing.refused
unfolding if_opened judged
if_opened_refuses p l ph e = go (eqb p.standing.refused 0)
  where
    go : (b : Bool) → (if b then take_turn p l else p).standing.refused ≡ (if b then 10 else p.standing.refused)
    go true = turn_refuses p l ph e
    go false = refl

module _ (p : Place) where
  abbrev absent : Bool → HeaderStep
  absent b = if b then Absent p.standing.session.header else Missing

  header_refuses : (l : InputLine) → admissible l ≡ false → (due : HeaderLine)
      → (header_taken (absent (optional due)) p l).standing.refused ≡ phase_refusal (Due due) p
  unfolding header_taken refused_with opened phase_refusal
  header_refuses l e due = go (optional due)
    where
      h : Header
      h = p.standing.session.header

      go : (b : Bool) → (header_taken (absent b) p l).standing.refused
          ≡ (if b then judged (opening h.config (node_part h p.nodes) (bucket_part h p.buckets)).refusal else 10)
      go true = if_opened_refuses (opened h p.nodes p.buckets) l (opened_reads h p.nodes p.buckets) e
      go false = refl

  -- ---- wherever the input stands

  phase_refuses : (l : InputLine) → admissible l ≡ false → (q : Phase) → p.standing.session.phase ≡ q
      → (phase_taken q p l).standing.refused ≡ phase_refusal q p
  unfolding phase_taken phase_refusal refused_with
  phase_refuses l e (Due due) ph =
      ap (λ (a : HeaderStep). (header_taken a p l).standing.refused) (outside_step due p.standing.session.header l e) ∙ header_refuses l e due
  phase_refuses l e Events ph = turn_refuses p l ph e
  phase_refuses l e Stopped ph = refl

  pub outside_refuses : (l : InputLine) → admissible l ≡ false → (on_line p l).standing.refused ≡ end_refusal p
  unfolding on_line end_refusal
  outside_refuses l e = go (eqb p.standing.refused 0)
    where
      q : Phase
      q = p.standing.session.phase

      go : (b : Bool) → (if b then phase_taken q p l else p).standing.refused ≡ (if b then phase_refusal q p else p.standing.refused)
      go true = phase_refuses l e q refl
      go false = refl

  -- which is not 0
  pub end_refuses : ¬ (end_refusal p ≡ 0)
  unfolding end_refusal phase_refusal judged
  end_refuses = or_else p.standing.refused (phase_refusal p.standing.session.phase p) (at p.standing.session.phase)
    where
      or_else : (k n : ℕ) → ¬ (n ≡ 0) → ¬ ((if eqb k 0 then n else k) ≡ 0)
      or_else k n r = go (eqb k 0) refl
        where
          go : (b : Bool) → eqb k 0 ≡ b → ¬ ((if b then n else k) ≡ 0)
          go true q = r
          go false q = eqb-false k 0 q

      ten : ¬ (◌≡◌ {A = ℕ} 10 0)
      ten z = omega arith

      due_at : (b : Bool) (why : ℕ) → ¬ ((if b then judged why else 10) ≡ 0)
      due_at true why = or_else why 10 ten
      due_at false why = ten

      at : (q : Phase) → ¬ (phase_refusal q p ≡ 0)
      at (Due due) =
          let h = p.standing.session.header in
          due_at (optional due) (opening h.config (node_part h p.nodes) (bucket_part h p.buckets)).refusal
      at Events = ten
      at Stopped = ten
