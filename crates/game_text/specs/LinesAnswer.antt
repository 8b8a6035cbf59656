-- Taken one after the other over lent pools of at least 64 nodes and 200 buckets, whatever they hold, the lines of an input give its answer:
-- `lines_give_answer`. Assumes nothing.
use Prim.Native.Nat.{ℕ, ◌≤◌}
use Rattle.std.specs.Prelude.{◌≡◌, Bool, ◌||◌, eqb, length, if◌then◌else◌, Option, ℕ, Some, None}
use Rattle.std.proofs.Math.Path.{refl, ap}
use Rattle.std.proofs.Common.{sym, ◌∙◌, arith, eq-eqb, ne_eqb, eqb-true}
use mathlib.Core.List.{List, [], ◌∷◌}
use Rattle.std.proofs.Math.Bool.{true, false, not}
use Rattle.std.proofs.lemmas.Bool.{eqb-false}
use Rattle.spec.specs.declared.State.{State}
use Rattle.spec.specs.Machine.{Machine, zero_config, state_of}
use Rattle.spec.specs.Entries.{Opened, opening}
use Rattle.spec.specs.Schedule.{Event, starts, steps, event, run}
use Rattle.session.specs.declared.EventLine.{EventLine}
use Rattle.session.specs.declared.EventLine.TheVariants.{Start, Step}
use Rattle.session.specs.declared.Header.{Header}
use Rattle.session.specs.declared.HeaderLine.{HeaderLine}
use Rattle.session.specs.declared.HeaderLine.TheVariants.{Tasks}
use Rattle.session.specs.declared.HeaderStep.{HeaderStep}
use Rattle.session.specs.declared.HeaderStep.TheVariants.{Next, Complete, Absent, Missing}
use Rattle.session.specs.Grammar.{InputLine, parse_event_line}
use Rattle.session.specs.Header.{empty_header, optional, header_step, complete, incomplete, after_step, read_from, read_header}
use Rattle.session.specs.Print.{refusal_line, output_line}
use Rattle.session.specs.Transcript.{session_opening}
use Rattle.session_pools.specs.PoolParts.{node_part, bucket_part}
use Rattle.session_state.specs.declared.Phase.TheVariants.{Due, Events}
use Rattle.session_state.specs.Handling.{session, new_session, reads_events, pools_kept, stopped, session_machine, with_machine, reply_effect, event_effect}
use Rattle.session_state.specs.Handling.{phase_effect, line_effect}
use Rattle.session_lines.specs.PoolLengths.{event_lengths}
use Rattle.session_lines.specs.Openings.{part_length, part_words, machine_back, Alike, opening_same, opening_lengths}
use Rattle.game.specs.Text.{parse_game_line, asks, outside, first_event, event_then, game_then, line_then, asked, game_line, opened_line}
use Rattle.game.specs.Text.{header_line, lines_answer}
use Rattle.std.specs.declared.option.Option.TheVariants.{Some, None}
use Rattle.game_text.specs.Reading.{standing, new_standing, refused_with, Place, place, refusing, opened, after_event, take_event, take_unasked}
use Rattle.game_text.specs.Reading.{take_asked, take_turn, if_opened, header_taken, phase_taken, on_line, asked_at_end, judged}
use Rattle.game_text.specs.Reading.{phase_refusal, end_refusal, end_line, ends_as}

-- ---- the lines of an input, and its end

unfoldable pub answered : Place → List InputLine → List ℕ
answered p [] = (ends_as (asked_at_end true p.standing) p).prints
answered p (l ∷ ls) = answered (on_line p l) ls

-- a refusal stays
module _ (p : Place) (r : p.standing.refused ≡ 0 → ⊥) where
  stays : (l : InputLine) → on_line p l ≡ p
  unfolding on_line
  stays l = rw (ne_eqb _ _ r)

  pub refused_answer : (ls : List InputLine) → answered p ls ≡ refusal_line p.standing.refused
  unfolding answered asked_at_end ends_as end_line end_refusal
  refused_answer [] =
      ap (λ (b : Bool). end_line (if not true || not b then None else p.standing.asked) p) (ne_eqb p.standing.refused 0 r)
      ∙ rw (ne_eqb p.standing.refused 0 r)
  refused_answer (l ∷ ls) = ap (λ (q : Place). answered q ls) (stays l) ∙ refused_answer ls

refusing_answer : (p : Place) (ls : List InputLine) → answered (refusing 10 p) ls ≡ refusal_line 10
unfolding refused_with
refusing_answer p ls = refused_answer (refusing 10 p) (λ z. omega arith) ls

-- ---- the lines after the header: the session reads events

abbrev reads : Header → State → List ℕ → List ℕ → Place
reads h m ns bs = place (standing (session Events h m) 0 None) ns bs

abbrev machine : Header → State → List ℕ → List ℕ → Machine
machine h m ns bs = session_machine (session Events h m) ns bs

-- a game's line is read, and the lines ls come after it
game_answered : (n : ℕ) (h : Header) (m : State) (ns bs : List ℕ) (ls : List InputLine)
    → answered (place (standing (session Events h m) 0 (Some n)) ns bs) ls ≡ game_line (machine h m ns bs) (game_then n ls)
unfolding answered asked_at_end ends_as end_line game_line game_then run on_line phase_taken take_turn take_asked
game_answered n h m ns bs [] = refl
game_answered n h m ns bs (l ∷ ls) = refusing_answer (place (standing (session Events h m) 0 (Some n)) ns bs) ls

-- one event, and what is asked after it
event_first : (y : Machine) (e : Event) (later : _) → game_line (event y e).machine later ≡ game_line y (first_event e later)
unfolding game_line first_event run
event_first y e (asks es n) = refl
event_first y e outside = refl

-- what is said of lines after the header
abbrev Answers : List InputLine → Header → Type 0
Answers ls h = (m : State) (ns bs : List ℕ) → answered (reads h m ns bs) ls ≡ game_line (machine h m ns bs) (asked ls)

module _ (h : Header) (m : State) (ns bs : List ℕ) where
  -- an event over the lent pools
  event_answered : (e : Event) (k : ℕ) (ls : List InputLine) → Answers ls h
      → let s = session Events h m in
      answered (after_event (reply_effect k (event (machine h m ns bs) e) s ns bs)) ls ≡ game_line (machine h m ns bs) (first_event e (asked ls))
  unfolding after_event reply_effect with_machine reads_events
  event_answered e k ls ih =
      let y = machine h m ns bs in
      let r = event y e in
      let back = machine_back Events (output_line k r.out) r.machine h ns bs
      ((event_lengths y e).nodes ∙ part_length 34 64 h.nodes ns) ((event_lengths y e).buckets ∙ part_length 66 200 h.buckets bs) in
      ih r.machine.state _ _ ∙ ap (λ (z : Machine). game_line z (asked ls)) back ∙ event_first y e (asked ls)

  -- a line outside the grammar
  outside_answered : (ls : List InputLine) → answered (after_event (event_effect None (session Events h m) ns bs)) ls ≡ refusal_line 10
  unfolding after_event event_effect pools_kept stopped reads_events
  outside_answered ls = refused_answer _ (λ z. omega arith) ls

  -- a line of no game
  unasked_answered : (ls : List InputLine) → Answers ls h → (x : Option EventLine)
      → answered (after_event (event_effect x (session Events h m) ns bs)) ls ≡ game_line (machine h m ns bs) (event_then x (asked ls))
  unfolding event_effect event_then event game_line
  unasked_answered ls ih (Some (Start k call tag)) = event_answered (starts k call tag) k ls ih
  unasked_answered ls ih (Some (Step k)) = event_answered (steps k) k ls ih
  unasked_answered ls ih None = outside_answered ls

  turn_answered : (l : InputLine) (ls : List InputLine) → Answers ls h
      → answered (take_turn (reads h m ns bs) l) ls ≡ game_line (machine h m ns bs) (asked (l ∷ ls))
  unfolding take_turn take_asked take_unasked take_event line_effect phase_effect asked line_then
  turn_answered l ls ih = go (parse_game_line l)
    where
      go : (d : Option ℕ) → answered (take_unasked d (reads h m ns bs) l) ls ≡ game_line (machine h m ns bs) (line_then d l ls (asked ls))
      go (Some n) = game_answered n h m ns bs ls
      go None = unasked_answered ls ih (parse_event_line l)

events_answered : (h : Header) (ls : List InputLine) → Answers ls h
unfolding answered asked_at_end ends_as end_line end_refusal phase_refusal on_line phase_taken game_line asked
events_answered h [] m ns bs = refl
events_answered h (l ∷ ls) m ns bs = turn_answered h m ns bs l ls (events_answered h ls)

-- ---- the opening, and the lines after it

module _ (ns bs : List ℕ) (nodes_fit : 2176 ≤ length ns) (buckets_fit : 13200 ≤ length bs) where
  module _ (h : Header) where
    abbrev lent : Opened
    lent = opening h.config (node_part h ns) (bucket_part h bs)

    alike : Alike lent (session_opening h)
    unfolding session_opening
    alike =
        opening_same h.config _ _ _ _ (part_words 34 64 h.nodes ns nodes_fit (λ l. omega arith))
        (part_words 66 200 h.buckets bs buckets_fit (λ l. omega arith))

    back : session_machine (with_machine Events [] lent.machine h ns bs).session (with_machine Events [] lent.machine h ns bs).nodes
        (with_machine Events [] lent.machine h ns bs).buckets ≡ lent.machine
    back =
        let long = opening_lengths h.config (node_part h ns) (bucket_part h bs) in
        machine_back Events [] lent.machine h ns bs (long.nodes ∙ part_length 34 64 h.nodes ns) (long.buckets ∙ part_length 66 200 h.buckets bs)

    opened_answered : (ls : List InputLine) → answered (opened h ns bs) ls ≡ opened_line (session_opening h) ls
    unfolding opened with_machine opened_line
    opened_answered ls = go (eqb lent.refusal 0) refl
      where
        at : ℕ → Place
        at r = place (standing (opened h ns bs).standing.session r None) (opened h ns bs).nodes (opened h ns bs).buckets

        go : (a : Bool) → eqb lent.refusal 0 ≡ a → answered (at lent.refusal) ls ≡ opened_line (session_opening h) ls
        go true q =
            let z = eqb-true lent.refusal 0 q in
            ap (λ (r : ℕ). answered (at r) ls) z
            ∙ events_answered h ls lent.machine.state _ _
            ∙ ap (λ (y : Machine). game_line y (asked ls)) (back ∙ alike.machine z)
            ∙ rw (eq-eqb _ _ (sym alike.refusal ∙ z))
        go false q =
            let n = eqb-false lent.refusal 0 q in
            refused_answer (at lent.refusal) n ls ∙ ap refusal_line alike.refusal ∙ rw (ne_eqb _ _ (λ e. n (alike.refusal ∙ e)))

    -- a line stands in the place of a header line that may be left out
    absent_answered : (l : InputLine) (ls : List InputLine)
        → answered (if_opened (opened h ns bs) l) ls ≡ opened_line (session_opening h) (l ∷ ls)
    unfolding answered on_line phase_taken if_opened opened with_machine
    absent_answered l ls = opened_answered (l ∷ ls)

    -- the input ends where such a line is due
    absent_ends : refusal_line (judged lent.refusal) ≡ opened_line (session_opening h) []
    unfolding opened_line game_line asked judged
    absent_ends = ap (λ (why : ℕ). refusal_line (judged why)) alike.refusal ∙ go (eqb (session_opening h).refusal 0)
      where
        go : (b : Bool) → refusal_line (if b then 10 else (session_opening h).refusal)
            ≡ (if b then game_line (session_opening h).machine (asked []) else refusal_line (session_opening h).refusal)
        go true = refl
        go false = refl

  -- ---- the header, whichever line is due: what its next line says decides

  abbrev due_at : HeaderLine → Header → State → Place
  due_at due h m = place (standing (session (Due due) h m) 0 None) ns bs

  header_answered : (ls : List InputLine) (due : HeaderLine) (h : Header) (m : State) → answered (due_at due h m) ls ≡ header_line (read_from ls due h)
  unfolding answered asked_at_end ends_as end_line end_refusal phase_refusal on_line phase_taken header_taken read_from after_step header_line
  header_answered [] due h m = go (optional due)
    where
      go : (b : Bool) → refusal_line (if b then judged (lent h).refusal else 10) ≡ header_line (if b then complete h [] else incomplete)
      go true = absent_ends h
      go false = refl
  header_answered (l ∷ ls) due h m = go (λ due' h' m'. header_answered ls due' h' m') (header_step due h l)
    where
      go : ((due' : HeaderLine) (h' : Header) (m' : State) → answered (due_at due' h' m') ls ≡ header_line (read_from ls due' h')) → (a : HeaderStep)
          → answered (header_taken a (due_at due h m) l) ls ≡ header_line (after_step a (λ due' h'. read_from ls due' h') l ls)
      go ih (Next due' h') = ih due' h' m
      go ih (Complete h') = opened_answered h' ls
      go ih (Absent h') = absent_answered h' l ls
      go ih Missing = refusing_answer (due_at due h m) ls

  pub lines_give_answer : (ls : List InputLine) → answered (place new_standing ns bs) ls ≡ lines_answer ls
  unfolding new_standing new_session lines_answer read_header
  lines_give_answer ls = header_answered ls Tasks empty_header (state_of zero_config 0 0)
