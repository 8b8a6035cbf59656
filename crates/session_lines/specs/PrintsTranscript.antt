-- Handled one after the other over lent pools of at least 64 nodes and 200 buckets, whatever they hold, an input's lines print
-- its transcript: `lines_print_transcript`. Assumes nothing.
use Rattle.std.specs.Prelude.{◌≡◌, ℕ, ◌≤◌, length, if◌then◌else◌, Option, Some, None}
use Rattle.std.proofs.Math.Path.{refl, ap}
use Rattle.std.proofs.Common.{sym, ◌∙◌, arith}
use mathlib.Core.List.{List, [], ◌∷◌, ◌++◌, append_assoc, append-nil}
use Rattle.std.proofs.Math.Bool.{Bool, true, false}
use borrow.Author.Tests.{eq-eqb, ne_eqb, eqb-true, eqb-false}
use Rattle.std.proofs.Math.Dec.{eqb}
use Rattle.spec.specs.declared.State.{State}
use Rattle.spec.specs.Machine.{Machine, zero_config, state_of}
use Rattle.spec.specs.Entries.{Opened, opening}
use Rattle.spec.specs.Schedule.{Event, starts, steps, event, run}
use Rattle.session.specs.declared.EventLine.{EventLine}
use Rattle.session.specs.declared.EventLine.TheVariants.{Start, Step}
use Rattle.session.specs.declared.Header.{Header}
use Rattle.session.specs.declared.HeaderLine.{HeaderLine}
use Rattle.session.specs.declared.HeaderLine.TheVariants.{Tasks}
use Rattle.session.specs.declared.HeaderStep.{HeaderStep}
use Rattle.session.specs.declared.HeaderStep.TheVariants.{Next, Complete, Absent, Missing}
use Rattle.session.specs.Grammar.{InputLine, parse_event_line}
use Rattle.session.specs.Header.{empty_header, optional, header_step, complete, incomplete, after_step, read_from, read_header}
use Rattle.session.specs.Print.{refusal_line, output_line}
use Rattle.session.specs.Transcript.{add_event, events, is_event, all_events, task_in, output_lines, end_lines, ran_lines, event_lines, pool_words}
use Rattle.session.specs.Transcript.{session_opening, opened_lines, header_lines, lines_transcript}
use Rattle.session_pools.specs.PoolParts.{node_extent, bucket_extent, node_part, bucket_part}
use Rattle.session_state.specs.declared.Phase.TheVariants.{Due, Events, Stopped}
use Rattle.session_state.specs.declared.Session.{Session}
use Rattle.session_state.specs.Handling.{session, new_session, LineEffect, pools_kept, stopped, silent, session_machine, with_machine, opened_then, open_then}
use Rattle.session_state.specs.Handling.{reply_effect, event_effect, listing_effect, header_effect, phase_effect, line_effect, phase_end, end_effect}
use Rattle.session_state.specs.Handling.{lines_output}
use Rattle.session_lines.specs.PoolLengths.{event_lengths}
use Rattle.session_lines.specs.Openings.{part_length, part_words, machine_back, Alike, opening_same, opening_lengths}

-- what a line prints, and then the lines after it
abbrev with_rest : LineEffect → List InputLine → List ℕ
with_rest d ls = d.prints ++ lines_output d.session d.nodes d.buckets ls

-- ---- a session that has stopped prints nothing more

module _ (h : Header) (m : State) (ns bs : List ℕ) where
  stopped_silent : (ls : List InputLine) → lines_output (session Stopped h m) ns bs ls ≡ []
  unfolding lines_output line_effect phase_effect pools_kept silent end_effect phase_end
  stopped_silent [] = refl
  stopped_silent (l ∷ ls) = stopped_silent ls

  refusal_last : (r : ℕ) (ls : List InputLine) → refusal_line r ++ lines_output (session Stopped h m) ns bs ls ≡ refusal_line r
  refusal_last r ls = ap (λ (l : List ℕ). refusal_line r ++ l) (stopped_silent ls) ∙ append-nil (refusal_line r)

-- ---- the events

-- the definition, one event at a time
module _ (y : Machine) (l : InputLine) (ls : List InputLine) where
  first_event : (e : Event) (x : Option EventLine) → parse_event_line l ≡ x → add_event x (events ls) ≡ e ∷ events ls → is_event x ≡ true
      → event_lines y (l ∷ ls) ≡ output_line (task_in e) (event y e).out ++ event_lines (event y e).machine ls
  unfolding event_lines ran_lines events all_events run output_lines
  first_event e x p q r =
      let z = (event y e).machine in
      let after = run z (events ls) in
      rw (p, q, r)
      (append_assoc (output_line (task_in e) (event y e).out) (output_lines (events ls) after.outs) (end_lines (all_events ls) after.machine))

  outside : parse_event_line l ≡ None → event_lines y (l ∷ ls) ≡ refusal_line 10
  unfolding event_lines ran_lines events all_events add_event is_event run output_lines end_lines
  outside p = rw p

-- lines over the lent pools print what the events print
abbrev EventsPrint : List InputLine → Header → Type 0
EventsPrint ls h =
    (m : State) (ns bs : List ℕ) → lines_output (session Events h m) ns bs ls ≡ event_lines (session_machine (session Events h m) ns bs) ls

module _ (h : Header) where
  -- one event over the lent pools
  event_goes : (m : State) (ns bs : List ℕ) (e : Event) (k : ℕ) (ls : List InputLine) → EventsPrint ls h
      → let s = session Events h m in
      let r = event (session_machine s ns bs) e in
      with_rest (reply_effect k r s ns bs) ls ≡ output_line k r.out ++ event_lines r.machine ls
  unfolding reply_effect with_machine
  event_goes m ns bs e k ls ih =
      let y = session_machine (session Events h m) ns bs in
      let r = event y e in
      let back = machine_back Events (output_line k r.out) r.machine h ns bs
      ((event_lengths y e).nodes ∙ part_length 34 64 h.nodes ns) ((event_lengths y e).buckets ∙ part_length 66 200 h.buckets bs) in
      ap (λ (l : List ℕ). output_line k r.out ++ l) (ih r.machine.state _ _ ∙ ap (λ (z : Machine). event_lines z ls) back)

  events_print : (ls : List InputLine) → EventsPrint ls h
  unfolding lines_output line_effect phase_effect end_effect phase_end event_effect listing_effect pools_kept stopped event event_lines ran_lines events
      all_events add_event is_event task_in run output_lines end_lines
  events_print [] m ns bs = refl
  events_print (l ∷ ls) m ns bs = go (λ m' ns' bs'. events_print ls m' ns' bs') (parse_event_line l) refl
    where
      y : Machine
      y = session_machine (session Events h m) ns bs

      after : Option EventLine → List ℕ
      after x = with_rest (event_effect x (session Events h m) ns bs) ls

      go : EventsPrint ls h → (x : Option EventLine) → parse_event_line l ≡ x
          → lines_output (session Events h m) ns bs (l ∷ ls) ≡ event_lines (session_machine (session Events h m) ns bs) (l ∷ ls)
      go ih (Some (Start k call tag)) q =
          ap after q ∙ event_goes m ns bs (starts k call tag) k ls ih ∙ sym (first_event y l ls (starts k call tag) (Some (Start k call tag)) q refl refl)
      go ih (Some (Step k)) q = ap after q ∙ event_goes m ns bs (steps k) k ls ih ∙ sym (first_event y l ls (steps k) (Some (Step k)) q refl refl)
      go ih None q = ap after q ∙ refusal_last h m ns bs 10 ls ∙ sym (outside y l ls q)

-- ---- the opening, and the events after it

-- what is printed of an effect prints the lines ls, where the opening was accepted and the effect is what is done next; and after a
-- refusal nothing more
record PrintsRest (h : Header) (ls : List InputLine) (next : Session → List ℕ → List ℕ → LineEffect) (printed : LineEffect → List ℕ) : Type 0 where
  accepted : (m : State) (ns bs : List ℕ) → printed (next (session Events h m) ns bs) ≡ lines_output (session Events h m) ns bs ls
  refused : (r : ℕ) (y : Machine) (ns bs : List ℕ) → printed (with_machine Stopped (refusal_line r) y h ns bs) ≡ refusal_line r

-- two openings that are alike, one of them over the session's part of lent pools
module _ (ns bs : List ℕ) (h : Header) (ls : List InputLine) (next : Session → List ℕ → List ℕ → LineEffect) (printed : LineEffect → List ℕ)
    (prints : PrintsRest h ls next printed) where
  opened_prints : (o o' : Opened) → Alike o o' → length o.machine.nodes ≡ node_extent h ns → length o.machine.buckets ≡ bucket_extent h bs
      → printed (opened_then o h ns bs next) ≡ opened_lines o' ls
  unfolding opened_then with_machine opened_lines
  opened_prints o o' alike en eb = go (eqb o.refusal 0) refl
    where
      go : (a : Bool) → eqb o.refusal 0 ≡ a → printed (opened_then o h ns bs next) ≡ opened_lines o' ls
      go true q =
          let z = eqb-true o.refusal 0 q in
          rw (q, eq-eqb _ _ (sym alike.refusal ∙ z))
          (prints.accepted o.machine.state _ _
          ∙ events_print h ls o.machine.state _ _
          ∙ ap (λ (y : Machine). event_lines y ls) (machine_back Events [] o.machine h ns bs en eb ∙ alike.machine z))
      go false q =
          let n = eqb-false o.refusal 0 q in
          rw (q, ne_eqb _ _ (λ e. n (alike.refusal ∙ e)))
          (prints.refused o.refusal o.machine ns bs ∙ ap refusal_line alike.refusal)

  open_prints : 2176 ≤ length ns → 13200 ≤ length bs → printed (open_then h ns bs next) ≡ opened_lines (session_opening h) ls
  unfolding open_then session_opening
  open_prints nodes_fit buckets_fit =
      let g = h.config in
      let lent = opening g (node_part h ns) (bucket_part h bs) in
      let whole = opening g (pool_words 34 64 h.nodes) (pool_words 66 200 h.buckets) in
      let long = opening_lengths g (node_part h ns) (bucket_part h bs) in
      let same_nodes = part_words 34 64 h.nodes ns nodes_fit (λ l. omega arith) in
      let same-buckets = part_words 66 200 h.buckets bs buckets_fit (λ l. omega arith) in
      opened_prints lent whole (opening_same g _ _ _ _ same_nodes same-buckets)
      (long.nodes ∙ part_length 34 64 h.nodes ns) (long.buckets ∙ part_length 66 200 h.buckets bs)

module _ (h : Header) (ls : List InputLine) where
  -- nothing is done next, and the lines ls follow
  lines_follow : PrintsRest h ls silent (λ d. with_rest d ls)
  unfolding silent pools_kept with_machine
  lines_follow = record { accepted = λ m ns bs. refl; refused = λ r y ns bs. refusal_last h y.state _ _ r ls }

  -- a line is read as an event's, and the lines ls follow it
  line_before : (l : InputLine) → PrintsRest h (l ∷ ls) (event_effect (parse_event_line l)) (λ d. with_rest d ls)
  unfolding lines_output line_effect phase_effect with_machine
  line_before l = record { accepted = λ m ns bs. refl; refused = λ r y ns bs. refusal_last h y.state _ _ r ls }

-- the input ends
lines_end : (h : Header) → PrintsRest h [] listing_effect (λ d. d.prints)
unfolding lines_output end_effect phase_end with_machine
lines_end h = record { accepted = λ m ns bs. refl; refused = λ r y ns bs. refl }

-- ---- the header, whichever line is due: what its next line says decides

module _ (ns bs : List ℕ) (nodes_fit : 2176 ≤ length ns) (buckets_fit : 13200 ≤ length bs) where
  header_prints : (ls : List InputLine) (due : HeaderLine) (h : Header) (m : State)
      → lines_output (session (Due due) h m) ns bs ls ≡ header_lines (read_from ls due h)
  unfolding lines_output line_effect phase_effect header_effect pools_kept stopped end_effect phase_end read_from after_step header_lines
  header_prints [] due h m = go (optional due)
    where
      ended : Bool → LineEffect
      ended a = if a then open_then h ns bs listing_effect else pools_kept (stopped (session (Due due) h m) 10) ns bs

      go : (a : Bool) → (ended a).prints ≡ header_lines (if a then complete h [] else incomplete)
      go true = open_prints ns bs h [] listing_effect (λ d. d.prints) (lines_end h) nodes_fit buckets_fit
      go false = refl
  header_prints (l ∷ ls) due h m = go (λ due' h' m'. header_prints ls due' h' m') (header_step due h l)
    where
      x : Option EventLine
      x = parse_event_line l

      go : ((due' : HeaderLine) (h' : Header) (m' : State) → lines_output (session (Due due') h' m') ns bs ls ≡ header_lines (read_from ls due' h'))
          → (a : HeaderStep)
          → with_rest (header_effect a x (session (Due due) h m) ns bs) ls ≡ header_lines (after_step a (λ due' h'. read_from ls due' h') l ls)
      go ih (Next due' h') = ih due' h' m
      go ih (Complete h') = open_prints ns bs h' ls silent _ (lines_follow h' ls) nodes_fit buckets_fit
      go ih (Absent h') = open_prints ns bs h' (l ∷ ls) (event_effect x) _ (line_before h' ls l) nodes_fit buckets_fit
      go ih Missing = refusal_last h m ns bs 10 ls

  pub lines_print_transcript : (ls : List InputLine) → lines_output new_session ns bs ls ≡ lines_transcript ls
  unfolding new_session lines_transcript read_header
  lines_print_transcript ls = header_prints ls Tasks empty_header (state_of zero_config 0 0)
