-- From an opening on, a caller's words are such that a state has: an opening writes such words, and every call that is given such words leaves such
-- words. (A list and a show leave the state's words as they are: Unchanged.) So only a caller that changes them itself is refused for them. Assumes nothing.
use Rattle.std.specs.Prelude.{ℕ, zero, suc, ◌/◌, min, ◌≡◌, true, not, ◌&&◌, List, [], ◌∷◌, length, Ok, Err}
use Rattle.std.proofs.Common.{eq-eqb}
use Rattle.std.proofs.Math.Dec.{eqb}
use Rattle.spec.specs.declared.Call.{Call}
use Rattle.spec.specs.declared.Config.{Config}
use Rattle.spec.specs.Outputs.{Output}
use Rattle.spec.specs.declared.Progress.TheVariants.{At, End}
use Rattle.spec.specs.Machine.{Machine, state_chosen, with_state, with_chosen}
use Rattle.spec.specs.Words.{number, filled}
use Rattle.spec.specs.Sound.{sound}
use Rattle.spec.specs.Entries.{step}
use Rattle.spec.specs.Schedule.{Event, starts, steps, event, run}
use Rattle.spec.specs.Numbers.{refusal_number}
use Rattle.laws.specs.Tests.{choose}
use Rattle.turns.specs.Turn.{Turned, next_task, after_step, turn_to, turn}
use Rattle.schedule.specs.Encoding.{decoded}
use Rattle.state_words.specs.StateWords.{state_fits}
use Rattle.state_words.specs.RoundTrip.{Stored, words_fit}
use Rattle.state_words.specs.EntriesStore.{opening_stored, start_stored}
use Rattle.state_words.proofs.EntriesStore.{words_stored, step_stored}
use Rattle.turns.specs.Turns.{names, Turns, turns_of, turns_written}
use Rattle.c_calls.specs.Calls.{Called, machine_in, c_open, c_reply, c_start, c_step, c_turn}
use Rattle.c_calls.specs.Runs.{c_run, c_turns}

pub open_leaves_a_state : (g : Config) (w ns bs : List ℕ) → length w ≡ 113 → state_fits (c_open g w ns bs).state ≡ true
unfolding c_open
open_leaves_a_state g w ns bs long = rw (eq-eqb (length w) 113 long) (words_fit _ (opening_stored g ns bs))

-- ---- a turn leaves a state as the code has it: that of the task's step, or the one that was there, with another task chosen last

abbrev Left : Turned → Type 0
Left x = Stored x.machine.state

after_stored : (y : Machine) (k : ℕ) (o : Output) (z : Machine) → Stored y.state → Stored z.state → Left (after_step y k o z)
unfolding after_step with_chosen with_state state_chosen
after_stored y k (Ok (At line)) z h g = record { eight = g.eight; own_steps = g.own_steps }
after_stored y k (Ok (End a own full)) z h g = record { eight = g.eight; own_steps = g.own_steps }
after_stored y k (Err r) z h g =
    choose (λ (m : Machine). Stored m.state) (eqb (refusal_number r) 7) _ _ (λ p. record { eight = h.eight; own_steps = h.own_steps }) (λ p. h)

pub turn_stored : (y : Machine) → Stored y.state → Left (turn y)
unfolding turn turn_to
turn_stored y h =
    let l = next_task y in
    let r = step y (number l) in
    choose Left (not (sound y)) _ _ (λ p. h) (λ p.
    choose Left (filled l) _ _ (λ q. after_stored y (number l) r.out r.machine h (step_stored y (number l) h)) (λ q. h))

-- ---- and so do many events or turns

pub event_stored : (y : Machine) → Stored y.state → (e : Event) → Stored (event y e).machine.state
unfolding event
event_stored y h (starts k call tag) = start_stored y k h call tag
event_stored y h (steps k) = step_stored y k h

run_stored : (es : List Event) (y : Machine) → Stored y.state → Stored (run y es).machine.state
unfolding run
run_stored [] y h = h
run_stored (e ∷ es) y h = run_stored es (event y e).machine (event_stored y h e)

turns_stored : (n : ℕ) (y : Machine) → Stored y.state → Stored (turns_of n y).machine.state
unfolding turns_of
turns_stored zero y h = h
turns_stored (suc n) y h =
    let x = turn y in
    choose (λ (r : Turns). Stored r.machine.state) (names x.says) _ _ (λ p. turns_stored n x.machine (turn_stored y h)) (λ p. h)

-- ---- the calls

module _ (w ns bs out : List ℕ) (fits : state_fits w ≡ true) where
  abbrev y : Machine
  y = machine_in w ns bs

  abbrev LeftFit : Called → Type 0
  LeftFit x = state_fits x.state ≡ true

  pub start_leaves_a_state : (call : Call) (k tag : ℕ) → state_fits (c_start call w k tag ns bs out).state ≡ true
  unfolding c_start c_reply
  start_leaves_a_state call k tag =
      choose LeftFit (not (state_fits w && eqb (length out) 4)) _ _ (λ p. fits) (λ p. words_fit _ (start_stored y k (words_stored w) call tag))

  pub step_leaves_a_state : (k : ℕ) → state_fits (c_step w k ns bs out).state ≡ true
  unfolding c_step c_reply
  step_leaves_a_state k =
      choose LeftFit (not (state_fits w && eqb (length out) 4)) _ _ (λ p. fits) (λ p. words_fit _ (step_stored y k (words_stored w)))

  pub turn_leaves_a_state : state_fits (c_turn w ns bs out).state ≡ true
  unfolding c_turn
  turn_leaves_a_state =
      choose LeftFit (not (state_fits w && eqb (length out) 5)) _ _ (λ p. fits) (λ p. words_fit _ (turn_stored y (words_stored w)))

  pub run_leaves_a_state : (events : List ℕ) → state_fits (c_run w ns bs events out).state ≡ true
  unfolding c_run
  run_leaves_a_state events =
      choose LeftFit (not (state_fits w && sound y)) _ _ (λ p. fits) (λ p. words_fit _ (run_stored (decoded events out) y (words_stored w)))

  pub turns_leave_a_state : state_fits (c_turns w ns bs out).state ≡ true
  unfolding c_turns turns_written
  turns_leave_a_state =
      choose LeftFit (not (state_fits w && sound y)) _ _ (λ p. fits) (λ p. words_fit _ (turns_stored (min 255 (length out / 5)) y (words_stored w)))
