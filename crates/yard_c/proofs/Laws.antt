-- Laws of the calls for C: the numbers are small, and what an entry gave put together as the call's definition has it. Assumes nothing.
use Rattle.std.specs.Prelude.{Ok, Err}
use Prim.Native.Nat.{ℕ, ◌+◌, ◌*◌, ◌/◌, ◌≤◌, ◌<◌, min}
use mathlib.Core.Path.{◌≡◌, refl, sym, ap, subst, ◌∙◌}
use mathlib.Core.Bool.{true, false, ◌&&◌}
use mathlib.Core.List.{List, [], ◌∷◌}
use native.Mathlib.Omega.{arith}
use borrow.Author.Tests.{eq-eqb, ne_eqb, ltb-true}
use lib.Dec.{eqb, ltb}
use lib.ListN.{length, set}
use Rattle.spec.specs.declared.Refusal.TheVariants.{Spoilt}
use Rattle.spec.specs.declared.Call.{Call}
use Rattle.spec.specs.declared.Config.{Config}
use Rattle.spec.specs.declared.State.{State}
use Rattle.spec.specs.Outputs.{Output, Listing}
use Rattle.spec.specs.declared.Progress.TheVariants.{At, End}
use Rattle.spec.specs.Machine.{Machine, machine_of, state_chosen}
use Rattle.spec.specs.Sound.{bucket_count, sound}
use Rattle.spec.specs.Lists.{concat_map}
use Rattle.spec.specs.Numbers.{output_words}
use Rattle.spec.specs.Words.{tags, overwrite}
use Rattle.spec.specs.Schedule.{run}
use Rattle.spec.specs.Entries.{opening, Reply, start, step, list, show}
use Rattle.laws.specs.Tests.{and2, choose}
use Rattle.laws.specs.Soundness.{sound_facts}
use Rattle.laws.specs.RefusalNumbers.{from_1_to_14}
use Rattle.turns.specs.declared.Turn.{Turn}
use Rattle.turns.specs.declared.Turn.TheVariants.{Idle, Of, Refused}
use Rattle.turns.specs.Turn.{gives, turn}
use Rattle.corollaries.specs.Tables.{StartRefused, is_8, is_4, is_5, is_14, start_refused, StepRefused, is_6, is_8_step, is_7, step_refused}
use Rattle.line_moves.specs.declared.Moved.{Moved}
use Rattle.lines.specs.Reply.{settled, moved_reply}
use Rattle.schedule_events.specs.Events.{listing_number, events_of}
use Rattle.schedule.specs.Encoding.{decoded, room_for}
use Rattle.state_words.specs.StateWords.{state_words, state_of_words, state_fits}
use Rattle.state_words.proofs.RoundTrip.{words_again}
use Rattle.yard_answers.proofs.Laws.{over_five}
use Rattle.yard_answers.specs.Answers.{open_number, out_number, out_left, turn_number, turn_left}
use Rattle.yard_answers.specs.CallLaws.{Ready, ready_test, one_word}
use Rattle.turns.specs.Turns.{written, turns_written}
use Rattle.c_calls.specs.Calls.{called, c_reply, machine_in}
use Rattle.c_calls.specs.Calls.{c_open, c_start, c_step, c_turn, c_list, c_show}
use Rattle.c_calls.specs.Runs.{c_run, c_turns}

-- ---- refusals have small numbers

small_out : (o : Output) → out_number o ≤ 511
unfolding out_number
small_out (Ok (At line)) = omega arith
small_out (Ok (End a own full)) = omega arith
small_out (Err r) = let s = from_1_to_14 r in omega arith

pub start_small : (y : Machine) (k : ℕ) (call : Call) (tag : ℕ) → out_number (start y k call tag).out ≤ 511
start_small y k call tag = small_out (start y k call tag).out

pub step_small : (y : Machine) (k : ℕ) → out_number (step y k).out ≤ 511
step_small y k = small_out (step y k).out

-- ---- the calls

module _ (g : Config) (w ns bs : List ℕ) where
  pub not_opened : ¬ (length w ≡ 113) → called 264 w ns bs [] ≡ c_open g w ns bs
  unfolding c_open
  not_opened d = rw (ne_eqb (length w) 113 d)

  pub opened : length w ≡ 113 → (why : ℕ) (s : State) (ns' bs' : List ℕ) → why ≡ (opening g ns bs).refusal → machine_of s ns' bs' ≡ (opening g ns bs).machine
      → (w' : List ℕ) → w' ≡ state_words s → (r : ℕ) → r ≡ open_number why → called r w' ns' bs' [] ≡ c_open g w ns bs
  unfolding c_open
  opened long why s ns' bs' whys is w' words r number =
      rw (eq-eqb (length w) 113 long, ← whys, ← is, words, number)

-- what a start or a step gave, by the machine that the words are
pub moved_called : (w out ns bs : List ℕ) (k : ℕ) (m : Moved) (s : State) → s ≡ state_of_words w → (x : State → Reply) → moved_reply s k m ns bs ≡ x s
    → (r : ℕ) → r ≡ out_number m.out → (w' : List ℕ) → w' ≡ state_words (settled (state_of_words w) k m)
    → (out' : List ℕ) → out' ≡ out_left m.out out → called r w' ns bs out' ≡ c_reply (x (state_of_words w)) out
unfolding c_reply
moved_called w out ns bs k m s is x gave r number w' words out' answer =
    let q : moved_reply (state_of_words w) k m ns bs ≡ x (state_of_words w) = subst (λ (z : State). moved_reply z k m ns bs ≡ x z) is gave in
    rw (number, words, answer) (ap (λ (y : Reply). c_reply y out) q)

module _ (w out ns bs : List ℕ) where
  abbrev y : Machine
  y = machine_in w ns bs

  pub start_spoilt : (call : Call) (k tag : ℕ) → (state_fits w && eqb (length out) 4) ≡ false → called 264 w ns bs out ≡ c_start call w k tag ns bs out
  unfolding c_start
  start_spoilt call k tag h = rw h

  pub start_called : (call : Call) (k tag : ℕ) → Ready state_fits w out 4 → c_reply (start y k call tag) out ≡ c_start call w k tag ns bs out
  unfolding c_start
  start_called call k tag h = rw (ready_test h)

  pub step_spoilt : (k : ℕ) → (state_fits w && eqb (length out) 4) ≡ false → called 264 w ns bs out ≡ c_step w k ns bs out
  unfolding c_step
  step_spoilt k h = rw h

  pub step_called : (k : ℕ) → Ready state_fits w out 4 → c_reply (step y k) out ≡ c_step w k ns bs out
  unfolding c_step
  step_called k h = rw (ready_test h)

  pub turn_spoilt : (state_fits w && eqb (length out) 5) ≡ false → called 264 w ns bs out ≡ c_turn w ns bs out
  unfolding c_turn
  turn_spoilt h = rw h

  turn_called : Ready state_fits w out 5 → (x : Turn) (s : State) (ns' bs' : List ℕ) → record { says = x; machine = machine_of s ns' bs' } ≡ turn y
      → (r : ℕ) → r ≡ turn_number x → (w' : List ℕ) → w' ≡ state_words s → (out' : List ℕ) → out' ≡ turn_left x out
      → called r w' ns' bs' out' ≡ c_turn w ns bs out
  unfolding c_turn
  turn_called h x s ns' bs' gave r number w' words out' answer = rw (ready_test h, ← gave, number, words, answer)

  -- by what the turn says on the state s that the words are: nothing runs, or memory is spoilt, or a task is named
  module _ (h : Ready state_fits w out 5) (s : State) (is : s ≡ state_of_words w) where
    turn_keeps : (ns' bs' : List ℕ) (x : Turn) → gives x (machine_of s ns' bs') ≡ turn (machine_of s ns bs)
        → (out' : List ℕ) → out' ≡ turn_left x out → called (turn_number x) w ns' bs' out' ≡ c_turn w ns bs out
    turn_keeps ns' bs' x gave out' answer =
        let words = sym (words_again w h.is_state) ∙ ap state_words (sym is) in
        turn_called h x s ns' bs' (gave ∙ ap (λ (z : State). turn (machine_of z ns bs)) is) (turn_number x) refl w words out' answer

    pub turn_idle : gives Idle (machine_of s ns bs) ≡ turn (machine_of s ns bs) → called 0 w ns bs out ≡ c_turn w ns bs out
    unfolding turn_number turn_left
    turn_idle gave = turn_keeps ns bs Idle gave out refl

    pub turn_eight : (ns' bs' : List ℕ) → gives (Refused Spoilt) (machine_of s ns' bs') ≡ turn (machine_of s ns bs) → called 264 w ns' bs' out ≡ c_turn w ns bs out
    unfolding turn_number turn_left
    turn_eight ns' bs' gave = turn_keeps ns' bs' (Refused Spoilt) gave out refl

    pub turn_unused : (ns' bs' : List ℕ) (k : ℕ) (o : Output) → gives (Of k o) (machine_of s ns' bs') ≡ turn (machine_of s ns bs)
        → (out' : List ℕ) → out' ≡ overwrite out 0 (k ∷ output_words o) → called 1 w ns' bs' out' ≡ c_turn w ns bs out
    unfolding turn_number turn_left
    turn_unused ns' bs' k o gave out' answer = turn_keeps ns' bs' (Of k o) gave out' (answer ∙ over_five out k o h.room)

    pub turn_used : (ns' bs' : List ℕ) (k : ℕ) (m : Moved)
        → gives (Of k m.out) (machine_of (state_chosen k (settled s k m)) ns' bs') ≡ turn (machine_of s ns bs)
        → (w' : List ℕ) → w' ≡ state_words (state_chosen k (settled (state_of_words w) k m))
        → (out' : List ℕ) → out' ≡ overwrite out 0 (k ∷ output_words m.out) → called 1 w' ns' bs' out' ≡ c_turn w ns bs out
    unfolding turn_number turn_left
    turn_used ns' bs' k m gave w' words out' answer =
        let Gave : State → Type 0 = λ z. gives (Of k m.out) (machine_of (state_chosen k (settled z k m)) ns' bs') ≡ turn (machine_of z ns bs) in
        turn_called h (Of k m.out) (state_chosen k (settled (state_of_words w) k m)) ns' bs' (subst Gave is gave) 1 refl w' words out'
        (answer ∙ over_five out k m.out h.room)

  pub list_spoilt : state_fits w ≡ false → called 264 w ns bs out ≡ c_list w ns bs out
  unfolding c_list
  list_spoilt h = rw h

  pub list_called : state_fits w ≡ true → (l : Listing) → l ≡ (list y out).says → (out' : List ℕ) → out' ≡ (list y out).words
      → (r : ℕ) → r ≡ listing_number l → called r w ns bs out' ≡ c_list w ns bs out
  unfolding c_list
  list_called h l says out' words r number = rw (h, number, says, words)

  -- ---- many events, many turns

  pub run_spoilt : (events : List ℕ) → state_fits w ≡ false → called 264 w ns bs out ≡ c_run w ns bs events out
  unfolding c_run
  run_spoilt events h = rw h

  pub run_unsound : (events : List ℕ) → state_fits w ≡ true → sound y ≡ false → called 264 w ns bs out ≡ c_run w ns bs events out
  unfolding c_run
  run_unsound events h g = rw (h, g)

  pub run_called : (events : List ℕ) → state_fits w ≡ true → sound y ≡ true → (n : ℕ) → n ≡ min (length events / 4) (length out / 4)
      → (t : State) (ns' bs' out' : List ℕ) → machine_of t ns' bs' ≡ (run y (events_of n events)).machine
      → out' ≡ overwrite out 0 (concat_map output_words (run y (events_of n events)).outs)
      → (w' : List ℕ) → w' ≡ state_words t → called 0 w' ns' bs' out' ≡ c_run w ns bs events out
  unfolding c_run decoded room_for
  run_called events h g n m t ns' bs' out' e o w' words = rw (h, g, ← m, ← e, o, words)

  pub turns_spoilt : state_fits w ≡ false → called 264 w ns bs out ≡ c_turns w ns bs out
  unfolding c_turns
  turns_spoilt h = rw h

  pub turns_unsound : state_fits w ≡ true → sound y ≡ false → called 264 w ns bs out ≡ c_turns w ns bs out
  unfolding c_turns
  turns_unsound h g = rw (h, g)

  pub turns_called : state_fits w ≡ true → sound y ≡ true → (n : ℕ) → n ≡ min 255 (length out / 5)
      → (m : ℕ) (t : State) (ns' bs' out' : List ℕ) → written m (machine_of t ns' bs') out' ≡ turns_written n y out
      → (w' : List ℕ) → w' ≡ state_words t → called m w' ns' bs' out' ≡ c_turns w ns bs out
  unfolding c_turns
  turns_called h g n e m t ns' bs' out' gave w' words = rw (h, g, ← e, ← gave, words)

  -- ---- show

  pub show_spoilt : (k : ℕ) → (state_fits w && eqb (length out) 1) ≡ false → called 0 w ns bs out ≡ c_show w k ns bs out
  unfolding c_show
  show_spoilt k h = rw h

  pub show_none : (k : ℕ) → Ready state_fits w out 1 → length (show y k) ≡ 0 → called 0 w ns bs out ≡ c_show w k ns bs out
  unfolding c_show
  show_none k h e = rw (ready_test h, e)

  pub show_some : (k : ℕ) → Ready state_fits w out 1 → ¬ (length (show y k) ≡ 0)
      → called (length (show y k)) w ns bs (set out 0 (66 * k + 2)) ≡ c_show w k ns bs out
  unfolding c_show
  show_some k h d = rw (ready_test h, ne_eqb _ 0 d) (ap (λ (v : List ℕ). called (length (show y k)) w ns bs v) (one_word out (66 * k + 2) h.room))

-- a bucket that has tags to show is one of the pool, and has at most 64
pub shown_few : (y : Machine) (k : ℕ) → ¬ (length (show y k) ≡ 0) → (k < 1024) × (length (show y k) ≤ 64)
unfolding show
shown_few y k = choose Few (sound y && ltb k (bucket_count y)) _ _ in_pool (λ p d. absurd (d refl))
  where
    Few : List ℕ → Type 0
    Few v = ¬ (length v ≡ 0) → (k < 1024) × (length v ≤ 64)

    in_pool : (sound y && ltb k (bucket_count y)) ≡ true → Few (tags y.buckets k)
    in_pool p d =
        let q = and2 (sound y) (ltb k (bucket_count y)) p in
        let f = sound_facts y q.0 in
        let below = ltb-true k (bucket_count y) q.1 in
        let high = f.B_high in
        let b = f.bucket k below in
        let few = b.few in
        let long = b.long in
        (omega arith, omega arith)
