-- "A refusal gives only its number; state and slices keep every word", for the calls of C: a number of 256 or more leaves the words of the state, of both
-- pools and of the answer as they were. "A refused opening gives a state of all zeros." A list and a show change no word of the state and the pools.
-- Assumes nothing.
use Prim.Native.Nat.{ℕ, ◌+◌, ◌/◌, ◌≤◌, min}
use Rattle.std.specs.Prelude.{◌≡◌, refl, not, ◌&&◌, ◌||◌, leb, length, replicate, Ok, Err}
use Rattle.std.proofs.Math.Path.{ap}
use Rattle.std.proofs.Common.{◌∙◌, arith}
use Rattle.std.proofs.Math.Bool.{true}
use mathlib.Core.List.{List, []}
use borrow.Author.Tests.{eq-eqb, ne_eqb, ltb-false, not-false}
use Rattle.std.proofs.Math.Dec.{eqb, ltb}
use Rattle.spec.specs.declared.Refusal.{Refusal}
use Rattle.spec.specs.declared.Call.{Call}
use Rattle.spec.specs.declared.Config.{Config}
use Rattle.spec.specs.Outputs.{Output}
use Rattle.spec.specs.declared.Progress.TheVariants.{At, End}
use Rattle.spec.specs.Lists.{concat_map, range}
use Rattle.spec.specs.Machine.{Machine, idle, zero_config, state_of}
use Rattle.spec.specs.Sound.{sound}
use Rattle.spec.specs.Listed.{listed}
use Rattle.spec.specs.Entries.{Opened, opening, start, step, Written, list}
use Rattle.spec.specs.Numbers.{refusal_number}
use Rattle.laws.specs.Tests.{choose, and_left, or_none}
use Rattle.turns.specs.declared.Turn.{Turn}
use Rattle.turns.specs.declared.Turn.TheVariants.{Idle, Of, Refused}
use Rattle.turns.specs.Turn.{turn, refusal_of}
use Rattle.corollaries.specs.Unchanged.{refused_start_changes_nothing, refused_step_changes_nothing, refused_opening_changes_nothing}
use Rattle.corollaries.specs.Turns.{turn_names_none, refused_turn_changes_nothing}
use Rattle.schedule_events.specs.Events.{listing_number}
use Rattle.state_words.specs.StateWords.{state_words, state_fits}
use Rattle.state_words.proofs.RoundTrip.{words_again}
use Rattle.yard_answers.specs.Answers.{open_number, out_number, out_left, turn_number, turn_left}
use Rattle.yard_answers.specs.CallLaws.{opens_with_0}
use Rattle.turns.specs.Turns.{turns_most, turns_written}
use Rattle.c_calls.specs.Calls.{Called, called, machine_in, c_open, c_reply, c_start, c_step, c_turn, c_list, c_show}
use Rattle.c_calls.specs.Runs.{c_run, c_turns}

-- ---- start, step and turn

module _ (w ns bs out : List ℕ) where
  abbrev y : Machine
  y = machine_in w ns bs

  -- every word is as it was
  abbrev pub Kept : Called → Type 0
  Kept x = x ≡ called x.number w ns bs out

  abbrev KeptIfRefused : Called → Type 0
  KeptIfRefused x = 256 ≤ x.number → Kept x

  -- the words of the machine that was there
  same_machine : state_fits w ≡ true → (n : ℕ) (z : Machine) → z ≡ y → called n (state_words z.state) z.nodes z.buckets out ≡ called n w ns bs out
  same_machine fits n z e =
      ap (λ (u : Machine). called n (state_words u.state) u.nodes u.buckets out) e ∙ ap (λ (v : List ℕ). called n v ns bs out) (words_again w fits)

  reply_kept : state_fits w ≡ true → (o : Output) (z : Machine) → ((r : Refusal) → o ≡ Err r → z ≡ y)
      → KeptIfRefused (c_reply (record { out = o; machine = z }) out)
  unfolding c_reply out_number out_left
  reply_kept fits (Ok (At line)) z same h = absurd (omega arith)
  reply_kept fits (Ok (End a own full)) z same h = absurd (omega arith)
  reply_kept fits (Err r) z same h = same_machine fits (256 + refusal_number r) z (same r refl)

  pub refused_start_keeps : (call : Call) (k tag : ℕ) → 256 ≤ (c_start call w k tag ns bs out).number → Kept (c_start call w k tag ns bs out)
  unfolding c_start
  refused_start_keeps call k tag =
      choose KeptIfRefused (not (state_fits w && eqb (length out) 4)) _ _ (λ p h. refl) (λ p.
      let x = start y k call tag in
      reply_kept (and_left _ _ (not-false _ p)) x.out x.machine (λ r e. refused_start_changes_nothing y k r call tag e))

  pub refused_step_keeps : (k : ℕ) → 256 ≤ (c_step w k ns bs out).number → Kept (c_step w k ns bs out)
  unfolding c_step
  refused_step_keeps k =
      choose KeptIfRefused (not (state_fits w && eqb (length out) 4)) _ _ (λ p h. refl) (λ p.
      let x = step y k in
      reply_kept (and_left _ _ (not-false _ p)) x.out x.machine (λ r e. refused_step_changes_nothing y k r e))

  -- a turn that names no task. One that names a task gives 1: its words tell whether the step was refused, and with 7 the task chosen last moves
  pub refused_turn_keeps : 256 ≤ (c_turn w ns bs out).number → Kept (c_turn w ns bs out)
  unfolding c_turn turn_number turn_left refusal_of
  refused_turn_keeps =
      choose KeptIfRefused (not (state_fits w && eqb (length out) 5)) _ _ (λ p h. refl) (λ p.
      let x = turn y in
      go (and_left _ _ (not-false _ p)) x.says x.machine (λ r e.
      let eight = ((turn_names_none y r).0 e).0 in
      refused_turn_changes_nothing y 8 (λ u. omega arith) (λ u. omega arith) (ap refusal_of e ∙ ap refusal_number eight)))
    where
      go : state_fits w ≡ true → (x : Turn) (z : Machine) → ((r : Refusal) → x ≡ Refused r → z ≡ y)
          → KeptIfRefused (called (turn_number x) (state_words z.state) z.nodes z.buckets (turn_left x out))
      go fits Idle z same h = absurd (omega arith)
      go fits (Of k o) z same h = absurd (omega arith)
      go fits (Refused r) z same h = same_machine fits (256 + refusal_number r) z (same r refl)

  -- ---- many events: where they are run the number is 0, and each refusal among the outputs changed nothing but its four words

  pub refused_run_keeps : (events : List ℕ) → 256 ≤ (c_run w ns bs events out).number → Kept (c_run w ns bs events out)
  unfolding c_run
  refused_run_keeps events =
      choose KeptIfRefused (not (state_fits w && sound y)) _ _ (λ p h. refl) (λ p h. absurd (omega arith))

  pub refused_turns_keep : 256 ≤ (c_turns w ns bs out).number → Kept (c_turns w ns bs out)
  unfolding c_turns turns_written
  refused_turns_keep =
      choose KeptIfRefused (not (state_fits w && sound y)) _ _ (λ p h. refl) (λ p h.
      let n = min 255 (length out / 5) in let most = turns_most n y in absurd (omega arith))

  -- ---- list and show

  refused_list : 256 ≤ listing_number (list y out).says → (list y out).words ≡ out
  unfolding list
  refused_list =
      choose Same (not (sound y) || ltb 64 (length (listed y))) _ _ (λ p h. refl) (λ p.
      choose Same (not (leb 64 (length out))) _ _ (λ q h. refl) (λ q h.
      let few = ltb-false 64 (length (listed y)) (or_none (not (sound y)) (ltb 64 (length (listed y))) p).1 in absurd (omega arith)))
    where
      Same : Written → Type 0
      Same x = 256 ≤ listing_number x.says → x.words ≡ out

  pub refused_list_keeps : 256 ≤ (c_list w ns bs out).number → Kept (c_list w ns bs out)
  unfolding c_list
  refused_list_keeps =
      choose KeptIfRefused (not (state_fits w)) _ _ (λ p h. refl) (λ p h.
      ap (λ (v : List ℕ). called (listing_number (list y out).says) w ns bs v) (refused_list h))

  pub list_only_writes_tags : c_list w ns bs out ≡ called (c_list w ns bs out).number w ns bs (c_list w ns bs out).out
  unfolding c_list
  list_only_writes_tags = choose (λ (x : Called). x ≡ called x.number w ns bs x.out) (not (state_fits w)) _ _ (λ p. refl) (λ p. refl)

  pub show_only_writes_a_place : (k : ℕ) → c_show w k ns bs out ≡ called (c_show w k ns bs out).number w ns bs (c_show w k ns bs out).out
  unfolding c_show
  show_only_writes_a_place k =
      choose (λ (x : Called). x ≡ called x.number w ns bs x.out) (not (state_fits w && eqb (length out) 1)) _ _ (λ p. refl) (λ p. refl)

-- ---- opening

zero_words : state_words (state_of zero_config 0 0) ≡ replicate 113 0
unfolding state_words state_of idle concat_map range
zero_words = refl

module _ (g : Config) (w ns bs : List ℕ) where
  abbrev o : Opened
  o = opening g ns bs

  pub refused_open_zeroes : length w ≡ 113 → 256 ≤ (c_open g w ns bs).number → c_open g w ns bs ≡ called (c_open g w ns bs).number (replicate 113 0) ns bs []
  unfolding c_open
  refused_open_zeroes long =
      rw (eq-eqb (length w) 113 long) (λ h.
      let same = refused_opening_changes_nothing g ns bs (opens_with_0 o.refusal h) in
      let n = open_number o.refusal in
      ap (λ (z : Machine). called n (state_words z.state) z.nodes z.buckets []) same ∙ ap (λ (v : List ℕ). called n v ns bs []) zero_words)

  pub other_length_keeps : ¬ (length w ≡ 113) → c_open g w ns bs ≡ called 264 w ns bs []
  unfolding c_open
  other_length_keeps d = rw (ne_eqb (length w) 113 d)
