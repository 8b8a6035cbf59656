-- "A refusal gives only its number; state and slices keep every word", for the calls of C: a number of 256 or more leaves the words of the state, of the
-- versions and of the answer as they were. "A refused opening gives a state of all zeros." A show changes no word of the state and the versions.
-- Assumes nothing.
use Rattle.std.specs.Prelude.{ℕ, ◌+◌, ◌≤◌, ◌≡◌, refl, true, not, ◌&&◌, length, replicate, Ok, Err}
use Rattle.std.proofs.Math.Path.{ap}
use Rattle.std.proofs.Common.{◌∙◌, arith, eq-eqb, ne_eqb}
use mathlib.Core.List.{List, []}
use Rattle.std.proofs.lemmas.Bool.{not-false}
use Rattle.std.proofs.Math.Dec.{eqb}
use Rattle.coop_spec.specs.declared.Refusal.{Refusal}
use Rattle.spec.specs.Lists.{concat_map, range}
use Rattle.laws.specs.Tests.{choose, and_left}
use Rattle.yard_answers.specs.Answers.{open_number}
use Rattle.yard_answers.specs.CallLaws.{opens_with_0}
use Rattle.coop_spec.specs.declared.Call.{Call}
use Rattle.coop_spec.specs.Outputs.{Output}
use Rattle.coop_spec.specs.declared.Progress.TheVariants.{At, End}
use Rattle.coop_spec.specs.Machine.{Machine, never_invoked, idle, state_of}
use Rattle.coop_spec.specs.Entries.{opening, start, step}
use Rattle.coop_spec.specs.Numbers.{refusal_number}
use Rattle.coop_laws.specs.Refusals.{refused_opening_changes_nothing, refused_start_changes_nothing, refused_step_changes_nothing}
use Rattle.coop_state_words.specs.StateWords.{operations_words, tasks_words, state_words, state_fits}
use Rattle.coop_state_words.specs.RoundTrip.{words_again}
use Rattle.coop_c.specs.Answers.{out_number, out_left}
use Rattle.coop_c.specs.Calls.{Called, called, machine_in, c_open, c_reply, c_start, c_step, c_show}

-- ---- start and step

module _ (w vs out : List ℕ) where
  abbrev y : Machine
  y = machine_in w vs

  -- every word is as it was
  abbrev pub Kept : Called → Type 0
  Kept x = x ≡ called x.number w vs out

  abbrev KeptIfRefused : Called → Type 0
  KeptIfRefused x = 256 ≤ x.number → Kept x

  -- the words of the machine that was there
  same_machine : state_fits w ≡ true → (n : ℕ) (z : Machine) → z ≡ y → called n (state_words z.state) z.versions out ≡ called n w vs out
  same_machine fits n z e =
      ap (λ (u : Machine). called n (state_words u.state) u.versions out) e ∙ ap (λ (v : List ℕ). called n v vs out) (words_again w fits)

  reply_kept : state_fits w ≡ true → (o : Output) (z : Machine) → ((r : Refusal) → o ≡ Err r → z ≡ y)
      → KeptIfRefused (c_reply (record { out = o; machine = z }) out)
  unfolding c_reply out_number out_left
  reply_kept fits (Ok (At line)) z same h = absurd (omega arith)
  reply_kept fits (Ok (End a own)) z same h = absurd (omega arith)
  reply_kept fits (Err r) z same h = same_machine fits (256 + refusal_number r) z (same r refl)

  pub refused_start_keeps : (call : Call) (k n tag : ℕ) → 256 ≤ (c_start call w k n tag vs out).number → Kept (c_start call w k n tag vs out)
  unfolding c_start
  refused_start_keeps call k n tag =
      choose KeptIfRefused (not (state_fits w && eqb (length out) 4)) _ _ (λ p h. refl) (λ p.
      let x = start y k call n tag in
      reply_kept (and_left _ _ (not-false _ p)) x.out x.machine (λ r e. refused_start_changes_nothing y k call n tag r e))

  pub refused_step_keeps : (k : ℕ) → 256 ≤ (c_step w k vs out).number → Kept (c_step w k vs out)
  unfolding c_step
  refused_step_keeps k =
      choose KeptIfRefused (not (state_fits w && eqb (length out) 4)) _ _ (λ p h. refl) (λ p.
      let x = step y k in
      reply_kept (and_left _ _ (not-false _ p)) x.out x.machine (λ r e. refused_step_changes_nothing y k r e))

  -- ---- show

  pub show_only_writes_a_place : (k : ℕ) → c_show w k vs out ≡ called (c_show w k vs out).number w vs (c_show w k vs out).out
  unfolding c_show
  show_only_writes_a_place k =
      choose (λ (x : Called). x ≡ called x.number w vs x.out) (not (state_fits w && eqb (length out) 1)) _ _ (λ p. refl) (λ p. refl)

-- ---- opening

zero_words : state_words (state_of 0 0) ≡ replicate 397 0
unfolding state_words operations_words tasks_words state_of never_invoked idle concat_map range
zero_words = refl

module _ (t : ℕ) (w vs : List ℕ) where
  pub refused_open_zeroes : length w ≡ 397 → 256 ≤ (c_open t w vs).number → c_open t w vs ≡ called (c_open t w vs).number (replicate 397 0) vs []
  unfolding c_open
  refused_open_zeroes long =
      rw (eq-eqb (length w) 397 long) (λ h.
      let same = refused_opening_changes_nothing t vs (opens_with_0 (opening t vs).refusal h) in
      let n = open_number (opening t vs).refusal in
      ap (λ (z : Machine). called n (state_words z.state) z.versions []) same ∙ ap (λ (v : List ℕ). called n v vs []) zero_words)

  pub other_length_keeps : ¬ (length w ≡ 397) → c_open t w vs ≡ called 264 w vs []
  unfolding c_open
  other_length_keeps d = rw (ne_eqb (length w) 397 d)
