-- A turn of C that names a task gives 1, and the answer's words tell whether the task's step was refused: with 8 every word of the state and the pools is
-- as it was (`spoilt_turn_keeps`), with 7 the word of the task chosen last is the task's number and every other word is as it was
-- (`seven_turn_moves_word_8`). Assumes nothing.
use Rattle.std.specs.Prelude.{ℕ, ◌≡◌, refl, true, not, ◌&&◌, length, get_or, Ok, Err}
use Rattle.std.proofs.Math.Path.{ap}
use Rattle.std.proofs.Common.{◌∙◌, arith}
use mathlib.Core.List.{List, [], ◌∷◌}
use Rattle.std.proofs.lemmas.Bool.{not-false}
use Rattle.std.proofs.Math.Dec.{eqb}
use Rattle.std.proofs.Math.ListN.{set}
use Rattle.spec.specs.declared.Refusal.{Refusal}
use Rattle.spec.specs.declared.Refusal.TheVariants.{NoRecord, Spoilt}
use Rattle.spec.specs.declared.Progress.TheVariants.{At, End}
use Rattle.spec.specs.declared.State.{State}
use Rattle.spec.specs.Numbers.{refusal_number, output_words}
use Rattle.spec.specs.Machine.{Machine, with_state, state_chosen, with_chosen}
use Rattle.laws.specs.Tests.{choose, and_left}
use Rattle.laws.specs.RefusalNumbers.{same_refusal}
use Rattle.turns.specs.declared.Turn.{Turn}
use Rattle.turns.specs.declared.Turn.TheVariants.{Idle, Of, Refused}
use Rattle.turns.specs.Turn.{turn, refusal_of}
use Rattle.corollaries.specs.Turns.{refused_turn_changes_nothing, seven_moves_the_last_chosen}
use Rattle.state_words.specs.StateWords.{state_words, state_fits}
use Rattle.state_words.proofs.RoundTrip.{words_again}
use Rattle.yard_answers.specs.Answers.{turn_number, turn_left}
use Rattle.c_calls.specs.Calls.{Called, called, machine_in, c_turn}

-- the answer's words name the task and say that its step was refused with r
abbrev pub refused_words : ℕ → Refusal → List ℕ
refused_words k r = k ∷ output_words (Err r)

-- then the turn says so
pub told : (k : ℕ) (r : Refusal) (out : List ℕ) (x : Turn) → turn_number x ≡ 1 → turn_left x out ≡ refused_words k r → x ≡ Of k (Err r)
unfolding turn_number turn_left
told k r out Idle n e = absurd (omega arith)
told k r out (Refused m) n e = absurd (omega arith)
told k r out (Of j (Ok (At line))) n e = let z : ◌≡◌ {A = ℕ} 0 2 = ap (λ (l : List ℕ). get_or l 1 0) e in absurd (omega arith)
told k r out (Of j (Ok (End a own full))) n e = let z : ◌≡◌ {A = ℕ} 1 2 = ap (λ (l : List ℕ). get_or l 1 0) e in absurd (omega arith)
told k r out (Of j (Err m)) n e =
    let task : j ≡ k = ap (λ (l : List ℕ). get_or l 0 0) e in
    let why : m ≡ r = same_refusal m r (ap (λ (l : List ℕ). get_or l 2 0) e) in
    rw (task, why)

-- the same words with any number in the place of the refusal's
abbrev pub number_words : ℕ → ℕ → List ℕ
number_words k r = k ∷ 2 ∷ r ∷ 0 ∷ 0 ∷ []

-- a turn that says so has the number of a refusal there
pub told_number : (k r : ℕ) (out : List ℕ) (x : Turn) → turn_number x ≡ 1 → turn_left x out ≡ number_words k r → (s : Refusal) × (refusal_number s ≡ r)
unfolding turn_number turn_left
told_number k r out Idle n e = absurd (omega arith)
told_number k r out (Refused m) n e = absurd (omega arith)
told_number k r out (Of j (Ok (At line))) n e = let z : ◌≡◌ {A = ℕ} 0 2 = ap (λ (l : List ℕ). get_or l 1 0) e in absurd (omega arith)
told_number k r out (Of j (Ok (End a own full))) n e = let z : ◌≡◌ {A = ℕ} 1 2 = ap (λ (l : List ℕ). get_or l 1 0) e in absurd (omega arith)
told_number k r out (Of j (Err m)) n e = (m, ap (λ (l : List ℕ). get_or l 2 0) e)

-- the words of a state in which another task was chosen last
chosen_words : (k : ℕ) (s : State) → state_words (state_chosen k s) ≡ set (state_words s) 8 k
unfolding state_words state_chosen
chosen_words k s = refl

module _ (w ns bs out : List ℕ) (k : ℕ) where
  abbrev y : Machine
  y = machine_in w ns bs

  -- what a turn leaves that says so
  abbrev Leaves : Refusal → List ℕ → Called → Type 0
  Leaves r v x = x.number ≡ 1 → x.out ≡ refused_words k r → x ≡ called 1 v ns bs (refused_words k r)

  left_by : (r : Refusal) (v : List ℕ)
      → ((turn y).says ≡ Of k (Err r) → state_fits w ≡ true
      → called 1 (state_words (turn y).machine.state) (turn y).machine.nodes (turn y).machine.buckets (refused_words k r)
      ≡ called 1 v ns bs (refused_words k r))
      → Leaves r v (c_turn w ns bs out)
  unfolding c_turn turn_number turn_left
  left_by r v leaves =
      choose (Leaves r v) (not (state_fits w && eqb (length out) 5)) _ _ (λ p n e. absurd (omega arith)) (λ p n e.
      let says = told k r out (turn y).says n e in
      let z = (turn y).machine in
      ap (λ (t : Turn). called (turn_number t) (state_words z.state) z.nodes z.buckets (turn_left t out)) says
      ∙ leaves says (and_left _ _ (not-false _ p)))

  -- "8 of the step": state and slices keep every word
  pub spoilt_turn_keeps : Leaves Spoilt w (c_turn w ns bs out)
  unfolding refusal_of
  spoilt_turn_keeps = left_by Spoilt w (λ says fits.
      let same = refused_turn_changes_nothing y 8 (λ u. omega arith) (λ u. omega arith) (ap refusal_of says) in
      ap (λ (z : Machine). called 1 (state_words z.state) z.nodes z.buckets (refused_words k Spoilt)) same
      ∙ ap (λ (v : List ℕ). called 1 v ns bs (refused_words k Spoilt)) (words_again w fits))

  -- "the last one chosen, kept in the state, moves and no other word does"
  pub seven_turn_moves_word_8 : Leaves NoRecord (set w 8 k) (c_turn w ns bs out)
  unfolding refusal_of with_chosen with_state
  seven_turn_moves_word_8 = left_by NoRecord (set w 8 k) (λ says fits.
      let s = seven_moves_the_last_chosen y (ap refusal_of says) in
      let task : s.0 ≡ k = cc (s.2, says) in
      let moved : (turn y).machine ≡ with_chosen k y = s.3 ∙ ap (λ (j : ℕ). with_chosen j y) task in
      ap (λ (z : Machine). called 1 (state_words z.state) z.nodes z.buckets (refused_words k NoRecord)) moved
      ∙ ap (λ (v : List ℕ). called 1 v ns bs (refused_words k NoRecord)) (chosen_words k y.state ∙ ap (λ (v : List ℕ). set v 8 k) (words_again w fits)))
