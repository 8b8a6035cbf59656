-- Laws of a call's answer: words that were written over, and a state's words after a move. Assumes nothing.
use Rattle.std.specs.Prelude.{Ok, Err}
use Prim.Native.Nat.{ℕ, zero, suc, ◌+◌, ◌<◌}
use mathlib.Core.Path.{◌≡◌, refl, sym, ap}
use mathlib.Core.Bool.{true, false}
use mathlib.Core.List.{List, [], ◌∷◌, append-nil}
use native.Mathlib.Omega.{arith}
use lib.ListN.{length, set, drop, drop_of_length-le}
use Rattle.spec.specs.declared.Refusal.{Refusal}
use Rattle.spec.specs.declared.State.{State}
use Rattle.spec.specs.Outputs.{Output}
use Rattle.spec.specs.declared.Progress.TheVariants.{At, End}
use Rattle.spec.specs.Numbers.{output_words}
use Rattle.spec.specs.Machine.{state_chosen}
use Rattle.spec.specs.Words.{overwrite}
use Rattle.line_moves.specs.declared.Moved.{Moved}
use Rattle.lines.specs.Reply.{changes, settled}
use Rattle.schedule_words.proofs.Laws.{output_length}
use Rattle.state_words.specs.StateWords.{state_words, state_of_words, state_fits}
use Rattle.state_words.proofs.RoundTrip.{words_again}
use Rattle.state_words.specs.Changes.{changed}
use Rattle.yard_answers.specs.Answers.{out_number, out_left}

-- ---- the answer's words

pub over_four : (out : List ℕ) (o : Output) → length out ≡ 4 → overwrite out 0 (output_words o) ≡ output_words o
unfolding overwrite
over_four out o e =
    let n : 0 + length (output_words o) ≡ 4 = ap (λ (m : ℕ). 0 + m) (output_length o) in
    let none : drop 4 out ≡ [] = drop_of_length-le out {i = 4} (omega arith) in
    rw (n, none) (append-nil (output_words o))

pub over_five : (out : List ℕ) (k : ℕ) (o : Output) → length out ≡ 5 → overwrite out 0 (k ∷ output_words o) ≡ k ∷ output_words o
unfolding overwrite
over_five out k o e =
    let n : 0 + length (k ∷ output_words o) ≡ 5 = ap (λ (m : ℕ). 0 + suc m) (output_length o) in
    let none : drop 5 out ≡ [] = drop_of_length-le out {i = 5} (omega arith) in
    rw (n, none) (append-nil (k ∷ output_words o))

-- words from the next one on, and then this one
pub over_next : (w : List ℕ) (i k : ℕ) (v : List ℕ) → i < length w → set (overwrite w (suc i) v) i k ≡ overwrite w i (k ∷ v)
unfolding overwrite
over_next [] i k v h = absurd (omega arith)
over_next (x ∷ w) zero k v h =
    let n : 1 + length v ≡ suc (length v) = omega arith in
    let m : 0 + suc (length v) ≡ suc (length v) = omega arith in
    rw (n, m)
over_next (x ∷ w) (suc i) k v h =
    let n : suc (suc i) + length v ≡ suc (suc i + length v) = omega arith in
    let m : suc i + suc (length v) ≡ suc (i + suc (length v)) = omega arith in
    rw (n, m) (ap (λ (u : List ℕ). x ∷ u) (over_next w i k v (omega arith)))

-- what is no refusal is written, and its number is 0
pub written : (o : Output) (out : List ℕ) → length out ≡ 4 → ((why : Refusal) → o ≡ Err why → ⊥) → (0 ≡ out_number o) × (overwrite out 0 (output_words o) ≡ out_left o out)
unfolding out_number out_left
written (Ok (At line)) out e d = (refl, over_four out (Ok (At line)) e)
written (Ok (End a own full)) out e d = (refl, over_four out (Ok (End a own full)) e)
written (Err why) out e d = absurd (d why refl)

-- ---- the state's words after a move

pub settled_changed : (s : State) (k : ℕ) (m : Moved) → changes m.out k ≡ true
    → changed s k m.head m.last_node m.last_bucket m.task ≡ settled s k m
unfolding settled changed
settled_changed s k m h = rw h

pub settled_same : (w : List ℕ) → state_fits w ≡ true → (k : ℕ) (m : Moved) → changes m.out k ≡ false → w ≡ state_words (settled (state_of_words w) k m)
unfolding settled
settled_same w fits k m h = rw h (sym (words_again w fits))

pub chosen_words : (s : State) (k : ℕ) → set (state_words s) 8 k ≡ state_words (state_chosen k s)
unfolding state_words state_chosen
chosen_words s k = refl
