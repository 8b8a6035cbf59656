-- From an opening on, a caller's words are such that a state has: an opening writes such words, and every call that is given such words leaves such
-- words. (A show leaves the state's words as they are: Unchanged.) So only a caller that changes them itself is refused for them. Assumes nothing.
use Rattle.std.specs.Prelude.{ℕ, ◌≡◌, true, not, ◌&&◌, List, length}
use Rattle.std.proofs.Common.{eq-eqb}
use Rattle.std.proofs.Math.Dec.{eqb}
use Rattle.laws.specs.Tests.{choose}
use Rattle.coop_spec.specs.declared.Call.{Call}
use Rattle.coop_spec.specs.Machine.{Machine}
use Rattle.coop_state_words.specs.StateWords.{state_fits}
use Rattle.coop_state_words.specs.RoundTrip.{words_fit}
use Rattle.coop_state_words.specs.EntriesStore.{words_stored, opening_stored, start_stored, step_stored}
use Rattle.coop_c.specs.Calls.{Called, machine_in, c_open, c_reply, c_start, c_step}

pub open_leaves_a_state : (t : ℕ) (w vs : List ℕ) → length w ≡ 397 → state_fits (c_open t w vs).state ≡ true
unfolding c_open
open_leaves_a_state t w vs long = rw (eq-eqb (length w) 397 long) (words_fit _ (opening_stored t vs))

module _ (w vs out : List ℕ) (fits : state_fits w ≡ true) where
  abbrev y : Machine
  y = machine_in w vs

  abbrev LeftFit : Called → Type 0
  LeftFit x = state_fits x.state ≡ true

  pub start_leaves_a_state : (call : Call) (k n tag : ℕ) → LeftFit (c_start call w k n tag vs out)
  unfolding c_start c_reply
  start_leaves_a_state call k n tag =
      choose LeftFit (not (state_fits w && eqb (length out) 4)) _ _ (λ p. fits) (λ p. words_fit _ (start_stored y k (words_stored w) call n tag))

  pub step_leaves_a_state : (k : ℕ) → LeftFit (c_step w k vs out)
  unfolding c_step c_reply
  step_leaves_a_state k =
      choose LeftFit (not (state_fits w && eqb (length out) 4)) _ _ (λ p. fits) (λ p. words_fit _ (step_stored y k (words_stored w)))
