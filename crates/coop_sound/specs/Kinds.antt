-- The kinds of the operations as words, 0 for one never invoked and past the last. Assumes nothing.
use Rattle.std.specs.Prelude.{ℕ, ◌≡◌, List, not, eqb, get_or}
use Rattle.coop_spec.specs.Machine.{Machine}
use Rattle.coop_spec.specs.Sound.{was_invoked}

pub record Kinds (y : Machine) (ks : List ℕ) : Type 0 where
  pub each : (n : ℕ) → was_invoked y n ≡ not (eqb (get_or ks n 0) 0)
