-- What a start or a step on a lent state answers and leaves, as one value of the definitions. Assumes nothing.
use Rattle.std.specs.Prelude.{ℕ, List}
use Rattle.spec.specs.Outputs.{Output}
use Rattle.spec.specs.declared.State.{State}
use Rattle.spec.specs.Entries.{Reply}
use Rattle.spec.specs.Machine.{machine_of}

-- the answer, with the state behind the reference and what is left in both pools
abbrev pub answered : Output → State → List ℕ → List ℕ → Reply
answered p s ns bs = record { out = p; machine = machine_of s ns bs }
