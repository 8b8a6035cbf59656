-- What the rule for tag 0 refuses, in plain propositions (paper 02, U9): `withdrawn` is opened here and nowhere else in the laws.
-- Assumes nothing.
use Rattle.std.specs.Prelude.{ℕ, ◌≡◌, refl, true, eqb}
use Rattle.std.proofs.Common.{eqb-true}
use Rattle.spec.specs.declared.Call.{Call}
use Rattle.spec.specs.declared.Call.TheVariants.{Insert, Remove, Contains, Grow, Shrink}
use Rattle.spec.specs.declared.Config.{Config}
use Rattle.spec.specs.Entries.{withdrawn}
use Rattle.laws.specs.Tests.{tf, and_left, and_right}

-- the set was opened under the new rule, and the call is an insert of tag 0
abbrev pub InsertOfZero : Config → Call → ℕ → Type 0
InsertOfZero g call tag = (g.zero_withdrawn ≡ true) × (call ≡ Insert) × (tag ≡ 0)

pub withdrawn_means : (g : Config) (call : Call) (tag : ℕ) → withdrawn g call tag ≡ true → InsertOfZero g call tag
unfolding withdrawn
withdrawn_means g Insert tag e =
    (and_left g.zero_withdrawn (eqb tag 0) e, refl, eqb-true tag 0 (and_right g.zero_withdrawn (eqb tag 0) e))
withdrawn_means g Remove tag e = absurd (tf e refl)
withdrawn_means g Contains tag e = absurd (tf e refl)
withdrawn_means g Grow tag e = absurd (tf e refl)
withdrawn_means g Shrink tag e = absurd (tf e refl)

pub means_withdrawn : (g : Config) (call : Call) (tag : ℕ) → InsertOfZero g call tag → withdrawn g call tag ≡ true
unfolding withdrawn
means_withdrawn g call tag h = rw (h.1, h.0, h.2) refl
