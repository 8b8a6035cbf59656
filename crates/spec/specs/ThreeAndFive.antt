-- An example of ContainsExact (ContainsSteps): outputs of a run in which both counts stand. That the set gives them, and outputs of wrong
-- machines that it refuses, are in ContainsExamples of the crate `cases`. Assumes nothing.
use Rattle.std.specs.Prelude.{ℕ, ◌≡◌, refl, List, [], ◌∷◌, ◌++◌, Ok, Err}
use Rattle.std.proofs.Common.{inl, inr, arith}
use Rattle.spec.specs.declared.Refusal.TheVariants.{Running, Idle}
use Rattle.spec.specs.declared.Answer.TheVariants.{No}
use Rattle.spec.specs.declared.Call.TheVariants.{Contains, Grow}
use Rattle.spec.specs.Outputs.{Output}
use Rattle.spec.specs.declared.Progress.TheVariants.{At}
use Rattle.spec.specs.Schedule.{Event}
use Rattle.spec.specs.ContainsSteps.{begun, stepped, progress, ContainsExact}
use Rattle.spec.specs.Rows.{stepping, calling, ended, first_grow}

-- two contains of task 1, in a yard of two nodes and two buckets. The first reads a filled place and stands at 18 while task 0 grows the
-- set; the second reads an empty place. Starts and steps are refused between.

unfoldable pub between : List Event
between =
    calling 1 Contains 5 2 ++ calling 0 Grow 0 7 ++ stepping 0 1 ++ stepping 1 1
    ++ calling 1 Contains 5 2 ++ calling 1 Contains 6 0 ++ calling 0 Grow 0 1 ++ stepping 1 4

unfoldable pub between_outs : List Output
between_outs =
    Ok (At 12) ∷ Ok (At 13) ∷ Ok (At 18) ∷ first_grow ++ Err Idle ∷ ended No 3
    ∷ Ok (At 12) ∷ Ok (At 13) ∷ Ok (At 15) ∷ Err Running ∷ Ok (At 20) ∷ Ok (At 39) ∷ Ok (At 16) ∷ Ok (At 18) ∷ ended No 5 ∷ Err Idle ∷ []

-- a claim of a grow, and one of a contains
grow : {P : Type 0} → Grow ≡ Contains → P
grow e = absurd (let z : ◌≡◌ {A = ℕ} 0 1 = cc in omega arith)

pub of : {P : Type 0} → P → Contains ≡ Contains → P
of p e = p

infixr 4 ◌next◌
pub ◌next◌ : {P Q : Type 0} → P → Q → P × Q
p next q = (p, q)

pub three_and_five : ContainsExact between between_outs
unfolding begun stepped progress stepping calling first_grow between between_outs
three_and_five =
    tt next of (inl (refl, omega arith)) next of (inr (inl (refl, omega arith)))
    next tt next grow next grow next grow next grow next grow next grow next grow
    next tt next of (refl, inl (refl, refl))
    next tt next of (inl (refl, omega arith)) next of (inr (inr (refl, omega arith)))
    next tt next tt next grow
    next of (inr (inr (refl, omega arith))) next of (inr (inr (refl, omega arith))) next of (refl, inr (refl, refl))
    next tt next tt
