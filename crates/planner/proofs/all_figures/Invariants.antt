-- The figures of the calls from the i-th on, stored from place i on, are all of them.
use Rattle.std.proofs.Common.{◌≡◌, [], drop}
use lib.Seq.{sets}
use Rattle.plans.specs.Plan.{fresh, all_figures, figures_array}
use Rattle.planner.specs.Standing.{shape, Ready}
use Rattle.planner.proofs.all_figures.Given as goal

abbrev pub invariant-loop-i : goal.invariant-loop-i
invariant-loop-i l =
    Ready l.s × (sets l.figures l.i (all_figures l.g (shape l.s) (drop l.i l.calls)) ≡ sets (figures_array []) 0 (all_figures l.g fresh l.calls))
