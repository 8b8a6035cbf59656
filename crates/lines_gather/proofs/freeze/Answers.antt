use Rattle.std.proofs.Common.{◌≡◌, ◌-◌, ◌*◌, List, set, ℕ, ap, ◌∙◌, arith}
use Rattle.spec.specs.Machine.{with_line, with_buckets, machine_of}
use Rattle.spec.specs.Words.{apply}
use Rattle.spec.specs.Lines.{moves}
use Rattle.spec.specs.Entries.{accept}
use Rattle.laws.specs.StepAt.{AllPass, here}
use Rattle.pool.proofs.At.{freeze_here}
use Rattle.lines.proofs.Giving.{fails_test, passes_tests}
use Rattle.lines_gather.proofs.freeze.Goals as goal

pub returns-in_default : goal.returns-in_default
returns-in_default c = λ ns. fails_test _ _ _ _ (here (omega (arith, c.in_default.ensures))) c.refused.ensures

pub returns : goal.returns
unfolding AllPass accept apply with_buckets
returns c = λ ns.
    let a = c.args in
    let h = c.in-Some.ensures in
    let is : c.in-Some.j ≡ a.b - 1 = omega (arith, h) in
    let frozen : c.freeze_at.new.pool ≡ set a.bs.now (66 * (a.b - 1)) 0 = c.freeze_at.ensures ∙ rw is (freeze_here a.bs.now (a.b - 1) (omega (arith, h))) in
    passes_tests _ _ _ _ (λ z. omega (arith, h, z)) c.go.ensures.1
    (c.go.ensures.0 ns c.freeze_at.new.pool ∙ ap (λ (v : List ℕ). accept (machine_of a.s ns v) a.k a.c.own (moves (with_line a.l a.c))) frozen)
