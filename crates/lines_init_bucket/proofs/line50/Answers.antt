use Rattle.std.proofs.Common.{◌≡◌, ◌-◌, ◌∙◌, arith}
use borrow.Author.Tests.{eq-eqb, ne_eqb}
use Rattle.spec.specs.Machine.{with_nodes, machine_of}
use Rattle.spec.specs.Words.{apply}
use Rattle.spec.specs.Listed.{size_of, place_of}
use Rattle.spec.specs.Lines.{line_50}
use Rattle.spec.specs.Entries.{accept}
use Rattle.laws.specs.StepAt.{AllPass, tests_at, step_table, here, next}
use Rattle.lines.proofs.Giving.{refuses_8, goes}
use Rattle.lines_init_bucket.proofs.line50.Goals as goal
use Rattle.lines_init_bucket.proofs.line50.Goals.{then-c-eq0-via-then-c-eq0, then-c-eq0-via-else-c-eq0+then-size_at-c, then-place_at-eq0, else-place_at-eq0}

pub returns-in_default : goal.returns-in_default
unfolding step_table
returns-in_default c = λ bs. refuses_8 _ _ 50 c.requires.1 (here (omega (arith, c.in_default.ensures))) c.refused.ensures

pub returns-then-c-eq0 : goal.returns-then-c-eq0
unfolding step_table size_of
returns-then-c-eq0 c = λ bs.
    let is : c.in-Some.t ≡ c.args.c.t - 1 = omega (arith, c.in-Some.ensures) in
    elim c.then-c-eq0.branch [
      | then-c-eq0-via-then-c-eq0 w ↦ refuses_8 _ _ 50 c.requires.1 (next (here w.if-c-eq0.true)) c.refused-then-c-eq0.ensures
      | then-c-eq0-via-else-c-eq0+then-size_at-c w ↦
          refuses_8 _ _ 50 c.requires.1 (next (next (here (rw (← is, ← w.size_at.ensures) w.if-size_at-c.true)))) c.refused-then-c-eq0.ensures
    ]

pub returns : goal.returns
unfolding step_table line_50 accept apply with_nodes place_of size_of
returns c = λ bs.
    let a = c.args in
    let h = c.in-Some.ensures in
    let is : c.in-Some.t ≡ a.c.t - 1 = omega (arith, h) in
    let passed : AllPass (tests_at 50 (machine_of a.s a.ns.now bs) a.c) =
    (λ z. omega (arith, h, z), (c.if-c-eq0.false, rw (← is, ← c.size_at.ensures) c.if-size_at-c.false)) in
    goes _ _ 50 c.requires.1 passed tt c.go.ensures.1
    (c.go.ensures.0 _ bs ∙ rw (← is, ← c.place_at.ensures) (elim c.if-place_at-eq0.branch [
      | then-place_at-eq0 w ↦ rw (w.ns-is, w.put.ensures, eq-eqb _ _ w.if-place_at-eq0.true)
      | else-place_at-eq0 w ↦ rw (w.ns-is, ne_eqb _ _ w.if-place_at-eq0.false)
    ]))
