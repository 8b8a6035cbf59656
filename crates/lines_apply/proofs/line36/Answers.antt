use Rattle.std.proofs.Common.{◌≡◌, ◌-◌, ◌<◌, ◌≤◌, ℕ, true, sym, ◌∙◌, arith}
use Rattle.spec.specs.declared.Task.{Task}
use Rattle.spec.specs.Machine.{Machine, with_i, without_places, machine_of}
use Rattle.spec.specs.Words.{number, changeable}
use Rattle.spec.specs.Sound.{sound}
use Rattle.laws.specs.StepAt.{step_table, here}
use Rattle.pool.proofs.Facts.{link_of}
use Rattle.lines.proofs.Giving.{going, refuses_8}
use Rattle.lines_apply.specs.Invokes.{Invokes}
use Rattle.lines_apply.proofs.Apply36.{frozen_36}
use Rattle.lines_apply.proofs.line36.Goals as goal

pub returns-in_default : goal.returns-in_default
unfolding step_table
returns-in_default c = refuses_8 _ _ 36 c.requires.1 (here (omega (arith, c.in_default.ensures))) c.refused.ensures

pub returns-then-word-eq0 : goal.returns-then-word-eq0
unfolding changeable with_i without_places
returns-then-word-eq0 c =
    let a = c.args in
    let y = machine_of a.s a.ns.now a.bs.now in
    let h = c.in-Some.ensures in
    let is : c.in-Some.j ≡ a.c.b - 1 = omega (arith, h) in
    let frozen = rw is at (sym c.word.ensures ∙ c.if-word-eq0.true) in
    going c.go.ensures.1 (c.go.ensures.0 _ _ ∙ sym (frozen_36 y _ a.c c.requires.1 (λ z. omega (arith, h, z)) frozen))

-- where the bucket is there and not frozen

module _ (y : Machine) (s : sound y ≡ true) {k : ℕ} {c : Task} (low : k < 8) (at : c.line ≡ 36) (b : c.b ≤ y.state.buckets) where
  invokes : 0 < c.b → (changeable y.buckets (number c.b) ≡ 0 → ⊥) → Invokes k c y.buckets
  invokes there nf =
      let m = link_of y s c.b b in
      record { task = low; line = at; there = there; most = m.most; fits = m.fits; good = m.good there; may_change = nf }

pub insert36-requires : goal.insert36-requires
unfolding changeable
insert36-requires c =
    let a = c.args in
    let h = c.in-Some.ensures in
    let is : c.in-Some.j ≡ a.c.b - 1 = omega (arith, h) in
    let nf : changeable a.bs.now (number a.c.b) ≡ 0 → ⊥ = λ z. c.if-word-eq0.false (c.word.ensures ∙ rw is z) in
    (invokes (machine_of a.s a.ns.now a.bs.now) c.requires.2 c.requires.0 c.requires.1 c.requires.3 (omega (arith, h)) nf, c.if-c-eq1.true, c.requires.2)

pub remove36-requires : goal.remove36-requires
unfolding changeable
remove36-requires c =
    let a = c.args in
    let h = c.in-Some.ensures in
    let is : c.in-Some.j ≡ a.c.b - 1 = omega (arith, h) in
    let nf : changeable a.bs.now (number a.c.b) ≡ 0 → ⊥ = λ z. c.if-word-eq0.false (c.word.ensures ∙ rw is z) in
    (invokes (machine_of a.s a.ns.now a.bs.now) c.requires.2 c.requires.0 c.requires.1 c.requires.3 (omega (arith, h)) nf, c.if-c-eq1.false)
