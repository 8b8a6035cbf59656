use Rattle.std.proofs.Common.{◌≡◌, ℕ, refl, ◌∙◌}
use Rattle.spec.specs.declared.Task.{Task}
use Rattle.spec.specs.Machine.{with_b, with_m, with_n}
use Rattle.spec.specs.Listed.{size_of, place_of}
use Rattle.laws.specs.StepAt.{AllPass, here, next}
use Rattle.lines.proofs.Giving.{fails_test, passes_tests}
use Rattle.lines_gather.specs.declared.Field.{Field}
use Rattle.lines_gather.specs.declared.Field.TheVariants.{B, M, N}
use Rattle.lines_gather.specs.Places.{with_field}
use Rattle.lines_gather.proofs.read_place.Goals as goal
use Rattle.lines_gather.proofs.read_place.Goals.{then-node-eq0-via-then-node-eq0, then-node-eq0-via-else-node-eq0+then-size_of-i}

own-kept : (f : Field) (v : ℕ) (c : Task) → (with_field f v c).own ≡ c.own
unfolding with_field with_b with_m with_n
own-kept B v c = refl
own-kept M v c = refl
own-kept N v c = refl

pub returns-then-node-eq0 : goal.returns-then-node-eq0
unfolding size_of
returns-then-node-eq0 c = λ bs. elim c.then-node-eq0.branch [
  | then-node-eq0-via-then-node-eq0 w ↦ fails_test _ _ _ _ (here w.if-node-eq0.true) c.refused.ensures
  | then-node-eq0-via-else-node-eq0+then-size_of-i w ↦
      fails_test _ _ _ _ (next (here (rw (← w.size_of.ensures) w.if-size_of-i.true))) c.refused.ensures
]

pub returns : goal.returns
unfolding AllPass size_of place_of
returns c = λ bs.
    let a = c.args in
    passes_tests _ _ _ _ (c.if-node-eq0.false, rw (← c.size_of.ensures) c.if-size_of-i.false) c.go.ensures.1
    (c.go.ensures.0 _ bs ∙ rw (c.stored.ensures, c.place_of-v.ensures, own-kept a.f _ a.c))
