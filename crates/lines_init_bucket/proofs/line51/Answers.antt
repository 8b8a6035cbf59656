use Rattle.std.proofs.Common.{sym, ◌∙◌}
use borrow.Author.Tests.{lt-ltb, le-ltb}
use Rattle.spec.specs.Machine.{with_s, with_b, with_m, with_n, with_new_bucket, with_i}
use Rattle.spec.specs.Listed.{size_of, place_of}
use Rattle.spec.specs.Lines.{line_51}
use Rattle.laws.specs.StepAt.{step_table, here, next}
use Rattle.lines.proofs.Giving.{refuses_8, goes}
use Rattle.lines_init_bucket.proofs.line51.Goals as goal
use Rattle.lines_init_bucket.proofs.line51.Goals.{then-c-eq0-via-then-c-eq0, then-c-eq0-via-else-c-eq0+then-z-c, then-i-z, else-i-z}

pub returns-then-c-eq0 : goal.returns-then-c-eq0
unfolding step_table size_of
returns-then-c-eq0 c = λ bs. elim c.then-c-eq0.branch [
  | then-c-eq0-via-then-c-eq0 w ↦ refuses_8 _ _ 51 c.requires.1 (here w.if-c-eq0.true) c.refused.ensures
  | then-c-eq0-via-else-c-eq0+then-z-c w ↦ refuses_8 _ _ 51 c.requires.1 (next (here (rw (← c.size_of-z.ensures) w.if-z-c.true))) c.refused.ensures
]

pub returns-then-is_resize : goal.returns-then-is_resize
unfolding step_table line_51 with_b with_s with_m with_n with_new_bucket with_i size_of
returns-then-is_resize c = λ bs.
    goes _ _ 51 c.requires.1 (c.if-c-eq0.false, rw (← c.size_of-z.ensures) c.if-z-c.false) tt c.go.ensures.1
    (c.go.ensures.0 _ bs ∙ rw (sym c.is_resize.ensures ∙ c.if-is_resize.true, ← c.size_of-z.ensures) (elim c.if-i-z.branch [
      | then-i-z w ↦ rw (w.l-is, lt-ltb _ _ w.if-i-z.true)
      | else-i-z w ↦ rw (w.l-is, le-ltb _ _ w.if-i-z.false)
    ]))

pub returns : goal.returns
unfolding step_table line_51 with_b with_s with_m with_n with_new_bucket with_i place_of size_of
returns c = λ bs.
    goes _ _ 51 c.requires.1 (c.if-c-eq0.false, rw (← c.size_of-z.ensures) c.if-z-c.false) tt c.go-2.ensures.1
    (c.go-2.ensures.0 _ bs ∙ rw (sym c.is_resize.ensures ∙ c.if-is_resize.false, ← c.place_of-b.ensures))
