use Rattle.std.proofs.Common.{◌∙◌}
use borrow.Author.Tests.{ne_eqb}
use Rattle.spec.specs.Machine.{with_b, with_i}
use Rattle.spec.specs.Listed.{size_of, place_of, place_for}
use Rattle.laws.specs.StepAt.{AllPass, here}
use Rattle.lines.proofs.Giving.{fails_test, passes_tests}
use Rattle.lines_contains.specs.Reads.{reads_bucket}
use Rattle.lines_contains.proofs.read_bucket.Goals as goal

pub returns-then-node-eq0 : goal.returns-then-node-eq0
returns-then-node-eq0 c = λ bs. fails_test _ _ _ _ (here c.if-node-eq0.true) c.refused.ensures

pub returns-then-b-eq0 : goal.returns-then-b-eq0
unfolding AllPass reads_bucket place_for place_of size_of with_b with_i
returns-then-b-eq0 c = λ bs.
    passes_tests _ _ _ _ c.if-node-eq0.false c.go.ensures.1 (c.go.ensures.0 _ bs ∙ rw (← c.place_for-b.ensures, c.if-b-eq0.true))

pub returns : goal.returns
unfolding AllPass reads_bucket place_for place_of size_of with_b with_i
returns c = λ bs.
    passes_tests _ _ _ _ c.if-node-eq0.false c.go-2.ensures.1
    (c.go-2.ensures.0 _ bs ∙ rw (← c.place_for-b.ensures, ne_eqb _ _ c.if-b-eq0.false))
