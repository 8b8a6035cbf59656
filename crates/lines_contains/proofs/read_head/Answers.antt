use Rattle.spec.specs.Machine.{with_t}
use Rattle.spec.specs.Listed.{head_of}
use Rattle.lines.proofs.Giving.{going}
use Rattle.lines_contains.proofs.read_head.Goals as goal

pub returns : goal.returns
unfolding with_t head_of
returns c = λ ns bs. going c.go.ensures.1 (c.go.ensures.0 ns bs)
