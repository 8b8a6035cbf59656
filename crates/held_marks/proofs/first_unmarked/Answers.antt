use Rattle.std.proofs.Common.{◌+◌, sym, ap, ◌∙◌, arith}
use Rattle.spec.specs.Held.{first_free}
use Rattle.held_marks.proofs.Round.{turn_marked, free_start, free_end, free_on, free_here}
use Rattle.held_marks.proofs.first_unmarked.Goals as goal

pub loop-j-init : goal.loop-j-init
loop-j-init c = λ ls x. ap (first_free ls) (free_start ls c.args.n c.args.last)

pub returns-then-not-m-k : goal.returns-then-not-m-k
returns-then-not-m-k c = λ ls x.
    let a = c.args in
    let j = c.loop-j.j in
    let free = turn_marked ls a.n a.last j x (omega arith) (omega arith) c.if-not-m-k.true in
    sym (c.loop-j.invariant ls x ∙ free_here ls a.n a.last j (omega arith) free)

pub loop-j-preserved : goal.loop-j-preserved
loop-j-preserved c = λ ls x.
    let a = c.args in
    let j = c.loop-j.j in
    let held = turn_marked ls a.n a.last j x (omega arith) (omega arith) c.if-not-m-k.false in
    c.loop-j.invariant ls x ∙ free_on ls a.n a.last j (omega arith) held

pub returns-else-not-m-k : goal.returns-else-not-m-k
returns-else-not-m-k c = λ ls x.
    let a = c.args in
    let j = c.loop-j.j in
    let held = turn_marked ls a.n a.last j x (omega arith) (omega arith) c.if-not-m-k.false in
    sym (c.loop-j.invariant ls x ∙ free_on ls a.n a.last j (omega arith) held ∙ free_end ls a.n a.last (j + 1) (omega arith))
