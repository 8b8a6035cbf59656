use Rattle.std.proofs.Common.{◌+◌, ◌%◌, ◌<◌, sym, ap, ◌∙◌, arith}
use mathlib.Core.Bool.{not}
use Rattle.spec.specs.Machine.{machine_of, idle}
use Rattle.spec.specs.Words.{link}
use Rattle.spec.specs.Held.{first_free}
use Rattle.held_marks.proofs.Round.{free_start, free_end, free_on, free_here}
use Rattle.dispatch.proofs.TurnLaws.{tasks_past, chosen_past, next_found}
use Rattle.dispatch.proofs.next_task.Goals as goal
use Rattle.dispatch.proofs.next_task.Goals.{then-t-gt8-via-then-t-gt8, then-t-gt8-via-else-t-gt8+then-t-last}

pub returns-then-t-gt8 : goal.returns-then-t-gt8
returns-then-t-gt8 c = λ ns bs. elim c.then-t-gt8.branch [
  | then-t-gt8-via-then-t-gt8 w ↦ sym (tasks_past (machine_of c.args.s ns bs) w.if-t-gt8.true)
  | then-t-gt8-via-else-t-gt8+then-t-last w ↦ sym (chosen_past (machine_of c.args.s ns bs) w.if-t-last.true)
]

pub loop-j-init : goal.loop-j-init
loop-j-init c = λ ls x. ap (first_free ls) (free_start ls c.args.s.config.tasks c.args.s.chosen)

pub returns-then-s-k : goal.returns-then-s-k
unfolding idle
returns-then-s-k c = λ ns bs.
    let s = c.args.s in
    let t = s.config.tasks in
    let j = c.loop-j.j in
    let below : (s.chosen + j) % t < t = omega arith in
    next_found (machine_of s ns bs) (omega arith) (omega arith) (link ((s.chosen + j) % t))
    (λ ls x. c.loop-j.invariant ls x ∙ free_here ls t s.chosen j (omega arith) (x ((s.chosen + j) % t) below ∙ ap not c.if-s-k.true))

pub loop-j-preserved : goal.loop-j-preserved
unfolding idle
loop-j-preserved c = λ ls x.
    let s = c.args.s in
    let t = s.config.tasks in
    let j = c.loop-j.j in
    let below : (s.chosen + j) % t < t = omega arith in
    c.loop-j.invariant ls x ∙ free_on ls t s.chosen j (omega arith) (x ((s.chosen + j) % t) below ∙ ap not c.if-s-k.false)

pub returns-else-s-k : goal.returns-else-s-k
unfolding idle
returns-else-s-k c = λ ns bs.
    let s = c.args.s in
    let t = s.config.tasks in
    let j = c.loop-j.j in
    let below : (s.chosen + j) % t < t = omega arith in
    next_found (machine_of s ns bs) (omega arith) (omega arith) 0
    (λ ls x. c.loop-j.invariant ls x ∙ free_on ls t s.chosen j (omega arith) (x ((s.chosen + j) % t) below ∙ ap not c.if-s-k.false)
    ∙ free_end ls t s.chosen (j + 1) (omega arith))
