use Rattle.std.proofs.Common.{rules, arith, ◌≡◌, ◌∙◌, length, sym}
use Rattle.pool.proofs.Laws.{length_mapped}
use Rattle.coop_spec.specs.Machine.{machine_of}
use Rattle.coop_sound.proofs.Laws.{tasks_on, tasks_no, tasks_end}
use Rattle.coop_sound.proofs.tasks_ok.Goals as goal

pub returns-then-not-task_ok : goal.returns-then-not-task_ok
returns-then-not-task_ok c =
    let s = c.args.s in
    let long : length s.task ≡ 8 = search (rules, length_mapped) in
    λ vs ks.
    sym (c.loop-k.invariant vs ks ∙ tasks_no (machine_of s vs) s.task c.loop-k.k _ (omega arith) (sym (c.if-not-task_ok.ensures vs ks)))

pub loop-k-preserved : goal.loop-k-preserved
loop-k-preserved c =
    let s = c.args.s in
    let long : length s.task ≡ 8 = search (rules, length_mapped) in
    λ vs ks. c.loop-k.invariant vs ks ∙ tasks_on (machine_of s vs) s.task c.loop-k.k _ (omega arith) (sym (c.if-not-task_ok.ensures vs ks))

pub returns : goal.returns
returns c =
    let s = c.args.s in
    let long : length s.task ≡ 8 = search (rules, length_mapped) in
    λ vs ks. sym (c.loop-k.invariant vs ks ∙ tasks_end (machine_of s vs) s.task c.loop-k.k (omega arith))
