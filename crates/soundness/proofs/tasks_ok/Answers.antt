use Rattle.std.proofs.Common.{◌≡◌, ◌≤◌, sym, ap, ◌∙◌, arith, rules, length, get_or, Some}
use Rattle.pool.proofs.Laws.{length_mapped}
use Rattle.spec.specs.Machine.{idle, task_of}
use Rattle.spec.specs.declared.State.{State}
use Rattle.soundness.proofs.Laws.{tasks_on, tasks_no, tasks_end, tasks_joined, joined_none, joined_all, told_sound, told_unsound, no_such_task}
use Rattle.soundness.proofs.tasks_ok.Goals as goal

-- what the records' tests ask of the machine, for one with this state
tasks_of : {r s : State} → r ≡ s → r.config.tasks ≡ s.config.tasks
tasks_of e = ap (λ (z : State). z.config.tasks) e

nodes_of : {r s : State} → r ≡ s → r.nodes ≡ s.nodes
nodes_of e = ap (λ (z : State). z.nodes) e

buckets_of : {r s : State} → r ≡ s → r.buckets ≡ s.buckets
buckets_of e = ap (λ (z : State). z.buckets) e

pub returns-then-not-task_ok : goal.returns-then-not-task_ok
returns-then-not-task_ok c = λ y e s.
    let ts = c.args.s.task in
    let len : length ts ≡ 8 = search (rules, length_mapped) in
    let k = c.loop-k.k in
    let fails = sym (c.task_ok.ensures y e (tasks_of s) (nodes_of s) (buckets_of s)) ∙ c.if-not-task_ok.true in
    let none = c.loop-k.invariant y e s ∙ tasks_no y ts k _ (omega arith) fails in
    sym (told_unsound _ none)

pub loop-k-preserved : goal.loop-k-preserved
loop-k-preserved c = λ y e s.
    let ts = c.args.s.task in
    let len : length ts ≡ 8 = search (rules, length_mapped) in
    let k = c.loop-k.k in
    let holds = sym (c.task_ok.ensures y e (tasks_of s) (nodes_of s) (buckets_of s)) ∙ c.if-not-task_ok.false in
    c.loop-k.invariant y e s ∙ tasks_on y ts k _ (omega arith) holds

pub loop-k-2-preserved : goal.loop-k-2-preserved
loop-k-2-preserved c = λ y e s.
    let ts = c.args.s.task in
    let len : length ts ≡ 8 = search (rules, length_mapped) in
    let loop = c.loop-k-2 in
    let from_T : y.state.config.tasks ≤ loop.k = rw (tasks_of s) (omega arith) in
    rw (c.unused_ok-all.ensures y loop.k from_T) (tasks_joined y ts loop.k _ (omega arith) loop.all ∙ loop.invariant y e s)

pub returns-then-not-all : goal.returns-then-not-all
returns-then-not-all c = λ y e s.
    let loop = c.loop-k-2 in
    sym (told_unsound _ (joined_none loop.all _ (loop.invariant y e s) c.if-not-all.true))

-- ---- the record of task j

pub returns-then-j-lt8 : goal.returns-then-j-lt8
unfolding task_of idle
returns-then-j-lt8 c = λ y e s.
    let ts = c.args.s.task in
    let len : length ts ≡ 8 = search (rules, length_mapped) in
    let loop = c.loop-k-2 in
    let all = joined_all loop.all _ (loop.invariant y e s) c.if-not-all.false (tasks_end y ts loop.k (omega arith)) in
    sym (told_sound all ∙ ap (λ (z : State). Some (get_or z.task c.args.j idle)) s)

pub returns-else-j-lt8 : goal.returns-else-j-lt8
returns-else-j-lt8 c = λ y e s.
    let ts = c.args.s.task in
    let len : length ts ≡ 8 = search (rules, length_mapped) in
    let loop = c.loop-k-2 in
    let all = joined_all loop.all _ (loop.invariant y e s) c.if-not-all.false (tasks_end y ts loop.k (omega arith)) in
    let none = no_such_task y c.args.j (ap (λ (z : State). length z.task) s ∙ len) c.if-j-lt8.false in
    rw c.idle-task.ensures (sym (told_sound all ∙ rw none))
