-- what is checked is what a check of the machine gives
use Rattle.std.proofs.Common.{◌≡◌, ◌∙◌, length, refl, rules}
use Rattle.spec.specs.Machine.{machine_of, task_of, idle}
use Rattle.pool.proofs.Laws.{length_mapped}
use Rattle.known_memory.proofs.start.Goals as goal

pub returns : goal.returns
unfolding task_of idle
returns c = λ ns bs e.
    let s = c.args.s in
    let eight : length s.task ≡ 8 = search (rules, length_mapped) in
    let told = c.checked-d.ensures (machine_of s ns bs) eight refl e in
    c.settle.ensures ns bs ∙ (c.start-m.ensures ns bs told).reply
