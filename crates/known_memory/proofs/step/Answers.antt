-- what is checked is what a check of the machine gives
use Rattle.std.proofs.Common.{◌≡◌, ◌∙◌, length, refl, rules}
use Rattle.spec.specs.Machine.{machine_of, task_of, idle}
use Rattle.pool.proofs.Laws.{length_mapped}
use Rattle.known_memory.proofs.step.Goals as goal

pub step-m-requires : goal.step-m-requires
unfolding task_of idle
step-m-requires c =
    let eight : length c.args.s.task ≡ 8 = search (rules, length_mapped) in
    c.checked-d.ensures (machine_of c.args.s c.args.ns.now c.args.bs.now) eight refl c.requires

pub returns : goal.returns
returns c = c.settle.ensures _ _ ∙ c.step-m.ensures.reply
