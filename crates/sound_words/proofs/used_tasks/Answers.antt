-- the eight tasks, one after the other
use Rattle.std.proofs.Common.{◌∙◌, refl, arith}
use Rattle.spec.specs.Lists.{range}
use Rattle.state_words.specs.StateWords.{tasks_of_words}
use Rattle.sound_words.proofs.Laws.{used}
use Rattle.sound_words.proofs.used_tasks.Goals as goal

pub returns : goal.returns
unfolding tasks_of_words range
returns c =
    let is = used c.args.w.now c.args.n c.requires.2 in
    rw (c.task_at.ensures, c.used_task.ensures ∙ is 1 (omega arith), c.used_task-2.ensures ∙ is 2 (omega arith))
    (rw (c.used_task-3.ensures ∙ is 3 (omega arith), c.used_task-4.ensures ∙ is 4 (omega arith), c.used_task-5.ensures ∙ is 5 (omega arith))
    (rw (c.used_task-6.ensures ∙ is 6 (omega arith), c.used_task-7.ensures ∙ is 7 (omega arith)) refl))
