use Rattle.std.proofs.Common.{sym, ap, ◌∙◌, Some}
use Rattle.spec.specs.declared.Task.{Task}
use Rattle.spec.specs.Machine.{machine_of}
use Rattle.soundness.proofs.Laws.{told_sound, no_such_task}
use Rattle.state_words.specs.StateWords.{state_of_words}
use Rattle.sound_words.proofs.Laws.{eight_tasks, task_is}
use Rattle.sound_words.proofs.known.Goals as goal

pub returns-then-j-lt8 : goal.returns-then-j-lt8
returns-then-j-lt8 c = λ ns bs ok.
    let is = task_is c.args.w.now ns bs c.args.j c.if-j-lt8.true in
    rw c.task_at-task.ensures (sym (told_sound ok ∙ ap (λ (x : Task). Some x) is))

pub returns-else-j-lt8 : goal.returns-else-j-lt8
unfolding state_of_words
returns-else-j-lt8 c = λ ns bs ok.
    let w = c.args.w.now in
    let none = no_such_task (machine_of (state_of_words w) ns bs) c.args.j (eight_tasks w) c.if-j-lt8.false in
    rw c.idle-task.ensures (sym (told_sound ok ∙ rw none))
