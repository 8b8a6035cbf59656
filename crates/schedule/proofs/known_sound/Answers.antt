-- What a check of sound memory gives: k mod 8 is k where there is a task k.
use Rattle.std.proofs.Common.{◌≡◌, ◌%◌, refl, sym, ap, ◌∙◌, arith, Some}
use Rattle.spec.specs.Machine.{task_of}
use Rattle.spec.specs.declared.Task.{Task}
use Rattle.soundness.proofs.Laws.{told_sound, no_such_task}
use Rattle.schedule.proofs.known_sound.Goals as goal

pub returns-then-k-lt8 : goal.returns-then-k-lt8
returns-then-k-lt8 c =
    let k = c.args.k in
    λ y l e.
    let low : k % 8 ≡ k = omega arith in
    sym (told_sound refl ∙ ap (λ (z : Task). Some z) (sym (e ∙ ap (task_of y) low)))

pub returns-else-k-lt8 : goal.returns-else-k-lt8
returns-else-k-lt8 c = λ y l e. rw c.idle-task.ensures (sym (told_sound refl ∙ rw (no_such_task y c.args.k l c.if-k-lt8.false)))
