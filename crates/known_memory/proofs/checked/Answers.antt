-- What a check gives: k mod 8 is k where there is a task k.
use Rattle.std.proofs.Common.{◌≡◌, ◌%◌, sym, ap, ◌∙◌, arith, Some}
use Rattle.spec.specs.Machine.{task_of}
use Rattle.spec.specs.declared.Task.{Task}
use Rattle.soundness.proofs.Laws.{told_sound, told_unsound, no_such_task}
use Rattle.known_memory.proofs.checked.Goals as goal

pub returns-then-not-ok : goal.returns-then-not-ok
returns-then-not-ok c = λ y l e s. sym (told_unsound _ (sym s ∙ c.if-not-ok.true))

pub returns-then-k-lt8 : goal.returns-then-k-lt8
returns-then-k-lt8 c =
    let k = c.args.k in
    λ y l e s.
    let low : k % 8 ≡ k = omega arith in
    sym (told_sound (sym s ∙ c.if-not-ok.false) ∙ ap (λ (z : Task). Some z) (sym (e ∙ ap (task_of y) low)))

pub returns-else-k-lt8 : goal.returns-else-k-lt8
returns-else-k-lt8 c = λ y l e s.
    rw c.idle.ensures (sym (told_sound (sym s ∙ c.if-not-ok.false) ∙ rw (no_such_task y c.args.k l c.if-k-lt8.false)))
