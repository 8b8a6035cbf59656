use Rattle.std.proofs.Common.{sym, ◌∙◌}
use Rattle.pool.proofs.Laws.{task_runs, task_idle}
use Rattle.soundness.proofs.task_ok.Goals as goal

pub returns-then-c : goal.returns-then-c
returns-then-c c = λ y e t h b. c.running_ok.ensures y e t h b ∙ sym (task_runs y c.args.k c.args.c c.if-c.true)

pub returns-else-c : goal.returns-else-c
returns-else-c c = λ y e t h b. c.idle_ok.ensures ∙ sym (task_idle y c.args.k c.args.c c.if-c.false)
