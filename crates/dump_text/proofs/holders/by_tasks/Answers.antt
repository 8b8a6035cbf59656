-- Where a variable names the record, four prints follow one another; elsewhere the page stays as it was.
use Rattle.dump_text.proofs.Laws.{within_prints, within_then}
use Rattle.dump_text.proofs.holders.by_tasks.Goals.{then-eq+then-of_task-link, else-eq}
use Rattle.dump_text.proofs.holders.by_tasks.Goals as goal

pub loop-v-preserved : goal.loop-v-preserved
loop-v-preserved c = elim c.if-eq.branch [
  | then-eq+then-of_task-link w ↦ rw w.page-is (search (within_prints, within_then))
  | else-eq w ↦ rw w.page-is c.loop-v.invariant
]
