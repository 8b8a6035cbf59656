-- A variable's name, the sign after it and its value are printed one after the other.
use Rattle.dump_text.proofs.Laws.{within_prints, within_then}
use Rattle.dump_text.proofs.tasks.variables.Goals as goal

pub loop-v-preserved : goal.loop-v-preserved
loop-v-preserved c = search (within_prints, within_then)
