-- The marks are the bucket's version and those of the running tasks.
use Rattle.held_marks.proofs.Laws.{none, onto, by_number}
use Rattle.spec.specs.Lists.{concat_map}
use Rattle.coop_spec.specs.Held.{held_versions, free_version}
use Rattle.coop_pool.proofs.taking.free_version.Goals as goal

pub returns : goal.returns
unfolding free_version held_versions concat_map
returns c =
    let first = c.first_unmarked.ensures _ (onto (onto (none 1024) c.mark.ensures) c.mark_tasks.ensures) in
    λ vs. by_number c.first_unmarked.result first
