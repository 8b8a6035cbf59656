-- The tasks, one after the other.
use Rattle.std.proofs.Common.{◌<◌, length, ◌∙◌, length-set, arith}
use Rattle.std.proofs.lemmas.List.Edits.{fill_by_more}
use Rattle.yard_words.proofs.Made.{filled}
use Rattle.coop_spec.specs.Machine.{idle}
use Rattle.coop_state_words.specs.StateWords.{task_at, task_place, tasks_of_words}
use Rattle.coop_c_words.proofs.tasks_of_words.Goals as goal

pub loop-k-preserved : goal.loop-k-preserved
loop-k-preserved c =
    let l = c.loop-k in
    let room : l.k < length l.all = omega (arith, l.invariant.long) in
    record {
      long = length-set l.all l.k _ ∙ l.invariant.long;
      below = rw c.task_at-c.ensures (fill_by_more (λ j. task_at c.args.w.now (task_place j)) l.all l.k idle room l.invariant.below);
    }

pub returns : goal.returns
unfolding tasks_of_words
returns c = filled _ _ 8 _ _ c.loop-k.invariant.long c.loop-k-test.false c.loop-k.invariant.below
