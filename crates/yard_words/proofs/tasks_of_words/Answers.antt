-- The tasks, one after the other.
use Rattle.std.proofs.Common.{◌+◌, ◌*◌, ◌<◌, length, ◌∙◌, length-set, arith}
use Rattle.std.proofs.lemmas.List.Edits.{fill_by_more}
use Rattle.yard_words.proofs.Made.{filled}
use Rattle.spec.specs.Machine.{idle}
use Rattle.state_words.specs.StateWords.{task_at, tasks_of_words}
use Rattle.yard_words.proofs.tasks_of_words.Goals as goal

pub loop-k-preserved : goal.loop-k-preserved
loop-k-preserved c =
    let l = c.loop-k in
    let room : l.k < length l.c-items = omega (arith, l.invariant.long) in
    record {
      long = length-set l.c-items l.k _ ∙ l.invariant.long;
      below = rw c.task_at.ensures (fill_by_more (λ j. task_at c.args.w.now (9 + 13 * j)) l.c-items l.k idle room l.invariant.below);
    }

pub returns : goal.returns
unfolding tasks_of_words
returns c = filled _ _ 8 _ _ c.loop-k.invariant.long c.loop-k-test.false c.loop-k.invariant.below
