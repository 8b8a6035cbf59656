-- The first words, then a task in each turn of the loop.
use Rattle.std.proofs.Common.{ℕ, List, ap, ◌∙◌, arith}
use Rattle.spec.specs.Machine.{idle}
use Rattle.spec.specs.Words.{overwrite}
use Rattle.yard_words.proofs.Laws.{tasks_words, whole}
use Rattle.yard_words.proofs.Records.{rest_all, rest_on, rest_none}
use Rattle.yard_words.proofs.put_state.Goals as goal

pub loop-k-init : goal.loop-k-init
loop-k-init c = rest_all _ _ 8 _

pub loop-k-preserved : goal.loop-k-preserved
unfolding idle
loop-k-preserved c =
    let i = c.loop-k.invariant in
    let first = c.put_first.auto.w ∙ c.requires in
    rest_on _ _ 8 _ _ _ _ i c.loop-k-test.true (omega arith) (omega (arith, i.long, first)) c.put_task.ensures c.put_task.auto.w

pub returns : goal.returns
returns c =
    let first : List ℕ → List ℕ = λ u. overwrite u 9 (tasks_words c.args.s.task) in
    rest_none _ _ 8 _ _ _ c.loop-k.invariant c.loop-k-test.false ∙ ap first c.put_first.ensures ∙ whole c.args.s c.args.w.now c.requires
