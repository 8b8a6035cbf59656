-- The first words, the operations, the tasks.
use Rattle.std.proofs.Common.{ℕ, List, ap, ◌∙◌}
use Rattle.spec.specs.Words.{overwrite}
use Rattle.coop_state_words.specs.StateWords.{operations_words, tasks_words}
use Rattle.coop_c_words.proofs.Whole.{whole}
use Rattle.coop_c_words.proofs.put_state.Goals as goal

pub returns : goal.returns
returns c =
    let s = c.args.s in
    let then-tasks : List ℕ → List ℕ = λ u. overwrite u 325 (tasks_words s.task) in
    let then-operations : List ℕ → List ℕ = λ u. overwrite u 5 (operations_words s.operation) in
    c.put_tasks.ensures ∙ ap then-tasks c.put_operations.ensures
    ∙ ap (λ (u : List ℕ). then-tasks (then-operations u)) c.put_first.ensures ∙ whole s c.args.w.now c.requires
