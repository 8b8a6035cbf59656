-- Three words and a task's, written over words that a state has.
use Rattle.std.proofs.Common.{◌∙◌}
use Rattle.state_words.proofs.Changes.{changed_words}
use Rattle.yard_words.proofs.put_changes.Goals as goal

pub returns : goal.returns
returns c =
    let a = c.args in
    c.put_task.ensures ∙ changed_words a.w.now c.requires.1 a.k a.head a.node a.bucket a.c c.requires.2
