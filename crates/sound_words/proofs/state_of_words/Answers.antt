-- the words are sound with some pools, so that a task from T on is idle
use Rattle.sound_words.proofs.Laws.{some_task, idle_past_T}
use Rattle.sound_words.proofs.state_of_words.Goals as goal

pub used_tasks-requires : goal.used_tasks-requires
used_tasks-requires c =
    let w = c.args.w.now in
    let known = c.requires.1 in
    (c.requires.0, some_task w known.0 known.1 known.2, idle_past_T w known.0 known.1 known.2)
