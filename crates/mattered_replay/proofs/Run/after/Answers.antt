-- `after` reads the words of event i, runs it, and notes the call that it ends: one turn of the fold `replay`. Assumes nothing.
use Rattle.mattered_replay.proofs.Noting.{noted_event}
use Rattle.mattered_replay.proofs.Run.after.Goals as goal

pub returns-clause-turn : goal.returns-clause-turn
returns-clause-turn c =
    let a = c.args in
    noted_event a.events.now a.i _ a.self.count a.calls.now c.word-kind.ensures c.word-k.ensures c.word-tag.ensures
    c.task_of-c.ensures c.event-d.ensures c.note-count.ensures
