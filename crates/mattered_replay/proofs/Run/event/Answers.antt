-- `run_event` gives what `event` gives of the event that the words name. Assumes nothing.
use Rattle.spec.specs.Schedule.{event}
use Rattle.schedule_events.specs.Events.{event_asked}
use Rattle.mattered_replay.proofs.Run.event.Goals as goal

pub returns-in-Some : goal.returns-in-Some
unfolding event event_asked
returns-in-Some c =
    let a = c.args in
    rw (c.asked_by.ensures a.task a.tag, c.in-Some.is) (c.start.ensures _ _ c.requires)

pub returns-in-None : goal.returns-in-None
unfolding event event_asked
returns-in-None c =
    let a = c.args in
    rw (c.asked_by.ensures a.task a.tag, c.in-None.is) c.step.ensures
