-- `game_text::event_line` meets its contract: where the session reads no more events the line was outside the grammar. Assumes nothing.
use Rattle.std.specs.Prelude.{if◌then◌else◌}
use Rattle.std.proofs.Common.{Bool, sym, ap}
use Rattle.game_text.specs.Reading.{take_event}
use Rattle.game_text.proofs.Laws.{event_at}
use Rattle.game_text.proofs.event_line.Goals as goal

pub returns-then-reads_events : goal.returns-then-reads_events
unfolding take_event
returns-then-reads_events c =
    let d = c.handle_line-d in
    let b = c.reads_events in
    event_at _ d.result _ _ _ _ d.ensures b.result b.ensures 0 (sym (ap (λ (x : Bool). if x then 0 else 10) c.if-reads_events.true)) _ c.stands.ensures

pub returns-else-reads_events : goal.returns-else-reads_events
unfolding take_event
returns-else-reads_events c =
    let d = c.handle_line-d in
    let b = c.reads_events in
    event_at _ d.result _ _ _ _ d.ensures b.result b.ensures 10 (sym (ap (λ (x : Bool). if x then 0 else 10) c.if-reads_events.false))
    _ c.stands-else-reads_events.ensures
