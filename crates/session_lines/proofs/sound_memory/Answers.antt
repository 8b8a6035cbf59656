-- A scan where events are read; before the opening, and once the session has stopped, there is nothing to scan.
use Rattle.std.proofs.Common.{sym, ◌∙◌}
use Rattle.session_lines.specs.KnownMemory.{known_reading, known_unread}
use Rattle.session_lines.proofs.sound_memory.Goals as goal

pub returns-then-reads_events : goal.returns-then-reads_events
returns-then-reads_events c = known_reading _ _ _ (sym c.reads_events.ensures ∙ c.if-reads_events.true) c.is_sound.ensures

pub returns-else-reads_events : goal.returns-else-reads_events
returns-else-reads_events c = known_unread _ _ (sym c.reads_events.ensures ∙ c.if-reads_events.false)
