-- By the stage that the line reaches.
use Rattle.session_state.specs.Handling.{silent, event_effect}
use Rattle.session_state.proofs.Laws.{keeps}
use Rattle.session_lines.specs.KnownMemory.{SoundAt, reached_sound}
use Rattle.session_lines.proofs.Laws.{does_nothing, staged, header_said, header_handled}
use Rattle.session_lines.proofs.header_line.Goals as goal

pub event_line-requires : goal.event_line-requires
unfolding SoundAt
event_line-requires c = reached_sound _ _ _ _ _ c.header_line-t.ensures c.in-OpenedBefore.is

pub returns-in-NextDue : goal.returns-in-NextDue
unfolding staged
returns-in-NextDue c =
    header_handled silent (event_effect _) c.args.s _ _ _ (header_said _ c.args.s _ _) _ c.header_line-t.ensures c.in-NextDue.is (does_nothing _ _ _ _)

pub returns-in-OpenedBy : goal.returns-in-OpenedBy
unfolding staged
returns-in-OpenedBy c =
    header_handled silent (event_effect _) c.args.s _ _ _ (header_said _ c.args.s _ _) _ c.header_line-t.ensures c.in-OpenedBy.is (does_nothing _ _ _ _)

pub returns-in-OpenedBefore : goal.returns-in-OpenedBefore
unfolding staged
returns-in-OpenedBefore c =
    header_handled silent (event_effect _) c.args.s _ _ _ (header_said _ c.args.s _ _) _ c.header_line-t.ensures c.in-OpenedBefore.is c.event_line.ensures

pub returns-in-OpeningRefused : goal.returns-in-OpeningRefused
unfolding staged
returns-in-OpeningRefused c =
    header_handled silent (event_effect _) c.args.s _ _ _ (header_said _ c.args.s _ _) _ c.header_line-t.ensures c.in-OpeningRefused.is
    (keeps _ _ _ _ _ _ c.stop.ensures)

pub returns-in-Incomplete : goal.returns-in-Incomplete
unfolding staged
returns-in-Incomplete c =
    header_handled silent (event_effect _) c.args.s _ _ _ (header_said _ c.args.s _ _) _ c.header_line-t.ensures c.in-Incomplete.is
    (keeps _ _ _ _ _ _ c.stop-in-Incomplete.ensures)
