-- `recorder::writing::header_line` meets its contract: by the stage that the line reaches. Assumes nothing.
use Rattle.session_state.proofs.Laws.{keeps, line_as}
use Rattle.session_lines.specs.KnownMemory.{Known, SoundAt, reached_sound}
use Rattle.session_lines.proofs.Laws.{does_nothing, staged, header_handled}
use Rattle.recorder.proofs.Laws.{recorded_said}
use Rattle.recorder.proofs.writing.header_line.Goals as goal

pub after_opening-requires : goal.after_opening-requires
unfolding Known SoundAt
after_opening-requires c = reached_sound _ _ _ _ _ c.header_line-t.ensures c.in-OpenedBy.is

pub after_opening-requires-in-OpenedBefore : goal.after_opening-requires-in-OpenedBefore
unfolding Known SoundAt
after_opening-requires-in-OpenedBefore c = reached_sound _ _ _ _ _ c.header_line-t.ensures c.in-OpenedBefore.is

pub returns-in-NextDue : goal.returns-in-NextDue
unfolding staged
returns-in-NextDue c =
    let a = c.args in
    header_handled _ _ a.s _ _ _ (recorded_said a.k _ a.s _ _) _ c.header_line-t.ensures c.in-NextDue.is
    (line_as _ _ _ _ _ _ _ c.after_line.ensures (does_nothing _ _ _ _))

pub returns-in-OpenedBy : goal.returns-in-OpenedBy
unfolding staged
returns-in-OpenedBy c =
    let a = c.args in
    header_handled _ _ a.s _ _ _ (recorded_said a.k _ a.s _ _) _ c.header_line-t.ensures c.in-OpenedBy.is c.after_opening.ensures

pub returns-in-OpenedBefore : goal.returns-in-OpenedBefore
unfolding staged
returns-in-OpenedBefore c =
    let a = c.args in
    header_handled _ _ a.s _ _ _ (recorded_said a.k _ a.s _ _) _ c.header_line-t.ensures c.in-OpenedBefore.is
    c.after_opening-in-OpenedBefore.ensures

pub returns-in-OpeningRefused : goal.returns-in-OpeningRefused
unfolding staged
returns-in-OpeningRefused c =
    let a = c.args in
    header_handled _ _ a.s _ _ _ (recorded_said a.k _ a.s _ _) _ c.header_line-t.ensures c.in-OpeningRefused.is
    (keeps _ _ _ _ _ _ c.stop.ensures)

pub returns-in-Incomplete : goal.returns-in-Incomplete
unfolding staged
returns-in-Incomplete c =
    let a = c.args in
    header_handled _ _ a.s _ _ _ (recorded_said a.k _ a.s _ _) _ c.header_line-t.ensures c.in-Incomplete.is
    (keeps _ _ _ _ _ _ c.stop-in-Incomplete.ensures)
