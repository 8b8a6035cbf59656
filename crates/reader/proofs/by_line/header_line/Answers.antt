-- `reader::by_line::header_line` meets its contract: by the stage that the line reaches. Assumes nothing.
use Rattle.std.proofs.Common.{ap, rules}
use Rattle.session_lines.specs.KnownMemory.{SoundAt, reached_sound}
use Rattle.recording.specs.declared.ReaderPhase.TheVariants.{Due, Event}
use Rattle.reader_state.specs.Standing.{reader_of, decided}
use Rattle.reader.proofs.Parts.{read_as, kept_as}
use Rattle.reader.proofs.Turns.{staged, header_read}
use Rattle.reader.proofs.by_line.header_line.Goals as goal

pub turn_line-requires : goal.turn_line-requires
unfolding SoundAt
turn_line-requires c = reached_sound _ _ _ _ _ c.header_line-t.ensures c.in-OpenedBefore.is

pub returns-in-NextDue : goal.returns-in-NextDue
unfolding staged
returns-in-NextDue c =
    let a = c.args in
    header_read a.r a.ns.now a.bs.now _ (search rules) _ c.header_line-t.ensures c.in-NextDue.is
    (read_as _ _ _ _ _ (ap (reader_of (Due _) _ _) c.next_number-number.ensures) (kept_as _ _ _))

pub returns-in-OpenedBy : goal.returns-in-OpenedBy
unfolding staged
returns-in-OpenedBy c =
    let a = c.args in
    header_read a.r a.ns.now a.bs.now _ (search rules) _ c.header_line-t.ensures c.in-OpenedBy.is
    (read_as _ _ _ _ _ (ap (reader_of Event _ _) c.next_number-number.ensures) (kept_as _ _ _))

pub returns-in-OpenedBefore : goal.returns-in-OpenedBefore
unfolding staged
returns-in-OpenedBefore c =
    let a = c.args in
    header_read a.r a.ns.now a.bs.now _ (search rules) _ c.header_line-t.ensures c.in-OpenedBefore.is c.turn_line.ensures

pub returns-in-OpeningRefused : goal.returns-in-OpeningRefused
unfolding staged decided
returns-in-OpeningRefused c =
    let a = c.args in
    header_read a.r a.ns.now a.bs.now _ (search rules) _ c.header_line-t.ensures c.in-OpeningRefused.is
    (read_as _ _ _ _ _ c.decided.ensures (kept_as _ _ _))

pub returns-in-Incomplete : goal.returns-in-Incomplete
unfolding staged decided
returns-in-Incomplete c =
    let a = c.args in
    header_read a.r a.ns.now a.bs.now _ (search rules) _ c.header_line-t.ensures c.in-Incomplete.is
    (read_as _ _ _ _ _ c.decided-in-Incomplete.ensures (kept_as _ _ _))
