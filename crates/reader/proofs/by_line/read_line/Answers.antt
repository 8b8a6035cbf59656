-- `reader::by_line::read_line` meets its contract. Each phase by the function of that phase. Assumes nothing.
use Rattle.std.proofs.Common.{ap, rules}
use Rattle.recording.specs.declared.ReaderPhase.TheVariants.{Due, Event, Printed, Listed, Decided}
use Rattle.session.specs.Print.{output_line}
use Rattle.recording.specs.Reader.{read_phase}
use Rattle.reader_state.specs.Standing.{with_part, awaits_event, phase_line}
use Rattle.reader.specs.KnownMemory.{awaits_known}
use Rattle.reader.proofs.Parts.{read_as, kept_as, compared_back}
use Rattle.reader.proofs.Turns.{reads_line}
use Rattle.reader.proofs.by_line.read_line.Goals as goal

pub turn_line-requires : goal.turn_line-requires
unfolding awaits_event
turn_line-requires c = awaits_known _ _ _ (ap awaits_event c.in-Event.is) c.requires

pub returns-in-Due : goal.returns-in-Due
unfolding phase_line
returns-in-Due c = reads_line c.args.r (Due c.in-Due.due) c.in-Due.is _ _ _ _ _ _ c.header_line.ensures

pub returns-in-Event : goal.returns-in-Event
unfolding phase_line
returns-in-Event c = reads_line c.args.r Event c.in-Event.is _ _ _ _ _ _ c.turn_line.ensures

pub returns-in-Printed : goal.returns-in-Printed
unfolding phase_line read_phase with_part
returns-in-Printed c =
    let a = c.args in
    let k = c.in-Printed.k in
    let o = c.in-Printed.o in
    reads_line a.r (Printed k o) c.in-Printed.is _ _ _ _ _ _
    (read_as _ _ _ _ _ c.compare_output.ensures
    (compared_back a.r a.ns.now a.bs.now (search rules) (output_line k o) a.line.now Event))

pub returns-in-Listed : goal.returns-in-Listed
unfolding phase_line read_phase
returns-in-Listed c = reads_line c.args.r (Listed c.in-Listed.k) c.in-Listed.is _ _ _ _ _ _ c.listed_line.ensures

pub returns-in-Decided : goal.returns-in-Decided
unfolding phase_line
returns-in-Decided c = reads_line c.args.r (Decided _) c.in-Decided.is _ _ _ _ _ _ (kept_as _ _ _)
