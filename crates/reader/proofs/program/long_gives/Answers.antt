-- `reader::program::long_gives` meets its contract: the two ends of the line. The line that the reader awaits has at most 41 bytes, by the types of its
-- numbers. Assumes nothing.
use Rattle.std.proofs.Common.{◌≡◌, ◌≤◌, rules, refl, arith}
use Rattle.std.specs.Prelude.{Ok, Err, Some, None}
use Rattle.spec.specs.declared.Progress.TheVariants.{At, End}
use Rattle.recording.specs.declared.ReaderPhase.{ReaderPhase}
use Rattle.recording.specs.declared.ReaderPhase.TheVariants.{Due, Event as EventDue, Printed, Listed, Decided}
use Rattle.reader_state.specs.Standing.{line_read}
use Rattle.reader.specs.ShortPrinted.{printed_length, at_short, refuse_short, end_short, end_full_short}
use Rattle.reader.proofs.Programs.{long_gives_so}
use Rattle.reader.proofs.program.long_gives.Goals as goal

pub returns : goal.returns
unfolding printed_length
returns c =
    let a = c.args in
    long_gives_so (line_read a.r a.ns.now a.bs.now) _ _ _ _ _ _ c.read_end-unclosed.ensures c.as_bytes.ensures.bytes
    c.read_line-s.ensures c.read_end-closed.ensures (short a.r.phase refl)
  where
    short : (q : ReaderPhase) → c.args.r.phase ≡ q → printed_length q ≤ 41
    short (Printed k (Ok (At l))) e =
        let few : k ≤ 4294967295 = search rules in
        at_short k few l
    short (Printed k (Ok (End x own None))) e =
        let few : k ≤ 4294967295 = search rules in
        let steps : own ≤ 65535 = search rules in
        end_short k few x own steps
    short (Printed k (Ok (End x own (Some n)))) e =
        let few : k ≤ 4294967295 = search rules in
        let steps : own ≤ 65535 = search rules in
        let full : n ≤ 4294967295 = search rules in
        end_full_short k few x own steps n full
    short (Printed k (Err r)) e =
        let few : k ≤ 4294967295 = search rules in
        refuse_short k few r
    short (Due due) e = omega arith
    short EventDue e = omega arith
    short (Listed k) e = omega arith
    short (Decided v) e = omega arith
