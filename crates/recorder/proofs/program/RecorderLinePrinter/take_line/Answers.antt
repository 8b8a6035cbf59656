-- A line leaves the recorder and the pools as the definition says. Assumes nothing.
use Rattle.std.proofs.Common.{refl}
use Rattle.recorder.specs.LentRecorder.{after_line, take_line, line_prints}
use Rattle.recorder.proofs.program.RecorderLinePrinter.take_line.Goals as goal

pub record_line-t-requires : goal.record_line-t-requires
record_line-t-requires c = c.requires.0

pub returns : goal.returns
unfolding take_line after_line line_prints
returns c =
    let t = c.record_line-t.ensures in
    record { next = rw (t.next, t.nodes, t.buckets, c.kept_after-kept.ensures) refl; prints = t.wrote }
