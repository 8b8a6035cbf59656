-- A line leaves the timeline and the pools as `next` says. Assumes nothing.
use Rattle.std.proofs.Common.{refl}
use Rattle.timeline_program.specs.Running.{next, prints}
use Rattle.timeline_program.proofs.ReadingLinePrinter.take_line.Goals as goal

pub returns : goal.returns
unfolding next prints
returns c =
    let t = c.take_line-t.ensures in
    record { next = rw (t.next, t.nodes, t.buckets) refl; prints = t.wrote }
