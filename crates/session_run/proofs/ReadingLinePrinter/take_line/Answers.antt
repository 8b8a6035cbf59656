-- A line leaves the session and the pools as `next` says. Assumes nothing.
use Rattle.std.proofs.Common.{refl}
use Rattle.session_run.specs.Running.{next, prints}
use Rattle.session_run.proofs.ReadingLinePrinter.take_line.Goals as goal

pub returns : goal.returns
unfolding next prints
returns c =
    let t = c.known_line-t.ensures in
    record { next = rw (t.next, t.nodes, t.buckets) refl; prints = t.wrote }
