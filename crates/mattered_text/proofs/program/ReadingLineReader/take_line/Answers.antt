-- A line taken leaves the standing and the words of the events as `on_line` says. Assumes nothing.
use Rattle.std.proofs.Common.{refl}
use Rattle.mattered_text.proofs.program.ReadingLineReader.take_line.Goals as goal

pub returns : goal.returns
returns c = let s = c.take_line.ensures in rw (s.next, s.words) refl
