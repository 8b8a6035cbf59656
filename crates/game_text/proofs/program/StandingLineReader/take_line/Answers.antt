-- A line taken leaves the standing and the pools as `on_line` says. Assumes nothing.
use Rattle.std.proofs.Common.{refl}
use Rattle.game_text.proofs.program.StandingLineReader.take_line.Goals as goal

pub returns : goal.returns
returns c = let s = c.take_line.ensures in rw (s.next, s.nodes, s.buckets) refl
