-- `mattered_text::program::decided` meets its contract: by where the input stands. Assumes nothing.
use Rattle.std.proofs.Common.{◌∙◌}
use Rattle.mattered_text.specs.Program.{phase_decides}
use Rattle.mattered_text.proofs.Laws.{some_given}
use Rattle.mattered_text.proofs.program.decided.Goals as goal

pub returns-else-t : goal.returns-else-t
unfolding phase_decides
returns-else-t c = rw (c.in-Events.is, c.if-t.false) (c.is_some.ensures ∙ some_given _ _ c.header_refusal.ensures)
