-- `coop_helpers::do_freeze::step` meets its contract: one of DOFREEZE's lines.
use Rattle.std.proofs.Common.{arith}
use Rattle.coop_spec.specs.Sound.{freeze_lines}
use Rattle.coop_lines.proofs.Laws.{last_line, not_first}
use Rattle.coop_helpers.proofs.do_freeze.step.Goals as goal

pub line127-requires : goal.line127-requires
unfolding freeze_lines
line127-requires c =
    let line = c.args.c.line in
    let not-120 = not_first line 120 _ c.requires.1 (omega arith) in
    let not-121 = not_first line 121 _ not-120 (omega arith) in
    let not-122 = not_first line 122 _ not-121 (omega arith) in
    let not-123 = not_first line 123 _ not-122 (omega arith) in
    last_line line 127 not-123
