-- `coop_helpers::help_finish::step` meets its contract: one of HELPFINISH's lines.
use Rattle.std.proofs.Common.{arith}
use Rattle.coop_spec.specs.Sound.{help_lines}
use Rattle.coop_lines.proofs.Laws.{last_line, not_first}
use Rattle.coop_helpers.proofs.help_finish.step.Goals as goal

pub line140-requires : goal.line140-requires
unfolding help_lines
line140-requires c =
    let line = c.args.c.line in
    let not-129 = not_first line 129 _ c.requires.1 (omega arith) in
    let not-130 = not_first line 130 _ not-129 (omega arith) in
    let not-138 = not_first line 138 _ not-130 (omega arith) in
    let not-139 = not_first line 139 _ not-138 (omega arith) in
    (last_line line 140 not-139, c.requires.0)
