-- `coop_calls::has_member::step` meets its contract: one of HASMEMBER's lines.
use Rattle.coop_spec.specs.Sound.{member_lines}
use Rattle.coop_lines.proofs.Laws.{last_line, not_first}
use Rattle.coop_calls.proofs.has_member.step.Goals as goal

pub line113-requires : goal.line113-requires
unfolding member_lines
line113-requires c =
    let line = c.args.c.line in
    let not-112 = not_first line 112 _ c.requires.1 c.if-c-eq112.false in
    (last_line line 113 not-112, c.requires.0)
