-- `coop_calls::invoke::step` meets its contract: one of INVOKE's lines.
use Rattle.std.proofs.Common.{arith}
use Rattle.coop_spec.specs.Sound.{invoke_lines}
use Rattle.coop_lines.proofs.Laws.{last_line, not_first}
use Rattle.coop_calls.proofs.invoke.step.Goals as goal

pub line107-requires : goal.line107-requires
unfolding invoke_lines
line107-requires c =
    let line = c.args.c.line in
    let not-95 = not_first line 95 _ c.requires.1 (omega arith) in
    let not-96 = not_first line 96 _ not-95 (omega arith) in
    let not-99 = not_first line 99 _ not-96 (omega arith) in
    let not-100 = not_first line 100 _ not-99 (omega arith) in
    let not-101 = not_first line 101 _ not-100 (omega arith) in
    let not-102 = not_first line 102 _ not-101 (omega arith) in
    last_line line 107 not-102
