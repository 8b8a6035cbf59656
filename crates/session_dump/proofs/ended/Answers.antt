-- `session_dump::ended` meets its contract: no more is printed than the buffer has room for. Assumes nothing.
use Rattle.std.proofs.Common.{arith}
use Rattle.session.specs.BufferLaws.{append_within}
use Rattle.session_lines.specs.BufferParts.{rest_length}
use Rattle.session_dump.proofs.ended.Goals as goal

pub overflow_add-result : goal.overflow_add-result
overflow_add-result c =
    omega (arith, append_within _ _ _ _ c.handle_line-t.ensures.wrote, rest_length c.args.out.now c.args.due, c.requires)

pub returns : goal.returns
returns c =
    omega (arith, append_within _ _ _ _ c.handle_line-t.ensures.wrote, rest_length c.args.out.now c.args.due, c.requires)
