use Rattle.std.proofs.Common.{◌≡◌, sym, arith}
use Rattle.spec.specs.Lists.{member}
use Rattle.spec.specs.Lines.{line_32}
use Rattle.laws.specs.StepAt.{step_table, accepted}
use Rattle.lines.proofs.Running.{numbers}
use Rattle.lines.proofs.Giving.{gives_as}
use Rattle.lines_apply.proofs.step.Goals as goal

pub read_head-requires : goal.read_head-requires
read_head-requires c = let n = numbers c.requires in (n.number, n.head)

pub line33-requires : goal.line33-requires
line33-requires c = ((numbers c.requires).number, c.in-33.is)

-- the last is line 36, since no other of the procedure is left
pub line36-requires : goal.line36-requires
unfolding member
line36-requires c =
    let at : c.args.c.line ≡ 36 = grind (arith, c.requires.at_line) in
    ((numbers c.requires).number, at, c.requires.is_sound, c.requires.task.b)

pub returns-in-32 : goal.returns-in-32
unfolding step_table line_32
returns-in-32 c = gives_as (sym (accepted _ _ 32 c.in-32.is _ tt tt)) (c.read_head.ensures _ _)
