use Rattle.std.proofs.Common.{◌≡◌, refl, sym, arith}
use Rattle.spec.specs.Lists.{member}
use Rattle.spec.specs.Lines.{line_44, line_46, line_48, line_52}
use Rattle.laws.specs.StepAt.{step_table, tested_at}
use Rattle.lines.proofs.Running.{numbers, linked}
use Rattle.lines.proofs.Giving.{gives_as}
use Rattle.lines_gather.specs.Places.{with_field}
use Rattle.lines_gather.proofs.step.Goals as goal

-- ---- what each line asks

pub line43-requires : goal.line43-requires
line43-requires c = ((numbers c.requires).number, c.in-43.is)

pub freeze-requires : goal.freeze-requires
freeze-requires c = let l = linked c.requires _ c.requires.task.m in ((numbers c.requires).number, l.most, l.fits)

pub read_place-requires : goal.read_place-requires
read_place-requires c = (numbers c.requires).number

pub line47-requires : goal.line47-requires
line47-requires c = ((numbers c.requires).number, c.in-47.is)

pub freeze-requires-in-48 : goal.freeze-requires-in-48
freeze-requires-in-48 c = let l = linked c.requires _ c.requires.task.m in ((numbers c.requires).number, l.most, l.fits)

pub line49-requires : goal.line49-requires
line49-requires c = let r = c.requires in ((numbers r).number, c.in-49.is, r.is_sound, r.task.m, r.task.n)

pub freeze-requires-in_default : goal.freeze-requires-in_default
freeze-requires-in_default c = let l = linked c.requires _ c.requires.task.n in ((numbers c.requires).number, l.most, l.fits)

-- ---- what it gives

pub returns-in-44 : goal.returns-in-44
unfolding step_table line_44
returns-in-44 c = gives_as (sym (tested_at _ _ 44 c.in-44.is _ refl)) (c.freeze.ensures _)

pub returns-in-46 : goal.returns-in-46
unfolding step_table line_46 with_field
returns-in-46 c = gives_as (sym (tested_at _ _ 46 c.in-46.is _ refl)) (c.read_place.ensures _)

pub returns-in-48 : goal.returns-in-48
unfolding step_table line_48
returns-in-48 c = gives_as (sym (tested_at _ _ 48 c.in-48.is _ refl)) (c.freeze-in-48.ensures _)

-- the last is line 52, since no other of these is left
pub returns-in_default : goal.returns-in_default
unfolding step_table line_52 member
returns-in_default c =
    let at : c.args.c.line ≡ 52 = grind (arith, c.requires.at_line) in
    gives_as (sym (tested_at _ _ 52 at _ refl)) (c.freeze-in_default.ensures _)
