use Rattle.std.proofs.Common.{refl, sym, arith}
use Rattle.spec.specs.Lists.{member}
use Rattle.spec.specs.Lines.{line_39}
use Rattle.laws.specs.StepAt.{step_table, tested_at}
use Rattle.lines.proofs.Running.{numbers}
use Rattle.lines.proofs.Giving.{gives_as}
use Rattle.lines_gather.specs.Places.{with_field}
use Rattle.lines_init_bucket.proofs.step.Goals as goal

pub read_place-requires : goal.read_place-requires
read_place-requires c = (numbers c.requires).number

pub line40-requires : goal.line40-requires
line40-requires c = ((numbers c.requires).number, c.in-40.is)

pub line50-requires : goal.line50-requires
line50-requires c = ((numbers c.requires).number, c.in-50.is)

pub line51-requires : goal.line51-requires
line51-requires c = ((numbers c.requires).number, c.in-51.is)

-- a task at none of these four is at one of `lines_gather`
pub step-requires : goal.step-requires
unfolding member
step-requires c = record {
  is_sound = c.requires.is_sound;
  task = c.requires.task;
  at_line = grind (arith, c.requires.at_line);
}

pub returns-in-39 : goal.returns-in-39
unfolding step_table line_39 with_field
returns-in-39 c = gives_as (sym (tested_at _ _ 39 c.in-39.is _ refl)) (c.read_place.ensures _)
