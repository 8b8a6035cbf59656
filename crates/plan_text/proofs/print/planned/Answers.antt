-- `plan_text::print::planned` meets its contract. T, the refusals of the plan, and its figures. Assumes nothing.
use Rattle.std.proofs.Common.{◌≡◌, length, take, rules, sym, arith}
use lib.Seq.{length-take-le}
use Rattle.session_bytes.proofs.Laws.{append_2}
use Rattle.plans.specs.Plan.{list_of}
use Rattle.plan_text.specs.Text.{size_lines, figures_lines}
use Rattle.plan_text.proofs.PlanLaws.{tasks_none, tasks_many, refusal_printed, few_calls, figures_printed}
use Rattle.plan_text.proofs.print.planned.Goals as goal
use Rattle.plan_text.proofs.print.planned.Goals.{then-tasks-lt1-via-then-tasks-lt1, then-tasks-lt1-via-else-tasks-lt1+then-tasks-gt8}

pub returns-then-tasks-lt1 : goal.returns-then-tasks-lt1
returns-then-tasks-lt1 c =
    let calls = list_of c.args.calls in
    elim c.then-tasks-lt1.branch [
      | then-tasks-lt1-via-then-tasks-lt1 w ↦ rw (tasks_none c.args.tasks c.args.version calls w.if-tasks-lt1.true) c.refusal.ensures
      | then-tasks-lt1-via-else-tasks-lt1+then-tasks-gt8 w ↦
          rw (tasks_many c.args.tasks c.args.version calls w.if-tasks-lt1.false w.if-tasks-gt8.true) c.refusal.ensures
    ]

pub slice_bounds-figures-end : goal.slice_bounds-figures-end
slice_bounds-figures-end c =
    let room : length c.in-Ok.figures ≡ 64 = search rules in
    omega (arith, few_calls c.args.tasks c.args.version c.args.calls c.if-tasks-lt1.false c.if-tasks-gt8.false c.in-Ok.figures c.in-Ok.ensures)

pub slice_bounds-figures_lines-end : goal.slice_bounds-figures_lines-end
slice_bounds-figures_lines-end c =
    let room : length c.in-Ok.figures ≡ 64 = search rules in
    let few = few_calls c.args.tasks c.args.version c.args.calls c.if-tasks-lt1.false c.if-tasks-gt8.false c.in-Ok.figures c.in-Ok.ensures in
    sym (length-take-le c.args.calls.count c.in-Ok.figures (omega arith))

pub returns-in-Ok : goal.returns-in-Ok
returns-in-Ok c =
    let room : length c.args.calls.call ≡ 64 = search rules in
    rw (figures_printed c.args.tasks c.args.version c.args.calls c.if-tasks-lt1.false c.if-tasks-gt8.false c.in-Ok.figures c.in-Ok.ensures room)
    (record {
      same = search rules;
      shows = append_2 (size_lines c.args.tasks) (figures_lines (take c.args.calls.count c.in-Ok.figures)) _ _ _ c.sizes.ensures.shows
          c.figures_lines.ensures.shows;
    })

pub returns-in-Err : goal.returns-in-Err
returns-in-Err c =
    rw (refusal_printed c.args.tasks c.args.version c.args.calls c.if-tasks-lt1.false c.if-tasks-gt8.false c.in-Err.r c.in-Err.ensures)
    (rw c.number.ensures at c.refusal-in-Err.ensures)
