-- `planner::plan` meets its contract. The refusals in the definition's order, and the figures. Assumes nothing.
use Rattle.std.proofs.Common.{◌≡◌, length, rules, sym, ◌∙◌}
use borrow.Author.Tests.{ltb-true, ltb-false}
use Rattle.plans.specs.Plan.{plan_array}
use Rattle.planner.proofs.Stored.{refused_low, refused_high, refused_long, plan_figures}
use Rattle.planner.proofs.plan.Goals as goal
use Rattle.planner.proofs.plan.Goals.{then-version-lt1-via-then-version-lt1, then-version-lt1-via-else-version-lt1+then-version-gt2}

pub returns-then-version-lt1 : goal.returns-then-version-lt1
unfolding plan_array
returns-then-version-lt1 c =
    elim c.then-version-lt1.branch [
      | then-version-lt1-via-then-version-lt1 w ↦ rw (refused_low c.args.version c.args.calls w.if-version-lt1.true)
      | then-version-lt1-via-else-version-lt1+then-version-gt2 w ↦
          rw (refused_high c.args.version c.args.calls w.if-version-lt1.false w.if-version-gt2.true)
    ]

pub returns-then-too_long : goal.returns-then-too_long
unfolding plan_array
returns-then-too_long c =
    let long = ltb-true _ _ (sym c.too_long.ensures ∙ c.if-too_long.true) in
    rw (refused_long c.args.version c.args.calls c.if-version-lt1.false c.if-version-gt2.false long)

pub returns : goal.returns
unfolding plan_array
returns c =
    let room : length c.args.calls.call ≡ 64 = search rules in
    let short = ltb-false _ _ (sym c.too_long.ensures ∙ c.if-too_long.false) in
    rw (plan_figures c.args.version c.args.calls c.if-version-lt1.false c.if-version-gt2.false room short)
    (rw (c.all_figures.ensures, c.with_version-g.ensures, c.config.ensures))
