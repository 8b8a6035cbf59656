use Rattle.std.proofs.Common.{sym, ◌∙◌, arith}
use borrow.Author.Tests.{not-true, not-false}
use Rattle.spec.specs.declared.Refusal.TheVariants.{NoTask, Idle, Spoilt}
use Rattle.spec.specs.Machine.{machine_of}
use Rattle.lines.specs.Running.{contains_lines, resize_lines, apply_lines, init_bucket_lines}
use Rattle.lines.proofs.Giving.{gives_as, refusing}
use Rattle.checked_start.proofs.Laws.{step_spoilt, step_none, step_idle, spoils, tells, runs_as}
use Rattle.checked_step.proofs.Passed.{goes, facts, runs}
use Rattle.checked_step.proofs.Ranges.{at_contains, at_resize, at_apply, at_init_bucket}
use Rattle.checked_step.proofs.step.Goals as goal

-- ---- the refusals

pub returns-in_default : goal.returns-in_default
returns-in_default c =
    let a = c.args in
    let y = machine_of a.s a.ns.now a.bs.now in
    refusing Spoilt c.refused.ensures (step_spoilt y a.k (spoils y a.k (sym c.in_default.is ∙ c.requires)))

pub returns-then-s-k : goal.returns-then-s-k
returns-then-s-k c =
    let a = c.args in
    let y = machine_of a.s a.ns.now a.bs.now in
    refusing NoTask c.refused-then-s-k.ensures (step_none y a.k (tells y a.k c.in-Some.c (sym c.in-Some.is ∙ c.requires)) c.if-s-k.true)

pub returns-then-not-c : goal.returns-then-not-c
returns-then-not-c c =
    let a = c.args in
    let y = machine_of a.s a.ns.now a.bs.now in
    let x = c.in-Some.c in
    let gave = sym c.in-Some.is ∙ c.requires in
    refusing Idle c.refused-then-not-c.ensures
    (step_idle y a.k (tells y a.k x gave) c.if-s-k.false (runs_as y a.k x gave (not-true _ c.if-not-c.true)))

-- ---- the four procedures

pub step-requires : goal.step-requires
step-requires c =
    let a = c.args in
    let y = machine_of a.s a.ns.now a.bs.now in
    let x = c.in-Some.c in
    let gave = sym c.in-Some.is ∙ c.requires in
    let r = not-false _ c.if-not-c.false in
    runs y a.k x gave r contains_lines (at_contains _ _ (facts y a.k x gave r).line (omega arith))

pub returns-in-0-to-19 : goal.returns-in-0-to-19
returns-in-0-to-19 c =
    let a = c.args in
    let y = machine_of a.s a.ns.now a.bs.now in
    let gave = sym c.in-Some.is ∙ c.requires in
    gives_as (sym (goes y a.k c.in-Some.c gave (not-false _ c.if-not-c.false))) c.step.ensures

pub step-requires-in-20-to-31 : goal.step-requires-in-20-to-31
step-requires-in-20-to-31 c =
    let a = c.args in
    let y = machine_of a.s a.ns.now a.bs.now in
    let x = c.in-Some.c in
    let gave = sym c.in-Some.is ∙ c.requires in
    let r = not-false _ c.if-not-c.false in
    (_, runs y a.k x gave r resize_lines (at_resize _ _ (facts y a.k x gave r).line (omega arith) (omega arith)))

pub returns-in-20-to-31 : goal.returns-in-20-to-31
returns-in-20-to-31 c =
    let a = c.args in
    let y = machine_of a.s a.ns.now a.bs.now in
    let gave = sym c.in-Some.is ∙ c.requires in
    gives_as (sym (goes y a.k c.in-Some.c gave (not-false _ c.if-not-c.false))) (c.step-in-20-to-31.ensures _)

pub step-requires-in-32-to-38 : goal.step-requires-in-32-to-38
step-requires-in-32-to-38 c =
    let a = c.args in
    let y = machine_of a.s a.ns.now a.bs.now in
    let x = c.in-Some.c in
    let gave = sym c.in-Some.is ∙ c.requires in
    let r = not-false _ c.if-not-c.false in
    runs y a.k x gave r apply_lines (at_apply _ _ (facts y a.k x gave r).line (omega arith) (omega arith))

pub returns-in-32-to-38 : goal.returns-in-32-to-38
returns-in-32-to-38 c =
    let a = c.args in
    let y = machine_of a.s a.ns.now a.bs.now in
    let gave = sym c.in-Some.is ∙ c.requires in
    gives_as (sym (goes y a.k c.in-Some.c gave (not-false _ c.if-not-c.false))) c.step-in-32-to-38.ensures

pub step-requires-in_default-line : goal.step-requires-in_default-line
step-requires-in_default-line c =
    let a = c.args in
    let y = machine_of a.s a.ns.now a.bs.now in
    let x = c.in-Some.c in
    let gave = sym c.in-Some.is ∙ c.requires in
    let r = not-false _ c.if-not-c.false in
    runs y a.k x gave r init_bucket_lines (at_init_bucket _ _ (facts y a.k x gave r).line (omega arith))

pub returns-in_default-line : goal.returns-in_default-line
returns-in_default-line c =
    let a = c.args in
    let y = machine_of a.s a.ns.now a.bs.now in
    let gave = sym c.in-Some.is ∙ c.requires in
    gives_as (sym (goes y a.k c.in-Some.c gave (not-false _ c.if-not-c.false))) c.step-in_default-line.ensures
