use Rattle.std.proofs.Common.{◌≡◌, ◌≤◌, ◌<◌, sym, ap, ◌∙◌, ℕ}
use borrow.Author.Tests.{lt-ltb}
use Rattle.spec.specs.declared.Refusal.TheVariants.{NoTask, Running, Spoilt, Withdrawn}
use Rattle.spec.specs.declared.Config.{Config}
use Rattle.spec.specs.Entries.{withdrawn}
use Rattle.spec.specs.Machine.{with_task, with_state, state_head, state_last_node, state_last_bucket, state_task, set_task, machine_of}
use Rattle.lines.specs.Reply.{changes, settled}
use Rattle.lines.proofs.Giving.{refusing, going}
use Rattle.checked_start.proofs.Laws.{start_spoilt, start_none, start_busy, start_withdrawn, start_goes, spoils, tells, runs_as, below_8}
use Rattle.checked_start.proofs.start_of.Goals as goal

-- task k is one, or is none, by the opening of this state
none_there : {g h : Config} {k : ℕ} → h ≡ g → g.tasks ≤ k → h.tasks ≤ k
none_there e n = rw e n

is_there : {g h : Config} {k : ℕ} → h ≡ g → k < g.tasks → k < h.tasks
is_there e n = rw e n

pub returns-in_default : goal.returns-in_default
returns-in_default c = λ s ns bs opened at_head at_node at-bucket e.
    let a = c.args in
    let y = machine_of s ns bs in
    refusing Spoilt (c.refused.ensures s at_head at_node at-bucket) (start_spoilt y a.k a.call a.tag (spoils y a.k (sym c.in_default.is ∙ e)))

pub returns-then-g-k : goal.returns-then-g-k
returns-then-g-k c = λ s ns bs opened at_head at_node at-bucket e.
    let a = c.args in
    let y = machine_of s ns bs in
    let ok = tells y a.k c.in-Some.c (sym c.in-Some.is ∙ e) in
    refusing NoTask (c.refused-then-g-k.ensures s at_head at_node at-bucket) (start_none y a.k a.call a.tag ok (none_there opened c.if-g-k.true))

pub returns-then-c : goal.returns-then-c
returns-then-c c = λ s ns bs opened at_head at_node at-bucket e.
    let a = c.args in
    let y = machine_of s ns bs in
    let gave = sym c.in-Some.is ∙ e in
    let ok = tells y a.k c.in-Some.c gave in
    let runs = runs_as y a.k c.in-Some.c gave c.if-c.true in
    refusing Running (c.refused-then-c.ensures s at_head at_node at-bucket) (start_busy y a.k a.call a.tag ok (is_there opened c.if-g-k.false) runs)

pub returns-then-withdrawn : goal.returns-then-withdrawn
returns-then-withdrawn c = λ s ns bs opened at_head at_node at-bucket e.
    let a = c.args in
    let y = machine_of s ns bs in
    let gave = sym c.in-Some.is ∙ e in
    let ok = tells y a.k c.in-Some.c gave in
    let rests = runs_as y a.k c.in-Some.c gave c.if-c.false in
    let w = ap (λ (z : Config). withdrawn z a.call a.tag) opened ∙ sym c.withdrawn.ensures ∙ c.if-withdrawn.true in
    let refuses = start_withdrawn y a.k a.call a.tag ok (is_there opened c.if-g-k.false) rests w in
    refusing Withdrawn (c.refused-then-withdrawn.ensures s at_head at_node at-bucket) refuses

pub returns : goal.returns
unfolding set_task with_task with_state state_head state_last_node state_last_bucket state_task settled changes
returns c = λ s ns bs opened at_head at_node at-bucket e.
    let a = c.args in
    let y = machine_of s ns bs in
    let gave = sym c.in-Some.is ∙ e in
    let ok = tells y a.k c.in-Some.c gave in
    let there = is_there opened c.if-g-k.false in
    let rests = runs_as y a.k c.in-Some.c gave c.if-c.false in
    let low = lt-ltb _ _ (below_8 y a.k c.in-Some.c gave there) in
    let w = ap (λ (z : Config). withdrawn z a.call a.tag) opened ∙ sym c.withdrawn.ensures ∙ c.if-withdrawn.false in
    let goes = start_goes y a.k a.call a.tag ok there rests w in
    going low (rw (← at_head, ← at_node, ← at-bucket, c.begun-x.ensures, low) (sym goes))
