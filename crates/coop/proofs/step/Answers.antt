-- Each early return is a refusal of `step`; else the procedure that has the task's line.
use Rattle.std.proofs.Common.{◌≡◌, ◌<◌, ℕ, List, [], ◌∷◌, length, refl, sym, ap, ◌∙◌, true, false, not, rules, arith, suc}
use mathlib.Core.Path.{subst}
use borrow.Author.Tests.{lt-ltb, le-ltb}
use Rattle.laws.specs.Tests.{if_false}
use Rattle.coop_spec.specs.declared.Refusal.TheVariants.{Idle}
use Rattle.spec.specs.Lists.{member, every}
use Rattle.pool.proofs.Laws.{length_mapped}
use Rattle.coop_spec.specs.declared.State.{State}
use Rattle.coop_spec.specs.declared.Task.{Task}
use Rattle.coop_spec.specs.Machine.{machine_of, task_of}
use Rattle.coop_spec.specs.Sound.{invoke_lines, member_lines, freeze_lines, help_lines, sound}
use Rattle.coop_spec.specs.Entries as entries
use Rattle.coop_spec.specs.Entries.{refuse, step_running}
use Rattle.coop_lines.specs.Reply.{Ready}
use Rattle.coop_lines.proofs.Laws.{last_line}
use Rattle.coop.proofs.Laws.{every_line, narrow}
use Rattle.coop.proofs.Facts.{ready, line_known}
use Rattle.coop.proofs.step.Goals as goal

-- what is known where the line of a running task is looked at
record Looked (s : State) (vs : List ℕ) (k : ℕ) (x : Task) : Type 0 where
  goes : entries.step (machine_of s vs) k ≡ step_running (machine_of s vs) k x
  able : Ready s vs x
  line : member x.line every_line ≡ true

looked : (s : State) (vs : List ℕ) (k : ℕ) (x : Task) → length s.task ≡ 8 → sound (machine_of s vs) ≡ true → k < s.tasks
    → x ≡ task_of (machine_of s vs) k → x.running ≡ true → Looked s vs k x
unfolding entries.step
looked s vs k x eight ok below same run =
    let y = machine_of s vs in
    let runs : (task_of y k).running ≡ true = rw (← same) run in
    let on = if_false (not (task_of y k).running) (refuse Idle y) (step_running y k (task_of y k)) (ap not runs) in
    record {
      goes = rw (ok, lt-ltb _ _ below) (on ∙ ap (step_running y k) (sym same));
      able = subst (λ (c : Task). Ready s vs c) (sym same) (ready s vs ok k eight below runs);
      line = rw same (line_known s vs ok k eight below runs);
    }

-- ---- the refusals

pub returns-then-not-sound : goal.returns-then-not-sound
unfolding entries.step
returns-then-not-sound c = rw (sym c.sound.ensures ∙ c.if-not-sound.true) (c.refused.ensures _)

pub returns-then-s-k : goal.returns-then-s-k
unfolding entries.step
returns-then-s-k c = rw (sym c.sound.ensures ∙ c.if-not-sound.false, le-ltb _ _ c.if-s-k.true) (c.refused-then-s-k.ensures _)

pub returns-then-not-running : goal.returns-then-not-running
unfolding entries.step
returns-then-not-running c =
    let vs = c.args.vs.now in
    let idle : (task_of (machine_of c.args.s vs) c.args.k).running ≡ false = rw (← c.task-c.ensures vs) c.if-not-running.true in
    rw (sym c.sound.ensures ∙ c.if-not-sound.false, lt-ltb _ _ c.if-s-k.false, idle) (c.refused-then-not-running.ensures vs)

-- ---- the procedures

pub step-requires : goal.step-requires
unfolding member every invoke_lines
step-requires c =
    let vs = c.args.vs.now in
    let eight : length c.args.s.task ≡ 8 = search (rules, length_mapped) in
    let here =
    looked c.args.s vs c.args.k c.task-c.result eight (sym c.sound.ensures ∙ c.if-not-sound.false) c.if-s-k.false
    (c.task-c.ensures vs) c.if-not-running.false in
    (here.able, narrow 0 109 c.task-c.result.line invoke_lines (omega arith) (omega arith) every_line refl here.line)

pub returns-then-line-lt109 : goal.returns-then-line-lt109
returns-then-line-lt109 c =
    let vs = c.args.vs.now in
    let eight : length c.args.s.task ≡ 8 = search (rules, length_mapped) in
    let here =
    looked c.args.s vs c.args.k c.task-c.result eight (sym c.sound.ensures ∙ c.if-not-sound.false) c.if-s-k.false
    (c.task-c.ensures vs) c.if-not-running.false in
    c.step.ensures ∙ sym here.goes

pub line109-requires : goal.line109-requires
unfolding member every
line109-requires c =
    let vs = c.args.vs.now in
    let eight : length c.args.s.task ≡ 8 = search (rules, length_mapped) in
    let here =
    looked c.args.s vs c.args.k c.task-c.result eight (sym c.sound.ensures ∙ c.if-not-sound.false) c.if-s-k.false
    (c.task-c.ensures vs) c.if-not-running.false in
    last_line c.task-c.result.line 109 (narrow 109 112 c.task-c.result.line (109 ∷ []) (omega arith) (omega arith) every_line refl here.line)

pub returns-then-line-lt112 : goal.returns-then-line-lt112
returns-then-line-lt112 c =
    let vs = c.args.vs.now in
    let eight : length c.args.s.task ≡ 8 = search (rules, length_mapped) in
    let here =
    looked c.args.s vs c.args.k c.task-c.result eight (sym c.sound.ensures ∙ c.if-not-sound.false) c.if-s-k.false
    (c.task-c.ensures vs) c.if-not-running.false in
    c.line109.ensures vs ∙ sym here.goes

pub step-requires-then-line-lt117 : goal.step-requires-then-line-lt117
unfolding member every member_lines
step-requires-then-line-lt117 c =
    let vs = c.args.vs.now in
    let eight : length c.args.s.task ≡ 8 = search (rules, length_mapped) in
    let here =
    looked c.args.s vs c.args.k c.task-c.result eight (sym c.sound.ensures ∙ c.if-not-sound.false) c.if-s-k.false
    (c.task-c.ensures vs) c.if-not-running.false in
    (here.able, narrow 112 117 c.task-c.result.line member_lines (omega arith) (omega arith) every_line refl here.line)

pub returns-then-line-lt117 : goal.returns-then-line-lt117
returns-then-line-lt117 c =
    let vs = c.args.vs.now in
    let eight : length c.args.s.task ≡ 8 = search (rules, length_mapped) in
    let here =
    looked c.args.s vs c.args.k c.task-c.result eight (sym c.sound.ensures ∙ c.if-not-sound.false) c.if-s-k.false
    (c.task-c.ensures vs) c.if-not-running.false in
    c.step-then-line-lt117.ensures ∙ sym here.goes

pub line117-requires : goal.line117-requires
unfolding member every
line117-requires c =
    let vs = c.args.vs.now in
    let eight : length c.args.s.task ≡ 8 = search (rules, length_mapped) in
    let here =
    looked c.args.s vs c.args.k c.task-c.result eight (sym c.sound.ensures ∙ c.if-not-sound.false) c.if-s-k.false
    (c.task-c.ensures vs) c.if-not-running.false in
    last_line c.task-c.result.line 117 (narrow 117 120 c.task-c.result.line (117 ∷ []) (omega arith) (omega arith) every_line refl here.line)

pub returns-then-line-lt120 : goal.returns-then-line-lt120
returns-then-line-lt120 c =
    let vs = c.args.vs.now in
    let eight : length c.args.s.task ≡ 8 = search (rules, length_mapped) in
    let here =
    looked c.args.s vs c.args.k c.task-c.result eight (sym c.sound.ensures ∙ c.if-not-sound.false) c.if-s-k.false
    (c.task-c.ensures vs) c.if-not-running.false in
    c.line117.ensures vs ∙ sym here.goes

pub step-requires-then-line-lt129 : goal.step-requires-then-line-lt129
unfolding member every freeze_lines
step-requires-then-line-lt129 c =
    let vs = c.args.vs.now in
    let eight : length c.args.s.task ≡ 8 = search (rules, length_mapped) in
    let here =
    looked c.args.s vs c.args.k c.task-c.result eight (sym c.sound.ensures ∙ c.if-not-sound.false) c.if-s-k.false
    (c.task-c.ensures vs) c.if-not-running.false in
    (here.able, narrow 120 129 c.task-c.result.line freeze_lines (omega arith) (omega arith) every_line refl here.line)

pub returns-then-line-lt129 : goal.returns-then-line-lt129
returns-then-line-lt129 c =
    let vs = c.args.vs.now in
    let eight : length c.args.s.task ≡ 8 = search (rules, length_mapped) in
    let here =
    looked c.args.s vs c.args.k c.task-c.result eight (sym c.sound.ensures ∙ c.if-not-sound.false) c.if-s-k.false
    (c.task-c.ensures vs) c.if-not-running.false in
    c.step-then-line-lt129.ensures ∙ sym here.goes

pub step-requires-2 : goal.step-requires-2
unfolding member every help_lines
step-requires-2 c =
    let vs = c.args.vs.now in
    let eight : length c.args.s.task ≡ 8 = search (rules, length_mapped) in
    let here =
    looked c.args.s vs c.args.k c.task-c.result eight (sym c.sound.ensures ∙ c.if-not-sound.false) c.if-s-k.false
    (c.task-c.ensures vs) c.if-not-running.false in
    (here.able, narrow 129 (suc c.task-c.result.line) c.task-c.result.line help_lines (omega arith) (omega arith) every_line refl here.line)

pub returns : goal.returns
returns c =
    let vs = c.args.vs.now in
    let eight : length c.args.s.task ≡ 8 = search (rules, length_mapped) in
    let here =
    looked c.args.s vs c.args.k c.task-c.result eight (sym c.sound.ensures ∙ c.if-not-sound.false) c.if-s-k.false
    (c.task-c.ensures vs) c.if-not-running.false in
    c.step-2.ensures ∙ sym here.goes
