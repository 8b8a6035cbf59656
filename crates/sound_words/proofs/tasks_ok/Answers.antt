use Rattle.std.proofs.Common.{◌≡◌, ◌≤◌, ◌<◌, ◌&&◌, ◌+◌, ◌*◌, sym, ap, ◌∙◌, arith, Bool, List, ℕ, get_or}
use Rattle.spec.specs.declared.Task.{Task}
use Rattle.spec.specs.Machine.{Machine, idle}
use Rattle.spec.specs.Sound.{sound_task}
use Rattle.sound_records.proofs.Joined.{and_true}
use Rattle.soundness.proofs.Laws.{tasks_on, tasks_no, tasks_end, tasks_joined}
use Rattle.state_words.specs.StateWords.{task_at, tasks_of_words}
use Rattle.state_words.specs.RoundTrip.{fits_long}
use Rattle.sound_words.proofs.Laws.{eight_tasks, task_in, fits_at}
use Rattle.sound_words.proofs.tasks_ok.Goals as goal

-- a test of the record read is one of the list's
read : (w : List ℕ) (y : Machine) (k : ℕ) (x : Task) (r : Bool) {t : Bool} → k < 8 → x ≡ task_at w (9 + 13 * k) → r ≡ sound_task y k x → r ≡ t
    → sound_task y k (get_or (tasks_of_words w) k idle) ≡ t
read w y k x r h is e t = ap (sound_task y k) (task_in w idle k h ∙ sym is) ∙ sym e ∙ t

-- ---- the tasks below T

pub task_at-c-requires : goal.task_at-c-requires
task_at-c-requires c = let long = fits_long c.args.w.now c.requires.0 in omega arith

pub returns-then-not-task_ok : goal.returns-then-not-task_ok
returns-then-not-task_ok c = λ y e t h b.
    let w = c.args.w.now in
    let k = c.loop-k.k in
    let fails = read w y k _ _ (omega arith) c.task_at-c.ensures (c.task_ok.ensures y e t h b) c.if-not-task_ok.true in
    sym (c.loop-k.invariant y e t h b ∙ tasks_no y (tasks_of_words w) k idle (omega (arith, eight_tasks w)) fails)

pub loop-k-preserved : goal.loop-k-preserved
loop-k-preserved c = λ y e t h b.
    let w = c.args.w.now in
    let k = c.loop-k.k in
    let holds = read w y k _ _ (omega arith) c.task_at-c.ensures (c.task_ok.ensures y e t h b) c.if-not-task_ok.false in
    c.loop-k.invariant y e t h b ∙ tasks_on y (tasks_of_words w) k idle (omega (arith, eight_tasks w)) holds

-- ---- the tasks from T on

pub unused_ok-all-requires : goal.unused_ok-all-requires
unused_ok-all-requires c =
    let long = fits_long c.args.w.now c.requires.0 in
    (omega arith, fits_at c.args.w.now c.requires.0 _ c.loop-k-2-test.true)

pub loop-k-2-preserved : goal.loop-k-2-preserved
loop-k-2-preserved c = λ y e t h b.
    let w = c.args.w.now in
    let loop = c.loop-k-2 in
    let from_T : y.state.config.tasks ≤ loop.k = rw t (omega arith) in
    let is = c.unused_ok-all.ensures y loop.k from_T ∙ ap (sound_task y loop.k) (sym (task_in w idle loop.k (omega arith))) in
    let joined = tasks_joined y (tasks_of_words w) loop.k idle (omega (arith, eight_tasks w)) loop.all in
    rw is (joined ∙ loop.invariant y e t h b)

pub returns : goal.returns
returns c = λ y e t h b.
    let w = c.args.w.now in
    let loop = c.loop-k-2 in
    let rest = tasks_end y (tasks_of_words w) loop.k (omega (arith, eight_tasks w)) in
    sym (and_true loop.all) ∙ ap (λ (z : Bool). loop.all && z) (sym rest) ∙ loop.invariant y e t h b
