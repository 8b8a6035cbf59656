use Rattle.std.proofs.Common.{◌≡◌, ◌≤◌, ◌*◌, refl, sym, ◌∙◌, arith, length, get_or}
use Rattle.spec.specs.Machine.{machine_of}
use Rattle.spec.specs.Sound.{sound}
use Rattle.pool.proofs.Laws.{numbers}
use Rattle.state_words.specs.StateWords.{state_of_words}
use Rattle.sound_words.proofs.sound.Goals as goal
use Rattle.sound_words.proofs.sound.Goals.{else-numbers_ok-via-else-numbers_ok, else-numbers_ok-via-then-numbers_ok+else-nodes_ok, else-numbers_ok-via-then-numbers_ok+then-nodes_ok+else-buckets_ok}

pub nodes_ok-requires : goal.nodes_ok-requires
unfolding state_of_words
nodes_ok-requires c =
    let y = machine_of (state_of_words c.args.w.now) c.args.ns.now c.args.bs.now in
    let n = numbers y (sym c.numbers_ok.ensures ∙ c.if-numbers_ok.true) in
    let few : get_or c.args.w.now 3 0 ≤ 64 = n.nodes_most in
    let long : length c.args.ns.now ≡ 34 * get_or c.args.w.now 3 0 = n.nodes_length in
    (few, omega arith)

pub buckets_ok-requires : goal.buckets_ok-requires
unfolding state_of_words
buckets_ok-requires c =
    let y = machine_of (state_of_words c.args.w.now) c.args.ns.now c.args.bs.now in
    let n = numbers y (sym c.numbers_ok.ensures ∙ c.if-numbers_ok.true) in
    let few : get_or c.args.w.now 4 0 ≤ 1024 = n.buckets_most in
    let long : length c.args.bs.now ≡ 66 * get_or c.args.w.now 4 0 = n.buckets_length in
    (few, omega arith)

pub tasks_ok-requires : goal.tasks_ok-requires
unfolding state_of_words
tasks_ok-requires c =
    let y = machine_of (state_of_words c.args.w.now) c.args.ns.now c.args.bs.now in
    (c.requires, (numbers y (sym c.numbers_ok.ensures ∙ c.if-numbers_ok.true)).tasks_most)

pub returns-then-buckets_ok : goal.returns-then-buckets_ok
unfolding sound state_of_words
returns-then-buckets_ok c =
    let y = machine_of (state_of_words c.args.w.now) c.args.ns.now c.args.bs.now in
    rw (
      sym c.numbers_ok.ensures ∙ c.if-numbers_ok.true,
      sym (c.nodes_ok.ensures y refl refl refl) ∙ c.if-nodes_ok.true,
      sym c.buckets_ok.ensures ∙ c.if-buckets_ok.true,
    ) (c.tasks_ok.ensures y refl refl refl refl)

pub returns-else-numbers_ok : goal.returns-else-numbers_ok
unfolding sound state_of_words
returns-else-numbers_ok c =
    let y = machine_of (state_of_words c.args.w.now) c.args.ns.now c.args.bs.now in
    elim c.else-numbers_ok.branch [
      | else-numbers_ok-via-else-numbers_ok w ↦ rw (sym c.numbers_ok.ensures ∙ w.if-numbers_ok.false)
      | else-numbers_ok-via-then-numbers_ok+else-nodes_ok w ↦
          rw (sym c.numbers_ok.ensures ∙ w.if-numbers_ok.true, sym (w.nodes_ok.ensures y refl refl refl) ∙ w.if-nodes_ok.false)
      | else-numbers_ok-via-then-numbers_ok+then-nodes_ok+else-buckets_ok w ↦
          rw (
            sym c.numbers_ok.ensures ∙ w.if-numbers_ok.true,
            sym (w.nodes_ok.ensures y refl refl refl) ∙ w.if-nodes_ok.true,
            sym w.buckets_ok.ensures ∙ w.if-buckets_ok.false,
          )
    ]
