use Rattle.std.proofs.Common.{◌≡◌, refl, sym, ◌∙◌, arith, false}
use Rattle.spec.specs.Machine.{machine_of}
use Rattle.spec.specs.Sound.{sound}
use Rattle.pool.proofs.Laws.{numbers}
use Rattle.soundness.proofs.Laws.{told_unsound}
use Rattle.soundness.proofs.check.Goals as goal
use Rattle.soundness.proofs.check.Goals.{else-numbers_ok-via-else-numbers_ok, else-numbers_ok-via-then-numbers_ok+else-nodes_ok, else-numbers_ok-via-then-numbers_ok+then-nodes_ok+else-buckets_ok}

pub nodes_ok-requires : goal.nodes_ok-requires
nodes_ok-requires c =
    let y = machine_of c.args.s c.args.ns.now c.args.bs.now in
    let n = numbers y (sym c.numbers_ok.ensures ∙ c.if-numbers_ok.true) in
    omega arith

pub buckets_ok-requires : goal.buckets_ok-requires
buckets_ok-requires c =
    let y = machine_of c.args.s c.args.ns.now c.args.bs.now in
    let n = numbers y (sym c.numbers_ok.ensures ∙ c.if-numbers_ok.true) in
    omega arith

pub tasks_ok-requires : goal.tasks_ok-requires
tasks_ok-requires c =
    let y = machine_of c.args.s c.args.ns.now c.args.bs.now in
    let n = numbers y (sym c.numbers_ok.ensures ∙ c.if-numbers_ok.true) in
    omega arith

pub returns-then-buckets_ok : goal.returns-then-buckets_ok
unfolding sound
returns-then-buckets_ok c =
    let y = machine_of c.args.s c.args.ns.now c.args.bs.now in
    rw (
      sym c.numbers_ok.ensures ∙ c.if-numbers_ok.true,
      sym (c.nodes_ok.ensures y refl refl refl) ∙ c.if-nodes_ok.true,
      sym c.buckets_ok.ensures ∙ c.if-buckets_ok.true,
    ) (c.tasks_ok.ensures y refl refl)

pub returns-else-numbers_ok : goal.returns-else-numbers_ok
unfolding sound
returns-else-numbers_ok c =
    let y = machine_of c.args.s c.args.ns.now c.args.bs.now in
    let none : sound y ≡ false = elim c.else-numbers_ok.branch [
      | else-numbers_ok-via-else-numbers_ok w ↦ rw (sym c.numbers_ok.ensures ∙ w.if-numbers_ok.false)
      | else-numbers_ok-via-then-numbers_ok+else-nodes_ok w ↦
          rw (sym c.numbers_ok.ensures ∙ w.if-numbers_ok.true, sym (w.nodes_ok.ensures y refl refl refl) ∙ w.if-nodes_ok.false)
      | else-numbers_ok-via-then-numbers_ok+then-nodes_ok+else-buckets_ok w ↦
          rw (
            sym c.numbers_ok.ensures ∙ w.if-numbers_ok.true,
            sym (w.nodes_ok.ensures y refl refl refl) ∙ w.if-nodes_ok.true,
            sym w.buckets_ok.ensures ∙ w.if-buckets_ok.false,
          )
    ] in
    sym (told_unsound _ none)
