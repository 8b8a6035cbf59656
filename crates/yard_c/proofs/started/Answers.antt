-- `started` meets its contract: a start of the machine that the words are.
use Prim.Native.Nat.{ℕ, ◌≤◌}
use mathlib.Core.Path.{refl, sym, ap, subst, ◌∙◌}
use Rattle.spec.specs.declared.State.{State}
use Rattle.spec.specs.Machine.{machine_of}
use Rattle.spec.specs.Entries.{Reply, start}
use Rattle.yard_answers.specs.Answers.{out_number}
use Rattle.state_words.specs.StateWords.{state_of_words, state_fits}
use Rattle.yard_answers.specs.CallLaws.{ready}
use Rattle.yard_c.proofs.Laws.{start_small, moved_called, start_called, start_spoilt}
use Rattle.yard_c.proofs.started.Goals as goal

pub returns-then-not-ready : goal.returns-then-not-ready
returns-then-not-ready c =
    let a = c.args in
    let w = a.w.now in
    let out = a.out.now in
    let ns = a.ns.now in
    let bs = a.bs.now in
    start_spoilt w out ns bs a.call a.k a.tag (sym c.ready.ensures ∙ c.if-not-ready.true)

pub moved_by_start-m-requires : goal.moved_by_start-m-requires
moved_by_start-m-requires c =
    let g = ready state_fits c.args.w.now c.args.out.now 4 _ refl (sym c.ready.ensures ∙ c.if-not-ready.false) in
    g.is_state

pub put_moved-requires : goal.put_moved-requires
put_moved-requires c =
    let g = ready state_fits c.args.w.now c.args.out.now 4 _ refl (sym c.ready.ensures ∙ c.if-not-ready.false) in
    g.is_state

pub put_output-requires : goal.put_output-requires
put_output-requires c =
    let g = ready state_fits c.args.w.now c.args.out.now 4 _ refl (sym c.ready.ensures ∙ c.if-not-ready.false) in
    let a = c.args in
    let small = start_small (machine_of (state_of_words a.w.now) a.ns.now a.bs.now) a.k a.call a.tag in
    let same = ap (λ (x : Reply). out_number x.out) c.moved_by_start-m.ensures.reply in
    (g.room, subst (λ (n : ℕ). n ≤ 511) (sym same) small)

pub returns : goal.returns
returns c =
    let g = ready state_fits c.args.w.now c.args.out.now 4 _ refl (sym c.ready.ensures ∙ c.if-not-ready.false) in
    let a = c.args in
    let w = a.w.now in
    let out = a.out.now in
    let ns = a.ns.now in
    let bs = a.bs.now in
    let m = c.moved_by_start-m in
    let o = c.put_output in
    let x : State → Reply = λ z. start (machine_of z ns bs) a.k a.call a.tag in
    let settled = moved_called w out ns bs a.k m.result (state_of_words w) refl x m.ensures.reply in
    settled _ o.ensures.0 _ c.put_moved.ensures _ o.ensures.1 ∙ start_called w out ns bs a.call a.k a.tag g
