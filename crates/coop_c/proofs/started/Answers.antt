-- `started` meets its contract: a start of the machine that the words are.
use Prim.Native.Nat.{ℕ, ◌≤◌}
use mathlib.Core.Path.{refl, sym, ap, subst, ◌∙◌}
use Rattle.coop_spec.specs.declared.State.{State}
use Rattle.coop_spec.specs.Machine.{machine_of}
use Rattle.coop_spec.specs.Entries.{Reply, start}
use Rattle.coop_state_words.specs.RoundTrip.{fits_long}
use Rattle.coop_c.specs.Answers.{out_number}
use Rattle.coop_state_words.specs.StateWords.{state_fits}
use Rattle.yard_answers.specs.CallLaws.{ready}
use Rattle.coop_c.proofs.Laws.{start_small, replied, start_called, start_spoilt}
use Rattle.coop_c.proofs.started.Goals as goal

pub returns-then-not-ready : goal.returns-then-not-ready
returns-then-not-ready c =
    let a = c.args in
    let w = a.w.now in
    let out = a.out.now in
    start_spoilt w out a.vs.now a.call a.k a.op a.tag (sym c.ready.ensures ∙ c.if-not-ready.true)

pub state_of_words-s-requires : goal.state_of_words-s-requires
state_of_words-s-requires c =
    let ready-now = ready state_fits c.args.w.now c.args.out.now 4 _ refl (sym c.ready.ensures ∙ c.if-not-ready.false) in
    fits_long _ ready-now.is_state

pub put_state-requires : goal.put_state-requires
put_state-requires c =
    let ready-now = ready state_fits c.args.w.now c.args.out.now 4 _ refl (sym c.ready.ensures ∙ c.if-not-ready.false) in
    fits_long _ ready-now.is_state

pub put_output-requires : goal.put_output-requires
put_output-requires c =
    let ready-now = ready state_fits c.args.w.now c.args.out.now 4 _ refl (sym c.ready.ensures ∙ c.if-not-ready.false) in
    let a = c.args in
    let small = start_small (machine_of c.state_of_words-s.result a.vs.now) a.call a.k a.op a.tag in
    let same = ap (λ (x : Reply). out_number x.out) c.start-r.ensures in
    (ready-now.room, subst (λ (n : ℕ). n ≤ 511) (sym same) small)

pub returns : goal.returns
returns c =
    let ready-now = ready state_fits c.args.w.now c.args.out.now 4 _ refl (sym c.ready.ensures ∙ c.if-not-ready.false) in
    let a = c.args in
    let w = a.w.now in
    let out = a.out.now in
    let vs = a.vs.now in
    let m = c.start-r in
    let o = c.put_output in
    let s = c.state_of_words-s in
    let x : State → Reply = λ z. start (machine_of z vs) a.k a.call a.op a.tag in
    replied w out vs s.result s.ensures x m.result m.ensures _ o.ensures.0 _ c.put_state.ensures _ o.ensures.1
    ∙ start_called w out vs a.call a.k a.op a.tag ready-now
