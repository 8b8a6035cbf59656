-- `coop_step` meets its contract: a step of the machine that the words are.
use Prim.Native.Nat.{ℕ, ◌≤◌}
use mathlib.Core.Path.{refl, sym, ap, subst, ◌∙◌}
use Rattle.coop_spec.specs.declared.State.{State}
use Rattle.coop_spec.specs.Machine.{machine_of}
use Rattle.coop_spec.specs.Entries.{Reply, step}
use Rattle.coop_state_words.specs.RoundTrip.{fits_long}
use Rattle.coop_c.specs.Answers.{out_number}
use Rattle.coop_state_words.specs.StateWords.{state_fits}
use Rattle.yard_answers.specs.CallLaws.{ready}
use Rattle.coop_c.proofs.Laws.{step_small, replied, step_called, step_spoilt}
use Rattle.coop_c.proofs.coop_step.Goals as goal

pub returns-then-not-ready : goal.returns-then-not-ready
returns-then-not-ready c =
    let a = c.args in
    let w = a.w.now in
    let out = a.out.now in
    step_spoilt w out a.vs.now a.k (sym c.ready.ensures ∙ c.if-not-ready.true)

pub state_of_words-s-requires : goal.state_of_words-s-requires
state_of_words-s-requires c =
    let ready-now = ready state_fits c.args.w.now c.args.out.now 4 _ refl (sym c.ready.ensures ∙ c.if-not-ready.false) in
    fits_long _ ready-now.is_state

pub put_state-requires : goal.put_state-requires
put_state-requires c =
    let ready-now = ready state_fits c.args.w.now c.args.out.now 4 _ refl (sym c.ready.ensures ∙ c.if-not-ready.false) in
    fits_long _ ready-now.is_state

pub put_output-requires : goal.put_output-requires
put_output-requires c =
    let ready-now = ready state_fits c.args.w.now c.args.out.now 4 _ refl (sym c.ready.ensures ∙ c.if-not-ready.false) in
    let a = c.args in
    let small = step_small (machine_of c.state_of_words-s.result a.vs.now) a.k in
    let same = ap (λ (x : Reply). out_number x.out) c.step-r.ensures in
    (ready-now.room, subst (λ (n : ℕ). n ≤ 511) (sym same) small)

pub returns : goal.returns
returns c =
    let ready-now = ready state_fits c.args.w.now c.args.out.now 4 _ refl (sym c.ready.ensures ∙ c.if-not-ready.false) in
    let a = c.args in
    let w = a.w.now in
    let out = a.out.now in
    let vs = a.vs.now in
    let m = c.step-r in
    let o = c.put_output in
    let s = c.state_of_words-s in
    let x : State → Reply = λ z. step (machine_of z vs) a.k in
    replied w out m.new.vs s.result s.ensures x m.result m.ensures _ o.ensures.0 _ c.put_state.ensures _ o.ensures.1
    ∙ step_called w out vs a.k ready-now
