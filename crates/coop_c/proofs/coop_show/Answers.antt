-- `coop_show` meets its contract: the tags of a version of the machine that the words are.
use Prim.Native.Nat.{ℕ, ◌+◌, ◌*◌}
use mathlib.Core.Path.{refl, sym, ap, ◌∙◌}
use lib.ListN.{length, set}
use Rattle.coop_spec.specs.declared.State.{State}
use Rattle.coop_spec.specs.Machine.{machine_of}
use Rattle.coop_state_words.specs.RoundTrip.{fits_long}
use Rattle.coop_c.specs.Calls.{called, shown}
use Rattle.coop_state_words.specs.StateWords.{state_fits}
use Rattle.yard_answers.specs.CallLaws.{ready}
use Rattle.coop_c.proofs.Laws.{show_spoilt, show_none, show_some, shown_below}
use borrow.Author.Rules.{rules}
use Rattle.coop_c.proofs.coop_show.Goals as goal

pub returns-then-not-ready : goal.returns-then-not-ready
returns-then-not-ready c =
    let a = c.args in
    let w = a.w.now in
    let out = a.out.now in
    show_spoilt w out a.vs.now a.k (sym c.ready.ensures ∙ c.if-not-ready.true)

pub state_of_words-s-requires : goal.state_of_words-s-requires
state_of_words-s-requires c =
    let w = c.args.w.now in
    let ready-now = ready state_fits w c.args.out.now 1 _ refl (sym c.ready.ensures ∙ c.if-not-ready.false) in
    fits_long w ready-now.is_state

pub returns-then-n-eq0 : goal.returns-then-n-eq0
returns-then-n-eq0 c =
    let a = c.args in
    let w = a.w.now in
    let out = a.out.now in
    let vs = a.vs.now in
    let ready-now = ready state_fits w out 1 _ refl (sym c.ready.ensures ∙ c.if-not-ready.false) in
    let number = c.tags_shown-n.ensures ∙ ap (λ (s : State). length (shown (machine_of s vs) a.k)) c.state_of_words-s.ensures in
    show_none w out vs a.k ready-now (sym number ∙ c.if-n-eq0.true)

pub overflow_mul-out : goal.overflow_mul-out
overflow_mul-out c =
    let a = c.args in
    let below = shown_below c.state_of_words-s.result a.vs.now a.k (λ e. c.if-n-eq0.false (c.tags_shown-n.ensures ∙ e)) in
    search (rules, below)

pub overflow_add-out : goal.overflow_add-out
overflow_add-out c =
    let a = c.args in
    let below = shown_below c.state_of_words-s.result a.vs.now a.k (λ e. c.if-n-eq0.false (c.tags_shown-n.ensures ∙ e)) in
    search (rules, below)

pub bounds-out-0 : goal.bounds-out-0
bounds-out-0 c =
    let a = c.args in
    let ready-now = ready state_fits a.w.now a.out.now 1 _ refl (sym c.ready.ensures ∙ c.if-not-ready.false) in
    let room = ready-now.room in
    search (rules, room)

pub returns : goal.returns
returns c =
    let a = c.args in
    let w = a.w.now in
    let out = a.out.now in
    let vs = a.vs.now in
    let ready-now = ready state_fits w out 1 _ refl (sym c.ready.ensures ∙ c.if-not-ready.false) in
    let number = c.tags_shown-n.ensures ∙ ap (λ (s : State). length (shown (machine_of s vs) a.k)) c.state_of_words-s.ensures in
    let some = show_some w out vs a.k ready-now (λ e. c.if-n-eq0.false (number ∙ e)) in
    ap (λ (n : ℕ). called n w vs (set out 0 (66 * a.k + 2))) number ∙ some
