-- `yard_show` meets its contract: a show of the machine that the words are; a bucket with tags to show is one of the pool.
use Prim.Native.Nat.{ℕ, ◌+◌, ◌*◌}
use mathlib.Core.Path.{refl, sym, ap, ◌∙◌}
use lib.ListN.{length, set}
use Rattle.spec.specs.declared.State.{State}
use Rattle.spec.specs.Machine.{machine_of}
use Rattle.spec.specs.Entries.{show}
use Rattle.state_words.specs.RoundTrip.{fits_long}
use Rattle.c_calls.specs.Calls.{called, machine_in}
use Rattle.state_words.specs.StateWords.{state_fits}
use Rattle.yard_answers.specs.CallLaws.{ready}
use Rattle.yard_c.proofs.Laws.{show_spoilt, show_none, show_some, shown_few}
use borrow.Author.Rules.{rules}
use Rattle.yard_c.proofs.yard_show.Goals as goal

pub returns-then-not-ready : goal.returns-then-not-ready
returns-then-not-ready c =
    let a = c.args in
    let w = a.w.now in
    let out = a.out.now in
    let ns = a.ns.now in
    let bs = a.bs.now in
    show_spoilt w out ns bs a.k (sym c.ready.ensures ∙ c.if-not-ready.true)

pub state_of_words-s-requires : goal.state_of_words-s-requires
state_of_words-s-requires c =
    let w = c.args.w.now in
    let out = c.args.out.now in
    let ready-now = ready state_fits w out 1 _ refl (sym c.ready.ensures ∙ c.if-not-ready.false) in
    fits_long w ready-now.is_state

pub returns-then-n-eq0 : goal.returns-then-n-eq0
returns-then-n-eq0 c =
    let a = c.args in
    let w = a.w.now in
    let out = a.out.now in
    let ns = a.ns.now in
    let bs = a.bs.now in
    let shown = ap length c.show-part.ensures ∙ ap (λ (z : State). length (show (machine_of z ns bs) a.k)) c.state_of_words-s.ensures in
    let ready-now = ready state_fits w out 1 _ refl (sym c.ready.ensures ∙ c.if-not-ready.false) in
    show_none w out ns bs a.k ready-now (sym shown ∙ c.if-n-eq0.true)

pub overflow_mul-out : goal.overflow_mul-out
overflow_mul-out c =
    let a = c.args in
    let w = a.w.now in
    let ns = a.ns.now in
    let bs = a.bs.now in
    let shown = ap length c.show-part.ensures ∙ ap (λ (z : State). length (show (machine_of z ns bs) a.k)) c.state_of_words-s.ensures in
    let few = shown_few (machine_in w ns bs) a.k (λ e. c.if-n-eq0.false (shown ∙ e)) in
    let below = few.0 in
    search (rules, below)

pub overflow_add-out : goal.overflow_add-out
overflow_add-out c =
    let a = c.args in
    let w = a.w.now in
    let ns = a.ns.now in
    let bs = a.bs.now in
    let shown = ap length c.show-part.ensures ∙ ap (λ (z : State). length (show (machine_of z ns bs) a.k)) c.state_of_words-s.ensures in
    let few = shown_few (machine_in w ns bs) a.k (λ e. c.if-n-eq0.false (shown ∙ e)) in
    let below = few.0 in
    search (rules, below)

pub bounds-out-0 : goal.bounds-out-0
bounds-out-0 c =
    let w = c.args.w.now in
    let out = c.args.out.now in
    let ready-now = ready state_fits w out 1 _ refl (sym c.ready.ensures ∙ c.if-not-ready.false) in
    let room = ready-now.room in
    search (rules, room)

pub overflow_cast-result : goal.overflow_cast-result
overflow_cast-result c =
    let a = c.args in
    let w = a.w.now in
    let ns = a.ns.now in
    let bs = a.bs.now in
    let shown = ap length c.show-part.ensures ∙ ap (λ (z : State). length (show (machine_of z ns bs) a.k)) c.state_of_words-s.ensures in
    let few = shown_few (machine_in w ns bs) a.k (λ e. c.if-n-eq0.false (shown ∙ e)) in
    let most = few.1 in
    search (rules, shown, most)

pub returns : goal.returns
returns c =
    let a = c.args in
    let w = a.w.now in
    let out = a.out.now in
    let ns = a.ns.now in
    let bs = a.bs.now in
    let shown = ap length c.show-part.ensures ∙ ap (λ (z : State). length (show (machine_of z ns bs) a.k)) c.state_of_words-s.ensures in
    let ready-now = ready state_fits w out 1 _ refl (sym c.ready.ensures ∙ c.if-not-ready.false) in
    let some = show_some w out ns bs a.k ready-now (λ e. c.if-n-eq0.false (shown ∙ e)) in
    ap (λ (n : ℕ). called n w ns bs (set out 0 (66 * a.k + 2))) shown ∙ some
