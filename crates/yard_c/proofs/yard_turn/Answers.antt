-- `yard_turn` meets its contract: a turn of the machine that the words are.
use Rattle.std.specs.Prelude.{Option, is_some}
use Prim.Native.Nat.{ℕ, ◌-◌}
use mathlib.Core.Path.{◌≡◌, refl, sym, ap, ◌∙◌}
use mathlib.Core.Bool.{Bool, true, not}
use mathlib.Core.List.{List}
use native.Mathlib.Omega.{arith}
use Rattle.spec.specs.declared.State.{State}
use Rattle.spec.specs.declared.Task.{Task}
use Rattle.spec.specs.Machine.{Machine, machine_of, with_chosen, with_state}
use Rattle.spec.specs.Sound.{sound}
use Rattle.spec.specs.Words.{link}
use Rattle.turns.specs.declared.Turn.TheVariants.{Of}
use Rattle.turns.specs.Turn.{gives}
use Rattle.soundness.specs.Told.{checked_of}
use Rattle.soundness.proofs.Laws.{told_is_some}
use Rattle.state_words.specs.RoundTrip.{fits_long}
use Rattle.dispatch.proofs.TurnLaws.{spoilt, nothing_runs, used, unused, unused_kept}
use Rattle.state_words.specs.StateWords.{state_of_words, state_fits}
use Rattle.yard_answers.specs.CallLaws.{ready}
use Rattle.yard_c.proofs.Laws.{turn_spoilt, turn_idle, turn_eight, turn_used, turn_unused}
use Rattle.yard_c.proofs.yard_turn.Goals as goal
use Rattle.yard_c.proofs.yard_turn.Goals.{then-uses_turn, else-uses_turn}

-- what a check told of memory, and what is said of the task that is next
checked : (y : Machine) (k : ℕ) (d : Option Task) → d ≡ checked_of y k → {n b : Bool} → is_some d ≡ not n → n ≡ b → sound y ≡ not b
checked y k d is none e = sym (told_is_some _ _ is) ∙ none ∙ ap not e

same_sound : (ns bs : List ℕ) (s t : State) → s ≡ t → sound (machine_of t ns bs) ≡ true → sound (machine_of s ns bs) ≡ true
same_sound ns bs s t e h = ap (λ (z : State). sound (machine_of z ns bs)) e ∙ h

-- ---- the needs

pub returns-then-not-ready : goal.returns-then-not-ready
returns-then-not-ready c =
    let a = c.args in
    let w = a.w.now in
    let out = a.out.now in
    turn_spoilt w out a.ns.now a.bs.now (sym c.ready.ensures ∙ c.if-not-ready.true)

pub check-e-requires : goal.check-e-requires
check-e-requires c =
    let g = ready state_fits c.args.w.now c.args.out.now 5 _ refl (sym c.ready.ensures ∙ c.if-not-ready.false) in
    g.is_state

pub returns-then-is_none : goal.returns-then-is_none
returns-then-is_none c =
    let a = c.args in
    let g = ready state_fits c.args.w.now c.args.out.now 5 _ refl (sym c.ready.ensures ∙ c.if-not-ready.false) in
    let y = machine_of (state_of_words a.w.now) a.ns.now a.bs.now in
    let no = checked y 0 _ c.check-e.ensures c.is_none.ensures c.if-is_none.true in
    turn_eight a.w.now a.out.now a.ns.now a.bs.now g _ refl _ _ (spoilt y no)

pub state_of_words-s-requires : goal.state_of_words-s-requires
state_of_words-s-requires c =
    let a = c.args in
    let g = ready state_fits c.args.w.now c.args.out.now 5 _ refl (sym c.ready.ensures ∙ c.if-not-ready.false) in
    let y = machine_of (state_of_words a.w.now) a.ns.now a.bs.now in
    (fits_long a.w.now g.is_state, (a.ns.now, a.bs.now, checked y 0 _ c.check-e.ensures c.is_none.ensures c.if-is_none.false))

pub returns-in_default : goal.returns-in_default
returns-in_default c =
    let a = c.args in
    let g = ready state_fits c.args.w.now c.args.out.now 5 _ refl (sym c.ready.ensures ∙ c.if-not-ready.false) in
    let z = machine_of c.state_of_words-s.result a.ns.now a.bs.now in
    let words_sound = checked (machine_of (state_of_words a.w.now) a.ns.now a.bs.now) 0 _ c.check-e.ensures c.is_none.ensures c.if-is_none.false in
    let is_sound = same_sound a.ns.now a.bs.now _ _ c.state_of_words-s.ensures words_sound in
    let none = sym (rw c.in_default.is at (c.next_task.ensures a.ns.now a.bs.now)) in
    turn_idle a.w.now a.out.now a.ns.now a.bs.now g _ c.state_of_words-s.ensures (nothing_runs z is_sound none)

pub known-d-requires : goal.known-d-requires
known-d-requires c =
    let g = ready state_fits c.args.w.now c.args.out.now 5 _ refl (sym c.ready.ensures ∙ c.if-not-ready.false) in
    fits_long c.args.w.now g.is_state

pub step-m-requires : goal.step-m-requires
step-m-requires c =
    let a = c.args in
    let y = machine_of (state_of_words a.w.now) a.ns.now a.bs.now in
    let words_sound = checked y 0 _ c.check-e.ensures c.is_none.ensures c.if-is_none.false in
    rw c.state_of_words-s.ensures (c.known-d.ensures a.ns.now a.bs.now words_sound)

pub put_turned-requires : goal.put_turned-requires
put_turned-requires c =
    let g = ready state_fits c.args.w.now c.args.out.now 5 _ refl (sym c.ready.ensures ∙ c.if-not-ready.false) in
    g.is_state

pub put_named-requires : goal.put_named-requires
put_named-requires c =
    let g = ready state_fits c.args.w.now c.args.out.now 5 _ refl (sym c.ready.ensures ∙ c.if-not-ready.false) in
    let room = g.room in
    omega (arith, room)

pub returns : goal.returns
unfolding with_chosen with_state
returns c =
    let a = c.args in
    let g = ready state_fits c.args.w.now c.args.out.now 5 _ refl (sym c.ready.ensures ∙ c.if-not-ready.false) in
    let m = c.step-m in
    let k = c.in-Some.k in
    let s = c.state_of_words-s.result in
    let z = machine_of c.state_of_words-s.result a.ns.now a.bs.now in
    let words_sound = checked (machine_of (state_of_words a.w.now) a.ns.now a.bs.now) 0 _ c.check-e.ensures c.is_none.ensures c.if-is_none.false in
    let is_sound = same_sound a.ns.now a.bs.now _ _ c.state_of_words-s.ensures words_sound in
    let is_next = sym (rw c.in-Some.is at (c.next_task.ensures a.ns.now a.bs.now)) in
    elim c.if-uses_turn.branch [
      | then-uses_turn x ↦
          let gave = used z k is_next m.result.out _ m.ensures.reply (sym c.uses_turn.ensures ∙ x.if-uses_turn.true) in
          turn_used a.w.now a.out.now a.ns.now a.bs.now g _ c.state_of_words-s.ensures _ _ _ m.result gave _ (x.w-is ∙ x.put_turned.ensures) _ c.put_named.ensures
      | else-uses_turn x ↦
          let no_turn = sym c.uses_turn.ensures ∙ x.if-uses_turn.false in
          let kept = unused_kept z k is_next m.result.out _ m.ensures.reply no_turn in
          let same = ap (λ (u : Machine). machine_of s u.nodes u.buckets) kept in
          let gave = unused z k is_next m.result.out _ m.ensures.reply no_turn is_sound in
          rw x.w-is
          (turn_unused a.w.now a.out.now a.ns.now a.bs.now g _ c.state_of_words-s.ensures _ _ _ m.result.out (ap (gives (Of k m.result.out)) same ∙ gave) _
          c.put_named.ensures)
    ]
