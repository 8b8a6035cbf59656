-- `dispatch::after_step` meets its contract: by whether the step uses up its turn, and of the others by whether memory is sound. Assumes nothing.
use Rattle.std.proofs.Common.{◌≡◌, sym, ◌∙◌, false, true, arith, ℕ}
use Rattle.spec.specs.Machine.{state_chosen}
use Rattle.dispatch.specs.Turned.{uses_turn}
use Rattle.dispatch.proofs.TurnLaws.{used_if_accepted, used_out, unused_named, unused_spoilt}
use Rattle.dispatch.proofs.after_step.Goals as goal

pub returns-then-uses_turn : goal.returns-then-uses_turn
unfolding state_chosen
returns-then-uses_turn c = used_out c.args.k c.args.r.state _ c.args.r.out (sym c.uses_turn.ensures ∙ c.if-uses_turn.true)

pub returns-in-Err : goal.returns-in-Err
returns-in-Err c =
    let unused = sym c.uses_turn.ensures ∙ c.if-uses_turn.false in
    rw (c.in-Err.is, sym c.sound.ensures ∙ c.if-not-sound.true) (unused_spoilt c.args.k c.args.r.state c.in-Err.why (rw c.in-Err.is at unused))

pub returns-in_default : goal.returns-in_default
returns-in_default c =
    let unused = sym c.uses_turn.ensures ∙ c.if-uses_turn.false in
    rw (c.in-Err.is, sym c.sound.ensures ∙ c.if-not-sound.false) (unused_named c.args.k c.args.r.state c.in-Err.why (rw c.in-Err.is at unused))

pub returns-in_default-2 : goal.returns-in_default-2
returns-in_default-2 c =
    let unused = sym c.uses_turn.ensures ∙ c.if-uses_turn.false in
    let accepted : uses_turn c.args.r.out ≡ true = rw c.in_default.is (used_if_accepted c.in_default.field-0) in
    absurd (let z : true ≡ false = sym accepted ∙ unused in let w : ◌≡◌ {A = ℕ} 0 1 = cc in omega arith)
