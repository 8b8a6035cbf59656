-- `yard_turns` meets its contract: the turns of the machine that the words are.
use mathlib.Core.Path.{◌≡◌, sym, ap, ◌∙◌}
use native.Mathlib.Omega.{arith}
use lib.ListN.{length}
use Rattle.spec.specs.declared.State.{State}
use Rattle.spec.specs.Machine.{machine_of}
use Rattle.spec.specs.Sound.{sound}
use Rattle.state_words.specs.RoundTrip.{fits_long}
use Rattle.turns.specs.Turns.{Written, turns_of, turns_written, turns_most}
use Rattle.yard_c.proofs.Laws.{turns_spoilt, turns_unsound, turns_called}
use Rattle.yard_c.proofs.yard_turns.Goals as goal

pub returns-then-not-state_fits : goal.returns-then-not-state_fits
returns-then-not-state_fits c =
    let a = c.args in
    turns_spoilt a.w.now a.outs.now a.ns.now a.bs.now (sym c.state_fits.ensures ∙ c.if-not-state_fits.true)

pub state_of_words-s-requires : goal.state_of_words-s-requires
state_of_words-s-requires c = fits_long _ (sym c.state_fits.ensures ∙ c.if-not-state_fits.false)

pub returns-then-not-sound : goal.returns-then-not-sound
returns-then-not-sound c =
    let a = c.args in
    let is = ap (λ (z : State). sound (machine_of z c.args.ns.now c.args.bs.now)) c.state_of_words-s.ensures in
    turns_unsound a.w.now a.outs.now a.ns.now a.bs.now (sym c.state_fits.ensures ∙ c.if-not-state_fits.false)
    (sym is ∙ (sym c.sound.ensures ∙ c.if-not-sound.true))

pub run_turns-r-requires : goal.run_turns-r-requires
run_turns-r-requires c =
    (omega arith, sym c.sound.ensures ∙ c.if-not-sound.false)

pub put_state-requires : goal.put_state-requires
put_state-requires c =
    fits_long _ (sym c.state_fits.ensures ∙ c.if-not-state_fits.false)

pub overflow_cast-result : goal.overflow_cast-result
unfolding turns_written
overflow_cast-result c =
    let n = c.turns_room-n.result in
    let most = turns_most n (machine_of c.state_of_words-s.result c.args.ns.now c.args.bs.now) in
    let same : c.run_turns-r.result.turns ≡ length (turns_of n (machine_of c.state_of_words-s.result c.args.ns.now c.args.bs.now)).says =
    ap (λ (x : Written). x.number) c.run_turns-r.ensures in
    omega (arith, same, most, c.turns_room-n.ensures)

pub returns : goal.returns
returns c =
    let a = c.args in
    let s = c.state_of_words-s.ensures in
    let n = c.turns_room-n.result in
    let ok = sym (ap (λ (z : State). sound (machine_of z c.args.ns.now c.args.bs.now)) s) ∙ (sym c.sound.ensures ∙ c.if-not-sound.false) in
    let gave = c.run_turns-r.ensures ∙ ap (λ (z : State). turns_written n (machine_of z c.args.ns.now c.args.bs.now) a.outs.now) s in
    let fits = sym c.state_fits.ensures ∙ c.if-not-state_fits.false in
    turns_called a.w.now a.outs.now a.ns.now a.bs.now fits ok n c.turns_room-n.ensures _ _ _ _ _ gave _ c.put_state.ensures
