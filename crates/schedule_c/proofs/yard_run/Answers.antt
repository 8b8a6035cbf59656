-- `yard_run` meets its contract: the run of the machine that the words are. Assumes nothing.
use Rattle.std.proofs.Common.{sym, ap, ◌∙◌}
use Rattle.spec.specs.declared.State.{State}
use Rattle.spec.specs.Lists.{concat_map}
use Rattle.spec.specs.Numbers.{output_words}
use Rattle.spec.specs.Machine.{machine_of}
use Rattle.spec.specs.Words.{overwrite}
use Rattle.spec.specs.Sound.{sound}
use Rattle.spec.specs.Schedule.{run}
use Rattle.schedule_events.specs.Events.{events_of}
use Rattle.state_words.specs.RoundTrip.{fits_long}
use Rattle.yard_c.proofs.Laws.{run_spoilt, run_unsound, run_called}
use Rattle.schedule_c.proofs.yard_run.Goals as goal

pub returns-then-not-state_fits : goal.returns-then-not-state_fits
returns-then-not-state_fits c =
    let a = c.args in
    run_spoilt a.w.now a.outs.now a.ns.now a.bs.now a.events.now (sym c.state_fits.ensures ∙ c.if-not-state_fits.true)

pub state_of_words-s-requires : goal.state_of_words-s-requires
state_of_words-s-requires c = fits_long _ (sym c.state_fits.ensures ∙ c.if-not-state_fits.false)

pub returns-then-not-sound : goal.returns-then-not-sound
returns-then-not-sound c =
    let a = c.args in
    let fits = sym c.state_fits.ensures ∙ c.if-not-state_fits.false in
    let is = ap (λ (z : State). sound (machine_of z a.ns.now a.bs.now)) c.state_of_words-s.ensures in
    run_unsound a.w.now a.outs.now a.ns.now a.bs.now a.events.now fits (sym is ∙ (sym c.sound.ensures ∙ c.if-not-sound.true))

pub put_state-requires : goal.put_state-requires
put_state-requires c = fits_long _ (sym c.state_fits.ensures ∙ c.if-not-state_fits.false)

pub returns : goal.returns
returns c =
    let a = c.args in
    let ns = a.ns.now in
    let bs = a.bs.now in
    let events = a.events.now in
    let n = c.number_of_events-n.result in
    let s = c.state_of_words-s.ensures in
    let fits = sym c.state_fits.ensures ∙ c.if-not-state_fits.false in
    let g = sym (ap (λ (z : State). sound (machine_of z ns bs)) s) ∙ (sym c.sound.ensures ∙ c.if-not-sound.false) in
    let e = c.run_events-t.ensures.0 ∙ ap (λ (z : State). (run (machine_of z ns bs) (events_of n events)).machine) s in
    let o = c.run_events-t.ensures.1
    ∙ ap (λ (z : State). overwrite a.outs.now 0 (concat_map output_words (run (machine_of z ns bs) (events_of n events)).outs)) s in
    run_called a.w.now a.outs.now ns bs events fits g n c.number_of_events-n.ensures _ _ _ _ e o _ c.put_state.ensures
