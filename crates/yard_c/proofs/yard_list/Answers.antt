-- `yard_list` meets its contract: a list of the machine that the words are.
use Prim.Native.Nat.{ℕ, ◌≤◌}
use mathlib.Core.Path.{sym, ap, subst, ◌∙◌}
use Rattle.spec.specs.declared.State.{State}
use Rattle.spec.specs.Machine.{machine_of}
use Rattle.spec.specs.Entries.{list}
use Rattle.state_words.specs.RoundTrip.{fits_long}
use Rattle.yard_c.proofs.Laws.{list_called, list_spoilt}
use Rattle.yard_c.proofs.yard_list.Goals as goal

pub returns-then-not-state_fits : goal.returns-then-not-state_fits
returns-then-not-state_fits c =
    let a = c.args in
    list_spoilt a.w.now a.out.now a.ns.now a.bs.now (sym c.state_fits.ensures ∙ c.if-not-state_fits.true)

pub state_of_words-s-requires : goal.state_of_words-s-requires
state_of_words-s-requires c =
    let fits = sym c.state_fits.ensures ∙ c.if-not-state_fits.false in
    fits_long c.args.w.now fits

pub returns : goal.returns
returns c =
    let fits = sym c.state_fits.ensures ∙ c.if-not-state_fits.false in
    let a = c.args in
    let w = a.w.now in
    let out = a.out.now in
    let ns = a.ns.now in
    let bs = a.bs.now in
    let l = c.list-l in
    let s = c.state_of_words-s in
    let says = l.ensures.0 ∙ ap (λ (z : State). (list (machine_of z ns bs) out).says) s.ensures in
    let words = l.ensures.1 ∙ ap (λ (z : State). (list (machine_of z ns bs) out).words) s.ensures in
    list_called w out ns bs fits _ says _ words _ c.listing_number.ensures
