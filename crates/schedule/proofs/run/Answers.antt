-- By `not_run` after a refused opening and `all_run` after an accepted one; that the schedule which it ran is linearizable, its contains end with three
-- or five own steps, and none of it is refused with 8, are theorems of the crate linear, and that its calls make no more steps than U12 allows is one of
-- the crate pace.
use Rattle.std.proofs.Common.{◌≡◌, sym, ap, ◌∙◌, arith}
use Rattle.spec.specs.Numbers.{opening_number}
use Rattle.laws.specs.RefusalNumbers.{accepts, refuses, never_0}
use Rattle.laws.specs.OpeningSound.{opening_sound}
use Rattle.linear.proofs.Theorems.{linearizable, contains_exact, never_8}
use Rattle.pace.proofs.Theorems.{steps_within}
use Rattle.schedule.specs.Encoding.{room_for, decoded}
use Rattle.schedule.proofs.Laws.{not_run, all_run}
use Rattle.schedule.proofs.run.Goals as goal

pub returns-in-Some : goal.returns-in-Some
returns-in-Some c =
    let a = c.args in
    let o = c.open-o.ensures in
    let given = c.number.ensures ∙ refuses o.0 c.in-Some.is in
    let d = λ (z : c.number.result ≡ 0). never_0 c.in-Some.why (sym c.number.ensures ∙ z) in
    record {
      words = not_run a.g a.ns.now a.bs.now a.events.now a.outs.now a.tags.now _ given _ o.1 c.in-Some.why c.number.ensures;
      linearizable = λ z. absurd (d z);
      exact = λ z. absurd (d z);
      within = λ z. absurd (d z);
      never_8 = λ z. absurd (d z);
    }

pub run_events-state-requires : goal.run_events-state-requires
run_events-state-requires c =
    let a = c.args in
    let o = c.open-o.ensures in
    let accepted = accepts o.0 c.in_default.is in
    (omega arith, omega arith, rw o.1 (opening_sound a.g a.ns.now a.bs.now accepted))

pub returns : goal.returns
unfolding room_for
returns c =
    let a = c.args in
    let o = c.open-o.ensures in
    let r = c.run_events-state.ensures in
    let l = c.list.ensures in
    let ok = accepts o.0 c.in_default.is in
    let es = decoded a.events.now a.outs.now in
    record {
      words =
          all_run a.g a.ns.now a.bs.now a.events.now a.outs.now a.tags.now _ o.0 _ o.1 (ap opening_number c.in_default.is) _ c.number_of_events-ran.ensures _ r.0 _ r.1 _ l.0 _ l.1;
      linearizable = λ e. linearizable a.g a.ns.now a.bs.now ok es;
      exact = λ e. contains_exact a.g a.ns.now a.bs.now ok es;
      within = λ e. steps_within a.g a.ns.now a.bs.now ok es;
      never_8 = λ e. never_8 a.g a.ns.now a.bs.now ok es;
    }
