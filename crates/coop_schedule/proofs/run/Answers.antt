-- By `not_run` after a refused opening and `all_run` after an accepted one; what is promised of the schedule that it ran are theorems of the crate
-- coop_linear.
use Rattle.std.proofs.Common.{◌≡◌, sym, ap, ◌∙◌}
use Rattle.coop_spec.specs.Numbers.{opening_number}
use Rattle.coop_laws.specs.RefusalNumbers.{refuses, never_0}
use Rattle.coop_spec.specs.Entries.{Opened}
use Rattle.coop_linear.specs.Theorems.{linearizable, at_most_once, never_8}
use Rattle.coop_schedule.specs.Encoding.{decoded}
use Rattle.coop_schedule.proofs.Laws.{not_run, all_run}
use Rattle.coop_schedule.proofs.run.Goals as goal

pub returns-in-Some : goal.returns-in-Some
returns-in-Some c =
    let a = c.args in
    let o = c.open-o.ensures in
    let given = c.number.ensures ∙ refuses (ap (λ (x : Opened). x.refusal) o) c.in-Some.is in
    let d = λ (z : c.number.result ≡ 0). never_0 c.in-Some.why (sym c.number.ensures ∙ z) in
    record {
      words = not_run a.t a.vs.now a.events.now a.outs.now _ given _ (ap (λ (x : Opened). x.machine) o) d;
      linearizable = λ z. absurd (d z);
      once = λ z. absurd (d z);
      never_8 = λ z. absurd (d z);
    }

pub returns : goal.returns
returns c =
    let a = c.args in
    let vs = a.vs.now in
    let refusal = ap (λ (x : Opened). x.refusal) c.open-o.ensures in
    let machine = ap (λ (x : Opened). x.machine) c.open-o.ensures in
    let z = ap opening_number c.in_default.is in
    let r = c.run_events-state.ensures in
    let ok = sym refusal ∙ z in
    let es = decoded a.events.now a.outs.now in
    record {
      words = all_run a.t vs a.events.now a.outs.now _ refusal _ machine z _ c.number_of_events-ran.ensures _ r.0 _ r.1;
      linearizable = λ e. linearizable a.t vs ok es;
      once = λ e. at_most_once a.t vs ok es;
      never_8 = λ e. never_8 a.t vs ok es;
    }
