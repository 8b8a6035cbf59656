-- What rests on statements of specs/Schedules.antt that a must-fail edit makes false: theorems moved from there as they stood. Assumes nothing.
use Rattle.std.specs.Prelude.{◌≡◌, ℕ, suc}
use mathlib.Core.List.{List, [], ◌∷◌}
use Rattle.spec.specs.declared.Config.{Config}
use Rattle.spec.specs.Machine.{Machine}
use Rattle.spec.specs.Schedule.{Event, event, run, schedule}
use Rattle.spec.specs.History.{Ended, Started, history_from, tell, note, history, none_started}
use Rattle.spec.specs.Linearizable.{NoEight}
use Rattle.spec.specs.ContainsSteps.{Progress, progress, no_progress, Throughout, Exact, ContainsExact}
use Rattle.linear.specs.LookupPace.{ContainsPaced, none_paced, event_paced}
use Rattle.linear.specs.Events.{Before}
use Rattle.linear.proofs.Events.{event_next}
use Rattle.spec.specs.Entries.{opening}
use Rattle.linear.specs.Opening.{opening_before}
use Rattle.linear.specs.Schedules.{AtEnd, schedule_runs}

pub run_simulated : (n : ℕ) (last : ℕ → Started) (H : List Ended) (y : Machine) → Before n last H y
    → (r : ℕ → Progress) → ((q : ℕ) → ContainsPaced r y q) → (es : List Event)
    → AtEnd (run y es).machine (history_from n last H es (run y es).outs) × NoEight (run y es).outs × Throughout Exact r es (run y es).outs
unfolding run history_from
run_simulated n last H y s r paced [] = (record { configuration = s.configuration; reach = s.reach; sim = s.sim; ended = s.ended }, tt, tt)
run_simulated n last H y s r paced (e ∷ es) =
    let m = event y e in
    let u = event_next n last H y s e in
    let v = event_paced r y s.sim.sound_now s.sim.eight_tasks paced e in
    let w = run_simulated (suc n) (note n last e m.out) (tell n last H e m.out) m.machine u.0 (progress r e m.out) v.0 es in
    (w.0, (u.1, w.1), (v.1, w.2))

module _ (g : Config) (ns bs : List ℕ) (ok : (opening g ns bs).refusal ≡ 0) (es : List Event) where
  pub schedule_simulated : AtEnd (schedule g ns bs es).machine (history es (schedule g ns bs es).outs) × NoEight (schedule g ns bs es).outs
      × ContainsExact es (schedule g ns bs es).outs
  unfolding history
  schedule_simulated = rw (schedule_runs g ns bs ok es) (run_simulated 0 none_started [] (opening g ns bs).machine (opening_before g ns bs ok) no_progress (none_paced _) es)
