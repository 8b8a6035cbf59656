-- What is promised of every schedule, whatever the opening is given, if it is accepted, whatever stood in the two slices before it, and whatever
-- starts and steps follow, accepted or refused (paper 02, U12).
--
--   steps_within      an insert or remove makes at most 12 × (1 + R) accepted steps, a resize at most 292, ended or running
--   ends_soon         if nobody starts a new call, each running call ends at the latest with its 292nd further accepted step
--   only_7_refuses    and until then, as always, only 7 refuses a running call's steps
--   counted_running   what is counted as running is what runs
--   ends_by_turns     so opened that 7 never refuses, and with nobody starting a call, every running call ends within 292 × T turns
--
-- The types are those of StepCounts and EndsByTurns, told from events and outputs, and from moves. A pass of an insert or remove has at
-- most twelve lines, and is repeated only if the head has moved since it began (Pace); the head moves only where an output says done
-- (Heads). Each event's output and the model's step behind it are kept together through a schedule (CountsKept). Assumes nothing.
use Rattle.std.specs.Prelude.{◌≡◌, refl, List, [], ◌∷◌, ◌++◌, ℕ, length, drop}
use Rattle.std.proofs.Common.{ap}
use Rattle.spec.specs.declared.Config.{Config}
use Rattle.spec.specs.Outputs.{Output}
use Rattle.spec.specs.Machine.{Machine, task_of}
use Rattle.spec.specs.Entries.{opening}
use Rattle.spec.specs.Schedule.{Event, event, Ran, run, schedule}
use Rattle.linear.specs.Schedules.{schedule_runs}
use Rattle.bounds.specs.EnoughRecords.{Enough}
use Rattle.pace.specs.StepCounts.{CallCount, count, counts, none_begun, StepsWithin, NobodyStarts, EndsWithin292, Only7Refuses}
use Rattle.pace.proofs.CountsKept.{run_kept, run_within, running_is, opening_fits}
use Rattle.pace.proofs.NoNewStarts.{ends_within_292}
use Rattle.pace.specs.EndsByTurns.{EndsByTurns}
use Rattle.pace.proofs.TurnsLeft as TurnsLeft

-- ---- a schedule in two parts

in_two_parts : (y : Machine) (es fs : List Event)
    → run y (es ++ fs) ≡ record { outs = (run y es).outs ++ (run (run y es).machine fs).outs; machine = (run (run y es).machine fs).machine }
unfolding run
in_two_parts y [] fs = refl
in_two_parts y (e ∷ es) fs =
    ap (λ (r : Ran). record { outs = (event y e).out ∷ r.outs; machine = r.machine }) (in_two_parts (event y e).machine es fs)

-- the outputs after those of es; and later outputs change no count of es
later_outs : (y : Machine) (es : List Event) (os : List Output) → drop (length es) ((run y es).outs ++ os) ≡ os
unfolding run
later_outs y [] os = refl
later_outs y (e ∷ es) os = later_outs (event y e).machine es os

counts_stop : (c : ℕ → CallCount) (y : Machine) (es : List Event) (os : List Output) → counts c es ((run y es).outs ++ os) ≡ counts c es (run y es).outs
unfolding run counts
counts_stop c y [] os = refl
counts_stop c y (e ∷ es) os = counts_stop (count c e (event y e).out) (event y e).machine es os

module _ (g : Config) (ns bs : List ℕ) (ok : (opening g ns bs).refusal ≡ 0) where
  abbrev y₀ : Machine
  y₀ = (opening g ns bs).machine

  module _ (es : List Event) where
    pub steps_within : StepsWithin none_begun es (schedule g ns bs es).outs
    steps_within = rw (schedule_runs g ns bs ok es) (run_within none_begun y₀ (opening_fits g ns bs ok) es)

    pub only_7_refuses : Only7Refuses none_begun es (schedule g ns bs es).outs
    only_7_refuses = rw (schedule_runs g ns bs ok es) (run_kept 0 none_begun y₀ (opening_fits g ns bs ok) es).1

    pub counted_running : (p : ℕ)
        → (task_of (schedule g ns bs es).machine p).running ≡ (counts none_begun es (schedule g ns bs es).outs p).running
    counted_running p =
        rw (schedule_runs g ns bs ok es)
        (running_is 0 (counts none_begun es (run y₀ es).outs) (run y₀ es).machine (run_kept 0 none_begun y₀ (opening_fits g ns bs ok) es).0 p)

    -- of one schedule: es are the events until now, fs the later ones
    pub ends_soon : (fs : List Event) → let os = (schedule g ns bs (es ++ fs)).outs in
        let later = drop (length es) os in
        NobodyStarts fs later → EndsWithin292 (counts none_begun es os) fs later
    ends_soon fs =
        let y = (run y₀ es).machine in
        let more = (run y fs).outs in
        rw (schedule_runs g ns bs ok (es ++ fs), in_two_parts y₀ es fs, later_outs y₀ es more, counts_stop none_begun y₀ es more)
        (ends_within_292 (counts none_begun es (run y₀ es).outs) y (run_kept 0 none_begun y₀ (opening_fits g ns bs ok) es).0 fs)

  pub ends_by_turns : Enough g ns bs → EndsByTurns g ns bs
  ends_by_turns enough = TurnsLeft.ends_by_turns g ns bs ok enough
