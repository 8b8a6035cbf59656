-- What is counted in a few schedules, computed: a wrong way to count breaks a row, and 12 × (1 + R) is reached, for R 0 and 1. A resize that
-- ends lost is not counted. The longest resize found makes 228 steps (`shrink_of_228`), of 292 that are promised: a node of 32 places has grown,
-- so that filling one takes at most seven lines. Assumes nothing.
use Rattle.std.specs.Prelude.{ℕ, ◌≡◌, refl, List, [], ◌∷◌, ◌++◌, map, Bool, true, false, length, drop, replicate}
use Rattle.std.proofs.Common.{arith}
use Rattle.spec.specs.declared.Answer.TheVariants.{Done}
use Rattle.spec.specs.declared.Call.{Call}
use Rattle.spec.specs.declared.Call.TheVariants.{Insert, Grow, Shrink}
use Rattle.spec.specs.Machine.{config_of}
use Rattle.spec.specs.Entries.{opening}
use Rattle.spec.specs.Schedule.{Event, schedule}
use Rattle.spec.specs.Rows.{stepping, calling, waiting}
use Rattle.spec.specs.Everything.{everything}
use Rattle.bounds.specs.EnoughRecords.{Enough}
use Rattle.plans.specs.declared.Planned.{Planned}
use Rattle.plans.specs.declared.Figures.{Figures}
use Rattle.plans.specs.Plan.{call_of, figures, planned, plan}
use Rattle.plans.specs.Run.{calls_alone, figures_run}
use Rattle.plans.specs.Rows.{planning}
use Rattle.plan_laws.specs.Theorems.{plan_is_run}
use Rattle.pace.specs.StepCounts.{CallCount, counts, none_begun, anew}
use Rattle.pace.specs.Rows.{counting}

abbrev pub counted : Call → Bool → ℕ → ℕ → CallCount
counted call runs accepted resizes = record { call = call; running = runs; accepted = accepted; resizes = resizes }

-- these tasks' counts after a schedule of three tasks, with four nodes and eight buckets
unfoldable pub counts_of : List ℕ → List Event → List CallCount
counts_of ps es = map (counts none_begun es (schedule (config_of 3) (replicate 136 7) (replicate 528 7) es).outs) ps

-- task 0's insert of 5 stands at line 36 while task 1 grows the set and inserts 5: task 0 makes 6 steps with one resize done meanwhile
unfoldable pub overtaken : List Event
overtaken = waiting ++ calling 1 Insert 5 10 ++ stepping 0 4

pub overtaken_counts : counts_of (0 ∷ 1 ∷ []) overtaken ≡ counted Insert false 6 1 ∷ counted Insert false 10 0 ∷ []
unfolding everything stepping calling waiting overtaken counting counts_of
overtaken_counts = refl

-- task 0's insert stands at line 36, task 1's grow at 28; task 2 grows the set, and task 1's ends lost
unfoldable pub one_lost : List Event
one_lost = calling 0 Insert 5 2 ++ calling 1 Grow 0 6 ++ calling 2 Grow 0 7 ++ stepping 1 1

pub lost_counts : counts_of (0 ∷ 1 ∷ []) one_lost ≡ counted Insert true 2 1 ∷ counted Grow false 7 1 ∷ []
unfolding everything stepping calling one_lost counting counts_of
lost_counts = refl

-- 12 steps with no resize meanwhile: an insert that fills a place after a shrink
unfoldable pub after_shrink : List Event
after_shrink = calling 1 Grow 0 7 ++ calling 1 Shrink 0 18 ++ calling 0 Insert 0 12

pub twelve_steps : counts_of (0 ∷ []) after_shrink ≡ counted Insert false 12 0 ∷ []
unfolding everything stepping calling after_shrink counting counts_of
twelve_steps = refl

-- 24 with one: task 1 has shrunk the set to 2 places; task 0's insert fills its place and stands at 36; task 1 shrinks the set again, and
-- task 2's insert freezes the bucket of task 0 and stands at 52, before the new head's place is filled
unfoldable pub two_passes : List Event
two_passes =
    calling 1 Grow 0 7 ++ calling 1 Grow 0 18 ++ calling 1 Shrink 0 32 ++ calling 0 Insert 0 11 ++ calling 1 Shrink 0 16
    ++ calling 2 Insert 0 7 ++ stepping 0 13

pub twenty_four_steps : counts_of (0 ∷ []) two_passes ≡ counted Insert false 24 1 ∷ []
unfolding everything stepping calling two_passes counting counts_of
twenty_four_steps = refl

-- counted anew after `waiting`, with no start: task 0's insert ends with its first further step
pub further_step : let os = (schedule (config_of 2) (replicate 68 7) (replicate 198 7) (waiting ++ stepping 0 1)).outs in
    counts (anew (counts none_begun waiting os)) (stepping 0 1) (drop (length waiting) os) 0 ≡ counted Insert false 1 0
unfolding everything stepping calling waiting counting
further_step = refl

-- the longest resize found: shrinking from 32 places, all of them empty after a grow; by the planner
unfoldable pub growing_then_shrinking : List Planned
growing_then_shrinking = replicate 5 (call_of Grow 0) ++ call_of Shrink 0 ∷ []

unfoldable pub their_steps : List Figures
their_steps = figures Done 7 0 ∷ figures Done 18 2 ∷ figures Done 32 4 ∷ figures Done 60 8 ∷ figures Done 116 16 ∷ figures Done 228 32 ∷ []

pub longest_resize : plan 1 growing_then_shrinking ≡ planned their_steps
unfolding planning growing_then_shrinking their_steps
longest_resize = refl

-- whose figures are those of a run: so a schedule has a shrink of 228 steps, and no claim of fewer for a resize is true
pub shrink_of_228 : (ns bs : List ℕ) → (opening (config_of 1) ns bs).refusal ≡ 0 → Enough (config_of 1) ns bs
    → figures_run 0 (schedule (config_of 1) ns bs (calls_alone 0 growing_then_shrinking)).outs ≡ their_steps
shrink_of_228 ns bs ok enough = plan_is_run 1 1 0 (omega arith) ns bs ok enough growing_then_shrinking their_steps longest_resize
