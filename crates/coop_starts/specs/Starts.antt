-- What `start` does after its tests for 8 and 4: the definition that the code is held to. Assumes nothing.
use Rattle.std.specs.Prelude.{ℕ, not, ◌||◌, if◌then◌else◌, Ok}
use Rattle.coop_spec.specs.declared.Call.{Call}
use Rattle.coop_spec.specs.declared.Progress.TheVariants.{At}
use Rattle.coop_spec.specs.Machine.{Machine, task_of, set_task}
use Rattle.coop_spec.specs.Entries.{Reply, refuse, may_start, started, fixing}
use Rattle.coop_spec.specs.declared.Refusal.TheVariants.{NotStarted}

unfoldable pub start_of_task : Machine → ℕ → Call → ℕ → ℕ → Reply
start_of_task y t call n k =
    if (task_of y t).running || not (may_start y call n k) then refuse NotStarted y
    else record { out = Ok (At (started call n k).line); machine = set_task t (started call n k) (fixing y call n k) }
