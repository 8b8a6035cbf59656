-- What calls ended, in one schedule with refusals and two tasks: the claim's history is not empty talk. Assumes nothing.
use Rattle.std.specs.Prelude.{◌≡◌, refl, List, [], ◌∷◌, ◌++◌, replicate}
use Rattle.spec.specs.declared.Answer.TheVariants.{Yes, No}
use Rattle.spec.specs.declared.Call.TheVariants.{Insert, Contains}
use Rattle.spec.specs.Machine.{config_of}
use Rattle.spec.specs.Schedule.{Event, starts, steps, schedule}
use Rattle.spec.specs.Everything.{everything}
use Rattle.spec.specs.Rows.{stepping, calling, waiting}
use Rattle.spec.specs.History.{set_call, note, tell, history_from, history}

-- task 0's insert of 5 waits at line 36 while task 1 grows the set and inserts 5; a start of a running task, a step of no task
-- and a call that has not ended stand among the events
unfoldable pub events : List Event
events = waiting ++ (starts 0 Contains 9 ∷ steps 7 ∷ calling 1 Insert 5 10) ++ stepping 0 4 ++ calling 1 Contains 5 2

pub two_inserts : history events (schedule (config_of 2) (replicate 68 7) (replicate 198 7) events).outs
    ≡ record { task = 0; call = Insert; tag = 5; answer = No; start = 0; end = 27 } ∷ record {
      task = 1;
      call = Insert;
      tag = 5;
      answer = Yes;
      start = 13;
      end = 23;
    } ∷ []
unfolding everything stepping calling waiting events set_call note tell history_from history
two_inserts = refl
