-- Rows of what demand 3 is told by: the plain set, a schedule's outputs, and its history. Assumes nothing.
use Rattle.std.specs.Prelude.{ℕ, ◌≡◌, refl, List, [], ◌∷◌, ◌++◌, map, replicate, Ok, Err}
use Rattle.spec.specs.declared.Refusal.TheVariants.{NoTask, Running, Idle, NoRecord}
use Rattle.spec.specs.declared.Answer.{Answer}
use Rattle.spec.specs.declared.Answer.TheVariants.{Yes, No, Full, Done, Lost, Limit}
use Rattle.spec.specs.declared.Call.TheVariants.{Insert, Remove, Contains, Grow, Shrink}
use Rattle.spec.specs.Outputs.{Output}
use Rattle.spec.specs.declared.Progress.TheVariants.{At}
use Rattle.spec.specs.Lists.{range}
use Rattle.spec.specs.Machine.{config_of}
use Rattle.spec.specs.Plain.{Plain, plain}
use Rattle.spec.specs.Schedule.{Event, starts, steps, schedule}
use Rattle.spec.specs.History.{set_call, note, tell, history_from, history}
use Rattle.spec.specs.Everything.{everything}
use Rattle.spec.specs.Rows.{ended, counted}

-- ---- the plain set

abbrev pub answer_and_set : Answer → List ℕ → Plain
answer_and_set a ks = record { answer = a; tags = ks }

-- 5 and 7 in it, and then 0 to 62 and 0 to 63
pub plain_rows :
    plain (5 ∷ 7 ∷ []) Insert 6 ∷ plain (5 ∷ 7 ∷ []) Insert 5 ∷ plain (range 0 63) Insert 90 ∷ plain (range 0 64) Insert 90 ∷ plain (range 0 64) Insert 5
    ∷ plain (5 ∷ 7 ∷ []) Remove 5 ∷ plain (5 ∷ 7 ∷ []) Remove 6 ∷ plain (5 ∷ 7 ∷ []) Contains 7 ∷ plain (5 ∷ 7 ∷ []) Contains 6 ∷ []
    ≡ answer_and_set Yes (5 ∷ 6 ∷ 7 ∷ []) ∷ answer_and_set No (5 ∷ 7 ∷ []) ∷ answer_and_set Yes (range 0 63 ++ 90 ∷ [])
    ∷ answer_and_set Full (range 0 64) ∷ answer_and_set No (range 0 64)
    ∷ answer_and_set Yes (7 ∷ []) ∷ answer_and_set No (5 ∷ 7 ∷ []) ∷ answer_and_set Yes (5 ∷ 7 ∷ []) ∷ answer_and_set No (5 ∷ 7 ∷ []) ∷ []
unfolding everything
plain_rows = refl

-- ---- a schedule: each event is given what the one before left; after a refused opening nothing is done

unfoldable pub outs_of : ℕ → List Output
outs_of k =
    (schedule (config_of k) (replicate 34 7) (replicate 66 7)
    (starts 0 Insert 5 ∷ steps 0 ∷ starts 0 Insert 5 ∷ steps 1 ∷ steps 0 ∷ steps 0 ∷ steps 0 ∷ [])).outs

pub schedule_rows : map outs_of (1 ∷ 0 ∷ 9 ∷ []) ≡ (Ok (At 32) ∷ Ok (At 33) ∷ Err Running ∷ Err NoTask ∷ Ok (At 36) ∷ counted Yes 3 1 ∷ Err Idle ∷ []) ∷ [] ∷ [] ∷ []
unfolding everything outs_of
schedule_rows = refl

-- ---- a history: the events from 0 on, and an output for each

unfoldable pub told_events : List Event
told_events =
    starts 0 Insert 5 ∷ starts 0 Remove 6 ∷ starts 1 Grow 0 ∷ steps 0 ∷ steps 1 ∷ steps 0 ∷ steps 0 ∷ starts 1 Contains 5 ∷ starts 0 Remove 8 ∷ steps 1
    ∷ starts 2 Shrink 0 ∷ steps 2 ∷ []

-- a start while a call runs, and a step while none runs, are refused; a grow and a shrink end; the remove of 8 still runs at the end
unfoldable pub told_outs : List Output
told_outs =
    Ok (At 32) ∷ Err Running ∷ Ok (At 20) ∷ Ok (At 33) ∷ ended Done 7 ∷ counted Yes 3 1 ∷ Err Idle ∷ Ok (At 12) ∷ Ok (At 32) ∷ ended No 3
    ∷ Ok (At 20) ∷ ended Done 9 ∷ []

-- the last ended first
pub history_row :
    history told_events told_outs
    ≡ record { task = 1; call = Contains; tag = 5; answer = No; start = 7; end = 9 }
    ∷ record { task = 0; call = Insert; tag = 5; answer = Yes; start = 0; end = 5 }
    ∷ []
unfolding everything history history_from note tell set_call told_events told_outs
history_row = refl

-- ---- a history of every call and every answer

-- task 1's insert finds the tag there; task 0's insert of 90 is refused a step by 7, and a start while it runs would make it a remove;
-- task 2's grow meets its limit and its shrink loses; at the end its insert of 0 still runs
unfoldable pub all_events : List Event
all_events =
    starts 0 Insert 5 ∷ starts 1 Insert 5 ∷ steps 0 ∷ starts 2 Grow 0 ∷ steps 1 ∷ starts 0 Insert 90 ∷ steps 0 ∷ starts 0 Remove 5 ∷ steps 0 ∷ steps 2
    ∷ starts 2 Shrink 0 ∷ starts 0 Remove 5 ∷ steps 2 ∷ steps 0 ∷ starts 0 Remove 6 ∷ starts 1 Contains 9 ∷ steps 0 ∷ steps 1 ∷ starts 2 Insert 0
    ∷ steps 2 ∷ steps 1 ∷ []

unfoldable pub all_outs : List Output
all_outs =
    Ok (At 32) ∷ Ok (At 32) ∷ counted Yes 3 1 ∷ Ok (At 20) ∷ counted No 3 1 ∷ Ok (At 32) ∷ Err NoRecord ∷ Err Running ∷ counted Full 3 64 ∷ ended Limit 1
    ∷ Ok (At 20) ∷ Ok (At 32) ∷ ended Lost 5 ∷ counted Yes 3 63 ∷ Ok (At 32) ∷ Ok (At 12) ∷ counted No 3 63 ∷ ended Yes 3 ∷ Ok (At 32)
    ∷ Ok (At 33) ∷ Err Idle ∷ []

-- inserts that say yes, no and full, removes that say yes and no, a contains that says yes; no resize, and nothing that still runs
pub history_of_all :
    history all_events all_outs
    ≡ record { task = 1; call = Contains; tag = 9; answer = Yes; start = 15; end = 17 }
    ∷ record { task = 0; call = Remove; tag = 6; answer = No; start = 14; end = 16 }
    ∷ record { task = 0; call = Remove; tag = 5; answer = Yes; start = 11; end = 13 }
    ∷ record { task = 0; call = Insert; tag = 90; answer = Full; start = 5; end = 8 }
    ∷ record { task = 1; call = Insert; tag = 5; answer = No; start = 1; end = 4 }
    ∷ record { task = 0; call = Insert; tag = 5; answer = Yes; start = 0; end = 2 }
    ∷ []
unfolding everything history history_from note tell set_call all_events all_outs
history_of_all = refl

-- after a refused opening there are no outputs, and no call has ended
pub history_of_none : history all_events [] ≡ []
unfolding history history_from all_events
history_of_none = refl
