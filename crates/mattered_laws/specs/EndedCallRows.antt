-- Rows of when two ended calls, and two lists of them, are the same (paper 02, U13), and of a first event that mattered. Assumes nothing.
use Rattle.std.specs.Prelude.{◌≡◌, refl, [], ◌∷◌, map, true, false, replicate}
use Rattle.spec.specs.declared.Call.TheVariants.{Shrink}
use Rattle.spec.specs.Machine.{config_of}
use Rattle.spec.specs.Entries.{opening}
use Rattle.spec.specs.Schedule.{starts, steps, run}
use Rattle.mattered.specs.declared.Verdict.TheVariants.{Place}
use Rattle.mattered.specs.EndedCalls.{EndedCall, same_call, same_calls}
use Rattle.mattered.specs.Mattered.{mattered}
use Rattle.mattered.specs.Rows.{task◌call◌tag◌answer◌, mattered_definitions}

-- the same; another task, call, tag and answer alone; and numbers exchanged
pub by_each_field :
    map (same_call (task 1 call 3 tag 5 answer 2))
    (task 1 call 3 tag 5 answer 2 ∷ task 2 call 3 tag 5 answer 2 ∷ task 1 call 2 tag 5 answer 2 ∷ task 1 call 3 tag 6 answer 2
    ∷ task 1 call 3 tag 5 answer 1 ∷ task 3 call 1 tag 5 answer 2 ∷ [])
    ≡ true ∷ false ∷ false ∷ false ∷ false ∷ false ∷ []
unfolding same_call
by_each_field = refl

-- one call and another
abbrev pub a_call : EndedCall
a_call = task 0 call 1 tag 5 answer 1

abbrev pub b_call : EndedCall
b_call = task 1 call 1 tag 5 answer 2

-- the same list; one less and one more; the order of ending; the last one another
pub by_order_and_length :
    map (same_calls (a_call ∷ b_call ∷ []))
    ((a_call ∷ b_call ∷ []) ∷ [] ∷ (a_call ∷ []) ∷ (a_call ∷ b_call ∷ b_call ∷ []) ∷ (b_call ∷ a_call ∷ []) ∷ (a_call ∷ a_call ∷ []) ∷ [])
    ≡ true ∷ false ∷ false ∷ false ∷ false ∷ false ∷ []
unfolding same_call same_calls
by_order_and_length = refl

pub of_none : same_calls [] [] ∷ same_calls [] (a_call ∷ []) ∷ [] ≡ true ∷ false ∷ []
unfolding same_calls
of_none = refl

-- a first event that is a step may be the one that mattered: a shrink at the least size was started before, and ends with it
pub first_event :
    mattered (run (opening (config_of 1) (replicate 34 0) (replicate 66 0)).machine (starts 0 Shrink 0 ∷ [])).machine (steps 0 ∷ []) ≡ Place 1
unfolding mattered_definitions
first_event = refl
