-- Rows that another order of the words breaks: a state of which no two numbers are the same. Then words that no state has. An order that is wrong in one
-- direction alone is refused by RoundTrip. Assumes nothing.
use Rattle.std.specs.Prelude.{ℕ, ◌≡◌, refl, Bool, true, false, List, [], ◌∷◌, ◌++◌, replicate}
use Rattle.spec.specs.Lists.{concat_map, every, range}
use Rattle.state_words.specs.StateWords.{bit_fits, own_fits}
use Rattle.coop_spec.specs.declared.Operation.{Operation}
use Rattle.coop_spec.specs.declared.Task.{Task}
use Rattle.coop_spec.specs.declared.State.{State}
use Rattle.coop_spec.specs.Machine.{never_invoked, idle}
use Rattle.coop_state_words.specs.StateWords.{operations_words, tasks_words, state_words}
use Rattle.coop_state_words.specs.StateWords.{operation_fits, task_fits, operations_fit, tasks_fit, state_fits}

-- no two numbers the same: in the first words, in operations 0, 1 and 63, of which each has one truth value of 1, in task 0, which runs, and in task 7
abbrev operation : ℕ → ℕ → Bool → Bool → Bool → Operation
operation kind tag resp done returned = record { kind = kind; tag = tag; resp = resp; done = done; returned = returned }

abbrev first_task : Task
first_task = record { running = true; call = 40; op = 41; tag = 42; line = 43; back = 44; own = 45; o = 46; helped = 47 }

abbrev last_task : Task
last_task = record { running = false; call = 50; op = 51; tag = 52; line = 53; back = 54; own = 55; o = 56; helped = 57 }

abbrev all_operations : List Operation
all_operations =
    operation 20 21 true false false ∷ operation 22 23 false true false ∷ (replicate 61 never_invoked ++ (operation 24 25 false false true ∷ []))

abbrev different : State
different =
    record {
      tasks = 10;
      versions = 11;
      node = 12;
      last = 13;
      flag = true;
      operation = all_operations;
      task = first_task ∷ (replicate 6 idle ++ (last_task ∷ []));
    }

pub different_words : state_words different
    ≡ 10 ∷ 11 ∷ 12 ∷ 13 ∷ 1 ∷ 20 ∷ 21 ∷ 1 ∷ 0 ∷ 0 ∷ 22 ∷ 23 ∷ 0 ∷ 1 ∷ 0 ∷ (replicate 305 0 ++ (24 ∷ 25 ∷ 0 ∷ 0 ∷ 1
    ∷ 1 ∷ 40 ∷ 41 ∷ 42 ∷ 43 ∷ 44 ∷ 45 ∷ 46 ∷ 47 ∷ (replicate 54 0 ++ (0 ∷ 50 ∷ 51 ∷ 52 ∷ 53 ∷ 54 ∷ 55 ∷ 56 ∷ 57 ∷ []))))
unfolding state_words operations_words tasks_words never_invoked idle concat_map range
different_words = refl

-- zeros but for these: the flag, the truth values of operation 63, task 7's first word and its own steps; and so many words after them
abbrev fit : ℕ → ℕ → ℕ → ℕ → ℕ → ℕ → ℕ → Bool
fit flag resp done returned runs steps more =
    state_fits (0 ∷ 0 ∷ 0 ∷ 0 ∷ flag ∷ (replicate 317 0 ++ (resp ∷ done ∷ returned ∷ (replicate 63 0
    ++ (runs ∷ 0 ∷ 0 ∷ 0 ∷ 0 ∷ 0 ∷ steps ∷ replicate more 0)))))

-- the most that a state has; then a truth value over 1, five times, own steps over 65,535, a word too few and one too many
pub fits_rows :
    fit 1 1 1 1 1 65535 2 ∷ fit 2 0 0 0 0 0 2 ∷ fit 0 2 0 0 0 0 2 ∷ fit 0 0 2 0 0 0 2 ∷ fit 0 0 0 2 0 0 2 ∷ fit 0 0 0 0 2 0 2 ∷ fit 0 0 0 0 1 65536 2
    ∷ fit 0 0 0 0 0 0 1 ∷ fit 0 0 0 0 0 0 3 ∷ []
    ≡ true ∷ replicate 8 false
unfolding state_fits operations_fit tasks_fit operation_fits task_fits bit_fits own_fits every range
fits_rows = refl
