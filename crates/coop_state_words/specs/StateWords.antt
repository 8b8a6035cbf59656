-- The cooperative bucket's state as 397 words, for callers outside Rattle, in the order of the State: T, the number of versions, the version that the bucket
-- has, the one last taken, 1 if the flag is raised; then 64 operations of 5 words: kind, tag, and 1 for a response of yes, for an infinite prio, for an
-- invoke that ended with yes; then eight tasks of 9 words: 1 if it runs, call, operation, tag, line, where HELPFINISH returns to, own steps, o and the
-- operation helped. Assumes nothing.
use Rattle.std.specs.Prelude.{ℕ, ◌+◌, ◌*◌, ◌%◌, Bool, ◌&&◌, List, [], ◌∷◌, ◌++◌, map, eqb, length, get_or}
use Rattle.spec.specs.Lists.{concat_map, every, range}
use Rattle.state_words.specs.StateWords.{bit, truth, bit_fits, own_fits}
use Rattle.coop_spec.specs.declared.Operation.{Operation}
use Rattle.coop_spec.specs.declared.Task.{Task}
use Rattle.coop_spec.specs.declared.State.{State}
use Rattle.coop_spec.specs.Machine.{never_invoked, idle}

-- ---- a state's words

abbrev pub operation_words : Operation → List ℕ
operation_words q = q.kind ∷ q.tag ∷ bit q.resp ∷ bit q.done ∷ bit q.returned ∷ []

abbrev pub task_words : Task → List ℕ
task_words c = bit c.running ∷ c.call ∷ c.op ∷ c.tag ∷ c.line ∷ c.back ∷ c.own ∷ c.o ∷ c.helped ∷ []

abbrev pub first_words : State → List ℕ
first_words s = s.tasks ∷ s.versions ∷ s.node ∷ s.last ∷ bit s.flag ∷ []

-- operation k's words, and task k's; and those of all
abbrev pub words_of_operation : List Operation → ℕ → List ℕ
words_of_operation os k = operation_words (get_or os k never_invoked)

abbrev pub words_of_task : List Task → ℕ → List ℕ
words_of_task ts k = task_words (get_or ts k idle)

unfoldable pub operations_words : List Operation → List ℕ
operations_words os = concat_map (λ k. words_of_operation os k) (range 0 64)

unfoldable pub tasks_words : List Task → List ℕ
tasks_words ts = concat_map (λ k. words_of_task ts k) (range 0 8)

unfoldable pub state_words : State → List ℕ
state_words s = first_words s ++ (operations_words s.operation ++ tasks_words s.task)

-- ---- and back

-- where they begin
abbrev pub operation_place : ℕ → ℕ
operation_place k = 5 + 5 * k

abbrev pub task_place : ℕ → ℕ
task_place k = 325 + 9 * k

-- the operation and the task whose words begin at a place. Own steps are a 16-bit number; `state_fits` bars greater ones
unfoldable pub operation_at : List ℕ → ℕ → Operation
operation_at w a =
    record {
      kind = get_or w a 0;
      tag = get_or w (a + 1) 0;
      resp = truth (get_or w (a + 2) 0);
      done = truth (get_or w (a + 3) 0);
      returned = truth (get_or w (a + 4) 0);
    }

unfoldable pub task_at : List ℕ → ℕ → Task
task_at w a =
    record {
      running = truth (get_or w a 0);
      call = get_or w (a + 1) 0;
      op = get_or w (a + 2) 0;
      tag = get_or w (a + 3) 0;
      line = get_or w (a + 4) 0;
      back = get_or w (a + 5) 0;
      own = get_or w (a + 6) 0 % 65536;
      o = get_or w (a + 7) 0;
      helped = get_or w (a + 8) 0;
    }

unfoldable pub operations_of_words : List ℕ → List Operation
operations_of_words w = map (λ k. operation_at w (operation_place k)) (range 0 64)

unfoldable pub tasks_of_words : List ℕ → List Task
tasks_of_words w = map (λ k. task_at w (task_place k)) (range 0 8)

unfoldable pub state_of_words : List ℕ → State
state_of_words w =
    record {
      tasks = get_or w 0 0;
      versions = get_or w 1 0;
      node = get_or w 2 0;
      last = get_or w 3 0;
      flag = truth (get_or w 4 0);
      operation = operations_of_words w;
      task = tasks_of_words w;
    }

-- words that a state has: so many, with truth values of 0 or 1 and own steps of at most 65,535
unfoldable pub operation_fits : List ℕ → ℕ → Bool
operation_fits w a = bit_fits (get_or w (a + 2) 0) && bit_fits (get_or w (a + 3) 0) && bit_fits (get_or w (a + 4) 0)

unfoldable pub task_fits : List ℕ → ℕ → Bool
task_fits w a = bit_fits (get_or w a 0) && own_fits (get_or w (a + 6) 0)

unfoldable pub operations_fit : List ℕ → Bool
operations_fit w = every (λ k. operation_fits w (operation_place k)) (range 0 64)

unfoldable pub tasks_fit : List ℕ → Bool
tasks_fit w = every (λ k. task_fits w (task_place k)) (range 0 8)

unfoldable pub state_fits : List ℕ → Bool
state_fits w = eqb (length w) 397 && bit_fits (get_or w 4 0) && operations_fit w && tasks_fit w
