-- The state as 113 words, for callers outside Rattle, in the order of a dump (docs/FITTERS.md): T, the version, 1 if tag 0 is withdrawn, H, B, the head,
-- the node and the bucket last taken, the task chosen last; then eight tasks of 13 words: 1 if it runs, call, tag, line, i, own steps, and its seven
-- places. Assumes nothing.
use Rattle.std.specs.Prelude.{ℕ, ◌+◌, ◌*◌, ◌%◌, Bool, not, ◌&&◌, List, [], ◌∷◌, ◌++◌, map, eqb, leb, length, get_or, if◌then◌else◌}
use Rattle.spec.specs.declared.Task.{Task}
use Rattle.spec.specs.declared.State.{State}
use Rattle.spec.specs.Machine.{idle}
use Rattle.spec.specs.Lists.{concat_map, every, range}

-- ---- a state's words

abbrev pub bit : Bool → ℕ
bit b = if b then 1 else 0

abbrev pub task_words : Task → List ℕ
task_words c =
    bit c.running ∷ c.call ∷ c.tag ∷ c.line ∷ c.i ∷ c.own ∷ c.t ∷ c.s ∷ c.b ∷ c.m ∷ c.n ∷ c.new_node ∷ c.new_bucket ∷ []

abbrev pub first_words : State → List ℕ
first_words s =
    s.config.tasks ∷ s.config.version ∷ bit s.config.zero_withdrawn
    ∷ s.nodes ∷ s.buckets ∷ s.head ∷ s.last_node ∷ s.last_bucket ∷ s.chosen ∷ []

unfoldable pub state_words : State → List ℕ
state_words s = first_words s ++ concat_map (λ k. task_words (get_or s.task k idle)) (range 0 8)

-- ---- and back

-- a truth value's word is 0 or 1; `state_fits` bars the others
abbrev pub truth : ℕ → Bool
truth n = not (eqb n 0)

-- the task whose words begin at a place. Own steps are a 16-bit number; `state_fits` bars greater ones
unfoldable pub task_at : List ℕ → ℕ → Task
task_at w a =
    record {
      running = truth (get_or w a 0);
      call = get_or w (a + 1) 0;
      tag = get_or w (a + 2) 0;
      line = get_or w (a + 3) 0;
      i = get_or w (a + 4) 0;
      own = get_or w (a + 5) 0 % 65536;
      t = get_or w (a + 6) 0;
      s = get_or w (a + 7) 0;
      b = get_or w (a + 8) 0;
      m = get_or w (a + 9) 0;
      n = get_or w (a + 10) 0;
      new_node = get_or w (a + 11) 0;
      new_bucket = get_or w (a + 12) 0;
    }

unfoldable pub tasks_of_words : List ℕ → List Task
tasks_of_words w = map (λ k. task_at w (9 + 13 * k)) (range 0 8)

unfoldable pub state_of_words : List ℕ → State
state_of_words w =
    record {
      config = record { tasks = get_or w 0 0; version = get_or w 1 0; zero_withdrawn = truth (get_or w 2 0) };
      nodes = get_or w 3 0;
      buckets = get_or w 4 0;
      head = get_or w 5 0;
      last_node = get_or w 6 0;
      last_bucket = get_or w 7 0;
      chosen = get_or w 8 0;
      task = tasks_of_words w;
    }

-- words that a state has: so many, with truth values of 0 or 1 and own steps of at most 65,535
unfoldable pub bit_fits : ℕ → Bool
bit_fits n = leb n 1

unfoldable pub own_fits : ℕ → Bool
own_fits n = leb n 65535

unfoldable pub task_fits : List ℕ → ℕ → Bool
task_fits w a = bit_fits (get_or w a 0) && own_fits (get_or w (a + 5) 0)

unfoldable pub state_fits : List ℕ → Bool
state_fits w = eqb (length w) 113 && bit_fits (get_or w 2 0) && every (λ k. task_fits w (9 + 13 * k)) (range 0 8)
