-- What rests on statements of specs/RoundTrip.antt that a must-fail edit makes false: theorems moved from there as they stood. Assumes nothing.
use Prim.Native.Nat.{ℕ, ◌+◌, ◌*◌, ◌%◌}
use Rattle.std.specs.Prelude.{◌≡◌, Bool, true, eqb, length}
use Rattle.std.proofs.Math.Path.{ap}
use Rattle.std.proofs.Common.{◌∙◌}
use mathlib.Core.List.{List, [], ◌∷◌, ◌++◌, map}
use Rattle.std.proofs.Math.ListN.{get_or}
use Rattle.spec.specs.declared.Task.{Task}
use Rattle.spec.specs.declared.State.{State}
use Rattle.spec.specs.Lists.{concat_map, every, range}
use Rattle.spec.specs.Machine.{idle}
use Rattle.laws.specs.Tests.{and_left, and_right, and3}
use Rattle.state_words.specs.StateWords.{bit, truth, task_words, first_words, state_words, task_at, tasks_of_words, state_of_words}
use Rattle.state_words.specs.StateWords.{bit_fits, own_fits, task_fits, state_fits}
use Rattle.state_words.specs.RoundTrip.{Stored, bit_truth, each_of, fits_long, map_same, own_again, same_joined, truth_bit}

-- ---- from words to a state and back

-- a task's thirteen words, with these as the first and as its own steps
abbrev thirteen : ℕ → ℕ → List ℕ → ℕ → List ℕ
thirteen runs own w a =
    runs ∷ get_or w (a + 1) 0 ∷ get_or w (a + 2) 0 ∷ get_or w (a + 3) 0 ∷ get_or w (a + 4) 0 ∷ own ∷ get_or w (a + 6) 0 ∷ get_or w (a + 7) 0 ∷ get_or w (a + 8) 0
    ∷ get_or w (a + 9) 0 ∷ get_or w (a + 10) 0 ∷ get_or w (a + 11) 0 ∷ get_or w (a + 12) 0 ∷ []

abbrev their_own : List ℕ → ℕ → List ℕ
their_own w a = thirteen (get_or w a 0) (get_or w (a + 5) 0) w a

task_again : (w : List ℕ) (a : ℕ) → task_fits w a ≡ true → task_words (task_at w a) ≡ their_own w a
unfolding task_at task_fits
task_again w a h =
    let x = get_or w a 0 in
    let y = get_or w (a + 5) 0 in
    let runs = bit_truth x (and_left (bit_fits x) (own_fits y) h) in
    let owns = own_again y (and_right (bit_fits x) (own_fits y) h) in
    ap (λ (n : ℕ). thirteen n (y % 65536) w a) runs ∙ ap (λ (n : ℕ). thirteen x n w a) owns

-- words that a state has are those of the state that they are
pub words_again : (w : List ℕ) → state_fits w ≡ true → state_words (state_of_words w) ≡ w
unfolding state_words state_of_words tasks_of_words state_fits concat_map range
words_again w h =
    let tasks_fit = every (λ k. task_fits w (9 + 13 * k)) (range 0 8) in
    let p = and3 (eqb (length w) 113) (bit_fits (get_or w 2 0)) tasks_fit h in
    let rule = bit_truth (get_or w 2 0) p.1 in
    let f : ℕ → List ℕ = λ k. task_words (task_at w (9 + 13 * k)) in
    let g : ℕ → List ℕ = λ k. their_own w (9 + 13 * k) in
    let tasks : concat_map f (range 0 8) ≡ concat_map g (range 0 8) =
    same_joined f g (λ k. task_fits w (9 + 13 * k)) (λ k e. task_again w (9 + 13 * k) e) (range 0 8) p.2 in
    ap (λ (v : List ℕ). first_words (state_of_words w) ++ v) tasks
    ∙ ap (λ (n : ℕ). get_or w 0 0 ∷ get_or w 1 0 ∷ n ∷ map (λ k. get_or w k 0) (range 3 110)) rule
    ∙ each_of 0 113 w (fits_long w h)

-- a task with what the words keep of these two
abbrev rebuilt : Bool → ℕ → Task → Task
rebuilt runs own c =
    record {
      running = runs;
      call = c.call;
      tag = c.tag;
      line = c.line;
      i = c.i;
      own = own;
      t = c.t;
      s = c.s;
      b = c.b;
      m = c.m;
      n = c.n;
      new_node = c.new_node;
      new_bucket = c.new_bucket;
    }

abbrev from_words : Task → Task
from_words c = rebuilt (truth (bit c.running)) (c.own % 65536) c

from_words_same : (c : Task) → own_fits c.own ≡ true → from_words c ≡ c
from_words_same c h = ap (λ (r : Bool). rebuilt r (c.own % 65536) c) (truth_bit c.running) ∙ ap (λ (n : ℕ). rebuilt c.running n c) (own_again c.own h)

abbrev state_with : Bool → List Task → State → State
state_with withdrawn ts s =
    record {
      config = record { tasks = s.config.tasks; version = s.config.version; zero_withdrawn = withdrawn };
      nodes = s.nodes;
      buckets = s.buckets;
      head = s.head;
      last_node = s.last_node;
      last_bucket = s.last_bucket;
      chosen = s.chosen;
      task = ts;
    }

-- a state comes back from its words
pub state_again : (s : State) → Stored s → state_of_words (state_words s) ≡ s
unfolding state_words state_of_words tasks_of_words task_at concat_map range
state_again s h =
    let f : ℕ → Task = λ k. from_words (get_or s.task k idle) in
    let g : ℕ → Task = λ k. get_or s.task k idle in
    let tasks = map_same f g (λ k. from_words_same (g k) (h.own_steps k)) (range 0 8) ∙ each_of idle 8 s.task h.eight in
    ap (λ (b : Bool). state_with b (map f (range 0 8)) s) (truth_bit s.config.zero_withdrawn)
    ∙ ap (λ (ts : List Task). state_with s.config.zero_withdrawn ts s) tasks
