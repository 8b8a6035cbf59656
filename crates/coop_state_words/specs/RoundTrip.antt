-- A state and its words say the same: words that a state has are the words of the state that they are, a state as the code has it comes back from its
-- words, and its words are such that a state has. Assumes nothing.
use Rattle.std.specs.Prelude.{ℕ, ◌+◌, ◌%◌, ◌≡◌, refl, Bool, true, ◌&&◌, List, [], ◌∷◌, ◌++◌, map, eqb, length, get_or}
use Rattle.std.proofs.Common.{ap, ◌∙◌, eqb-true}
use Rattle.spec.specs.Lists.{concat_map, every, range}
use Rattle.laws.specs.Tests.{and2, and3, and4, and_i}
use Rattle.state_words.specs.StateWords.{bit, truth, bit_fits, own_fits}
use Rattle.state_words.specs.RoundTrip.{each_of, bit_truth, truth_bit, bit_small, own_again, same_joined, map_same, every_of}
use Rattle.coop_spec.specs.declared.Operation.{Operation}
use Rattle.coop_spec.specs.declared.Task.{Task}
use Rattle.coop_spec.specs.declared.State.{State}
use Rattle.coop_spec.specs.Machine.{never_invoked, idle}
use Rattle.coop_state_words.specs.StateWords.{operation_words, task_words, operations_words, tasks_words, state_words}
use Rattle.coop_state_words.specs.StateWords.{operation_place, task_place, operation_at, task_at, operations_of_words, tasks_of_words, state_of_words}
use Rattle.coop_state_words.specs.StateWords.{operation_fits, task_fits, operations_fit, tasks_fit, state_fits}

-- ---- from words to a state and back

-- so many words from a place on
abbrev words_from : List ℕ → ℕ → ℕ → List ℕ
words_from w a n = map (λ k. get_or w k 0) (range a n)

-- an operation's words, and a task's, with these in the place of truth values and own steps
abbrev five : ℕ → ℕ → ℕ → List ℕ → ℕ → List ℕ
five x y z w a = get_or w a 0 ∷ get_or w (a + 1) 0 ∷ x ∷ y ∷ z ∷ []

abbrev nine : ℕ → ℕ → List ℕ → ℕ → List ℕ
nine runs own w a =
    runs ∷ get_or w (a + 1) 0 ∷ get_or w (a + 2) 0 ∷ get_or w (a + 3) 0 ∷ get_or w (a + 4) 0 ∷ get_or w (a + 5) 0 ∷ own ∷ get_or w (a + 7) 0 ∷ get_or w (a + 8) 0 ∷ []

abbrev their_five : List ℕ → ℕ → List ℕ
their_five w a = five (get_or w (a + 2) 0) (get_or w (a + 3) 0) (get_or w (a + 4) 0) w a

abbrev their_nine : List ℕ → ℕ → List ℕ
their_nine w a = nine (get_or w a 0) (get_or w (a + 6) 0) w a

operation_again : (w : List ℕ) (a : ℕ) → operation_fits w a ≡ true → operation_words (operation_at w a) ≡ their_five w a
unfolding operation_at operation_fits
operation_again w a h =
    let x = get_or w (a + 2) 0 in
    let y = get_or w (a + 3) 0 in
    let z = get_or w (a + 4) 0 in
    let p = and3 (bit_fits x) (bit_fits y) (bit_fits z) h in
    ap (λ (n : ℕ). five n (bit (truth y)) (bit (truth z)) w a) (bit_truth x p.0)
    ∙ ap (λ (n : ℕ). five x n (bit (truth z)) w a) (bit_truth y p.1)
    ∙ ap (λ (n : ℕ). five x y n w a) (bit_truth z p.2)

task_again : (w : List ℕ) (a : ℕ) → task_fits w a ≡ true → task_words (task_at w a) ≡ their_nine w a
unfolding task_at task_fits
task_again w a h =
    let x = get_or w a 0 in
    let y = get_or w (a + 6) 0 in
    let p = and2 (bit_fits x) (own_fits y) h in
    ap (λ (n : ℕ). nine n (y % 65536) w a) (bit_truth x p.0) ∙ ap (λ (n : ℕ). nine x n w a) (own_again y p.1)

operations_again : (w : List ℕ) → operations_fit w ≡ true → operations_words (operations_of_words w) ≡ words_from w 5 320
unfolding operations_words operations_of_words operations_fit concat_map range
operations_again w h =
    let f : ℕ → List ℕ = λ k. operation_words (operation_at w (operation_place k)) in
    let g : ℕ → List ℕ = λ k. their_five w (operation_place k) in
    same_joined f g (λ k. operation_fits w (operation_place k)) (λ k e. operation_again w (operation_place k) e) (range 0 64) h

tasks_again : (w : List ℕ) → tasks_fit w ≡ true → tasks_words (tasks_of_words w) ≡ words_from w 325 72
unfolding tasks_words tasks_of_words tasks_fit concat_map range
tasks_again w h =
    let f : ℕ → List ℕ = λ k. task_words (task_at w (task_place k)) in
    let g : ℕ → List ℕ = λ k. their_nine w (task_place k) in
    same_joined f g (λ k. task_fits w (task_place k)) (λ k e. task_again w (task_place k) e) (range 0 8) h

abbrev Fits : List ℕ → Type 0
Fits w = (eqb (length w) 397 ≡ true) × (bit_fits (get_or w 4 0) ≡ true) × (operations_fit w ≡ true) × (tasks_fit w ≡ true)

fits : (w : List ℕ) → state_fits w ≡ true → Fits w
unfolding state_fits
fits w h = and4 (eqb (length w) 397) (bit_fits (get_or w 4 0)) (operations_fit w) (tasks_fit w) h

pub fits_long : (w : List ℕ) → state_fits w ≡ true → length w ≡ 397
fits_long w h = eqb-true (length w) 397 (fits w h).0

joined : (w : List ℕ) → get_or w 0 0 ∷ get_or w 1 0 ∷ get_or w 2 0 ∷ get_or w 3 0 ∷ get_or w 4 0 ∷ (words_from w 5 320 ++ words_from w 325 72) ≡ words_from w 0 397
unfolding range
joined w = refl

-- words that a state has are those of the state that they are
pub words_again : (w : List ℕ) → state_fits w ≡ true → state_words (state_of_words w) ≡ w
unfolding state_words state_of_words
words_again w h =
    let p = fits w h in
    let first : ℕ → List ℕ → List ℕ = λ n v. get_or w 0 0 ∷ get_or w 1 0 ∷ get_or w 2 0 ∷ get_or w 3 0 ∷ n ∷ v in
    let flag = bit_truth (get_or w 4 0) p.1 in
    let tasks = tasks_words (tasks_of_words w) in
    ap (λ (n : ℕ). first n (operations_words (operations_of_words w) ++ tasks)) flag
    ∙ ap (λ (v : List ℕ). first (get_or w 4 0) (v ++ tasks)) (operations_again w p.2)
    ∙ ap (λ (v : List ℕ). first (get_or w 4 0) (words_from w 5 320 ++ v)) (tasks_again w p.3)
    ∙ joined w ∙ each_of 0 397 w (fits_long w h)

-- ---- from a state to words and back

-- as the code has a state: 64 operations, eight tasks, own steps of 16 bits
pub record Stored (s : State) : Type 0 where
  pub operations : length s.operation ≡ 64
  pub eight : length s.task ≡ 8
  pub own_steps : (k : ℕ) → own_fits (get_or s.task k idle).own ≡ true

-- an operation with what the words keep of its truth values; a task with what they keep of these two
abbrev rebuilt_operation : Bool → Bool → Bool → Operation → Operation
rebuilt_operation x y z q = record { kind = q.kind; tag = q.tag; resp = x; done = y; returned = z }

operation_same : (q : Operation) → rebuilt_operation (truth (bit q.resp)) (truth (bit q.done)) (truth (bit q.returned)) q ≡ q
operation_same q =
    ap (λ (b : Bool). rebuilt_operation b (truth (bit q.done)) (truth (bit q.returned)) q) (truth_bit q.resp)
    ∙ ap (λ (b : Bool). rebuilt_operation q.resp b (truth (bit q.returned)) q) (truth_bit q.done)
    ∙ ap (λ (b : Bool). rebuilt_operation q.resp q.done b q) (truth_bit q.returned)

abbrev rebuilt_task : Bool → ℕ → Task → Task
rebuilt_task runs own c =
    record {
      running = runs;
      call = c.call;
      op = c.op;
      tag = c.tag;
      line = c.line;
      back = c.back;
      own = own;
      o = c.o;
      helped = c.helped;
    }

task_same : (c : Task) → own_fits c.own ≡ true → rebuilt_task (truth (bit c.running)) (c.own % 65536) c ≡ c
task_same c h =
    ap (λ (r : Bool). rebuilt_task r (c.own % 65536) c) (truth_bit c.running)
    ∙ ap (λ (n : ℕ). rebuilt_task c.running n c) (own_again c.own h)

abbrev state_with : Bool → List Operation → List Task → State → State
state_with flag os ts s =
    record { tasks = s.tasks; versions = s.versions; node = s.node; last = s.last; flag = flag; operation = os; task = ts }

-- a state comes back from its words
pub state_again : (s : State) → Stored s → state_of_words (state_words s) ≡ s
unfolding state_words operations_words tasks_words state_of_words operations_of_words tasks_of_words operation_at task_at concat_map range
state_again s h =
    let old : ℕ → Operation = λ k. get_or s.operation k never_invoked in
    let of_words : ℕ → Operation = λ k. rebuilt_operation (truth (bit (old k).resp)) (truth (bit (old k).done)) (truth (bit (old k).returned)) (old k) in
    let ops = map_same of_words old (λ k. operation_same (old k)) (range 0 64) ∙ each_of never_invoked 64 s.operation h.operations in
    let was : ℕ → Task = λ k. get_or s.task k idle in
    let from_words : ℕ → Task = λ k. rebuilt_task (truth (bit (was k).running)) ((was k).own % 65536) (was k) in
    let tasks = map_same from_words was (λ k. task_same (was k) (h.own_steps k)) (range 0 8) ∙ each_of idle 8 s.task h.eight in
    ap (λ (b : Bool). state_with b (map of_words (range 0 64)) (map from_words (range 0 8)) s) (truth_bit s.flag)
    ∙ ap (λ (os : List Operation). state_with s.flag os (map from_words (range 0 8)) s) ops
    ∙ ap (λ (ts : List Task). state_with s.flag s.operation ts s) tasks

-- and its words are such that a state has
pub words_fit : (s : State) → Stored s → state_fits (state_words s) ≡ true
unfolding state_words operations_words tasks_words state_fits operations_fit tasks_fit operation_fits task_fits concat_map every range
words_fit s h =
    let old : ℕ → Operation = λ k. get_or s.operation k never_invoked in
    let f : ℕ → Bool = λ k. bit_fits (bit (old k).resp) && bit_fits (bit (old k).done) && bit_fits (bit (old k).returned) in
    let fs : (k : ℕ) → f k ≡ true =
    λ k. and_i _ _ (and_i _ _ (bit_small (old k).resp) (bit_small (old k).done)) (bit_small (old k).returned) in
    let was : ℕ → Task = λ k. get_or s.task k idle in
    let g : ℕ → Bool = λ k. bit_fits (bit (was k).running) && own_fits (was k).own in
    let gs : (k : ℕ) → g k ≡ true = λ k. and_i _ _ (bit_small (was k).running) (h.own_steps k) in
    let flag = bit_fits (bit s.flag) in
    and_i (flag && every f (range 0 64)) (every g (range 0 8))
    (and_i flag (every f (range 0 64)) (bit_small s.flag) (every_of f fs (range 0 64))) (every_of g gs (range 0 8))
