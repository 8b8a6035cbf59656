-- The last one chosen (paper 02, U7): no start, step or list asks of it more than that it is a task, and "only the dispatcher moves it".
-- Assumes nothing.
use Prim.Native.Nat.{ℕ, zero, suc, ◌+◌, ◌<◌, min}
use Rattle.std.specs.Prelude.{◌≡◌, Bool, true, false, not, ◌&&◌, ltb, if◌then◌else◌}
use Rattle.std.proofs.Math.Path.{refl, ap}
use Rattle.std.proofs.Common.{◌∙◌}
use mathlib.Core.List.{List, [], ◌∷◌}
use borrow.Author.Tests.{lt-ltb}
use Rattle.spec.specs.declared.Refusal.TheVariants.{NoTask, Idle, NoRecord, Spoilt}
use Rattle.spec.specs.declared.Call.{Call}
use Rattle.spec.specs.declared.Config.{Config}
use Rattle.spec.specs.declared.Task.{Task}
use Rattle.spec.specs.declared.Answer.{Answer}
use Rattle.spec.specs.declared.Answer.TheVariants.{Yes, No, Full, Done, Lost, Limit}
use Rattle.spec.specs.Machine.{Machine, state_head, state_last_node, state_last_bucket, state_chosen, state_task, with_state, with_nodes, with_buckets}
use Rattle.spec.specs.Machine.{with_head, with_last_node, with_last_bucket, with_chosen, with_task, set_task, task_of}
use Rattle.spec.specs.Words.{changeable, Write, nothing, set_head, set_place, clear_pred, freeze, put_tags, new_node, new_bucket, apply}
use Rattle.spec.specs.Sound.{task_count, sound_numbers, node_link, bucket_link, sound_node, sound_nodes, sound_running, sound_task, sound_tasks, sound}
use Rattle.spec.specs.Lines.{Next, on, ends, Effect, insert_write, answer_36, insert_36, remove_36, line_36, effect}
use Rattle.spec.specs.StepRefusals.{unsound_step, all_held}
use Rattle.spec.specs.Entries.{Reply, refuse, withdrawn, start, occupancy, finish, accept, step_running, step, list}
use Rattle.spec.specs.Schedule.{Event, starts, steps, event}
use Rattle.spec.specs.Listed.{size_of, pred_of, place_of, place_for, tags_of, head_of, in_bucket, in_set, placed_tags, node_tags, listed}
use Rattle.spec.specs.Everything.{everything}
use Rattle.laws.specs.Tests.{choose}
use Rattle.laws.specs.AfterWrites.{Kept, apply_kept}

-- ---- no start and no step changes what the state keeps of its opening, H, B, or the last one chosen

pub record Fixed : Type 0 where
  pub config : Config
  pub nodes : ℕ
  pub buckets : ℕ
  pub chosen : ℕ

abbrev pub fixed : Machine → Fixed
fixed y = record { config = y.state.config; nodes = y.state.nodes; buckets = y.state.buckets; chosen = y.state.chosen }

finish_same : (y : Machine) (k own : ℕ) (n : Next) → fixed (finish y k own n).machine ≡ fixed y
unfolding finish set_task with_task with_state state_task
finish_same y k own (on c) = refl
finish_same y k own (ends a l) = refl

-- the part that no write changes has it
abbrev fixed_part : Kept → Fixed
fixed_part p = record { config = p.config; nodes = p.nodes; buckets = p.buckets; chosen = p.chosen }

accept_same : (y : Machine) (k own : ℕ) (e : Effect) → fixed (accept y k own e).machine ≡ fixed y
unfolding accept
accept_same y k own e = finish_same (apply e.write y) k (min (own + 1) 65535) e.next ∙ ap fixed_part (apply_kept e.write y)

module _ (y : Machine) (k : ℕ) where
  abbrev Same : Reply → Type 0
  Same r = fixed r.machine ≡ fixed y

  start_same : (call : Call) (tag : ℕ) → Same (start y k call tag)
  unfolding start refuse set_task with_task with_state state_task
  start_same call tag =
      choose Same (not (sound y)) _ _ (λ p. refl) (λ p.
      choose Same (not (ltb k (task_count y))) _ _ (λ q. refl) (λ q.
      choose Same (task_of y k).running _ _ (λ s. refl) (λ s.
      choose Same (withdrawn y.state.config call tag) _ _ (λ w. refl) (λ w. refl))))

  step_same : Same (step y k)
  unfolding step step_running refuse
  step_same =
      choose Same (not (sound y)) _ _ (λ p. refl) (λ p.
      choose Same (not (ltb k (task_count y))) _ _ (λ q. refl) (λ q.
      choose Same (not (task_of y k).running) _ _ (λ s. refl) (λ s.
      choose Same (unsound_step y (task_of y k)) _ _ (λ u. refl) (λ u.
      choose Same (all_held y (task_of y k)) _ _ (λ v. refl) (λ v. accept_same y k _ (effect y (task_of y k)))))))

pub event_same : (y : Machine) (e : Event) → fixed (event y e).machine ≡ fixed y
unfolding event
event_same y (starts k call tag) = start_same y k call tag
event_same y (steps k) = step_same y k

-- ---- what is done with another task chosen last is the same, but for that word

-- a choice between what a function gives
either : {A : Type 0} {B : Type 0} (f : A → B) (b : Bool) (u v : A) (p q : B) → p ≡ f u → q ≡ f v → (if b then p else q) ≡ f (if b then u else v)
either f true u v p q d e = d
either f false u v p q d e = e

-- the same reply, with l chosen last
abbrev pub again : ℕ → Reply → Reply
again l r = record { out = r.out; machine = with_chosen l r.machine }

finish_apart : (y : Machine) (l k own : ℕ) (n : Next) → finish (with_chosen l y) k own n ≡ again l (finish y k own n)
unfolding finish occupancy set_task with_task with_chosen with_state state_task state_chosen
finish_apart y l k own (on c) = refl
finish_apart y l k own (ends a b) = refl

module _ (y : Machine) (l : ℕ) where
  abbrev z : Machine
  z = with_chosen l y

  nodes_apart : (n : ℕ) (w : List ℕ) → sound_nodes z n w ≡ sound_nodes y n w
  unfolding sound_nodes sound_node node_link bucket_link with_chosen with_state state_chosen
  nodes_apart zero w = refl
  nodes_apart (suc n) w = ap (λ (b : Bool). sound_node y w && b) (nodes_apart n _)

  tasks_apart : (k : ℕ) (cs : List Task) → sound_tasks z k cs ≡ sound_tasks y k cs
  unfolding sound_tasks sound_task sound_running node_link bucket_link with_chosen with_state state_chosen
  tasks_apart k [] = refl
  tasks_apart k (c ∷ cs) = ap (λ (b : Bool). sound_task y k c && b) (tasks_apart (suc k) cs)

  in_set_apart : in_set z ≡ in_set y
  unfolding in_set place_for size_of pred_of head_of in_bucket tags_of place_of with_chosen with_state state_chosen
  in_set_apart = λ i k. in_set y k

  placed_apart : placed_tags z ≡ placed_tags y
  unfolding placed_tags tags_of with_chosen with_state state_chosen
  placed_apart = λ i l. placed_tags y l

  listed_apart : listed z ≡ listed y
  unfolding listed node_tags pred_of head_of with_chosen with_state state_chosen
  listed_apart = rw (in_set_apart, placed_apart)

  write_apart : (c : Task) (a : Answer) → insert_write z c a ≡ insert_write y c a
  unfolding insert_write tags_of with_chosen with_state state_chosen
  write_apart c Yes = refl
  write_apart c No = refl
  write_apart c Full = refl
  write_apart c Done = refl
  write_apart c Lost = refl
  write_apart c Limit = refl

  line_36_apart : (c : Task) → line_36 z c ≡ line_36 y c
  unfolding line_36 insert_36 answer_36 remove_36 changeable tags_of with_chosen with_state state_chosen
  line_36_apart c = rw (write_apart c, listed_apart)

  effect_apart : (c : Task) → effect z c ≡ effect y c
  unfolding everything
  effect_apart c = rw (line_36_apart c)

  apply_apart : (w : Write) → apply w z ≡ with_chosen l (apply w y)
  unfolding apply with_chosen with_state with_head with_nodes with_buckets with_last_node with_last_bucket state_head state_last_node state_last_bucket
      state_chosen
  apply_apart nothing = refl
  apply_apart (set_head k) = refl
  apply_apart (set_place k i p) = refl
  apply_apart (clear_pred k) = refl
  apply_apart (freeze k) = refl
  apply_apart (put_tags k ks) = refl
  apply_apart (new_node k sz p) = refl
  apply_apart (new_bucket k ks) = refl

  accept_apart : (k own : ℕ) (e : Effect) → accept z k own e ≡ again l (accept y k own e)
  unfolding accept
  accept_apart k own e = rw (apply_apart e.write) (finish_apart (apply e.write y) l k (min (own + 1) 65535) e.next)

  unsound_apart : (c : Task) → unsound_step z c ≡ unsound_step y c
  unfolding everything
  unsound_apart c = rw listed_apart

  held_apart : (c : Task) → all_held z c ≡ all_held y c
  unfolding everything
  held_apart c = refl

  module _ (h : l < task_count y) (c : y.state.chosen < task_count y) where
    numbers_apart : sound_numbers z ≡ sound_numbers y
    unfolding sound_numbers with_chosen with_state state_chosen
    numbers_apart = rw (lt-ltb _ _ h, lt-ltb _ _ c)

    pub sound_apart : sound z ≡ sound y
    unfolding sound with_chosen with_state state_chosen
    sound_apart = rw (numbers_apart, nodes_apart, tasks_apart)

    start_apart : (k : ℕ) (call : Call) (tag : ℕ) → start z k call tag ≡ again l (start y k call tag)
    unfolding start refuse set_task with_task task_of with_chosen with_state state_task state_chosen
    start_apart k call tag =
        rw sound_apart
        (either (again l) (not (sound y)) _ _ _ _ refl
        (either (again l) (not (ltb k (task_count y))) _ _ _ _ refl
        (either (again l) (task_of y k).running _ _ _ _ refl
        (either (again l) (withdrawn y.state.config call tag) _ _ _ _ refl refl))))

    running_apart : (k : ℕ) (c : Task) → step_running z k c ≡ again l (step_running y k c)
    unfolding step_running refuse
    running_apart k c =
        rw (unsound_apart c, held_apart c, effect_apart c)
        (either (again l) (unsound_step y c) (refuse Spoilt y) _ (refuse Spoilt z) _ refl
        (either (again l) (all_held y c) (refuse NoRecord y) _ (refuse NoRecord z) _ refl (accept_apart k c.own (effect y c))))

    step_apart : (k : ℕ) → step z k ≡ again l (step y k)
    unfolding step refuse task_of with_chosen with_state state_chosen
    step_apart k =
        let c = task_of y k in
        rw sound_apart
        (either (again l) (not (sound y)) (refuse Spoilt y) _ (refuse Spoilt z) _ refl
        (either (again l) (not (ltb k (task_count y))) (refuse NoTask y) _ (refuse NoTask z) _ refl
        (either (again l) (not c.running) (refuse Idle y) _ (refuse Idle z) _ refl (running_apart k c))))

    pub event_apart : (e : Event) → event z e ≡ again l (event y e)
    unfolding event
    event_apart (starts k call tag) = start_apart k call tag
    event_apart (steps k) = step_apart k

    pub list_apart : (w : List ℕ) → list z w ≡ list y w
    unfolding list
    list_apart w = rw (sound_apart, listed_apart)
