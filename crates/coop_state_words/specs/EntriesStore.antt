-- What the entries leave is a state as the code has it: 64 operations, eight tasks, own steps of at most 65,535. So its words are such that a state has,
-- and a caller's words stay so from an opening on. Assumes nothing.
use Rattle.std.specs.Prelude.{ℕ, ◌+◌, min, ◌≡◌, refl, Bool, true, ◌||◌, List, [], ◌∷◌, ltb, length, get_or}
use Rattle.std.proofs.Common.{◌∙◌, le-leb, length-set}
use Rattle.std.proofs.Math.Bool.{not}
use Rattle.std.proofs.Math.Nat.{min-le_right}
use Rattle.spec.specs.Lists.{range}
use Rattle.spec.specs.Sound.{within}
use Rattle.spec.specs.Entries.{pool_fits}
use Rattle.laws.specs.Tests.{choose}
use Rattle.state_words.specs.StateWords.{own_fits}
use Rattle.state_words.specs.EntriesStore.{passes_set, passes_map, passes_copies, wraps}
use Rattle.coop_spec.specs.declared.Operation.{Operation}
use Rattle.coop_spec.specs.declared.Task.{Task}
use Rattle.coop_spec.specs.declared.Call.{Call}
use Rattle.coop_spec.specs.declared.Call.TheVariants.{InvokeInsert, InvokeRemove, Freeze, HasMember, GetResponse}
use Rattle.coop_spec.specs.Machine.{Machine, with_state, with_versions, with_node, with_flag, with_operations, with_task}
use Rattle.coop_spec.specs.Machine.{set_operation, idle, fresh_task, with_own, state_of, task_of, set_task}
use Rattle.coop_spec.specs.Words.{Write, raise_flag, set_op, set_resp, set_done, set_returned, install, apply, apply_all}
use Rattle.coop_spec.specs.Sound.{sound}
use Rattle.coop_spec.specs.Lines.{Next, on, ends, Effect, effect}
use Rattle.coop_spec.specs.StepRefusals.{unsound_step, all_held}
use Rattle.coop_spec.specs.Entries.{Opened, not_opened, fresh_machine, opening, Reply, refuse, may_start, started, fixing, start}
use Rattle.coop_spec.specs.Entries.{finish, accept, step_running, step}
use Rattle.coop_state_words.specs.StateWords.{task_place, task_at, operations_of_words, tasks_of_words, state_of_words}
use Rattle.coop_state_words.specs.RoundTrip.{Stored}

abbrev own_test : Task → Bool
own_test c = own_fits c.own

idle_own : own_test idle ≡ true
unfolding own_fits idle
idle_own = refl

-- ---- the state that any words are, and an opening's

pub words_stored : (w : List ℕ) → Stored (state_of_words w)
unfolding state_of_words operations_of_words tasks_of_words task_at range
words_stored w =
    record {
      operations = refl;
      eight = refl;
      own_steps = passes_map own_test idle idle_own (λ k. task_at w (task_place k)) (λ k. wraps (get_or w (task_place k + 6) 0)) (range 0 8);
    }

opened_stored : (t v : ℕ) → Stored (state_of t v)
unfolding state_of
opened_stored t v = record { operations = refl; eight = refl; own_steps = passes_copies own_test idle idle_own 8 }

pub opening_stored : (t : ℕ) (vs : List ℕ) → Stored (opening t vs).machine.state
unfolding opening not_opened fresh_machine
opening_stored t vs =
    choose Left (not (within 1 8 t)) _ _ (λ p. opened_stored 0 0) (λ p.
    choose Left (not (pool_fits 66 1024 (length vs))) _ _ (λ q. opened_stored 0 0) (λ q. opened_stored t _))
  where
    Left : Opened → Type 0
    Left o = Stored o.machine.state

-- ---- a task's record and an operation replaced, and the writes of a line

abbrev Kept : Machine → Type 0
Kept y = Stored y.state

task_stored : (y : Machine) (k : ℕ) (c : Task) → own_test c ≡ true → Kept y → Kept (set_task k c y)
unfolding set_task with_task with_state
task_stored y k c e h =
    record {
      operations = h.operations;
      eight = length-set y.state.task k c ∙ h.eight;
      own_steps = passes_set own_test idle idle_own y.state.task k c e h.own_steps;
    }

operation_stored : (y : Machine) (n : ℕ) (q : Operation) → Kept y → Kept (set_operation n q y)
unfolding set_operation with_operations with_state
operation_stored y n q h =
    record { operations = length-set y.state.operation n q ∙ h.operations; eight = h.eight; own_steps = h.own_steps }

write_stored : (w : Write) (y : Machine) → Kept y → Kept (apply w y)
unfolding apply with_flag with_versions with_node with_state
write_stored raise_flag y h = record { operations = h.operations; eight = h.eight; own_steps = h.own_steps }
write_stored (set_op k m) y h = h
write_stored (set_resp n b) y h = operation_stored y n _ h
write_stored (set_done n) y h = operation_stored y n _ h
write_stored (set_returned n) y h = operation_stored y n _ h
write_stored (install k ks) y h = record { operations = h.operations; eight = h.eight; own_steps = h.own_steps }

writes_stored : (ws : List Write) (y : Machine) → Kept y → Kept (apply_all ws y)
unfolding apply_all
writes_stored [] y h = h
writes_stored (w ∷ ws) y h = writes_stored ws (apply w y) (write_stored w y h)

-- ---- start and step

started_own : (call : Call) (n k : ℕ) → own_test (started call n k) ≡ true
unfolding started fresh_task own_fits
started_own InvokeInsert n k = refl
started_own InvokeRemove n k = refl
started_own Freeze n k = refl
started_own HasMember n k = refl
started_own GetResponse n k = refl

fixing_stored : (y : Machine) (call : Call) (n k : ℕ) → Kept y → Kept (fixing y call n k)
unfolding fixing
fixing_stored y InvokeInsert n k h = operation_stored y n _ h
fixing_stored y InvokeRemove n k h = operation_stored y n _ h
fixing_stored y Freeze n k h = h
fixing_stored y HasMember n k h = h
fixing_stored y GetResponse n k h = h

finish_stored : (y : Machine) (t own : ℕ) (x : Next) → own_fits own ≡ true → Kept y → Kept (finish y t own x).machine
unfolding finish with_own
finish_stored y t own (on c) e h = task_stored y t (with_own own c) e h
finish_stored y t own (ends a) e h = task_stored y t idle idle_own h

accept_stored : (y : Machine) (t own : ℕ) (e : Effect) → Kept y → Kept (accept y t own e).machine
unfolding accept own_fits
accept_stored y t own e h =
    finish_stored (apply_all e.writes y) t (min (own + 1) 65535) e.next (le-leb _ 65535 (min-le_right (own + 1) 65535)) (writes_stored e.writes y h)

module _ (y : Machine) (t : ℕ) (h : Kept y) where
  abbrev Left : Reply → Type 0
  Left r = Kept r.machine

  pub start_stored : (call : Call) (n k : ℕ) → Left (start y t call n k)
  unfolding start refuse
  start_stored call n k =
      choose Left (not (sound y)) _ _ (λ p. h) (λ p.
      choose Left (not (ltb t y.state.tasks)) _ _ (λ q. h) (λ q.
      choose Left ((task_of y t).running || not (may_start y call n k)) _ _ (λ r. h) (λ r.
      task_stored (fixing y call n k) t (started call n k) (started_own call n k) (fixing_stored y call n k h))))

  pub step_stored : Left (step y t)
  unfolding step step_running refuse
  step_stored =
      choose Left (not (sound y)) _ _ (λ p. h) (λ p.
      choose Left (not (ltb t y.state.tasks)) _ _ (λ q. h) (λ q.
      choose Left (not (task_of y t).running) _ _ (λ r. h) (λ r.
      choose Left (unsound_step y (task_of y t)) _ _ (λ u. h) (λ u.
      choose Left (all_held y (task_of y t)) _ _ (λ v. h) (λ v. accept_stored y t _ (effect y (task_of y t)) h)))))
