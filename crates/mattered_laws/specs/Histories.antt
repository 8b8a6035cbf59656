-- The ended calls compared here are those that paper 01's history has, and the resizes: `history_told`. History tells a call and its tag from
-- the task's last accepted start, `ended_calls` from the task's record, and every step keeps these (CallsKept). Assumes nothing.
use Rattle.std.specs.Prelude.{ℕ, zero, suc, ◌+◌, ◌<◌, min, ◌≡◌, Bool, true, false, not, length, replicate, if◌then◌else◌}
use Rattle.std.proofs.Math.Path.{refl, sym, ap}
use Rattle.std.proofs.Common.{◌∙◌, eq-eqb, ne_eqb}
use mathlib.Core.List.{List, [], ◌∷◌, ◌++◌, map, reverse, reverse-cons, append-nil, append_assoc}
use Rattle.std.proofs.Math.Decide.{ℕ_discrete}
use Rattle.std.proofs.lemmas.Bool.{not-false}
use Rattle.std.proofs.Math.Dec.{ltb}
use Rattle.std.proofs.Math.ListN.{get_or}
use Rattle.spec.specs.declared.Refusal.{Refusal}
use Rattle.spec.specs.declared.Refusal.TheVariants.{NoTask, Running, Idle, NoRecord, Spoilt, Withdrawn}
use Rattle.spec.specs.declared.Answer.{Answer}
use Rattle.spec.specs.declared.Call.{Call}
use Rattle.spec.specs.declared.Call.TheVariants.{Insert, Remove, Contains, Grow, Shrink}
use Rattle.spec.specs.declared.Config.{Config}
use Rattle.spec.specs.declared.Task.{Task}
use Rattle.spec.specs.Lists.{filter}
use Rattle.spec.specs.Numbers.{call_number, answer_number}
use Rattle.spec.specs.Machine.{Machine, idle, fresh_task, with_own, state_of, task_of, set_task}
use Rattle.spec.specs.Words.{apply}
use Rattle.spec.specs.Sound.{task_count, sound}
use Rattle.spec.specs.Lines.{Effect, effect}
use Rattle.spec.specs.StepRefusals.{unsound_step, all_held}
use Rattle.spec.specs.Entries.{Reply, fresh_machine, opening, refuse, started, withdrawn, start, finish, accept, step_running, step}
use Rattle.spec.specs.Schedule.{Event, starts, steps, event, run}
use Rattle.spec.specs.History.{Ended, Started, set_call, note, tell, history_from, none_started, history}
use Rattle.laws.specs.Tests.{tf, choose, At as Seen, hit, miss}
use Rattle.laws.specs.AfterWrites.{after_task, apply_task}
use Rattle.laws.specs.OpeningSound.{opened_machine}
use Rattle.session.specs.Transcript.{task_in}
use Rattle.mattered.specs.EndedCalls.{EndedCall, ended_by, ended_calls}
use Rattle.mattered_laws.specs.CallsKept.{Keeps, goes_on, call_ends, effect_keeps}

-- a call of the history, without the places of its events
unfoldable pub told : Ended → EndedCall
told x = record { task = x.task; call = call_number x.call; tag = x.tag; answer = answer_number x.answer }

-- "resizes .. are not in it": an insert, a remove or a contains
unfoldable pub of_set : EndedCall → Bool
of_set a = ltb a.call 4

of_set_call : (c : Call) → ltb (call_number c) 4 ≡ set_call c
unfolding set_call
of_set_call Insert = refl
of_set_call Remove = refl
of_set_call Contains = refl
of_set_call Grow = refl
of_set_call Shrink = refl

-- ---- a running task's record has the call and the tag of its last accepted start; a resize's tag is not told

record Agrees (b : Started) (c : Task) : Type 0 where
  call : c.call ≡ call_number b.call
  tag : set_call b.call ≡ true → c.tag ≡ b.tag

abbrev AllAgree : (ℕ → Started) → Machine → Type 0
AllAgree last y = (q : ℕ) → (task_of y q).running ≡ true → Agrees (last q) (task_of y q)

start_agrees : (call : Call) (tag n : ℕ) → Agrees (record { call = call; tag = tag; start = n }) (started call tag)
unfolding started fresh_task set_call
start_agrees Insert tag n = record { call = refl; tag = λ e. refl }
start_agrees Remove tag n = record { call = refl; tag = λ e. refl }
start_agrees Contains tag n = record { call = refl; tag = λ e. refl }
start_agrees Grow tag n = record { call = refl; tag = λ e. absurd (tf e refl) }
start_agrees Shrink tag n = record { call = refl; tag = λ e. absurd (tf e refl) }

-- task k has this record now, the others what they had
module _ (last last' : ℕ → Started) (y z : Machine) (k : ℕ) (c : Task) (same : z.state.task ≡ y.state.task)
    (here : c.running ≡ true → Agrees (last' k) c) (there : (q : ℕ) → ¬ (q ≡ k) → last' q ≡ last q)
    (idle-here : (task_of y k).running ≡ true → last' k ≡ last k) (all : AllAgree last y) where
  set_agrees : AllAgree last' (set_task k c z)
  unfolding task_of
  set_agrees q = go ((after_task z k c).task_at q)
    where
      others : task_of z q ≡ task_of y q
      others = ap (λ (l : List Task). get_or l q idle) same

      kept : Dec (q ≡ k) → (task_of y q).running ≡ true → Agrees (last' q) (task_of y q)
      kept (yes e) r = rw e (rw (idle-here (rw e at r)) (all k (rw e at r)))
      kept (no d) r = rw (there q d) (all q r)

      go : Seen ((q ≡ k) × (k < length z.state.task)) c (task_of z q) (task_of (set_task k c z) q)
          → (task_of (set_task k c z) q).running ≡ true → Agrees (last' q) (task_of (set_task k c z) q)
      go (hit p e) r = rw (e, p.0) (here (rw e at r))
      go (miss d e) r = rw (e, others) (kept (ℕ_discrete q k) (rw (e, others) at r))

-- ---- one event

module _ (n : ℕ) (last : ℕ → Started) (H : List Ended) (y : Machine) (all : AllAgree last y) where
  record After (e : Event) (m : Reply) : Type 0 where
    agree : AllAgree (note n last e m.out) m.machine
    ended : reverse (map told (tell n last H e m.out)) ≡ reverse (map told H) ++ filter of_set (ended_by (task_in e) (task_of y (task_in e)) m.out)

  start_refused : (k : ℕ) (call : Call) (tag : ℕ) (r : Refusal) → After (starts k call tag) (refuse r y)
  unfolding refuse note tell ended_by filter
  start_refused k call tag r = record { agree = all; ended = sym (append-nil _) }

  step_refused : (k : ℕ) (r : Refusal) → After (steps k) (refuse r y)
  unfolding refuse note tell ended_by filter
  step_refused k r = record { agree = all; ended = sym (append-nil _) }

  start_told : (k : ℕ) (call : Call) (tag : ℕ) → After (starts k call tag) (start y k call tag)
  unfolding start note tell ended_by filter
  start_told k call tag =
      let P : Reply → Type 0 = After (starts k call tag) in
      choose P (not (sound y)) _ _ (λ a. start_refused k call tag Spoilt) (λ a.
      choose P (not (ltb k (task_count y))) _ _ (λ b. start_refused k call tag NoTask) (λ b.
      choose P (task_of y k).running _ _ (λ c. start_refused k call tag Running) (λ c.
      choose P (withdrawn y.state.config call tag) _ _ (λ d. start_refused k call tag Withdrawn) (λ d.
      record {
        agree =
            set_agrees last _ y y k (started call tag) refl (λ r. rw (eq-eqb k k refl) (start_agrees call tag n)) (λ q e. rw (ne_eqb q k e))
            (λ r. absurd (tf r c)) all;
        ended = sym (append-nil _);
      }))))

  -- a step that ends the call: the history tells the same, or nothing of a resize
  end_told : (k own : ℕ) (a : Answer) (b : Started) (c : Task) → Agrees b c
      → reverse (map told (if set_call b.call then (record { task = k; call = b.call; tag = b.tag; answer = a; start = b.start; end = n } ∷ H) else H))
      ≡ reverse (map told H) ++ filter of_set (record { task = k; call = c.call; tag = c.tag; answer = answer_number a } ∷ [])
  unfolding filter of_set told
  end_told k own a b c g = go (set_call b.call) refl
    where
      is_set : ltb c.call 4 ≡ set_call b.call
      is_set = ap (λ (x : ℕ). ltb x 4) g.call ∙ of_set_call b.call

      go : (s : Bool) → set_call b.call ≡ s
          → reverse (map told (if s then (record { task = k; call = b.call; tag = b.tag; answer = a; start = b.start; end = n } ∷ H) else H))
          ≡ reverse (map told H)
          ++ (if ltb c.call 4 then (record { task = k; call = c.call; tag = c.tag; answer = answer_number a } ∷ []) else [])
      go true e =
          let calls = sym g.call in
          let tags = sym (g.tag e) in
          rw (is_set, e)
          (reverse-cons _ (map told H)
          ∙ (λ i. reverse (map told H) ++ (record { task = k; call = calls i; tag = tags i; answer = answer_number a } ∷ [])))
      go false e = rw (is_set, e) (sym (append-nil _))

  accepted_told : (k own : ℕ) (e : Effect) → (task_of y k).running ≡ true → Keeps (task_of y k) e → After (steps k) (accept y k own e)
  unfolding accept finish note tell ended_by filter with_own idle task_in
  accepted_told k own e r (goes_on {d = d} {w = w} calls tags) =
      let g = all k r in
      record {
        agree =
            set_agrees last last y (apply w y) k (with_own (min (own + 1) 65535) d) (apply_task w y)
            (λ q. record { call = calls ∙ g.call; tag = λ t. tags ∙ g.tag t }) (λ q t. refl) (λ t. refl) all;
        ended = sym (append-nil _);
      }
  accepted_told k own e r (call_ends {a = a} {w = w}) =
      record {
        agree = set_agrees last last y (apply w y) k idle (apply_task w y) (λ q. absurd (tf q refl)) (λ q t. refl) (λ t. refl) all;
        ended = end_told k own a (last k) (task_of y k) (all k r);
      }

  step_told : (k : ℕ) → After (steps k) (step y k)
  unfolding step step_running
  step_told k =
      let P : Reply → Type 0 = After (steps k) in
      choose P (not (sound y)) _ _ (λ a. step_refused k Spoilt) (λ a.
      choose P (not (ltb k (task_count y))) _ _ (λ b. step_refused k NoTask) (λ b.
      choose P (not (task_of y k).running) _ _ (λ c. step_refused k Idle) (λ c.
      choose P (unsound_step y (task_of y k)) _ _ (λ d. step_refused k Spoilt) (λ d.
      choose P (all_held y (task_of y k)) _ _ (λ f. step_refused k NoRecord) (λ f.
      accepted_told k (task_of y k).own (effect y (task_of y k)) (not-false _ c) (effect_keeps y (task_of y k)))))))

  event_told : (e : Event) → After e (event y e)
  unfolding event
  event_told (starts k call tag) = start_told k call tag
  event_told (steps k) = step_told k

-- ---- all events

filter_append : (xs ys : List EndedCall) → filter of_set (xs ++ ys) ≡ filter of_set xs ++ filter of_set ys
unfolding filter
filter_append [] ys = refl
filter_append (a ∷ xs) ys = go (of_set a) (filter_append xs ys)
  where
    go : (b : Bool) → filter of_set (xs ++ ys) ≡ filter of_set xs ++ filter of_set ys
        → (if b then (a ∷ filter of_set (xs ++ ys)) else (filter of_set (xs ++ ys)))
        ≡ (if b then (a ∷ filter of_set xs) else (filter of_set xs)) ++ filter of_set ys
    go true e = ap (λ (l : List EndedCall). a ∷ l) e
    go false e = e

told_from : (es : List Event) (n : ℕ) (last : ℕ → Started) (H : List Ended) (y : Machine) → AllAgree last y
    → reverse (map told (history_from n last H es (run y es).outs)) ≡ reverse (map told H) ++ filter of_set (ended_calls y es)
unfolding history_from run ended_calls filter
told_from [] n last H y s = sym (append-nil _)
told_from (e ∷ es) n last H y s =
    let m = event y e in
    let a = event_told n last H y s e in
    let calls = ended_by (task_in e) (task_of y (task_in e)) m.out in
    let later = ended_calls m.machine es in
    told_from es (suc n) (note n last e m.out) (tell n last H e m.out) m.machine a.agree
    ∙ ap (λ (l : List EndedCall). l ++ filter of_set later) a.ended
    ∙ append_assoc (reverse (map told H)) (filter of_set calls) (filter of_set later)
    ∙ ap (λ (l : List EndedCall). reverse (map told H) ++ l) (sym (filter_append calls later))

-- after an opening no task runs
none_runs : (k q : ℕ) → (get_or (replicate k idle) q idle).running ≡ false
unfolding idle
none_runs zero q = refl
none_runs (suc k) zero = refl
none_runs (suc k) (suc q) = none_runs k q

opened_idle : (g : Config) (ns bs : List ℕ) → (opening g ns bs).refusal ≡ 0 → AllAgree none_started (opening g ns bs).machine
unfolding task_of fresh_machine state_of
opened_idle g ns bs ok = rw (opened_machine g ns bs ok) (λ q r. absurd (tf r (none_runs 8 q)))

-- the history of a schedule, which has the last call first, is the ended calls but for the resizes
pub history_told : (g : Config) (ns bs : List ℕ) → (opening g ns bs).refusal ≡ 0 → (es : List Event)
    → let y = (opening g ns bs).machine in
    reverse (map told (history es (run y es).outs)) ≡ filter of_set (ended_calls y es)
unfolding history
history_told g ns bs ok es = told_from es 0 none_started [] (opening g ns bs).machine (opened_idle g ns bs ok)
