-- One event run and noted: the call that an output ends, the turn of the loop that runs events, and whether memory is sound.
-- Assumes nothing.
use Rattle.std.specs.Prelude.{Option, Some, None, ℕ, Ok, Err}
use Rattle.std.specs.Option.{is_some}
use Prim.Native.Nat.{ℕ, ◌+◌, ◌*◌, ◌≤◌, ◌<◌}
use mathlib.Core.Path.{◌≡◌, refl, sym, ap, ◌∙◌}
use mathlib.Core.List.{List, [], ◌∷◌}
use native.Mathlib.Omega.{arith}
use mathlib.Core.Bool.{Bool, true, false, not}
use borrow.Author.Tests.{ne_eqb}
use lib.Dec.{eqb}
use lib.ListN.{length, get_or}
use Rattle.spec.specs.declared.Refusal.{Refusal}
use Rattle.spec.specs.declared.Answer.{Answer}
use Rattle.spec.specs.declared.Config.{Config}
use Rattle.spec.specs.declared.Call.TheVariants.{Insert, Remove, Contains, Grow, Shrink}
use Rattle.spec.specs.Outputs.{Output}
use Rattle.spec.specs.declared.Progress.TheVariants.{At, End}
use Rattle.spec.specs.declared.Task.{Task}
use Rattle.spec.specs.Lists.{concat_map}
use Rattle.spec.specs.Numbers.{answer_number, refusal_number, opening_number}
use Rattle.spec.specs.Machine.{Machine, idle, task_of}
use Rattle.spec.specs.Words.{overwrite}
use Rattle.spec.specs.Sound.{sound}
use Rattle.spec.specs.Entries.{Reply, opening}
use Rattle.spec.specs.Schedule.{Event, starts, steps, event, run}
use Rattle.spec.specs.declared.Progress.{Progress}
use Rattle.laws.specs.Tests.{tf, choose}
use Rattle.laws.specs.RefusalNumbers.{never_0}
use Rattle.known_memory.specs.EventSound.{event_sound, opening_known}
use Rattle.session.specs.Transcript.{task_in}
use Rattle.schedule_words.proofs.Laws.{over_none}
use Rattle.schedule_events.specs.Events.{event_of, events_of}
use Rattle.schedule_events.specs.EventLaws.{events_length, event_at}
use Rattle.mattered.specs.EndedCalls.{ended_by, ended_calls}
use Rattle.mattered.specs.Mattered.{without}
use Rattle.mattered_replay.specs.Replay.{all_words, NotedAfter, RunNoted, Noted, noted, ended_at, on_event, replay}
use Rattle.mattered_replay.proofs.Replayed.{ends_one, replayed}
use Rattle.mattered_replay.proofs.EventsLeft.{left, left_start, left_out, left_on, left_end, without_length}

-- ---- the call that an output ends

module _ (k : ℕ) (c : Task) {o : Output} (n : ℕ) (w : List ℕ) where
  pub none_at : (l : ℕ) {p : Progress} → o ≡ Ok p → p ≡ At l → NotedAfter (ended_by k c o) n w n w
  unfolding ended_by concat_map
  none_at l e f = rw (e, f) (omega arith, sym (over_none w (4 * n)))

  pub none_refused : (r : Refusal) → o ≡ Err r → NotedAfter (ended_by k c o) n w n w
  unfolding ended_by concat_map
  none_refused r e = rw e (omega arith, sym (over_none w (4 * n)))

  pub one_ended : (a : Answer) (own x : ℕ) (full : Option ℕ) {p : Progress} → o ≡ Ok p → p ≡ End a own full → x ≡ answer_number a → (w' : List ℕ)
      → w' ≡ overwrite w (4 * n) (k ∷ c.call ∷ c.tag ∷ x ∷ []) → NotedAfter (ended_by k c o) n w (n + 1) w'
  unfolding ended_by concat_map
  one_ended a own x full e g q w' f = rw (e, g, ← q) (omega arith, f)

-- ---- an event

-- an event of words is of the task that they name
task_of_words : (kind task tag : ℕ) → task_in (event_of kind task tag) ≡ task
unfolding event_of task_in
task_of_words kind task tag =
    let P : Event → Type 0 = λ e. task_in e ≡ task in
    choose P (eqb kind 1) (starts task Insert tag) _ (λ p. refl) (λ p.
    choose P (eqb kind 2) (starts task Remove tag) _ (λ p. refl) (λ p.
    choose P (eqb kind 3) (starts task Contains tag) _ (λ p. refl) (λ p.
    choose P (eqb kind 4) (starts task Grow tag) _ (λ p. refl) (λ p.
    choose P (eqb kind 5) (starts task Shrink tag) (steps task) (λ p. refl) (λ p. refl)))))

module _ (ws : List ℕ) (i : ℕ) (y : Machine) (n : ℕ) (w : List ℕ) {kind k tag : ℕ} {c : Task} {r : Reply} {m : ℕ} {v : List ℕ}
    (at-kind : kind ≡ get_or ws (4 * i) 0) (at-task : k ≡ get_or ws (4 * i + 1) 0) (at_tag : tag ≡ get_or ws (4 * i + 2) 0)
    (record_is : c ≡ get_or y.state.task k idle) (reply : r ≡ event y (event_of kind k tag)) (so : NotedAfter (ended_by k c r.out) n w m v) where
  calls_are : ended_at y (event_of kind k tag) ≡ ended_by k c r.out
  unfolding ended_at task_of
  calls_are = rw (task_of_words kind k tag, ← record_is, ← reply)

  pub noted_event : (m ≤ n + 1) × (noted r.machine m v ≡ on_event (noted y n w) (event_at ws i))
  unfolding on_event
  noted_event = (
    (let h = ends_one k c r.out in omega (arith, so.0, h)),
    rw (← at-kind, ← at-task, ← at_tag, calls_are, ← reply) (λ j. noted r.machine (so.0 j) (so.1 j)),
  )

-- ---- the loop: what is left to run

module _ (ws : List ℕ) (k n : ℕ) (p : Noted) where
  -- the whole run without event k goes on from q at event i
  pub record RunLeft (q : Noted) (i : ℕ) : Type 0 where
    pub rest : replay p (without k (events_of n ws)) ≡ replay q (left ws k n i)

  pub run_start : RunLeft p 0
  run_start = record { rest = ap (replay p) (sym (left_start ws k n)) }

  module _ {q : Noted} {i : ℕ} (l : RunLeft q i) where
    pub run_past : i < n → i ≡ k → RunLeft q (i + 1)
    run_past h e = record { rest = l.rest ∙ ap (replay q) (left_out ws k n i h e) }

    pub run_on : i < n → ¬ (i ≡ k) → (q' : Noted) → q' ≡ on_event q (event_at ws i) → RunLeft q' (i + 1)
    unfolding replay
    run_on h d q' e = record { rest = l.rest ∙ ap (replay q) (left_on ws k n i h d) ∙ ap (λ (x : Noted). replay x (left ws k n (i + 1))) (sym e) }

    run_end : n ≤ i → q ≡ replay p (without k (events_of n ws))
    unfolding replay
    run_end h = sym (l.rest ∙ ap (replay q) (left_end ws k n i h))

pub run_noted : (ws : List ℕ) (k n : ℕ) (y y' : Machine) → y' ≡ y → (w : List ℕ) {z : Machine} {m : ℕ} {v : List ℕ} {i : ℕ}
    → RunLeft ws k n (noted y' 0 w) (noted z m v) i → n ≤ i → m ≤ n → n ≤ 256 → 1024 ≤ length w
    → RunNoted y (without k (events_of n ws)) n w m v z.nodes z.buckets
run_noted ws k n y y' same w {m = m} {v = v} l h few short room =
    let es = without k (events_of n ws) in
    let less = without_length (events_of n ws) k in
    let all = events_length n ws in
    let r = replayed es y' 0 w (omega (arith, less, all)) in
    let e = run_end ws k n (noted y' 0 w) l h in
    let z : 0 + length (ended_calls y' es) ≡ length (ended_calls y' es) = omega arith in
    let left = ap (λ (x : Noted). x.machine) e ∙ r.machine ∙ ap (λ (x : Machine). (run x es).machine) same in
    record {
      count = ap (λ (x : Noted). x.count) e ∙ r.count ∙ z ∙ ap (λ (x : Machine). length (ended_calls x es)) same;
      few = few;
      words = ap (λ (x : Noted). x.words) e ∙ r.words ∙ ap (λ (x : Machine). overwrite w 0 (all_words (ended_calls x es))) same;
      nodes = ap (λ (x : Machine). x.nodes) left;
      buckets = ap (λ (x : Machine). x.buckets) left;
    }

-- ---- whether memory is sound

pub known_opened : (g : Config) (ns bs : List ℕ) (why : Option Refusal) {y : Machine} → opening_number why ≡ (opening g ns bs).refusal
    → y ≡ (opening g ns bs).machine → (ok : Bool) → is_some why ≡ not ok → ok ≡ sound y
known_opened g ns bs why e f ok none = none_by_0 why ok none ∙ ap (λ (x : ℕ). eqb x 0) e ∙ sym (opening_known g ns bs) ∙ ap sound (sym f)
  where
    none_by_0 : (why : Option Refusal) (ok : Bool) → is_some why ≡ not ok → ok ≡ eqb (opening_number why) 0
    none_by_0 None true n = refl
    none_by_0 None false n = absurd (tf n refl)
    none_by_0 (Some r) true n = absurd (tf refl n)
    none_by_0 (Some r) false n = sym (ne_eqb (refusal_number r) 0 (never_0 r))

pub known_after : (p q : Noted) (v : Event) → q ≡ on_event p v → sound q.machine ≡ sound p.machine
unfolding on_event
known_after p q v e = ap (λ (x : Noted). sound x.machine) e ∙ event_sound p.machine v
