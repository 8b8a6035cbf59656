-- A contains has made so many steps at each of its lines, and line 13 has answered so: it ends with its third if 13 led to 18, with its fifth
-- if it led to 15. It holds of the words alone: a task's record is changed by its own accepted steps only, and no line of a contains leads
-- back. From 13 a filled place leads to 18, an empty one to 15; from there both ways lead to 18 in two steps. Assumes nothing.
use Rattle.std.specs.Prelude.{ℕ, suc, ◌+◌, min, ◌≤◌, ◌<◌, ◌≡◌, List, [], ◌∷◌, Bool, length, if◌then◌else◌, Option, Ok, Err}
use Rattle.std.proofs.Math.Path.{refl}
use Rattle.std.proofs.Common.{ap, ◌∙◌, inl, inr, arith}
use Rattle.std.proofs.Math.Bool.{true, false}
use Rattle.std.proofs.Math.Decide.{ℕ_discrete}
use borrow.Author.Tests.{eq-eqb, ne_eqb}
use Rattle.spec.specs.declared.Refusal.TheVariants.{NoTask, Running, Idle, NoRecord, Spoilt, Withdrawn}
use Rattle.spec.specs.declared.Refusal.{Refusal}
use Rattle.spec.specs.declared.Task.{Task}
use Rattle.spec.specs.declared.Answer.{Answer}
use Rattle.spec.specs.declared.Call.{Call}
use Rattle.spec.specs.declared.Call.TheVariants.{Contains}
use Rattle.spec.specs.Outputs.{Output}
use Rattle.spec.specs.declared.Progress.TheVariants as Outs
use Rattle.spec.specs.Machine.{Machine, fresh_task, with_line, with_t, with_s, with_b, task_of, set_task}
use Rattle.spec.specs.Words.{filled}
use Rattle.spec.specs.Sound.{sound}
use Rattle.spec.specs.Listed.{place_for, pred_of}
use Rattle.spec.specs.Lines.{effect, line_12, line_13, line_15, line_16, line_17, line_18}
use Rattle.spec.specs.Entries.{Reply, refuse, started, finish, accept, step}
use Rattle.spec.specs.Schedule.{Event, starts, steps, event}
use Rattle.spec.specs.ContainsSteps.{Progress, begun, stepped, progress, no_progress, ThreeOrFive, GoesOn, Exact}
use Rattle.laws.specs.Tests.{tf, at_hit, at_miss}
use Rattle.laws.specs.SoundFacts.{SoundFacts}
use Rattle.laws.specs.Soundness.{sound_facts}
use Rattle.laws.specs.AfterWrites.{after_task}
use Rattle.laws.specs.StepAt.{step_table, does_at}
use Rattle.laws.specs.EntriesKeep.{StartOutcome, StepOutcome, start_no_task, start_running, start_withdrawn, start_accepted, start_outcome, step_no_task}
use Rattle.laws.specs.EntriesKeep.{step_idle, step_unsound, step_all_held, step_accepted, step_outcome}
use Rattle.linear.specs.Accepted.{OwnAfter, accept_other, accept_own}

-- ---- how far a contains is, by its line

-- the line at which it stands, its accepted steps, what line 13 answered
abbrev reached : ℕ → ℕ → List Output → Progress
reached line accepted by = record { call = Contains; line = line; accepted = accepted; by_13 = by }

pub data Paced (r : Progress) : Type 0 where
  before_12 : r ≡ reached 12 0 [] → Paced r
  before_13 : r ≡ reached 13 1 [] → Paced r
  before_15 : r ≡ reached 15 2 (Ok (Outs.At 15) ∷ []) → Paced r
  before_16 : r ≡ reached 16 3 (Ok (Outs.At 15) ∷ []) → Paced r
  before_17 : r ≡ reached 17 3 (Ok (Outs.At 15) ∷ []) → Paced r
  filled_before_18 : r ≡ reached 18 2 (Ok (Outs.At 18) ∷ []) → Paced r
  empty_before_18 : r ≡ reached 18 4 (Ok (Outs.At 15) ∷ []) → Paced r

goes_on : {r : Progress} → Paced r → GoesOn r.by_13 r.accepted
goes_on (before_12 e) = rw e (inl (refl, omega arith))
goes_on (before_13 e) = rw e (inl (refl, omega arith))
goes_on (before_15 e) = rw e (inr (inr (refl, omega arith)))
goes_on (before_16 e) = rw e (inr (inr (refl, omega arith)))
goes_on (before_17 e) = rw e (inr (inr (refl, omega arith)))
goes_on (filled_before_18 e) = rw e (inr (inl (refl, omega arith)))
goes_on (empty_before_18 e) = rw e (inr (inr (refl, omega arith)))

at_most_four : {by : List Output} {n : ℕ} → GoesOn by n → n ≤ 4
at_most_four (inl e) = let h = e.1 in omega arith
at_most_four (inr (inl e)) = let h = e.1 in omega arith
at_most_four (inr (inr e)) = e.1

as_counted : {by : List Output} {own n : ℕ} → own ≡ n → ThreeOrFive by n → ThreeOrFive by own
as_counted e t = rw e t

-- an accepted step of a contains, by its output
abbrev PacedOn : Progress → Output → Type 0
PacedOn r (Ok (Outs.At l)) = Paced (stepped l (Ok (Outs.At l)) r)
PacedOn r (Ok (Outs.End a n full)) = ThreeOrFive (stepped 0 (Ok (Outs.End a n full)) r).by_13 (suc r.accepted)
PacedOn r (Err n) = Unit {0}

module _ (y : Machine) (p : ℕ) (c : Task) where
  -- what the step at line 13 answers tells whether the place that it read was filled
  answer_13 : c.line ≡ 13 → (accept y p c.own (effect y c)).out ≡ Ok (Outs.At (if filled (place_for y c.t c.tag) then 18 else 15))
  unfolding step_table accept finish line_13 with_line with_b
  answer_13 e = rw (does_at y c 13 e)

  module _ (r : Progress) (same_line : c.line ≡ r.line) where
    at_line : {l n : ℕ} {by : List Output} → r ≡ reached l n by → c.line ≡ l
    at_line e = same_line ∙ ap (λ (x : Progress). x.line) e

    from_13 : r ≡ reached 13 1 [] → (b : Bool) → PacedOn r (Ok (Outs.At (if b then 18 else 15)))
    unfolding stepped
    from_13 e true = filled_before_18 (rw e)
    from_13 e false = before_15 (rw e)

    from_15 : r ≡ reached 15 2 (Ok (Outs.At 15) ∷ []) → (b : Bool) → PacedOn r (Ok (Outs.At (if b then 16 else 17)))
    unfolding stepped
    from_15 e true = before_16 (rw e)
    from_15 e false = before_17 (rw e)

    pace_step : Paced r → PacedOn r (accept y p c.own (effect y c)).out
    unfolding step_table accept finish line_12 line_15 line_16 line_17 line_18 with_line with_t with_s with_b stepped
    pace_step (before_12 e) = rw (does_at y c 12 (at_line e)) (before_13 (rw e))
    pace_step (before_13 e) = rw (answer_13 (at_line e)) (from_13 e (filled (place_for y c.t c.tag)))
    pace_step (before_15 e) = rw (does_at y c 15 (at_line e)) (from_15 e (filled (pred_of y c.t)))
    pace_step (before_16 e) = rw (does_at y c 16 (at_line e)) (empty_before_18 (rw e))
    pace_step (before_17 e) = rw (does_at y c 17 (at_line e)) (empty_before_18 (rw e))
    pace_step (filled_before_18 e) = rw (does_at y c 18 (at_line e)) (rw e (inl (refl, refl)))
    pace_step (empty_before_18 e) = rw (does_at y c 18 (at_line e)) (rw e (inr (refl, refl)))

-- ---- every running contains is paced, at the line that is told, and its own steps are those counted

abbrev Follows : Task → Progress → Type 0
Follows c r = (c.line ≡ r.line) × (c.own ≡ r.accepted) × Paced r

abbrev pub ContainsPaced : (ℕ → Progress) → Machine → ℕ → Type 0
ContainsPaced r y q = (task_of y q).running ≡ true → (r q).call ≡ Contains → Follows (task_of y q) (r q)

-- after one event and what it answered; r is the progress before it
abbrev pub PacedAfter : (ℕ → Progress) → Event → Reply → Type 0
PacedAfter r e m =
    let r' = progress r e m.out in
    ((q : ℕ) → ContainsPaced r' m.machine q) × Exact r' e m.out

-- before the first event
pub none_paced : (y : Machine) (q : ℕ) → ContainsPaced no_progress y q
unfolding begun
none_paced y q running contains = let z : ◌≡◌ {A = ℕ} 0 1 = cc in absurd (omega arith)

module _ (r : ℕ → Progress) (y : Machine) (eight : length y.state.task ≡ 8) (f : SoundFacts y) (paced : (q : ℕ) → ContainsPaced r y q) where
  below_eight : (p : ℕ) → p < y.state.config.tasks → p < length y.state.task
  below_eight p a = let b = f.config.T_high in rw eight (omega arith)

  refused_start : (p : ℕ) (call : Call) (tag : ℕ) (k : Refusal) → PacedAfter r (starts p call tag) (refuse k y)
  unfolding refuse progress
  refused_start p call tag k = (paced, tt)

  refused_step : (p : ℕ) (k : Refusal) → PacedAfter r (steps p) (refuse k y)
  unfolding refuse progress
  refused_step p k = (paced, tt)

  -- another task's record and count are as they were
  other_paced : (z : Machine) (r' : ℕ → Progress) (q : ℕ) → task_of z q ≡ task_of y q → r' q ≡ r q → ContainsPaced r' z q
  other_paced z r' q e u = rw (e, u) (paced q)

  first_paced : (call : Call) (tag : ℕ) → call ≡ Contains → Follows (started call tag) (begun call (started call tag).line)
  unfolding started fresh_task begun
  first_paced call tag e = rw e (refl, refl, before_12 refl)

  module _ (p : ℕ) (lt : p < y.state.config.tasks) where
    accepted_start : (call : Call) (tag : ℕ)
        → PacedAfter r (starts p call tag) (record { out = Ok (Outs.At (started call tag).line); machine = set_task p (started call tag) y })
    unfolding progress begun
    accepted_start call tag = (λ q. go q (ℕ_discrete q p), tt)
      where
        begins : Machine
        begins = set_task p (started call tag) y

        mine : task_of begins p ≡ started call tag
        mine = at_hit (refl, below_eight p lt) ((after_task y p (started call tag)).task_at p)

        go : (q : ℕ) → Dec (q ≡ p) → ContainsPaced (progress r (starts p call tag) (Ok (Outs.At (started call tag).line))) begins q
        go q (yes e) = rw (e, eq-eqb p p refl, mine) (λ running contains. first_paced call tag contains)
        go q (no d) =
            other_paced begins (progress r (starts p call tag) (Ok (Outs.At (started call tag).line))) q
            (at_miss (λ e. d e.0) ((after_task y p (started call tag)).task_at q)) (rw (ne_eqb q p d))

    abbrev after : Reply
    after = accept y p (task_of y p).own (effect y (task_of y p))

    other_after : (o : Output) (q : ℕ) → ¬ (q ≡ p) → ContainsPaced (progress r (steps p) o) after.machine q
    unfolding progress
    other_after o q d = other_paced after.machine (progress r (steps p) o) q (accept_other y p (task_of y p).own (effect y (task_of y p)) q d) (go o)
      where
        go : (o : Output) → progress r (steps p) o q ≡ r q
        go (Ok (Outs.At l)) = rw (ne_eqb q p d)
        go (Ok (Outs.End a n full)) = rw (ne_eqb q p d)
        go (Err n) = refl

    -- what is known of the stepping task if it is a contains, with the output of its step
    abbrev Going : Output → Type 0
    Going o = (r p).call ≡ Contains → (min ((task_of y p).own + 1) 65535 ≡ suc (r p).accepted) × PacedOn (r p) o

    going : (task_of y p).running ≡ true → Going after.out
    going running contains =
        let v = paced p running contains in
        let few = at_most_four (goes_on v.2) in
        let own = v.1 in
        (omega arith, pace_step y p (task_of y p) (r p) v.0 v.2)

    went_on : (l : ℕ) → OwnAfter (task_of y p).own (task_of after.machine p) (Ok (Outs.At l)) → Going (Ok (Outs.At l))
        → (q : ℕ) → Dec (q ≡ p) → ContainsPaced (progress r (steps p) (Ok (Outs.At l))) after.machine q
    unfolding progress stepped
    went_on l a v q (yes e) = rw (e, eq-eqb p p refl) (λ run contains. (a.0, a.1 ∙ (v contains).0, (v contains).1))
    went_on l a v q (no d) = other_after (Ok (Outs.At l)) q d

    has_ended : (a : Answer) (n : ℕ) (full : Option ℕ) → (task_of after.machine p).running ≡ false
        → (q : ℕ) → Dec (q ≡ p) → ContainsPaced (progress r (steps p) (Ok (Outs.End a n full))) after.machine q
    has_ended a n full idle q (yes e) = rw e (λ run. absurd (tf run idle))
    has_ended a n full idle q (no d) = other_after (Ok (Outs.End a n full)) q d

    accepted_step : (task_of y p).running ≡ true → PacedAfter r (steps p) after
    unfolding progress stepped
    accepted_step running =
        go after.out (accept_own y p (task_of y p).own (effect y (task_of y p)) (below_eight p lt)) (going running)
      where
        go : (o : Output) → OwnAfter (task_of y p).own (task_of after.machine p) o → Going o
            → ((q : ℕ) → ContainsPaced (progress r (steps p) o) after.machine q) × Exact (progress r (steps p) o) (steps p) o
        go (Ok (Outs.At l)) a v = (λ q. went_on l a v q (ℕ_discrete q p), rw (eq-eqb p p refl) (λ contains. goes_on (v contains).1))
        go (Ok (Outs.End b n full)) a v = (
          λ q. has_ended b n full a.0 q (ℕ_discrete q p),
          rw (eq-eqb p p refl) (λ contains. let own = a.1 ∙ (v contains).0 in (own, as_counted own (v contains).1)),
        )
        go (Err n) a v = absurd a

  start_paced : (p : ℕ) (call : Call) (tag : ℕ) {m : Reply} → StartOutcome y p call tag m → PacedAfter r (starts p call tag) m
  start_paced p call tag (start_no_task a) = refused_start p call tag NoTask
  start_paced p call tag (start_running a b) = refused_start p call tag Running
  start_paced p call tag (start_withdrawn a b c) = refused_start p call tag Withdrawn
  start_paced p call tag (start_accepted a b c) = accepted_start p a call tag

  step_paced : (p : ℕ) {m : Reply} → StepOutcome y p m → PacedAfter r (steps p) m
  step_paced p (step_no_task a) = refused_step p NoTask
  step_paced p (step_idle a b) = refused_step p Idle
  step_paced p (step_unsound a b x) = refused_step p Spoilt
  step_paced p (step_all_held a b u x) = refused_step p NoRecord
  step_paced p (step_accepted a b u x) = accepted_step p a b

pub event_paced : (r : ℕ → Progress) (y : Machine) → sound y ≡ true → length y.state.task ≡ 8 → ((q : ℕ) → ContainsPaced r y q)
    → (e : Event) → PacedAfter r e (event y e)
unfolding event
event_paced r y so eight paced (starts p call tag) = start_paced r y eight (sound_facts y so) paced p call tag (start_outcome y p call tag so)
event_paced r y so eight paced (steps p) = step_paced r y eight (sound_facts y so) paced p (step_outcome y p so)

-- ---- the outputs tell the truth: an accepted step at line 13 answers 18 if the place that it read was filled, 15 if it was empty
pub line_13_tells : (y : Machine) (p l : ℕ) → sound y ≡ true → (task_of y p).line ≡ 13 → (step y p).out ≡ Ok (Outs.At l)
    → l ≡ (if filled (place_for y (task_of y p).t (task_of y p).tag) then 18 else 15)
unfolding refuse
line_13_tells y p l so at_13 = go (step_outcome y p so)
  where
    refused : (k : Refusal) → ◌≡◌ {A = Output} (Err k) (Ok (Outs.At l)) → ⊥
    refused k e = let z : ◌≡◌ {A = ℕ} 0 1 = cc in omega arith

    go : {m : Reply} → StepOutcome y p m → m.out ≡ Ok (Outs.At l) → l ≡ (if filled (place_for y (task_of y p).t (task_of y p).tag) then 18 else 15)
    go (step_no_task a) e = absurd (refused NoTask e)
    go (step_idle a b) e = absurd (refused Idle e)
    go (step_unsound a b x) e = absurd (refused Spoilt e)
    go (step_all_held a b u x) e = absurd (refused NoRecord e)
    go (step_accepted a b u x) e = let q = answer_13 y p (task_of y p) at_13 in cc
