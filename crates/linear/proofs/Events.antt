-- What rests on statements of specs/Events.antt that a must-fail edit makes false: theorems moved from there as they stood. Assumes nothing.
use Rattle.std.proofs.Math.Path.{◌≡◌, ap}
use Rattle.std.proofs.Common.{sym, ◌∙◌, eq-eqb, ne_eqb}
use Rattle.std.proofs.Math.Bool.{true}
use mathlib.Core.List.{List, ◌∷◌}
use Prim.Native.Nat.{ℕ, suc}
use Rattle.std.proofs.Math.Decide.{ℕ_discrete}
use native.Mathlib.Omega.{arith}
use Rattle.std.specs.Prelude.{eqb, if◌then◌else◌, Err}
use Rattle.spec.specs.declared.Refusal.TheVariants.{Spoilt}
use Rattle.spec.specs.declared.Answer.{Answer}
use Rattle.spec.specs.declared.Call.{Call}
use Rattle.spec.specs.Outputs.{Output}
use Rattle.spec.specs.declared.Progress.TheVariants as Outs
use Rattle.spec.specs.Machine.{Machine, task_of}
use Rattle.spec.specs.Schedule.{Event, steps, event}
use Rattle.spec.specs.History.{Ended, Started, set_call, note, tell}
use Rattle.model.specs.Functions.{upd, upd_same, upd_other}
use Rattle.model.specs.Positions.{Position, no_call}
use Rattle.model.specs.Runs.{Configuration, ended_call}
use Rattle.linear.specs.StepSimulated.{Outcome, went_on, call_ended, resize_ended}
use Rattle.linear.specs.StartedAs.{StartedAs, started_step, started_end, is_set_call, started_resize}
use Rattle.linear.specs.FirstPositions.{first_of, first_started}
use Rattle.linear.specs.EventOutcomes.{EventOutcome, start_refused, call_started, step_refused, none_free, stepped}
use Rattle.linear.proofs.EventOutcomes.{event_simulated}
use Rattle.linear.specs.Events.{After, Before}

module _ (n : ℕ) (last : ℕ → Started) (H : List Ended) (y : Machine) (s : Before n last H y) where
  abbrev w : Configuration
  w = s.configuration

  -- what the history tells of an event, and what the configuration v after it has
  record Told (e : Event) (o : Output) (v : Configuration) : Type 0 where
    clock : v.clock ≡ suc n
    started_as : (q : ℕ) → StartedAs (note n last e o q) (v.position q) (v.start q)
    ended : tell n last H e o ≡ v.ended
    not_8 : ¬ (o ≡ Err Spoilt)

  -- task p goes to l, and the other tasks stay where they are
  started_after : (p : ℕ) (l : Position) → StartedAs (last p) l (w.start p) → (q : ℕ) → Dec (q ≡ p)
      → StartedAs (last q) (upd w.position p l q) (w.start q)
  started_after p l t q (yes e) = rw (e, upd_same w.position p l) t
  started_after p l t q (no d) = rw (upd_other w.position p l q d) (s.started_as q)

  started_first : (p : ℕ) (call : Call) (tag : ℕ) (q : ℕ) → Dec (q ≡ p)
      → StartedAs (if eqb q p then record { call = call; tag = tag; start = n } else last q) (upd w.position p (first_of call tag) q)
      (upd w.start p w.clock q)
  started_first p call tag q (yes e) =
      rw (eq-eqb q p e, e, upd_same w.position p (first_of call tag), upd_same w.start p w.clock)
      (first_started call tag n w.clock (sym s.clock))
  started_first p call tag q (no d) =
      rw (ne_eqb q p d, upd_other w.position p (first_of call tag) q d, upd_other w.start p w.clock q d) (s.started_as q)

  -- the ended calls with this one, which ended with event m
  ended_at : ℕ → Call → ℕ → Answer → ℕ → List Ended
  ended_at p c k a m = record { task = p; call = c; tag = k; answer = a; start = w.start p; end = m } ∷ H

  step_told : (p : ℕ) {o : Output} {v : Configuration} → Outcome w p (task_of y p).own o v → Told (steps p) o v
  unfolding note tell ended_at
  step_told p (went_on g l line) = record {
    clock = ap suc s.clock;
    started_as = λ q. started_after p l (started_step (last p) (w.start p) line (s.started_as p)) q (ℕ_discrete q p);
    ended = s.ended;
    not_8 = λ e. let z : ◌≡◌ {A = ℕ} 0 1 = cc in omega arith;
  }
  step_told p (call_ended {c = c} {k = k} {a = a} g e) =
      let t = started_end (last p) (w.start p) e (s.started_as p) in
      let is : set_call (last p).call ≡ true = ap set_call t.0 ∙ is_set_call e in
      record {
        clock = ap suc s.clock;
        started_as = λ q. started_after p no_call tt q (ℕ_discrete q p);
        ended = rw (is, t.0, t.1, t.2) (ap (ended_at p c k a) (sym s.clock) ∙ ap (λ (l : List Ended). ended_call w p c k a ∷ l) s.ended);
        not_8 = λ e. let z : ◌≡◌ {A = ℕ} 0 1 = cc in omega arith;
      }
  step_told p (resize_ended a g line moved) =
      let is = started_resize (last p) (w.start p) line (s.started_as p) in
      record {
        clock = ap suc s.clock;
        started_as = λ q. started_after p no_call tt q (ℕ_discrete q p);
        ended = rw is s.ended;
        not_8 = λ e. let z : ◌≡◌ {A = ℕ} 0 1 = cc in omega arith;
      }

  told : {e : Event} {o : Output} {v : Configuration} → EventOutcome y w e o v → Told e o v
  unfolding note tell
  told (start_refused p call tag r other) =
      record { clock = ap suc s.clock; started_as = s.started_as; ended = s.ended; not_8 = λ e. other.1 (cc) }
  told (call_started p call tag l lt at) = record {
    clock = ap suc s.clock;
    started_as = λ q. started_first p call tag q (ℕ_discrete q p);
    ended = s.ended;
    not_8 = λ e. let z : ◌≡◌ {A = ℕ} 0 1 = cc in omega arith;
  }
  told (step_refused p r idle other) =
      record { clock = ap suc s.clock; started_as = s.started_as; ended = s.ended; not_8 = λ e. other.1 (cc) }
  told (none_free p runs held) =
      record { clock = ap suc s.clock; started_as = s.started_as; ended = s.ended; not_8 = λ e. let z : ◌≡◌ {A = ℕ} 0 1 = cc in omega arith }
  told (stepped p lt runs o at) = step_told p o

  pub event_next : (e : Event) → After n last H e (event y e)
  event_next e =
      let t = event_simulated y w s.reach s.sim e in
      let h = told t.outcome in (
        record {
          configuration = t.configuration;
          reach = t.reach;
          clock = h.clock;
          sim = t.sim;
          started_as = h.started_as;
          ended = h.ended;
        },
        h.not_8,
      )
