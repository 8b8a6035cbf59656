-- The task records after an accepted step: the stepping task's is at the line said, or idle; the others stay. And that the step of every
-- running task is accepted or finds no record. Assumes nothing.
use Rattle.std.specs.Prelude.{◌≡◌, refl, false, ℕ, ◌+◌, min, ◌<◌, length, Ok, Err}
use Rattle.std.proofs.Math.Path.{ap}
use Rattle.std.proofs.Common.{◌∙◌}
use mathlib.Core.List.{List}
use Rattle.std.proofs.Math.ListN.{get_or}
use Rattle.spec.specs.declared.Task.{Task}
use Rattle.spec.specs.Outputs.{Output}
use Rattle.spec.specs.declared.Progress.TheVariants as Outs
use Rattle.spec.specs.Machine.{Machine, idle, with_own, set_task, task_of}
use Rattle.spec.specs.Words.{apply}
use Rattle.spec.specs.Lines.{Effect, Next}
use Rattle.spec.specs.Entries.{finish, accept}
use Rattle.laws.specs.AfterWrites.{after_task, apply_task}
use Rattle.laws.specs.Tests.{at_miss, at_hit}

-- ---- the tasks' records after an accepted step

-- the stepping task's, by its own steps before and the output: at the line that is said, with one own step more, or idle
abbrev pub OwnAfter : ℕ → Task → Output → Type 0
OwnAfter own d (Ok (Outs.At l)) = (d.line ≡ l) × (d.own ≡ min (own + 1) 65535)
OwnAfter own d (Ok (Outs.End a n full)) = (d.running ≡ false) × (n ≡ min (own + 1) 65535)
OwnAfter own d (Err n) = ⊥

module _ (y : Machine) (p own : ℕ) (e : Effect) where
  pub accept_other : (q : ℕ) → ¬ (q ≡ p) → task_of (accept y p own e).machine q ≡ task_of y q
  unfolding accept finish task_of
  accept_other q d = go e.next
    where
      other : (c : Task) → get_or (set_task p c (apply e.write y)).state.task q idle ≡ get_or y.state.task q idle
      other c = at_miss (λ u. d u.0) ((after_task (apply e.write y) p c).task_at q) ∙ ap (λ (l : List Task). get_or l q idle) (apply_task e.write y)

      go : (n : Next) → get_or (finish (apply e.write y) p (min (own + 1) 65535) n).machine.state.task q idle ≡ get_or y.state.task q idle
      go (Next.on c) = other (with_own (min (own + 1) 65535) c)
      go (Next.ends a l) = other idle

  pub accept_own : p < length y.state.task → OwnAfter own (task_of (accept y p own e).machine p) (accept y p own e).out
  unfolding accept finish with_own idle
  accept_own lt = go e.next
    where
      is : (d : Task) → task_of (set_task p d (apply e.write y)) p ≡ d
      is d = at_hit (refl, rw (apply_task e.write y) lt) ((after_task (apply e.write y) p d).task_at p)

      go : (n : Next) → let m = finish (apply e.write y) p (min (own + 1) 65535) n in OwnAfter own (task_of m.machine p) m.out
      go (Next.on c) = (ap (λ (d : Task). d.line) (is _), ap (λ (d : Task). d.own) (is _))
      go (Next.ends a l) = (ap (λ (d : Task). d.running) (is _), refl)
