-- Past the refusals of a step: the task runs, and stands at a line of its call. Assumes nothing.
use Rattle.std.specs.Prelude.{Some}
use mathlib.Core.Path.{◌≡◌, sym, ap, ◌∙◌}
use mathlib.Core.List.{List}
use mathlib.Core.Bool.{true}
use Prim.Native.Nat.{ℕ}
use Rattle.laws.specs.SoundFacts.{RunFacts}
use Rattle.spec.specs.Lists.{member}
use Rattle.spec.specs.Machine.{Machine}
use Rattle.spec.specs.Entries.{step, step_running}
use Rattle.spec.specs.declared.Task.{Task}
use Rattle.soundness.specs.Told.{checked_of}
use Rattle.lines.specs.Running.{Runs}
use Rattle.checked_start.proofs.Laws.{step_goes, tells, reads, runs_as, facts_as}

module _ (y : Machine) (k : ℕ) (c : Task) (e : Some c ≡ checked_of y k) (r : c.running ≡ true) where
  pub facts : RunFacts y k c
  facts = facts_as y k c e r

  pub goes : step y k ≡ step_running y k c
  goes = step_goes y k (tells y k c e) facts.below_T (runs_as y k c e r) ∙ ap (step_running y k) (sym (reads y k c e))

  pub runs : (ls : List ℕ) → member c.line ls ≡ true → Runs y k c ls
  runs ls at = record { is_sound = tells y k c e; task = facts; at_line = at }
