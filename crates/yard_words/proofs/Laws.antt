-- A state's words written part by part. Assumes nothing.
use Prim.Native.Nat.{ℕ}
use mathlib.Core.Path.{◌≡◌, sym, ◌∙◌}
use mathlib.Core.List.{List, ◌++◌}
use native.Mathlib.Omega.{arith}
use lib.ListN.{length, get_or}
use Rattle.spec.specs.declared.State.{State}
use Rattle.spec.specs.declared.Task.{Task}
use Rattle.spec.specs.Lists.{concat_map, range}
use Rattle.spec.specs.Machine.{idle}
use Rattle.spec.specs.Words.{overwrite}
use Rattle.yard_words.proofs.Over.{over_then, over_all}
use Rattle.state_words.specs.StateWords.{first_words, task_words, state_words}

-- the words of task k, and of all eight
abbrev pub words_of_task : List Task → ℕ → List ℕ
words_of_task ts k = task_words (get_or ts k idle)

abbrev pub tasks_words : List Task → List ℕ
tasks_words ts = concat_map (λ k. words_of_task ts k) (range 0 8)

-- the first words, and then every task's: a state's
pub whole : (s : State) (w : List ℕ) → length w ≡ 113 → overwrite (overwrite w 0 (first_words s)) 9 (tasks_words s.task) ≡ state_words s
unfolding state_words concat_map range
whole s w e = sym (over_then w 0 (first_words s) (tasks_words s.task) (omega arith)) ∙ over_all w (first_words s ++ tasks_words s.task) (sym e)
