-- What rests on statements of specs/Changes.antt that a must-fail edit makes false: theorems moved from there as they stood. Assumes nothing.
use Prim.Native.Nat.{ℕ, zero, suc, ◌+◌, ◌*◌, ◌<◌}
use Rattle.std.specs.Prelude.{◌≡◌, true, List, [], ◌∷◌, set}
use Rattle.std.proofs.Math.Path.{refl}
use Rattle.std.proofs.Common.{sym, ap, ◌∙◌, arith}
use Rattle.spec.specs.declared.Task.{Task}
use Rattle.spec.specs.declared.State.{State}
use Rattle.spec.specs.Lists.{concat_map, range}
use Rattle.spec.specs.Machine.{state_head, state_last_node, state_last_bucket, state_task}
use Rattle.spec.specs.Words.{overwrite}
use Rattle.state_words.specs.StateWords.{task_words, state_words, tasks_of_words, state_of_words, state_fits}
use Rattle.state_words.proofs.RoundTrip.{words_again}
use Rattle.state_words.specs.Changes.{changed}

module _ (s : State) (c0 c1 c2 c3 c4 c5 c6 c7 c : Task) where
  abbrev eight : List Task
  eight = c0 ∷ c1 ∷ c2 ∷ c3 ∷ c4 ∷ c5 ∷ c6 ∷ c7 ∷ []

  one_task : (k : ℕ) → k < 8 → overwrite (state_words (state_task eight s)) (9 + 13 * k) (task_words c) ≡ state_words (state_task (set eight k c) s)
  unfolding state_words state_task overwrite concat_map range
  one_task zero h = refl
  one_task (suc zero) h = refl
  one_task (suc (suc zero)) h = refl
  one_task (suc (suc (suc zero))) h = refl
  one_task (suc (suc (suc (suc zero)))) h = refl
  one_task (suc (suc (suc (suc (suc zero))))) h = refl
  one_task (suc (suc (suc (suc (suc (suc zero)))))) h = refl
  one_task (suc (suc (suc (suc (suc (suc (suc zero))))))) h = refl
  one_task (suc (suc (suc (suc (suc (suc (suc (suc k)))))))) h = absurd (omega arith)

-- written over words that a state has, they are the words of the state so changed
pub changed_words : (w : List ℕ) → state_fits w ≡ true → (k head node bucket : ℕ) (c : Task) → k < 8
    → overwrite (set (set (set w 5 head) 6 node) 7 bucket) (9 + 13 * k) (task_words c) ≡ state_words (changed (state_of_words w) k head node bucket c)
unfolding changed state_words state_of_words tasks_of_words state_task state_last_bucket state_last_node state_head concat_map range
changed_words w fits k head node bucket c h =
    let y = state_last_bucket bucket (state_last_node node (state_head head (state_of_words w))) in
    let stored : List ℕ → List ℕ = λ u. overwrite (set (set (set u 5 head) 6 node) 7 bucket) (9 + 13 * k) (task_words c) in
    ap stored (sym (words_again w fits)) ∙ one_task y _ _ _ _ _ _ _ _ c k h
