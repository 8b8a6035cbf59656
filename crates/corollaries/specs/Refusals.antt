-- Each of the refusals 1 to 9, 11 and 14 is given exactly under its condition: one theorem for each, read off the tables. In the other rows of
-- a table the numbers differ. Assumes nothing.
use Rattle.std.specs.Prelude.{ℕ, ◌≤◌, ◌<◌, ◌≡◌, refl, ◌↔◌, ◌⊎◌, true, false, List, length, Err}
use Rattle.std.proofs.Common.{ap, inl, inr, arith}
use Rattle.spec.specs.declared.Refusal.TheVariants.{NoTask, Running, Idle, NoRecord, Spoilt, ShortList, Withdrawn}
use Rattle.spec.specs.declared.Task.{Task}
use Rattle.spec.specs.declared.Call.{Call}
use Rattle.spec.specs.Machine.{Machine, task_of}
use Rattle.spec.specs.declared.Config.{Config}
use Rattle.spec.specs.Sound.{node_count, bucket_count}
use Rattle.spec.specs.Listed.{listed}
use Rattle.spec.specs.Entries.{opening, start, step, list}
use Rattle.spec.specs.Numbers.{refusal_number}
use Rattle.laws.specs.SoundFacts.{SoundFacts}
use Rattle.laws.specs.Withdrawn.{InsertOfZero}
use Rattle.laws.specs.StepRefusals.{StepSound}
use Rattle.laws.specs.Held.{HeldNode, HeldBucket}
use Rattle.laws.specs.Taking.{AllHeld, all_nodes, all_buckets}
use Rattle.corollaries.specs.Tables.{Within, Records, OpeningRefused, StartRefused, StepRefused, ListRefused, opening_refused, start_refused}
use Rattle.corollaries.specs.Tables.{step_refused, list_refused, is_1, is_2, is_3, is_4, is_5, is_6, is_7, is_8, is_8_step, is_8_list, is_9, is_11}
use Rattle.corollaries.specs.Tables.{is_14}

module _ (g : Config) (ns bs : List ℕ) where
  -- 1: T is not 1 to 8
  pub refusal_1 : (opening g ns bs).refusal ≡ 1 ↔ ¬ ((1 ≤ g.tasks) × (g.tasks ≤ 8))
  refusal_1 = ((λ e. go ((opening_refused g ns bs 1 (λ z. omega arith)).0 e)), (λ n. (opening_refused g ns bs 1 (λ z. omega arith)).1 (is_1 refl n)))
    where
      go : OpeningRefused g ns bs 1 → ¬ Within 1 8 g.tasks
      go (is_1 e n) = n
      go (is_2 e p n) = absurd (omega arith)
      go (is_3 e p q n) = absurd (omega arith)
      go (is_11 e p q s n) = absurd (omega arith)

  -- 2: T is, and the node slice is not 34 × H words with H from 1 to 64
  pub refusal_2 : (opening g ns bs).refusal ≡ 2 ↔ (Within 1 8 g.tasks × (¬ Records 34 64 ns))
  refusal_2 = ((λ e. go ((opening_refused g ns bs 2 (λ z. omega arith)).0 e)), (λ h. (opening_refused g ns bs 2 (λ z. omega arith)).1 (is_2 refl h.0 h.1)))
    where
      go : OpeningRefused g ns bs 2 → Within 1 8 g.tasks × (¬ Records 34 64 ns)
      go (is_1 e n) = absurd (omega arith)
      go (is_2 e p n) = (p, n)
      go (is_3 e p q n) = absurd (omega arith)
      go (is_11 e p q s n) = absurd (omega arith)

  -- 3: both are right, and the bucket slice is not 66 × B words with B from 1 to 1,024
  pub refusal_3 : (opening g ns bs).refusal ≡ 3 ↔ (Within 1 8 g.tasks × Records 34 64 ns × (¬ Records 66 1024 bs))
  refusal_3 =
      ((λ e. go ((opening_refused g ns bs 3 (λ z. omega arith)).0 e)), (λ h. (opening_refused g ns bs 3 (λ z. omega arith)).1 (is_3 refl h.0 h.1 h.2)))
    where
      go : OpeningRefused g ns bs 3 → Within 1 8 g.tasks × Records 34 64 ns × (¬ Records 66 1024 bs)
      go (is_1 e n) = absurd (omega arith)
      go (is_2 e p n) = absurd (omega arith)
      go (is_3 e p q n) = (p, q, n)
      go (is_11 e p q s n) = absurd (omega arith)

  -- 11: all three are right, and the version is neither 1 nor 2
  pub refusal_11 : (opening g ns bs).refusal ≡ 11 ↔ (Within 1 8 g.tasks × Records 34 64 ns × Records 66 1024 bs × (¬ Within 1 2 g.version))
  refusal_11 = (
    (λ e. go ((opening_refused g ns bs 11 (λ z. omega arith)).0 e)),
    (λ h. (opening_refused g ns bs 11 (λ z. omega arith)).1 (is_11 refl h.0 h.1 h.2 h.3)),
  )
    where
      go : OpeningRefused g ns bs 11 → Within 1 8 g.tasks × Records 34 64 ns × Records 66 1024 bs × (¬ Within 1 2 g.version)
      go (is_1 e n) = absurd (omega arith)
      go (is_2 e p n) = absurd (omega arith)
      go (is_3 e p q n) = absurd (omega arith)
      go (is_11 e p q s n) = (p, q, s, n)

module _ (y : Machine) (k : ℕ) (call : Call) (tag : ℕ) where
  -- 4 of a start: memory is sound, and the task's number is T or more
  pub refusal_4_start : (start y k call tag).out ≡ Err NoTask ↔ (SoundFacts y × (y.state.config.tasks ≤ k))
  refusal_4_start = ((λ e. go ((start_refused y k NoTask call tag).0 e)), (λ h. (start_refused y k NoTask call tag).1 (is_4 refl h.0 h.1)))
    where
      go : StartRefused y k call tag NoTask → SoundFacts y × (y.state.config.tasks ≤ k)
      go (is_8 e n) = absurd (omega (arith, ap refusal_number e))
      go (is_4 e f h) = (f, h)
      go (is_5 e f h s) = absurd (omega (arith, ap refusal_number e))
      go (is_14 e f h s z) = absurd (omega (arith, ap refusal_number e))

  -- 5: memory is sound, and the task is there and runs a call
  pub refusal_5 : (start y k call tag).out ≡ Err Running ↔ (SoundFacts y × (k < y.state.config.tasks) × ((task_of y k).running ≡ true))
  refusal_5 = ((λ e. go ((start_refused y k Running call tag).0 e)), (λ h. (start_refused y k Running call tag).1 (is_5 refl h.0 h.1 h.2)))
    where
      go : StartRefused y k call tag Running → SoundFacts y × (k < y.state.config.tasks) × ((task_of y k).running ≡ true)
      go (is_8 e n) = absurd (omega (arith, ap refusal_number e))
      go (is_4 e f h) = absurd (omega (arith, ap refusal_number e))
      go (is_5 e f h s) = (f, h, s)
      go (is_14 e f h s z) = absurd (omega (arith, ap refusal_number e))

  -- 14: memory is sound, the task is there and idle, and an insert of tag 0 is started where tag 0 is withdrawn
  pub refusal_14 : (start y k call tag).out ≡ Err Withdrawn
      ↔ (SoundFacts y × (k < y.state.config.tasks) × ((task_of y k).running ≡ false) × InsertOfZero y.state.config call tag)
  refusal_14 =
      ((λ e. go ((start_refused y k Withdrawn call tag).0 e)), (λ h. (start_refused y k Withdrawn call tag).1 (is_14 refl h.0 h.1 h.2 h.3)))
    where
      go : StartRefused y k call tag Withdrawn
          → SoundFacts y × (k < y.state.config.tasks) × ((task_of y k).running ≡ false) × InsertOfZero y.state.config call tag
      go (is_8 e n) = absurd (omega (arith, ap refusal_number e))
      go (is_4 e f h) = absurd (omega (arith, ap refusal_number e))
      go (is_5 e f h s) = absurd (omega (arith, ap refusal_number e))
      go (is_14 e f h s z) = (f, h, s, z)

  -- 8 of a start: memory is spoilt
  pub refusal_8_start : (start y k call tag).out ≡ Err Spoilt ↔ ¬ SoundFacts y
  refusal_8_start = ((λ e. go ((start_refused y k Spoilt call tag).0 e)), (λ n. (start_refused y k Spoilt call tag).1 (is_8 refl n)))
    where
      go : StartRefused y k call tag Spoilt → ¬ SoundFacts y
      go (is_8 e n) = n
      go (is_4 e f h) = absurd (omega (arith, ap refusal_number e))
      go (is_5 e f h s) = absurd (omega (arith, ap refusal_number e))
      go (is_14 e f h s z) = absurd (omega (arith, ap refusal_number e))

module _ (y : Machine) (k : ℕ) where
  -- memory is sound, and the task is there and runs a call
  abbrev pub Steps : Type 0
  Steps = SoundFacts y × (k < y.state.config.tasks) × ((task_of y k).running ≡ true)

  -- 4 of a step: as of a start
  pub refusal_4_step : (step y k).out ≡ Err NoTask ↔ (SoundFacts y × (y.state.config.tasks ≤ k))
  refusal_4_step = ((λ e. go ((step_refused y k NoTask).0 e)), (λ h. (step_refused y k NoTask).1 (is_4 refl h.0 h.1)))
    where
      go : StepRefused y k NoTask → SoundFacts y × (y.state.config.tasks ≤ k)
      go (is_8 e n) = absurd (omega (arith, ap refusal_number e))
      go (is_4 e f h) = (f, h)
      go (is_6 e f h s) = absurd (omega (arith, ap refusal_number e))
      go (is_8_step e f h g n) = absurd (omega (arith, ap refusal_number e))
      go (is_7 e f h g b v) = absurd (omega (arith, ap refusal_number e))

  -- 6: memory is sound, and the task is there and runs nothing
  pub refusal_6 : (step y k).out ≡ Err Idle ↔ (SoundFacts y × (k < y.state.config.tasks) × ((task_of y k).running ≡ false))
  refusal_6 = ((λ e. go ((step_refused y k Idle).0 e)), (λ h. (step_refused y k Idle).1 (is_6 refl h.0 h.1 h.2)))
    where
      go : StepRefused y k Idle → SoundFacts y × (k < y.state.config.tasks) × ((task_of y k).running ≡ false)
      go (is_8 e n) = absurd (omega (arith, ap refusal_number e))
      go (is_4 e f h) = absurd (omega (arith, ap refusal_number e))
      go (is_6 e f h s) = (f, h, s)
      go (is_8_step e f h g n) = absurd (omega (arith, ap refusal_number e))
      go (is_7 e f h g b v) = absurd (omega (arith, ap refusal_number e))

  -- 8 of a step: memory is spoilt, or the task runs and its line is not sound
  pub refusal_8_step : (step y k).out ≡ Err Spoilt ↔ ((¬ SoundFacts y) ⊎ (Steps × (¬ StepSound y (task_of y k))))
  refusal_8_step = ((λ e. go ((step_refused y k Spoilt).0 e)), back)
    where
      go : StepRefused y k Spoilt → (¬ SoundFacts y) ⊎ (Steps × (¬ StepSound y (task_of y k)))
      go (is_8 e n) = inl n
      go (is_4 e f h) = absurd (omega (arith, ap refusal_number e))
      go (is_6 e f h s) = absurd (omega (arith, ap refusal_number e))
      go (is_8_step e f h g n) = inr ((f, h, g), n)
      go (is_7 e f h g b v) = absurd (omega (arith, ap refusal_number e))

      back : (¬ SoundFacts y) ⊎ (Steps × (¬ StepSound y (task_of y k))) → (step y k).out ≡ Err Spoilt
      back (inl n) = (step_refused y k Spoilt).1 (is_8 refl n)
      back (inr h) = (step_refused y k Spoilt).1 (is_8_step refl h.0.0 h.0.1 h.0.2 h.1)

  -- "7 line 27 or 49 finds every node or every bucket held": at a task's record
  abbrev pub NoneFree : Task → Type 0
  NoneFree c = ((c.line ≡ 27) × ((j : ℕ) → j < node_count y → HeldNode y j)) ⊎ ((c.line ≡ 49) × ((j : ℕ) → j < bucket_count y → HeldBucket y j))

  -- 7: the task runs, its line is sound, and it is line 27 with every node held or line 49 with every bucket held
  pub refusal_7 : (step y k).out ≡ Err NoRecord ↔ (Steps × StepSound y (task_of y k) × NoneFree (task_of y k))
  refusal_7 = ((λ e. go ((step_refused y k NoRecord).0 e)), (λ h. (step_refused y k NoRecord).1 (is_7 refl h.0.0 h.0.1 h.0.2 h.1 (held h.2))))
    where
      free : AllHeld y (task_of y k) → NoneFree (task_of y k)
      free (all_nodes e h) = inl (e, h)
      free (all_buckets e h) = inr (e, h)

      held : NoneFree (task_of y k) → AllHeld y (task_of y k)
      held (inl h) = all_nodes h.0 h.1
      held (inr h) = all_buckets h.0 h.1

      go : StepRefused y k NoRecord → Steps × StepSound y (task_of y k) × NoneFree (task_of y k)
      go (is_8 e n) = absurd (omega (arith, ap refusal_number e))
      go (is_4 e f h) = absurd (omega (arith, ap refusal_number e))
      go (is_6 e f h s) = absurd (omega (arith, ap refusal_number e))
      go (is_8_step e f h g n) = absurd (omega (arith, ap refusal_number e))
      go (is_7 e f h g b v) = ((f, h, g), b, free v)

module _ (y : Machine) (w : List ℕ) where
  -- 8 of a list: memory is spoilt, or more than 64 tags are listed
  pub refusal_8_list : (list y w).says ≡ Err Spoilt ↔ ((¬ SoundFacts y) ⊎ (SoundFacts y × (64 < length (listed y))))
  refusal_8_list = ((λ e. go ((list_refused y w Spoilt).0 e)), back)
    where
      go : ListRefused y w Spoilt → (¬ SoundFacts y) ⊎ (SoundFacts y × (64 < length (listed y)))
      go (is_8 e n) = inl n
      go (is_8_list e f h) = inr (f, h)
      go (is_9 e f h l) = absurd (omega (arith, ap refusal_number e))

      back : (¬ SoundFacts y) ⊎ (SoundFacts y × (64 < length (listed y))) → (list y w).says ≡ Err Spoilt
      back (inl n) = (list_refused y w Spoilt).1 (is_8 refl n)
      back (inr h) = (list_refused y w Spoilt).1 (is_8_list refl h.0 h.1)

  -- 9: memory is sound, at most 64 tags are listed, and the slice has fewer than 64 words
  pub refusal_9 : (list y w).says ≡ Err ShortList ↔ (SoundFacts y × (length (listed y) ≤ 64) × (length w < 64))
  refusal_9 = ((λ e. go ((list_refused y w ShortList).0 e)), (λ h. (list_refused y w ShortList).1 (is_9 refl h.0 h.1 h.2)))
    where
      go : ListRefused y w ShortList → SoundFacts y × (length (listed y) ≤ 64) × (length w < 64)
      go (is_8 e n) = absurd (omega (arith, ap refusal_number e))
      go (is_8_list e f h) = absurd (omega (arith, ap refusal_number e))
      go (is_9 e f h l) = (f, h, l)
