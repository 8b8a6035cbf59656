-- Laws of the definitions of soundness that several crates cite: sizes, the lines of a call, a task's record, the numbers
-- of a sound yard.
-- Assumes nothing.
use Rattle.std.specs.Prelude.{if◌then◌else◌}
use mathlib.Core.Path.{◌≡◌, refl, sym, ap, ◌∙◌}
use mathlib.Core.List.{List, [], ◌∷◌, map}
use mathlib.Core.Bool.{Bool, true, false, ◌||◌, false≢true}
use Prim.Native.Nat.{ℕ, zero, suc, ◌*◌, ◌<◌, ◌≤◌}
use native.Mathlib.Omega.{arith}
use borrow.Author.Tests.{eqb-true, ltb-true}
use lib.Dec.{eqb}
use lib.ListN.{length, get_or-eq_default, length-map}
use Rattle.laws.specs.Tests.{or_case}
use Rattle.spec.specs.Lists.{member}
use Rattle.spec.specs.Machine.{Machine}
use Rattle.spec.specs.Words.{size}
use Rattle.laws.specs.Tests.{passes}
use Rattle.laws.specs.Links.{filled_true}
use Rattle.laws.specs.Soundness.{config_facts, within_facts}
use Rattle.spec.specs.Sound.{listed_size, fill_lines, lines_of, sound_running, zero_task, sound_task, sound_numbers}
use Rattle.spec.specs.declared.Task.{Task}

-- ---- sizes

pub listed_small : (n : ℕ) → (eqb n 0 || listed_size n) ≡ true → n ≤ 32
unfolding listed_size member
listed_small n h =
    or_case (eqb n 0) _ h (λ e. is 0 e (omega arith)) (λ h. or_case (eqb n 1) _ h (λ e. is 1 e (omega arith))
    (λ h. or_case (eqb n 2) _ h (λ e. is 2 e (omega arith)) (λ h. or_case (eqb n 4) _ h (λ e. is 4 e (omega arith))
    (λ h. or_case (eqb n 8) _ h (λ e. is 8 e (omega arith)) (λ h. or_case (eqb n 16) _ h (λ e. is 16 e (omega arith))
    (λ h. or_case (eqb n 32) _ h (λ e. is 32 e (omega arith)) (λ h. absurd (false≢true h))))))))
  where
    is : (m : ℕ) → eqb n m ≡ true → m ≤ 32 → n ≤ 32
    is m e l = let q : n ≡ m = eqb-true n m e in omega arith

-- ---- the lines of each call

abbrev pub change_lines : List ℕ
change_lines = 32 ∷ 33 ∷ 36 ∷ 39 ∷ 40 ∷ 43 ∷ 44 ∷ 46 ∷ 47 ∷ 48 ∷ 52 ∷ 49 ∷ 50 ∷ 51 ∷ []

abbrev pub look_lines : List ℕ
look_lines = 12 ∷ 13 ∷ 15 ∷ 16 ∷ 17 ∷ 18 ∷ []

abbrev pub resize_lines : List ℕ
resize_lines = 20 ∷ 24 ∷ 27 ∷ 28 ∷ 39 ∷ 40 ∷ 43 ∷ 44 ∷ 46 ∷ 47 ∷ 48 ∷ 52 ∷ 49 ∷ 50 ∷ 51 ∷ []

pub lines_none : (n : ℕ) → n < 1 → lines_of n ≡ []
unfolding lines_of fill_lines
lines_none zero h = refl
lines_none (suc n) h = absurd (omega arith)

pub lines_change : (n : ℕ) → 1 ≤ n → n < 3 → lines_of n ≡ change_lines
unfolding lines_of fill_lines
lines_change zero h l = absurd (omega arith)
lines_change (suc zero) h l = refl
lines_change (suc (suc zero)) h l = refl
lines_change (suc (suc (suc n))) h l = absurd (omega arith)

pub lines_look : (n : ℕ) → 3 ≤ n → n < 4 → lines_of n ≡ look_lines
unfolding lines_of fill_lines
lines_look n h l = let e : n ≡ 3 = omega arith in rw e

pub lines_resize : (n : ℕ) → 4 ≤ n → n < 6 → lines_of n ≡ resize_lines
unfolding lines_of fill_lines
lines_resize zero h l = absurd (omega arith)
lines_resize (suc zero) h l = absurd (omega arith)
lines_resize (suc (suc zero)) h l = absurd (omega arith)
lines_resize (suc (suc (suc zero))) h l = absurd (omega arith)
lines_resize (suc (suc (suc (suc zero)))) h l = refl
lines_resize (suc (suc (suc (suc (suc zero))))) h l = refl
lines_resize (suc (suc (suc (suc (suc (suc n)))))) h l = absurd (omega arith)

pub lines_past : (n : ℕ) → 6 ≤ n → lines_of n ≡ []
unfolding lines_of fill_lines
lines_past n h = get_or-eq_default ([] ∷ change_lines ∷ change_lines ∷ look_lines ∷ resize_lines ∷ resize_lines ∷ []) [] h

-- by `ap` and not by `rw`: the record is to stay as it is where its field is rewritten
pub task_runs : (y : Machine) (k : ℕ) (c : Task) → c.running ≡ true → sound_task y k c ≡ sound_running y k c
unfolding sound_task
task_runs y k c e = ap (λ (b : Bool). if b then sound_running y k c else zero_task c) e

pub task_idle : (y : Machine) (k : ℕ) (c : Task) → c.running ≡ false → sound_task y k c ≡ zero_task c
unfolding sound_task
task_idle y k c e = ap (λ (b : Bool). if b then sound_running y k c else zero_task c) e

-- what sound numbers say of the pools' lengths
pub record Numbers (y : Machine) : Type 0 where
  pub tasks_most : y.state.config.tasks ≤ 8
  pub nodes_most : y.state.nodes ≤ 64
  pub buckets_most : y.state.buckets ≤ 1024
  pub nodes_length : length y.nodes ≡ 34 * y.state.nodes
  pub buckets_length : length y.buckets ≡ 66 * y.state.buckets
  pub head_in : y.state.head < y.state.nodes
  pub last_node_in : y.state.last_node < y.state.nodes
  pub last_bucket_in : y.state.last_bucket < y.state.buckets
  pub head_sized : size y.nodes y.state.head ≡ 0 → ⊥

pub numbers : (y : Machine) → sound_numbers y ≡ true → Numbers y
unfolding sound_numbers
numbers y s =
    let n = passes _ s in
    record {
      tasks_most = (config_facts _ (n 0)).T_high;
      nodes_most = (within_facts 1 64 _ (n 1)).1;
      buckets_most = (within_facts 1 1024 _ (n 2)).1;
      nodes_length = eqb-true _ _ (n 3);
      buckets_length = eqb-true _ _ (n 4);
      head_in = ltb-true _ _ (n 5);
      last_node_in = ltb-true _ _ (n 6);
      last_bucket_in = ltb-true _ _ (n 7);
      head_sized = filled_true _ (n 8);
    }

-- the length of a field that is an array of structs
pub length_mapped : (X Y : Type 0) (f : X → Y) (l : List X) (n : ℕ) → length (map f l) ≡ n → length l ≡ n
length_mapped X Y f l n p = sym (length-map l f) ∙ p
