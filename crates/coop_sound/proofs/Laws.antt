-- Laws of the tests of soundness: a turn of each loop, the kinds of the operations, the lines of a call, the numbers of a sound state.
-- Assumes nothing.
use mathlib.Core.Path.{◌≡◌, refl, sym}
use mathlib.Core.List.{List, [], ◌∷◌}
use mathlib.Core.Bool.{Bool, true, false, not, ◌&&◌, ◌||◌}
use Prim.Native.Nat.{ℕ, suc, ◌+◌, ◌-◌, ◌*◌, ◌<◌, ◌≤◌}
use native.Mathlib.Numerals.{add-one}
use native.Mathlib.Omega.{arith}
use native.Mathlib.Decide.{dec_lt}
use borrow.Author.Tests.{leb-true, ltb-true, eqb-true, lt-ltb, le-ltb, le-leb, lt-leb}
use lib.Dec.{leb, ltb, eqb}
use lib.ListN.{length, get_or, drop, drop_of_length-le, get_or-eq_default}
use lib.Seq.{drop-cons, drop-drop}
use Rattle.laws.specs.Tests.{and_right, and5}
use Rattle.spec.specs.Lists.{every}
use Rattle.coop_spec.specs.declared.Task.{Task}
use Rattle.coop_spec.specs.Machine.{Machine, operation_of}
use Rattle.coop_spec.specs.Sound.{was_invoked, sound_op_word, sound_version, sound_versions, sound_task, sound_tasks}
use Rattle.coop_spec.specs.Sound.{invoke_lines, member_lines, help_lines, freeze_lines, lines_of, sound_numbers}
use Rattle.coop_sound.specs.Kinds.{Kinds}

-- ---- the operations, one by one

module _ {A : Type 0} (f : A → Bool) (l : List A) (k : ℕ) where
  pub every_on : (d : A) → k < length l → f (get_or l k d) ≡ true → every f (drop k l) ≡ every f (drop (k + 1) l)
  unfolding every
  every_on d h e = rw (add-one, drop-cons l k d h, e)

  pub every_no : (d : A) → k < length l → f (get_or l k d) ≡ false → every f (drop k l) ≡ false
  unfolding every
  every_no d h e = rw (drop-cons l k d h, e)

  pub every_end : length l ≤ k → every f (drop k l) ≡ true
  unfolding every
  every_end h = rw (drop_of_length-le l h)

-- ---- the kinds of all 64 operations

pub kinds_all : (y : Machine) (ks : List ℕ) → length ks ≡ 64 → ((n : ℕ) → n < 64 → get_or ks n 0 ≡ (operation_of y n).kind) → Kinds y ks
unfolding was_invoked
kinds_all y ks long same = record { each = λ n. go n (dec_lt n 64) }
  where
    past : (n : ℕ) → ¬ (n < 64) → get_or ks n 0 ≡ 0
    past n h = let l : length ks ≤ n = omega (arith, h, long) in get_or-eq_default ks 0 l

    go : (n : ℕ) → Dec (n < 64) → (ltb n 64 && not (eqb (operation_of y n).kind 0)) ≡ not (eqb (get_or ks n 0) 0)
    go n (yes h) = rw (lt-ltb n 64 h, same n h)
    go n (no h) = rw (le-ltb n 64 (omega (arith, h)), past n h)

-- an operation past the last was never invoked
not_past : (y : Machine) (n : ℕ) → 64 ≤ n → was_invoked y n ≡ false
unfolding was_invoked
not_past y n h = rw (le-ltb n 64 h)

-- a first word over 1 is sound exactly if its operation was invoked
pub op_word_over_1 : (y : Machine) (m : ℕ) → 1 < m → sound_op_word y m ≡ was_invoked y (m - 2)
unfolding sound_op_word
op_word_over_1 y m h = go (dec_lt m 66)
  where
    go : Dec (m < 66) → (leb m 65 && (leb m 1 || was_invoked y (m - 2))) ≡ was_invoked y (m - 2)
    go (yes l) = rw (le-leb m 65 (omega arith), lt-leb m 1 h)
    go (no l) = rw (lt-leb m 65 (omega (arith, l))) (sym (not_past y (m - 2) (omega (arith, l))))

pub op_word_to_1 : (y : Machine) (m : ℕ) → m ≤ 1 → sound_op_word y m ≡ true
unfolding sound_op_word
op_word_to_1 y m h = rw (le-leb m 65 (omega arith), le-leb m 1 h)

-- ---- the versions and the tasks, one by one

module _ (y : Machine) where
  module _ (w : List ℕ) (n k : ℕ) (h : k < n) where
    less : n - k ≡ suc (n - (k + 1))
    less = omega arith

    pub versions_on : sound_version y (drop (66 * k) w) ≡ true
        → sound_versions y (n - k) (drop (66 * k) w) ≡ sound_versions y (n - (k + 1)) (drop (66 * (k + 1)) w)
    unfolding sound_versions
    versions_on e = let q : 66 * k + 66 ≡ 66 * (k + 1) = omega arith in rw (less, e, drop-drop 66 (66 * k) w, q)

    pub versions_no : sound_version y (drop (66 * k) w) ≡ false → sound_versions y (n - k) (drop (66 * k) w) ≡ false
    unfolding sound_versions
    versions_no e = rw (less, e)

  pub versions_end : (w : List ℕ) (n k : ℕ) → n ≤ k → sound_versions y (n - k) (drop (66 * k) w) ≡ true
  unfolding sound_versions
  versions_end w n k h = let z : n - k ≡ 0 = omega arith in rw z

  module _ (ts : List Task) (k : ℕ) where
    pub tasks_on : (d : Task) → k < length ts → sound_task y k (get_or ts k d) ≡ true
        → sound_tasks y k (drop k ts) ≡ sound_tasks y (k + 1) (drop (k + 1) ts)
    unfolding sound_tasks
    tasks_on d h e = rw (add-one, drop-cons ts k d h, e)

    pub tasks_no : (d : Task) → k < length ts → sound_task y k (get_or ts k d) ≡ false → sound_tasks y k (drop k ts) ≡ false
    unfolding sound_tasks
    tasks_no d h e = rw (drop-cons ts k d h, e)

    pub tasks_end : length ts ≤ k → sound_tasks y k (drop k ts) ≡ true
    unfolding sound_tasks
    tasks_end h = rw (drop_of_length-le ts h)

-- ---- the lines of a call, written out

abbrev pub invoke_call : List ℕ
invoke_call = 95 ∷ 96 ∷ 99 ∷ 100 ∷ 101 ∷ 102 ∷ 107 ∷ 120 ∷ 121 ∷ 122 ∷ 123 ∷ 127 ∷ 129 ∷ 130 ∷ 138 ∷ 139 ∷ 140 ∷ []

abbrev pub freeze_call : List ℕ
freeze_call = 109 ∷ 120 ∷ 121 ∷ 122 ∷ 123 ∷ 127 ∷ 129 ∷ 130 ∷ 138 ∷ 139 ∷ 140 ∷ []

abbrev pub member_call : List ℕ
member_call = 112 ∷ 113 ∷ []

abbrev pub response_call : List ℕ
response_call = 117 ∷ []

pub lines : (n : ℕ) → lines_of n ≡ get_or ([] ∷ invoke_call ∷ invoke_call ∷ freeze_call ∷ member_call ∷ response_call ∷ []) n []
unfolding lines_of invoke_lines member_lines help_lines freeze_lines
lines n = refl

-- ---- the numbers of a sound state

pub record Numbers (y : Machine) : Type 0 where
  pub tasks_most : y.state.tasks ≤ 8
  pub versions_most : y.state.versions ≤ 1024
  pub pool_length : length y.versions ≡ 66 * y.state.versions
  pub node_in : y.state.node < y.state.versions
  pub last_in : y.state.last < y.state.versions

pub numbers : (y : Machine) → sound_numbers y ≡ true → Numbers y
unfolding sound_numbers
numbers y s =
    let p = and5 _ _ _ _ _ s in
    record {
      tasks_most = leb-true _ _ (and_right (leb 1 y.state.tasks) (leb y.state.tasks 8) p.0);
      versions_most = leb-true _ _ (and_right (leb 1 y.state.versions) (leb y.state.versions 1024) p.1);
      pool_length = eqb-true _ _ p.2;
      node_in = ltb-true _ _ p.3;
      last_in = ltb-true _ _ p.4;
    }
