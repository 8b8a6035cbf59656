-- Each write keeps the facts of memory: an operation replaced, a first word set, a version taken, a task's record replaced. Assumes nothing.
use Prim.Native.Nat.{◌*◌, ◌+◌, ◌<◌, ◌≤◌, ℕ}
use Rattle.std.specs.Prelude.{true, ◌≡◌, length}
use mathlib.Core.List.{List}
use Rattle.std.proofs.Common.{◌∙◌, ap, subst, sym, arith, length-set, get_or-set_other, get_or-set_same}
use Rattle.std.proofs.Math.Path.{refl}
use Rattle.std.proofs.Math.Decide.{ℕ_discrete}
use Rattle.std.proofs.Math.ListN.{get_or-eq_default, get_or, set}
use Rattle.spec.specs.Lists.{ascending}
use Rattle.spec.specs.Words.{bucket_of, count, overwrite, tags}
use Rattle.laws.specs.Ascending.{Rising, rising_ascending}
use Rattle.laws.specs.Tests.{At, hit, miss}
use Rattle.coop_spec.specs.Machine.{Machine, idle, never_invoked, operation_of, set_operation, set_task, task_of, with_flag, with_node}
use Rattle.coop_spec.specs.Machine.{with_operations, with_state, with_task, with_versions}
use Rattle.coop_spec.specs.Sound.{version_count}
use Rattle.coop_spec.specs.Words.{apply, install, op_word, raise_flag, set_op, tags_of}
use Rattle.coop_spec.specs.declared.Operation.{Operation}
use Rattle.coop_spec.specs.declared.Task.{Task}
use Rattle.coop_laws.specs.SoundFacts.{MemoryFacts, OpWordFacts, VersionFacts, an_operation, no_operation}
use Rattle.coop_laws.specs.VersionWords.{first_count, first_other, first_same, first_tags, first_words}
use Rattle.coop_laws.specs.VersionWords.{new_count, new_first, new_tags, new_words}

-- operation m after operation n was replaced
pub operation_after : (y : Machine) (n : ℕ) (q : Operation) → n < length y.state.operation → (m : ℕ)
    → At (m ≡ n) q (operation_of y m) (operation_of (set_operation n q y) m)
unfolding operation_of set_operation with_operations with_state
operation_after y n q b m = go (ℕ_discrete m n)
  where
    go : Dec (m ≡ n) → At (m ≡ n) q (get_or y.state.operation m never_invoked) (get_or (set y.state.operation n q) m never_invoked)
    go (yes e) = hit e (ap (λ (i : ℕ). get_or (set y.state.operation n q) i never_invoked) e ∙ get_or-set_same y.state.operation n q never_invoked b)
    go (no d) = miss d (get_or-set_other y.state.operation n m q never_invoked d)

-- task q after task p's record was replaced
pub task_after : (y : Machine) (p : ℕ) (c : Task) → p < length y.state.task → (q : ℕ) → At (q ≡ p) c (task_of y q) (task_of (set_task p c y) q)
unfolding task_of set_task with_task with_state
task_after y p c b q = go (ℕ_discrete q p)
  where
    go : Dec (q ≡ p) → At (q ≡ p) c (get_or y.state.task q idle) (get_or (set y.state.task p c) q idle)
    go (yes e) = hit e (ap (λ (i : ℕ). get_or (set y.state.task p c) i idle) e ∙ get_or-set_same y.state.task p c idle b)
    go (no d) = miss d (get_or-set_other y.state.task p q c idle d)

-- ---- writes that leave the pool

abbrev pub StillInvoked : Machine → Machine → Type 0
StillInvoked y z = (n : ℕ) → ¬ ((operation_of y n).kind ≡ 0) → ¬ ((operation_of z n).kind ≡ 0)

pub op_word_stays : {y z : Machine} (m : ℕ) → StillInvoked y z → OpWordFacts y m → OpWordFacts z m
op_word_stays m s (no_operation a) = no_operation a
op_word_stays m s (an_operation n e b d) = an_operation n e b (s n d)

pub version_stays : {y z : Machine} (k : ℕ) → z.versions ≡ y.versions → StillInvoked y z → VersionFacts y k → VersionFacts z k
unfolding op_word tags_of
version_stays {y} {z} k e s f = record {
  op_known = subst (λ (w : List ℕ). OpWordFacts z (get_or w (66 * k) 0)) (sym e) (op_word_stays (get_or y.versions (66 * k) 0) s f.op_known);
  few = rw e f.few;
  ascends = rw e f.ascends;
  zeros_after = rw e f.zeros_after;
}

module _ {y z : Machine} (f : MemoryFacts y) where
  pub memory_stays : z.state.tasks ≡ y.state.tasks → z.state.versions ≡ y.state.versions → z.state.last ≡ y.state.last
      → length z.state.task ≡ length y.state.task → z.versions ≡ y.versions
      → ((n : ℕ) → (operation_of z n).kind ≤ 2) → ((n : ℕ) → (operation_of z n).kind ≡ 0 → operation_of z n ≡ never_invoked) → StillInvoked y z → MemoryFacts z
  memory_stays tasks versions latest task pool kinds blank s = record {
    T_low = rw tasks f.T_low;
    T_high = rw tasks f.T_high;
    versions_low = rw versions f.versions_low;
    versions_high = rw versions f.versions_high;
    last_below = rw (versions, latest) f.last_below;
    eight_tasks = task ∙ f.eight_tasks;
    kind_known = kinds;
    untouched = blank;
    version = λ k b. version_stays k pool s (f.version k (rw versions at b));
  }

module _ {y : Machine} (f : MemoryFacts y) where
  pub raise_kept : MemoryFacts (apply raise_flag y)
  unfolding apply with_flag with_state operation_of
  raise_kept = memory_stays f refl refl refl refl refl f.kind_known f.untouched (λ n d. d)

  pub task_kept : (p : ℕ) (c : Task) → MemoryFacts (set_task p c y)
  unfolding set_task with_task with_state operation_of
  task_kept p c = memory_stays f refl refl refl (length-set y.state.task p c) refl f.kind_known f.untouched (λ n d. d)

  -- an operation replaced by one that counts as invoked
  module _ (n : ℕ) (q : Operation) (in_table : n < length y.state.operation) (invoked : ¬ (q.kind ≡ 0)) (known : q.kind ≤ 2) where
    kind_after : (m : ℕ) → At (m ≡ n) q (operation_of y m) (operation_of (set_operation n q y) m) → (operation_of (set_operation n q y) m).kind ≤ 2
    kind_after m (hit e g) = rw g known
    kind_after m (miss d g) = rw g (f.kind_known m)

    zero_after : (m : ℕ) → At (m ≡ n) q (operation_of y m) (operation_of (set_operation n q y) m) → (operation_of (set_operation n q y) m).kind ≡ 0
        → operation_of (set_operation n q y) m ≡ never_invoked
    zero_after m (hit e g) z = absurd (invoked (ap (λ (x : Operation). x.kind) (sym g) ∙ z))
    zero_after m (miss d g) z = g ∙ f.untouched m (ap (λ (x : Operation). x.kind) (sym g) ∙ z)

    still_invoked : (m : ℕ) → At (m ≡ n) q (operation_of y m) (operation_of (set_operation n q y) m) → ¬ ((operation_of y m).kind ≡ 0)
        → ¬ ((operation_of (set_operation n q y) m).kind ≡ 0)
    still_invoked m (hit e g) d z = invoked (ap (λ (x : Operation). x.kind) (sym g) ∙ z)
    still_invoked m (miss e g) d z = d (ap (λ (x : Operation). x.kind) (sym g) ∙ z)

    pub operation_still : StillInvoked y (set_operation n q y)
    operation_still m = still_invoked m (operation_after y n q in_table m)

    pub operation_kept : MemoryFacts (set_operation n q y)
    unfolding set_operation with_operations with_state
    operation_kept =
        memory_stays f refl refl refl refl refl (λ m. kind_after m (operation_after y n q in_table m)) (λ m. zero_after m (operation_after y n q in_table m))
        (λ m. still_invoked m (operation_after y n q in_table m))

  -- ---- writes to the pool

  module _ (long : length y.versions ≡ 66 * version_count y) (k : ℕ) (below : k < version_count y) where
    fits : 66 * k < length y.versions
    fits = omega arith

    pub op_word_kept : (m : ℕ) → OpWordFacts y m → MemoryFacts (apply (set_op k m) y)
    unfolding apply with_versions operation_of op_word tags_of
    op_word_kept m o = record {
      T_low = f.T_low;
      T_high = f.T_high;
      versions_low = f.versions_low;
      versions_high = f.versions_high;
      last_below = f.last_below;
      eight_tasks = f.eight_tasks;
      kind_known = f.kind_known;
      untouched = f.untouched;
      version = λ j b. record {
        op_known = first j b (ℕ_discrete j k);
        few = rw (first_count y.versions k m fits j) (f.version j b).few;
        ascends = rw (first_tags y.versions k m fits j (f.version j b).few) (f.version j b).ascends;
        zeros_after = λ i a c. first_words y.versions k m fits j i c
            ∙ (f.version j b).zeros_after i (rw (first_count y.versions k m fits j) at a) c;
      };
    }
      where
        first : (j : ℕ) → j < version_count y → Dec (j ≡ k)
            → OpWordFacts (record { state = y.state; versions = set y.versions (66 * k) m }) (get_or (set y.versions (66 * k) m) (66 * j) 0)
        first j b (yes e) =
            rw (ap (λ (i : ℕ). get_or (set y.versions (66 * k) m) (66 * i) 0) e ∙ first_same y.versions k m fits) (op_word_stays m (λ n d. d) o)
        first j b (no d) = rw (first_other y.versions k m fits j d) (op_word_stays (get_or y.versions (66 * j) 0) (λ n d. d) (f.version j b).op_known)

    pub install_kept : (S : List ℕ) → length S ≤ 64 → Rising S → MemoryFacts (apply (install k S) y)
    unfolding apply with_versions with_node with_state operation_of op_word tags_of
    install_kept S few rises = record {
      T_low = f.T_low;
      T_high = f.T_high;
      versions_low = f.versions_low;
      versions_high = f.versions_high;
      last_below = below;
      eight_tasks = f.eight_tasks;
      kind_known = f.kind_known;
      untouched = f.untouched;
      version = λ j b. record {
        op_known = first j b (new_first y.versions (version_count y) long k below S few j);
        few = counted j b (new_count y.versions (version_count y) long k below S few j);
        ascends = rising j b (new_tags y.versions (version_count y) long k below S few j (f.version j b).few);
        zeros_after = λ i a c. after j b i c a (new_count y.versions (version_count y) long k below S few j)
            (new_words y.versions (version_count y) long k below S few j i c);
      };
    }
      where
        W : List ℕ
        W = overwrite y.versions (66 * k) (bucket_of 0 S)

        Z : Machine
        Z = with_node k (with_versions W y)

        first : (j : ℕ) → j < version_count y → At (j ≡ k) 0 (get_or y.versions (66 * j) 0) (get_or W (66 * j) 0) → OpWordFacts Z (get_or W (66 * j) 0)
        first j b (hit e g) = rw g (no_operation (omega arith))
        first j b (miss d g) = rw g (op_word_stays (get_or y.versions (66 * j) 0) (λ n d. d) (f.version j b).op_known)

        counted : (j : ℕ) → j < version_count y → At (j ≡ k) (length S) (count y.versions j) (count W j) → count W j ≤ 64
        counted j b (hit e g) = rw g few
        counted j b (miss d g) = rw g (f.version j b).few

        rising : (j : ℕ) → j < version_count y → At (j ≡ k) S (tags y.versions j) (tags W j) → ascending (tags W j) ≡ true
        rising j b (hit e g) = rw g (rising_ascending S rises)
        rising j b (miss d g) = rw g (f.version j b).ascends

        after : (j : ℕ) → j < version_count y → (i : ℕ) → i < 64 → count W j ≤ i → At (j ≡ k) (length S) (count y.versions j) (count W j)
            → At (j ≡ k) (get_or S i 0) (get_or y.versions (66 * j + 2 + i) 0) (get_or W (66 * j + 2 + i) 0) → get_or W (66 * j + 2 + i) 0 ≡ 0
        after j b i c a (hit e g) (hit e' g') = g' ∙ get_or-eq_default S 0 (rw g at a)
        after j b i c a (hit e g) (miss d g') = absurd (d e)
        after j b i c a (miss d g) (hit e g') = absurd (d e)
        after j b i c a (miss d g) (miss d' g') = g' ∙ (f.version j b).zeros_after i (rw g at a) c
