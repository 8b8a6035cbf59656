-- What soundness says of the versions, the operations and the numbers of the state, as facts; and that the facts, with the tasks' records
-- sound, make the test pass. Assumes nothing.
use Rattle.std.specs.Prelude.{◌*◌, ◌+◌, ◌-◌, ◌<◌, ◌≤◌, suc, zero, ℕ, Bool, ◌&&◌, ◌||◌, false, not, List, [], ◌∷◌, ◌⊎◌, ◌≡◌, refl, leb, drop, length, take}
use Rattle.std.proofs.Math.Bool.{true}
use Rattle.std.proofs.Common.{inl, inr, ◌∙◌, arith}
use Rattle.std.proofs.Math.Path.{ap}
use Rattle.std.proofs.Math.Decide.{ℕ_discrete}
use borrow.Author.Tests.{eq-eqb, le-leb, lt-ltb, ne_eqb}
use Rattle.std.proofs.Math.Dec.{eqb, ltb}
use Rattle.std.proofs.Math.ListN.{get_or}
use Rattle.std.proofs.Math.Seq.{drop-drop, get_or-drop}
use Rattle.spec.specs.Lists.{ascending, every}
use Rattle.spec.specs.Sound.{within}
use Rattle.spec.specs.Words.{count, tags}
use Rattle.laws.specs.Lists.{all_zeros}
use Rattle.laws.specs.Tests.{and4_i, and_i, bool?, or_l, or_r}
use Rattle.coop_spec.specs.Machine.{Machine, never_invoked, operation_of}
use Rattle.coop_spec.specs.Sound.{sound, sound_numbers, sound_op_word, sound_operation, sound_tags, sound_tasks, sound_version}
use Rattle.coop_spec.specs.Sound.{sound_versions, version_count, was_invoked, zero_operation}
use Rattle.coop_spec.specs.Words.{op_word, tags_of}

-- "0 for no operation, 1 for frozen, else an operation's number plus 2", of an operation that was invoked
pub data OpWordFacts (y : Machine) (m : ℕ) : Type 0 where
  no_operation : m ≤ 1 → OpWordFacts y m
  an_operation : (n : ℕ) → m ≡ n + 2 → n < 64 → ¬ ((operation_of y n).kind ≡ 0) → OpWordFacts y m

pub record VersionFacts (y : Machine) (k : ℕ) : Type 0 where
  pub op_known : OpWordFacts y (op_word y k)
  pub few : count y.versions k ≤ 64
  pub ascends : ascending (tags_of y k) ≡ true
  pub zeros_after : (j : ℕ) → count y.versions k ≤ j → j < 64 → get_or y.versions (66 * k + 2 + j) 0 ≡ 0

pub record MemoryFacts (y : Machine) : Type 0 where
  pub T_low : 1 ≤ y.state.tasks
  pub T_high : y.state.tasks ≤ 8
  pub versions_low : 1 ≤ version_count y
  pub versions_high : version_count y ≤ 1024
  pub last_below : y.state.last < version_count y
  pub eight_tasks : length y.state.task ≡ 8
  pub kind_known : (n : ℕ) → (operation_of y n).kind ≤ 2
  pub untouched : (n : ℕ) → (operation_of y n).kind ≡ 0 → operation_of y n ≡ never_invoked
  pub version : (k : ℕ) → k < version_count y → VersionFacts y k

-- ---- one version

facts_op_word : (y : Machine) (m : ℕ) → OpWordFacts y m → sound_op_word y m ≡ true
unfolding sound_op_word was_invoked
facts_op_word y m (no_operation a) = and_i (leb m 65) _ (le-leb m 65 (omega arith)) (or_l (leb m 1) _ (le-leb m 1 a))
facts_op_word y m (an_operation n e b d) =
    let q : m - 2 ≡ n = omega arith in
    and_i (leb m 65) _ (le-leb m 65 (omega arith)) (or_r (leb m 1) _ (rw q (and_i (ltb n 64) _ (lt-ltb n 64 b) (rw (ne_eqb (operation_of y n).kind 0 d)))))

module _ (y : Machine) (k : ℕ) where
  unfoldable version_words : List ℕ
  version_words = drop (66 * k) y.versions

  word_of : (i : ℕ) → get_or version_words i 0 ≡ get_or y.versions (66 * k + i) 0
  unfolding version_words
  word_of i = get_or-drop (66 * k) y.versions i 0

  word_0 : get_or version_words 0 0 ≡ op_word y k
  unfolding op_word
  word_0 = word_of 0 ∙ ap (λ (n : ℕ). get_or y.versions n 0) (omega arith)

  word_1 : get_or version_words 1 0 ≡ count y.versions k
  unfolding count
  word_1 = word_of 1

  word_tags : take (get_or version_words 1 0) (drop 2 version_words) ≡ tags_of y k
  unfolding tags_of tags version_words
  word_tags = rw (word_1, drop-drop 2 (66 * k) y.versions)

  facts_version : VersionFacts y k → sound_version y version_words ≡ true
  unfolding sound_version sound_tags
  facts_version f = and_i _ _ t0 (and_i _ _ (and_i _ _ t1 t2) (all_zeros _ _ after))
    where
      t0 : sound_op_word y (get_or version_words 0 0) ≡ true
      t0 = rw word_0 (facts_op_word y (op_word y k) f.op_known)

      t1 : leb (get_or version_words 1 0) 64 ≡ true
      t1 = le-leb (get_or version_words 1 0) 64 (rw word_1 f.few)

      t2 : ascending (take (get_or version_words 1 0) (drop 2 version_words)) ≡ true
      t2 = rw word_tags f.ascends

      after : (i : ℕ) → i < 64 - get_or version_words 1 0 → get_or (drop (2 + get_or version_words 1 0) version_words) i 0 ≡ 0
      after i h =
          let r : 66 * k + ((2 + get_or version_words 1 0) + i) ≡ 66 * k + 2 + (get_or version_words 1 0 + i) = omega arith in
          get_or-drop _ version_words i 0 ∙ word_of ((2 + get_or version_words 1 0) + i) ∙ ap (λ (n : ℕ). get_or y.versions n 0) r
          ∙ f.zeros_after (get_or version_words 1 0 + i) (rw word_1 (omega arith)) (omega arith)

-- ---- all versions, and all operations

at_versions : (y : Machine) (n : ℕ) (w : List ℕ) → ((k : ℕ) → k < n → sound_version y (drop (66 * k) w) ≡ true) → sound_versions y n w ≡ true
unfolding sound_versions
at_versions y zero w h = refl
at_versions y (suc n) w h = and_i (sound_version y w) (sound_versions y n (drop 66 w)) (h 0 (omega arith)) (at_versions y n (drop 66 w) further)
  where
    further : (k : ℕ) → k < n → sound_version y (drop (66 * k) (drop 66 w)) ≡ true
    further k p = let q : 66 * suc k ≡ 66 + 66 * k = omega arith in rw (drop-drop (66 * k) 66 w, ← q) (h (suc k) (omega arith))

every_of : {A : Type 0} (f : A → Bool) (d : A) (l : List A) → ((n : ℕ) → f (get_or l n d) ≡ true) → every f l ≡ true
unfolding every
every_of f d [] h = refl
every_of f d (x ∷ l) h = and_i (f x) (every f l) (h 0) (every_of f d l (λ n. h (suc n)))

module _ (y : Machine) (f : MemoryFacts y) (done : (n : ℕ) → (operation_of y n).returned ≡ true → (operation_of y n).done ≡ true) where
  operation_sound : (n : ℕ) → sound_operation (operation_of y n) ≡ true
  unfolding sound_operation never_invoked
  operation_sound n = and_i _ _ (and_i _ _ (le-leb (operation_of y n).kind 2 (f.kind_known n)) (zero_if (ℕ_discrete (operation_of y n).kind 0)))
      (first_done (bool? (operation_of y n).returned))
    where
      zero_if : Dec ((operation_of y n).kind ≡ 0) → (not (eqb (operation_of y n).kind 0) || zero_operation (operation_of y n)) ≡ true
      zero_if (yes e) = or_r (not (eqb (operation_of y n).kind 0)) _ (rw (f.untouched n e))
      zero_if (no d) = or_l (not (eqb (operation_of y n).kind 0)) _ (rw (ne_eqb (operation_of y n).kind 0 d))

      first_done : ((operation_of y n).returned ≡ true) ⊎ ((operation_of y n).returned ≡ false)
          → (not (operation_of y n).returned || (operation_of y n).done) ≡ true
      first_done (inl e) = or_r (not (operation_of y n).returned) _ (done n e)
      first_done (inr e) = or_l (not (operation_of y n).returned) _ (rw e)

  pub facts_sound : y.state.node < version_count y → length y.versions ≡ 66 * version_count y → sound_tasks y 0 y.state.task ≡ true → sound y ≡ true
  unfolding sound sound_numbers operation_of version_words
  facts_sound node long tasks =
      and4_i _ _ _ _ numbers (every_of sound_operation never_invoked y.state.operation operation_sound)
      (at_versions y (version_count y) y.versions (λ k b. facts_version y k (f.version k b))) tasks
    where
      numbers : (within 1 8 y.state.tasks && within 1 1024 (version_count y) && eqb (length y.versions) (66 * version_count y) && ltb y.state.node
          (version_count y) && ltb y.state.last (version_count y)) ≡ true
      numbers =
          rw (
            le-leb 1 y.state.tasks f.T_low,
            le-leb y.state.tasks 8 f.T_high,
            le-leb 1 (version_count y) f.versions_low,
            le-leb (version_count y) 1024 f.versions_high,
            eq-eqb (length y.versions) (66 * version_count y) long,
            lt-ltb y.state.node (version_count y) node,
            lt-ltb y.state.last (version_count y) f.last_below,
          )
