-- The test of one node, and of all nodes in one pass, against the facts of each node by number. Assumes nothing.
use Rattle.std.specs.Prelude.{ℕ, zero, suc, ◌+◌, ◌*◌, ◌-◌, ◌≤◌, ◌<◌, ◌≡◌, refl, ◌⊎◌, List, ◌||◌, leb, eqb, take, drop}
use Rattle.std.proofs.Common.{sym, ◌∙◌, inl, inr, arith, get_or-take, drop-drop}
use Rattle.std.proofs.Math.Path.{ap}
use Rattle.std.proofs.Math.Bool.{true, not}
use Rattle.std.proofs.Math.Decide.{ℕ_discrete}
use borrow.Author.Tests.{eqb-true, eq-eqb, leb-true, le-leb, not-true}
use Rattle.std.proofs.Math.ListN.{get_or}
use Rattle.std.proofs.Math.Seq.{get_or-drop}
use Rattle.spec.specs.Lists.{every}
use Rattle.spec.specs.Machine.{Machine}
use Rattle.spec.specs.Words.{number, filled, size, pred, place}
use Rattle.spec.specs.Sound.{node_count, bucket_count, listed_size, zeros, node_link, bucket_link, sound_node, sound_nodes}
use Rattle.laws.specs.Tests.{and_left, and_right, and_i, and4, and4_i, or_e, or_l, or_r}
use Rattle.laws.specs.Lists.{every_at, every_take, zeros_at, all_zeros}
use Rattle.laws.specs.SoundFacts.{NodeLink, NodeFacts}
use Rattle.laws.specs.Sizes.{Size, unused, used}
use Rattle.laws.specs.Links.{filled_false, false_filled, filled_true, true_filled}

module _ (y : Machine) (l : ℕ) where
  pub node_linked : node_link y l ≡ true → NodeLink y l
  unfolding node_link
  node_linked e = record {
    within = leb-true l (node_count y) (and_left (leb l (node_count y)) _ e);
    sized = λ n. go n (or_e _ _ (and_right (leb l (node_count y)) _ e));
  }
    where
      go : ¬ (l ≡ 0) → (not (filled l) ≡ true) ⊎ (not (eqb (size y.nodes (number l)) 0) ≡ true) → ¬ (size y.nodes (number l) ≡ 0)
      go n (inl p) = absurd (n (filled_false l (not-true (filled l) p)))
      go n (inr p) = filled_true (size y.nodes (number l)) p

  pub link_noded : NodeLink y l → node_link y l ≡ true
  unfolding node_link
  link_noded f = and_i _ _ (le-leb l (node_count y) f.within) (go (ℕ_discrete l 0))
    where
      go : Dec (l ≡ 0) → (not (filled l) || not (eqb (size y.nodes (number l)) 0)) ≡ true
      go (yes p) = or_l (not (filled l)) _ (rw (false_filled l p))
      go (no d) = or_r (not (filled l)) _ (true_filled _ (f.sized d))

-- ---- a node

module _ (y : Machine) (k : ℕ) where
  unfoldable pub words : List ℕ
  words = drop (34 * k) y.nodes

  word : (i : ℕ) → get_or words i 0 ≡ get_or y.nodes (34 * k + i) 0
  unfolding words
  word i = get_or-drop (34 * k) y.nodes i 0

  word_0 : get_or words 0 0 ≡ size y.nodes k
  unfolding size
  word_0 = word 0 ∙ ap (λ (n : ℕ). get_or y.nodes n 0) (omega arith)

  word_1 : get_or words 1 0 ≡ pred y.nodes k
  unfolding pred
  word_1 = word 1

  word_2 : (i : ℕ) → get_or words (2 + i) 0 ≡ place y.nodes k i
  unfolding place
  word_2 i = word (2 + i) ∙ ap (λ (n : ℕ). get_or y.nodes n 0) (omega arith)

  word_take : (i : ℕ) → i < 32 → get_or (take 32 (drop 2 words)) i 0 ≡ place y.nodes k i
  word_take i h = get_or-take 32 (drop 2 words) i 0 h ∙ get_or-drop 2 words i 0 ∙ word_2 i

  size_tests : (n : ℕ) → (eqb n 0 || listed_size n) ≡ true → Size n
  size_tests n e = elim (or_e (eqb n 0) (listed_size n) e) [ inl p ↦ unused (eqb-true n 0 p) | inr p ↦ used p ]

  tests_size : {n : ℕ} → Size n → (eqb n 0 || listed_size n) ≡ true
  tests_size {n} (unused p) = or_l (eqb n 0) (listed_size n) (eq-eqb n 0 p)
  tests_size {n} (used p) = or_r (eqb n 0) (listed_size n) p

  pub node_facts : sound_node y words ≡ true → NodeFacts y k
  unfolding sound_node bucket_link
  node_facts e = record {
    size_ok = size_tests _ (rw word_0 at p.0);
    pred_ok = node_linked y (pred y.nodes k) (rw word_1 at p.1);
    place_ok = λ i h. leb-true _ _ (rw (word_take i h) at (every_at (bucket_link y) (le-leb 0 (bucket_count y) (omega arith)) _ p.2 i));
    past = λ i h g. rest i (rw (← word_0) at h) g;
  }
    where
      p : ((eqb (get_or words 0 0) 0 || listed_size (get_or words 0 0)) ≡ true) × (node_link y (get_or words 1 0) ≡ true)
          × (every (bucket_link y) (take 32 (drop 2 words)) ≡ true)
          × (zeros (32 - get_or words 0 0) (drop (2 + get_or words 0 0) words) ≡ true)
      p = and4 _ _ _ _ e

      rest : (i : ℕ) → get_or words 0 0 ≤ i → i < 32 → place y.nodes k i ≡ 0
      rest i h g =
          let q = zeros_at _ _ p.3 (i - get_or words 0 0) (omega arith) in
          let r : (2 + get_or words 0 0) + (i - get_or words 0 0) ≡ 2 + i = omega arith in
          sym (word_2 i) ∙ ap (λ (n : ℕ). get_or words n 0) (sym r) ∙ sym (get_or-drop _ words _ 0) ∙ q

  pub facts_node : NodeFacts y k → sound_node y words ≡ true
  unfolding sound_node bucket_link
  facts_node f = and4_i _ _ _ _ t0 t1 t2 (all_zeros _ _ rest)
    where
      t0 : (eqb (get_or words 0 0) 0 || listed_size (get_or words 0 0)) ≡ true
      t0 = rw word_0 (tests_size f.size_ok)

      t1 : node_link y (get_or words 1 0) ≡ true
      t1 = rw word_1 (link_noded y (pred y.nodes k) f.pred_ok)

      t2 : every (bucket_link y) (take 32 (drop 2 words)) ≡ true
      t2 = every_take _ 32 (drop 2 words) (λ i h. le-leb (get_or (drop 2 words) i 0) (bucket_count y) (rw (get_or-drop 2 words i 0, word_2 i) (f.place_ok i h)))

      rest : (i : ℕ) → i < 32 - get_or words 0 0 → get_or (drop (2 + get_or words 0 0) words) i 0 ≡ 0
      rest i h =
          let r : (2 + get_or words 0 0) + i ≡ 2 + (get_or words 0 0 + i) = omega arith in
          get_or-drop _ words i 0 ∙ ap (λ (n : ℕ). get_or words n 0) r ∙ word_2 (get_or words 0 0 + i)
          ∙ f.past (get_or words 0 0 + i) (rw word_0 (omega arith)) (omega arith)

pub nodes_at : (y : Machine) (n : ℕ) (w : List ℕ) → sound_nodes y n w ≡ true → (k : ℕ) → k < n → sound_node y (drop (34 * k) w) ≡ true
unfolding sound_nodes
nodes_at y zero w e k h = absurd (omega arith)
nodes_at y (suc n) w e zero h = and_left (sound_node y w) (sound_nodes y n (drop 34 w)) e
nodes_at y (suc n) w e (suc k) h =
    let q : 34 * suc k ≡ 34 + 34 * k = omega arith in
    rw (q, ← (drop-drop (34 * k) 34 w)) (nodes_at y n (drop 34 w) (and_right (sound_node y w) (sound_nodes y n (drop 34 w)) e) k (omega arith))

pub at_nodes : (y : Machine) (n : ℕ) (w : List ℕ) → ((k : ℕ) → k < n → sound_node y (drop (34 * k) w) ≡ true) → sound_nodes y n w ≡ true
unfolding sound_nodes
at_nodes y zero w h = refl
at_nodes y (suc n) w h = and_i (sound_node y w) (sound_nodes y n (drop 34 w)) (h 0 (omega arith)) (at_nodes y n (drop 34 w) rest)
  where
    rest : (k : ℕ) → k < n → sound_node y (drop (34 * k) (drop 34 w)) ≡ true
    rest k p = let q : 34 * suc k ≡ 34 + 34 * k = omega arith in rw (drop-drop (34 * k) 34 w, ← q) (h (suc k) (omega arith))
