-- Held as computed is held as the paper defines it: the least set of nodes with the head and what running tasks name in it that has
-- with a node its predecessor too, and the buckets that these nodes place or running tasks name. Cycles of predecessors are no
-- exception: a chain of H links names all that it can ever reach. Assumes nothing.
use Prim.Native.Nat.{ℕ, zero, suc, ◌≤◌, ◌<◌}
use Rattle.std.specs.Prelude.{◌≡◌}
use Rattle.std.proofs.Math.Path.{refl}
use Rattle.std.proofs.Math.Logic.{inl, inr}
use Rattle.std.proofs.Math.Bool.{true}
use mathlib.Core.List.{List, ◌∷◌}
use native.Mathlib.Omega.{arith}
use Rattle.spec.specs.Lists.{member, concat_map}
use Rattle.spec.specs.Machine.{Machine, task_of}
use Rattle.spec.specs.Words.{link, pred, place}
use Rattle.spec.specs.Sound.{node_count}
use Rattle.spec.specs.Held.{chain, task_nodes, held_nodes}
use Rattle.laws.specs.Tests.{tf}
use Rattle.laws.specs.Lists.{member_cons}
use Rattle.laws.specs.SoundFacts.{SoundFacts}
use Rattle.laws.specs.Soundness.{run_of}
use Rattle.laws.specs.JoinedLists.{join_from}
use Rattle.laws.specs.Chains.{Link?, link?, none, chain_filled, some, chain_cons}

-- by record numbers
pub data HeldNode (y : Machine) : ℕ → Type 0 where
  the_head : {k : ℕ} → k ≡ y.state.head → HeldNode y k
  as_t : {k : ℕ} (j : ℕ) → (task_of y j).running ≡ true → (task_of y j).t ≡ link k → HeldNode y k
  as_s : {k : ℕ} (j : ℕ) → (task_of y j).running ≡ true → (task_of y j).s ≡ link k → HeldNode y k
  as_new : {k : ℕ} (j : ℕ) → (task_of y j).running ≡ true → (task_of y j).new_node ≡ link k → HeldNode y k
  before : {k : ℕ} (n : ℕ) → HeldNode y n → pred y.nodes n ≡ link k → HeldNode y k

pub data HeldBucket (y : Machine) (k : ℕ) : Type 0 where
  placed : (n i : ℕ) → HeldNode y n → i < 32 → place y.nodes n i ≡ link k → HeldBucket y k
  as_b : (j : ℕ) → (task_of y j).running ≡ true → (task_of y j).b ≡ link k → HeldBucket y k
  as_m : (j : ℕ) → (task_of y j).running ≡ true → (task_of y j).m ≡ link k → HeldBucket y k
  as_n : (j : ℕ) → (task_of y j).running ≡ true → (task_of y j).n ≡ link k → HeldBucket y k
  as_new : (j : ℕ) → (task_of y j).running ≡ true → (task_of y j).new_bucket ≡ link k → HeldBucket y k

-- ---- held: what the lists say

abbrev pub sources : Machine → List ℕ
sources y = link y.state.head ∷ concat_map task_nodes y.state.task

module _ (y : Machine) where
  pub chain_held : (n l : ℕ) → ((k : ℕ) → l ≡ link k → HeldNode y k) → (x : ℕ) → member (link x) (chain y.nodes n l) ≡ true → HeldNode y x
  unfolding chain member
  chain_held zero l s x e = absurd (tf e refl)
  chain_held (suc n) l s x e = go (link? l) (chain_held n)
    where
      go : Link? l → ((l : ℕ) → ((k : ℕ) → l ≡ link k → HeldNode y k) → (x : ℕ) → member (link x) (chain y.nodes n l) ≡ true → HeldNode y x) → HeldNode y x
      go (none q) ih = let z : member (link x) (chain y.nodes (suc n) 0) ≡ true = rw q at e in absurd (tf z refl)
      go (some m q) ih =
          let z : member (link x) (chain y.nodes (suc n) (link m)) ≡ true = rw q at e in
          let c : member (link x) (link m ∷ chain y.nodes n (pred y.nodes m)) ≡ true = rw (chain_cons y.nodes n m) at z in
          elim (member_cons (link x) (link m) (chain y.nodes n (pred y.nodes m)) c) [
            | inl r ↦ s x (omega arith)
            | inr r ↦ ih (pred y.nodes m) (λ k t. before m (s m q) t) x r
          ]

  -- a held link is filled
  pub held_filled : (l : ℕ) → member l (held_nodes y) ≡ true → ¬ (l ≡ 0)
  unfolding held_nodes
  held_filled l e =
      let p = join_from (chain y.nodes (node_count y)) l (sources y) e in
      chain_filled y.nodes (node_count y) p.0 l p.2

module _ (y : Machine) (f : SoundFacts y) where
  pub held_node_below : (k : ℕ) → HeldNode y k → k < node_count y
  held_node_below k (the_head q) = rw q f.head
  held_node_below k (as_t j r q) = let h = (run_of y f j r).t.within in omega arith
  held_node_below k (as_s j r q) = let h = (run_of y f j r).s.within in omega arith
  held_node_below k (as_new j r q) = let h = (run_of y f j r).new_node.within in omega arith
  held_node_below k (before n g q) = let h = (f.node n (held_node_below n g)).pred_ok.within in omega arith

  pub links : (k : ℕ) → k < node_count y → pred y.nodes k ≤ node_count y
  links k h = (f.node k h).pred_ok.within
