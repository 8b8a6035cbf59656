-- Few nodes are held: the head, its predecessor, and two of each running task, its t and its new node or else its s. At line 27 the
-- task that wants a node has only its t. So with every node held there are fewer than 2T + 2. Assumes nothing.
use Rattle.std.specs.Prelude.{◌≡◌, refl, ◌⊎◌, Bool, false, ◌||◌, ℕ, zero, suc, ◌*◌, ◌-◌, ◌≤◌, ◌<◌, eqb, length, if◌then◌else◌}
use Rattle.std.proofs.Common.{sym, ap, ◌∙◌, inl, inr, arith, eq-eqb, ne_eqb, length-append}
use Rattle.std.proofs.Math.Bool.{true}
use mathlib.Core.List.{List, [], ◌∷◌, ◌++◌}
use Rattle.std.proofs.Math.Decide.{ℕ_discrete}
use Rattle.spec.specs.declared.Task.{Task}
use Rattle.spec.specs.Lists.{member, remove_tag}
use Rattle.spec.specs.Machine.{Machine, task_of}
use Rattle.spec.specs.Words.{link, filled, pred}
use Rattle.laws.specs.Tests.{tf, or_l, or_r}
use Rattle.laws.specs.Lists.{member_cons, member_here, member_there, member_append}
use Rattle.laws.specs.Links.{true_filled}
use Rattle.laws.specs.SoundFacts.{SoundFacts}
use Rattle.laws.specs.Soundness.{run_of}
use Rattle.laws.specs.Held.{HeldNode, the_head, as_t, as_s, before}
use Rattle.bounds.specs.EnoughRecords.{enough_nodes}
use Rattle.bounds.specs.HeldChains.{ShortChains, is_27, is_28}

-- ---- a list that has n numbers among its elements is at least n long

removed_length : (k : ℕ) (l : List ℕ) → member k l ≡ true → suc (length (remove_tag k l)) ≡ length l
unfolding member remove_tag
removed_length k [] e = absurd (tf e refl)
removed_length k (x ∷ l) e = go (eqb k x) e (removed_length k l)
  where
    go : (b : Bool) → (b || member k l) ≡ true → (member k l ≡ true → suc (length (remove_tag k l)) ≡ length l)
        → suc (length (if b then l else (x ∷ remove_tag k l))) ≡ suc (length l)
    go true e ih = refl
    go false e ih = ap suc (ih e)

removed_other : (k j : ℕ) (l : List ℕ) → ¬ (j ≡ k) → member j l ≡ true → member j (remove_tag k l) ≡ true
unfolding member remove_tag
removed_other k j [] d e = absurd (tf e refl)
removed_other k j (x ∷ l) d e = go (ℕ_discrete k x) (member_cons j x l e) (removed_other k j l d)
  where
    go : Dec (k ≡ x) → (j ≡ x) ⊎ (member j l ≡ true) → (member j l ≡ true → member j (remove_tag k l) ≡ true)
        → member j (if eqb k x then l else (x ∷ remove_tag k l)) ≡ true
    go (yes q) (inl u) ih = absurd (d (u ∙ sym q))
    go (yes q) (inr u) ih = rw (eq-eqb k x q) u
    go (no q) (inl u) ih = rw (ne_eqb k x q) (member_here j x (remove_tag k l) u)
    go (no q) (inr u) ih = rw (ne_eqb k x q) (member_there j x (remove_tag k l) (ih u))

pub covers : (n : ℕ) (l : List ℕ) → ((k : ℕ) → k < n → member k l ≡ true) → n ≤ length l
covers zero l f = omega arith
covers (suc n) l f =
    let e = removed_length n l (f n (omega arith)) in
    let ih = covers n (remove_tag n l) (λ k lt. removed_other n k l (λ q. omega arith) (f k (omega arith))) in
    omega arith

-- ---- the lists of what is held

-- what tasks 0 to n - 1 give, one after the other
pub of_tasks : (ℕ → List ℕ) → ℕ → List ℕ
of_tasks g zero = []
of_tasks g (suc n) = g n ++ of_tasks g n

pub of_tasks_length : (g : ℕ → List ℕ) (m : ℕ) → ((j : ℕ) → length (g j) ≡ m) → (n : ℕ) → length (of_tasks g n) ≡ n * m
unfolding of_tasks
of_tasks_length g m f zero = omega arith
of_tasks_length g m f (suc n) =
    let a = length-append (g n) (of_tasks g n) in let b = f n in let c = of_tasks_length g m f n in omega arith

pub of_tasks_has : (g : ℕ → List ℕ) (k j n : ℕ) → j < n → member k (g j) ≡ true → member k (of_tasks g n) ≡ true
unfolding of_tasks
of_tasks_has g k j zero lt e = absurd (omega arith)
of_tasks_has g k j (suc n) lt e = rw (member_append k (g n) (of_tasks g n)) (go (ℕ_discrete j n) (of_tasks_has g k j n))
  where
    go : Dec (j ≡ n) → (j < n → member k (g j) ≡ true → member k (of_tasks g n) ≡ true)
        → (member k (g n) || member k (of_tasks g n)) ≡ true
    go (yes q) ih = or_l (member k (g n)) (member k (of_tasks g n)) (rw q at e)
    go (no d) ih = or_r (member k (g n)) (member k (of_tasks g n)) (ih (omega arith) e)

-- a task's two nodes: t, and the new node or else s
task_nodes : Task → List ℕ
task_nodes c = c.t ∷ (if filled c.new_node then c.new_node else c.s) ∷ []

pub node_list : Machine → List ℕ
node_list y =
    link y.state.head ∷ pred y.nodes y.state.head ∷ of_tasks (λ j. task_nodes (task_of y j)) y.state.config.tasks

pub node_list_length : (y : Machine) → length (node_list y) ≡ enough_nodes y.state.config.tasks
unfolding node_list task_nodes
node_list_length y = let a = of_tasks_length (λ j. task_nodes (task_of y j)) 2 (λ j. refl) y.state.config.tasks in omega arith

module _ (y : Machine) (f : SoundFacts y) (chains : ShortChains y) where
  task_listed : (j : ℕ) → (task_of y j).running ≡ true → (k : ℕ) → member k (task_nodes (task_of y j)) ≡ true
      → member k (node_list y) ≡ true
  unfolding node_list
  task_listed j r k e =
      member_there k _ _
      (member_there k _ _ (of_tasks_has (λ j. task_nodes (task_of y j)) k j y.state.config.tasks (run_of y f j r).below_T e))

  -- a held node is the head, or has no predecessor, or has a running task's t for its predecessor
  pub data ChainEnd (n : ℕ) : Type 0 where
    ends_at_head : n ≡ y.state.head → ChainEnd n
    ends_here : pred y.nodes n ≡ 0 → ChainEnd n
    ends_at_t : (j : ℕ) → (task_of y j).running ≡ true → pred y.nodes n ≡ (task_of y j).t → ChainEnd n

  chain_end : {n : ℕ} → (n ≡ y.state.head) ⊎ (pred y.nodes n ≡ 0) → ChainEnd n
  chain_end (inl e) = ends_at_head e
  chain_end (inr e) = ends_here e

  held_chain : {n : ℕ} → HeldNode y n → ChainEnd n
  held_chain (the_head e) = ends_at_head e
  held_chain {n} (as_t j r e) = chain_end ((chains.each j r).t_ok n e)
  held_chain {n} (as_s j r e) = chain_end ((chains.each j r).s_ok n e)
  held_chain {n} (HeldNode.as_new j r e) = elim ((chains.each j r).new_ok n e) [ inl x ↦ ends_at_t j r x | inr x ↦ ends_here x ]
  held_chain {n} (before a g e) = go (held_chain g)
    where
      go : ChainEnd a → ChainEnd n
      go (ends_at_head q) = ends_here (chains.head_chain n (rw (← q) e))
      go (ends_here q) = absurd (omega arith)
      go (ends_at_t j r q) = chain_end ((chains.each j r).t_ok n (sym q ∙ e))

  lists_s : (c : Task) (k : ℕ) → c.s ≡ link k → c.new_node ≡ 0 → member (link k) (task_nodes c) ≡ true
  unfolding task_nodes
  lists_s c k e z = rw z (member_there (link k) c.t (c.s ∷ []) (member_here (link k) c.s [] (sym e)))

  lists_new : (c : Task) (k : ℕ) → c.new_node ≡ link k → member (link k) (task_nodes c) ≡ true
  unfolding task_nodes
  lists_new c k e =
      rw (true_filled c.new_node (λ q. omega arith))
      (member_there (link k) c.t (c.new_node ∷ []) (member_here (link k) c.new_node [] (sym e)))

  lists_t : (c : Task) (k : ℕ) → c.t ≡ link k → member (link k) (task_nodes c) ≡ true
  unfolding task_nodes
  lists_t c k e = member_here (link k) c.t _ (sym e)

  lists_pred : (k : ℕ) → pred y.nodes y.state.head ≡ link k → member (link k) (node_list y) ≡ true
  unfolding node_list
  lists_pred k e = member_there (link k) _ _ (member_here (link k) _ _ (sym e))

  pub node_listed : {k : ℕ} → HeldNode y k → member (link k) (node_list y) ≡ true
  unfolding node_list
  node_listed {k} (the_head e) = member_here (link k) _ _ (ap link e)
  node_listed {k} (as_t j r e) = task_listed j r (link k) (lists_t (task_of y j) k e)
  node_listed {k} (as_s j r e) =
      task_listed j r (link k)
      (lists_s (task_of y j) k e ((chains.each j r).no_new (λ q. let z = (chains.each j r).no_s (is_28 q) in omega arith)))
  node_listed {k} (HeldNode.as_new j r e) = task_listed j r (link k) (lists_new (task_of y j) k e)
  node_listed {k} (before n g e) = go (held_chain g)
    where
      go : ChainEnd n → member (link k) (node_list y) ≡ true
      go (ends_at_head q) = lists_pred k (rw (← q) e)
      go (ends_here q) = absurd (omega arith)
      go (ends_at_t j r q) = task_listed j r (link k) (lists_t (task_of y j) k (sym q ∙ e))

  -- at line 27 a task has only its t: one of its two is none
  pub one_spare : (p : ℕ) → (task_of y p).running ≡ true → (task_of y p).line ≡ 27 → member 0 (node_list y) ≡ true
  unfolding task_nodes
  one_spare p r e =
      let n = (chains.each p r).no_new (λ q. omega arith) in
      let s = (chains.each p r).no_s (is_27 e) in
      task_listed p r 0
      (member_there 0 (task_of y p).t _ (member_here 0 _ _ (sym (ap (λ (v : ℕ). if filled v then v else (task_of y p).s) n ∙ s))))

  pub covers_with_0 : (n : ℕ) (l : List ℕ) → member 0 l ≡ true → ((k : ℕ) → k < n → member (link k) l ≡ true) → n < length l
  covers_with_0 n l z g = covers (suc n) l (λ k lt. go k lt (ℕ_discrete k 0))
    where
      go : (k : ℕ) → k < suc n → Dec (k ≡ 0) → member k l ≡ true
      go k lt (yes q) = rw q z
      go k lt (no d) = let e : link (k - 1) ≡ k = omega arith in rw e at (g (k - 1) (omega arith))
