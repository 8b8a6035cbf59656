-- What rests on statements of specs/Held.antt that a must-fail edit makes false: theorems moved from there as they stood. Assumes nothing.
use Prim.Native.Nat.{ℕ, ◌+◌, ◌*◌, ◌≤◌, ◌<◌}
use Rattle.std.specs.Prelude.{◌≡◌, ◌↔◌, ◌⊎◌, Bool, get_or, drop, if◌then◌else◌}
use Rattle.std.proofs.Math.Path.{refl, sym, ap}
use Rattle.std.proofs.Common.{◌∙◌, get_or-drop}
use Rattle.std.proofs.Math.Logic.{inl, inr}
use Rattle.std.proofs.Math.Bool.{true, false}
use mathlib.Core.List.{[], ◌∷◌}
use native.Mathlib.Omega.{arith}
use Rattle.spec.specs.declared.Task.{Task}
use Rattle.spec.specs.Lists.{member, concat_map}
use Rattle.spec.specs.Machine.{Machine, idle, task_of}
use Rattle.spec.specs.Words.{link, number, place, places}
use Rattle.spec.specs.Sound.{node_count}
use Rattle.spec.specs.Held.{chain, task_nodes, held_nodes, task_buckets, held_buckets}
use Rattle.laws.specs.Tests.{or_e, or_l, or_r, if_true}
use Rattle.laws.specs.Lists.{member_cons, member_here, member_there, member_append, no_member}
use Rattle.laws.specs.SoundFacts.{SoundFacts}
use Rattle.laws.specs.JoinedLists.{join_at, at_join, join_from, take_has, has_take, from_join}
use Rattle.laws.specs.Chains.{link?, none, chain_first, chain_closed, some}
use Rattle.laws.specs.Held.{HeldBucket, HeldNode, chain_held, held_filled, held_node_below, links, sources, as_b, as_m, as_n, as_s, as_t}
use Rattle.laws.specs.Held.{before, placed, the_head}

-- ---- what a task names

pub data OneOf3 (x a b c : ℕ) : Type 0 where
  one : x ≡ a → OneOf3 x a b c
  two : x ≡ b → OneOf3 x a b c
  three : x ≡ c → OneOf3 x a b c

pub data OneOf4 (x a b c d : ℕ) : Type 0 where
  one : x ≡ a → OneOf4 x a b c d
  two : x ≡ b → OneOf4 x a b c d
  three : x ≡ c → OneOf4 x a b c d
  four : x ≡ d → OneOf4 x a b c d

list_3 : (x a b c : ℕ) → member x (a ∷ b ∷ c ∷ []) ≡ true → OneOf3 x a b c
list_3 x a b c e = elim (member_cons x a (b ∷ c ∷ []) e) [
  | inl p ↦ one p
  | inr p ↦ (elim (member_cons x b (c ∷ []) p) [ inl q ↦ two q | inr q ↦ (elim (member_cons x c [] q) [ inl r ↦ three r | inr r ↦ absurd (no_member x r) ]) ])
]

list_4 : (x a b c d : ℕ) → member x (a ∷ b ∷ c ∷ d ∷ []) ≡ true → OneOf4 x a b c d
list_4 x a b c d e = elim (member_cons x a (b ∷ c ∷ d ∷ []) e) [
  | inl p ↦ one p
  | inr p ↦ (elim (list_3 x b c d p) [ one q ↦ two q | two q ↦ three q | three q ↦ four q ])
]

in_3 : (x a b c : ℕ) → OneOf3 x a b c → member x (a ∷ b ∷ c ∷ []) ≡ true
in_3 x a b c (one p) = member_here x a _ p
in_3 x a b c (two p) = member_there x a _ (member_here x b _ p)
in_3 x a b c (three p) = member_there x a _ (member_there x b _ (member_here x c _ p))

in_4 : (x a b c d : ℕ) → OneOf4 x a b c d → member x (a ∷ b ∷ c ∷ d ∷ []) ≡ true
in_4 x a b c d (one p) = member_here x a _ p
in_4 x a b c d (two p) = member_there x a _ (in_3 x b c d (one p))
in_4 x a b c d (three p) = member_there x a _ (in_3 x b c d (two p))
in_4 x a b c d (four p) = member_there x a _ (in_3 x b c d (three p))

abbrev NodeNamed : Task → ℕ → Type 0
NodeNamed c x = (c.running ≡ true) × OneOf3 x c.t c.s c.new_node

abbrev BucketNamed : Task → ℕ → Type 0
BucketNamed c x = (c.running ≡ true) × OneOf4 x c.b c.m c.n c.new_bucket

module _ (c : Task) (x : ℕ) where
  of_nodes : member x (task_nodes c) ≡ true → NodeNamed c x
  unfolding task_nodes
  of_nodes e = go c.running refl e
    where
      go : (b : Bool) → c.running ≡ b → member x (if b then (c.t ∷ c.s ∷ c.new_node ∷ []) else []) ≡ true → NodeNamed c x
      go true r h = (r, list_3 x _ _ _ h)
      go false r h = absurd (no_member x h)

  in_nodes : NodeNamed c x → member x (task_nodes c) ≡ true
  unfolding task_nodes
  in_nodes p = ap (member x) (if_true c.running (c.t ∷ c.s ∷ c.new_node ∷ []) [] p.0) ∙ in_3 x _ _ _ p.1

  of_buckets : member x (task_buckets c) ≡ true → BucketNamed c x
  unfolding task_buckets
  of_buckets e = go c.running refl e
    where
      go : (b : Bool) → c.running ≡ b → member x (if b then (c.b ∷ c.m ∷ c.n ∷ c.new_bucket ∷ []) else []) ≡ true → BucketNamed c x
      go true r h = (r, list_4 x _ _ _ _ h)
      go false r h = absurd (no_member x h)

  in_buckets : BucketNamed c x → member x (task_buckets c) ≡ true
  unfolding task_buckets
  in_buckets p = ap (member x) (if_true c.running (c.b ∷ c.m ∷ c.n ∷ c.new_bucket ∷ []) [] p.0) ∙ in_4 x _ _ _ _ p.1

idle_nodes : (x : ℕ) → member x (task_nodes idle) ≡ false
unfolding task_nodes idle member
idle_nodes x = refl

idle_buckets : (x : ℕ) → member x (task_buckets idle) ≡ false
unfolding task_buckets idle member
idle_buckets x = refl

module _ (y : Machine) where
  source_held : (l : ℕ) → member l (sources y) ≡ true → (k : ℕ) → l ≡ link k → HeldNode y k
  unfolding task_of
  source_held l e k q = elim (member_cons l (link y.state.head) (concat_map task_nodes y.state.task) e) [
    | inl p ↦ the_head {k = k} (omega arith)
    | inr p ↦ (let j = join_at task_nodes idle l y.state.task p in go j.0 (of_nodes (get_or y.state.task j.0 idle) l j.1))
  ]
    where
      go : (j : ℕ) → NodeNamed (get_or y.state.task j idle) l → HeldNode y k
      go j (r, one p) = as_t j r (sym p ∙ q)
      go j (r, two p) = as_s j r (sym p ∙ q)
      go j (r, three p) = HeldNode.as_new j r (sym p ∙ q)

  task_source : (j x : ℕ) → NodeNamed (task_of y j) x → member x (sources y) ≡ true
  unfolding task_of
  task_source j x p =
      member_there x (link y.state.head) _ (at_join task_nodes idle x y.state.task (idle_nodes x) j (in_nodes (get_or y.state.task j idle) x p))

  pub member_held : (k : ℕ) → member (link k) (held_nodes y) ≡ true → HeldNode y k
  unfolding held_nodes
  member_held k e =
      let p = join_from (chain y.nodes (node_count y)) (link k) (sources y) e in
      chain_held y (node_count y) p.0 (source_held p.0 p.1) k p.2

  placed_in : (n k : ℕ) → member (link k) (places y.nodes n) ≡ true → (i : ℕ) × (i < 32) × (place y.nodes n i ≡ link k)
  unfolding places place
  placed_in n k e =
      let p = take_has (link k) 32 (drop (34 * n + 2) y.nodes) e in
      (p.0, p.1, sym (get_or-drop (34 * n + 2) y.nodes p.0 0) ∙ p.2)

  in_placed : (n k i : ℕ) → i < 32 → place y.nodes n i ≡ link k → member (link k) (places y.nodes n) ≡ true
  unfolding places place
  in_placed n k i h e = has_take (link k) 32 (drop (34 * n + 2) y.nodes) i (omega arith) h (get_or-drop (34 * n + 2) y.nodes i 0 ∙ e)

  pub member_held_bucket : (k : ℕ) → member (link k) (held_buckets y) ≡ true → HeldBucket y k
  unfolding held_buckets task_of
  member_held_bucket k e =
      go (or_e _ _ (rw (member_append (link k) (concat_map (λ l. places y.nodes (number l)) (held_nodes y)) (concat_map task_buckets y.state.task))
      at e))
    where
      task : (j : ℕ) → BucketNamed (get_or y.state.task j idle) (link k) → HeldBucket y k
      task j (r, one p) = as_b j r (sym p)
      task j (r, two p) = as_m j r (sym p)
      task j (r, three p) = as_n j r (sym p)
      task j (r, four p) = HeldBucket.as_new j r (sym p)

      go : (member (link k) (concat_map (λ l. places y.nodes (number l)) (held_nodes y)) ≡ true) ⊎
          (member (link k) (concat_map task_buckets y.state.task) ≡ true)
          → HeldBucket y k
      go (inl p) =
          let q = join_from (λ l. places y.nodes (number l)) (link k) (held_nodes y) p in
          let d = held_filled y q.0 q.1 in
          let e : q.0 ≡ link (number q.0) = omega arith in
          let h = member_held (number q.0) (rw e at q.1) in
          let i = placed_in (number q.0) k q.2 in
          placed (number q.0) i.0 h i.1 i.2
      go (inr p) = let j = join_at task_buckets idle (link k) y.state.task p in task j.0 (of_buckets (get_or y.state.task j.0 idle) (link k) j.1)

module _ (y : Machine) (f : SoundFacts y) where
  source_within : (l : ℕ) → member l (sources y) ≡ true → l ≤ node_count y
  source_within l e = elim (link? l) [ none q ↦ omega arith | some m q ↦ (let h = held_node_below y f m (source_held y l e m q) in omega arith) ]

  from_source : (l k : ℕ) → member l (sources y) ≡ true → l ≡ link k → member (link k) (held_nodes y) ≡ true
  unfolding held_nodes
  from_source l k e q =
      from_join (chain y.nodes (node_count y)) (link k) l (sources y) e (rw (← q) (chain_first y.nodes (node_count y) (links y f) l f.H_low (omega arith)))

  pub held_member : (k : ℕ) → HeldNode y k → member (link k) (held_nodes y) ≡ true
  unfolding held_nodes
  held_member k (the_head q) = from_source (link y.state.head) k (member_here _ _ _ refl) (omega arith)
  held_member k (as_t j r q) = from_source (task_of y j).t k (task_source y j (task_of y j).t (r, one refl)) q
  held_member k (as_s j r q) = from_source (task_of y j).s k (task_source y j (task_of y j).s (r, two refl)) q
  held_member k (HeldNode.as_new j r q) = from_source (task_of y j).new_node k (task_source y j (task_of y j).new_node (r, three refl)) q
  held_member k (before n g q) =
      let p = join_from (chain y.nodes (node_count y)) (link n) (sources y) (held_member n g) in
      from_join (chain y.nodes (node_count y)) (link k) p.0 (sources y) p.1
      (chain_closed y.nodes (node_count y) (links y f) p.0 (source_within p.0 p.1) n k p.2 q)

  from_task : (j k : ℕ) → BucketNamed (task_of y j) (link k) → member (link k) (held_buckets y) ≡ true
  unfolding held_buckets task_of
  from_task j k p =
      rw (member_append (link k) (concat_map (λ l. places y.nodes (number l)) (held_nodes y)) (concat_map task_buckets y.state.task))
      (or_r (member (link k) (concat_map (λ l. places y.nodes (number l)) (held_nodes y))) _
      (at_join task_buckets idle (link k) y.state.task (idle_buckets (link k)) j (in_buckets (get_or y.state.task j idle) (link k) p)))

  pub held_bucket_member : (k : ℕ) → HeldBucket y k → member (link k) (held_buckets y) ≡ true
  unfolding held_buckets
  held_bucket_member k (placed n i g h q) =
      let e : number (link n) ≡ n = omega arith in
      rw (member_append (link k) (concat_map (λ l. places y.nodes (number l)) (held_nodes y)) (concat_map task_buckets y.state.task))
      (or_l _ _ (from_join (λ l. places y.nodes (number l)) (link k) (link n) (held_nodes y) (held_member n g) (rw e (in_placed y n k i h q))))
  held_bucket_member k (as_b j r q) = from_task j k (r, one (sym q))
  held_bucket_member k (as_m j r q) = from_task j k (r, two (sym q))
  held_bucket_member k (as_n j r q) = from_task j k (r, three (sym q))
  held_bucket_member k (HeldBucket.as_new j r q) = from_task j k (r, four (sym q))

  -- ---- so the two say the same

  pub held_node_iff : (k : ℕ) → (member (link k) (held_nodes y) ≡ true) ↔ HeldNode y k
  held_node_iff k = (member_held y k, held_member k)

  pub held_bucket_iff : (k : ℕ) → (member (link k) (held_buckets y) ≡ true) ↔ HeldBucket y k
  held_bucket_iff k = (member_held_bucket y k, held_bucket_member k)
