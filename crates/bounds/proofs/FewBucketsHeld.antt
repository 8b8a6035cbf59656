-- Few buckets are held: at most 32 of each held node, and b, m, n and the new bucket of each running task. At line 49 the m of the
-- task that wants a bucket is in one of its s's places, and counted there. So with every bucket held there are fewer than
-- 32 × (2T + 2) + 4T. With FewNodesHeld this rules out refusal 7. Assumes nothing.
use Rattle.std.specs.Prelude.{◌≡◌, refl, ◌⊎◌, List, [], ◌∷◌, ◌++◌, ℕ, ◌+◌, ◌*◌, ◌%◌, ◌≤◌, ◌<◌, eqb, length, drop, if◌then◌else◌}
use Rattle.std.proofs.Common.{sym, ◌∙◌, inl, inr, eq-eqb, ne_eqb, length-append, length-take, get_or-drop}
use Rattle.std.proofs.Math.Bool.{true}
use Rattle.std.proofs.Math.Decide.{ℕ_discrete}
use native.Mathlib.Omega.{arith}
use Rattle.spec.specs.declared.Task.{Task}
use Rattle.spec.specs.Lists.{member, concat_map}
use Rattle.spec.specs.Machine.{Machine, task_of}
use Rattle.spec.specs.Sound.{node_count, bucket_count}
use Rattle.spec.specs.Words.{link, number, place, places}
use Rattle.spec.specs.StepRefusals.{all_held}
use Rattle.laws.specs.Tests.{tf, or_l, or_r}
use Rattle.laws.specs.Lists.{member_here, member_there, member_append}
use Rattle.laws.specs.JoinedLists.{from_join, has_take}
use Rattle.laws.specs.SoundFacts.{SoundFacts}
use Rattle.laws.specs.Soundness.{sound_facts, run_of}
use Rattle.laws.specs.Held.{HeldNode, as_s, HeldBucket, placed, as_b, as_m, as_n}
use Rattle.laws.specs.Taking.{AllHeld, all_nodes, all_buckets}
use Rattle.laws.proofs.Taking.{all_held_means}
use Rattle.model.specs.Heap.{Heap}
use Rattle.model.specs.HeapInvariant.{HeapInvariant, place<}
use Rattle.model.specs.Positions.{Fill, at_39, at_40, at_43, at_44, at_46, at_47, at_48, at_52, at_49, at_50, at_51, at_12, at_13, at_15, at_16}
use Rattle.model.specs.Positions.{at_17, at_18, Update, at_32, at_33, at_36, Resize, at_20, at_24, at_27, at_28, Position, no_call, lookup, update}
use Rattle.model.specs.Positions.{resize}
use Rattle.model.specs.Filling.{InNode, FillFacts}
use Rattle.model.specs.PositionFacts.{PositionFacts}
use Rattle.model.specs.Runs.{Configuration, Reachable}
use Rattle.model.proofs.Linearization.{invariant}
use Rattle.linear.specs.Represents.{size_bound, place_word_filled}
use Rattle.linear.specs.KnownNodes.{FillNames, Names, Known, named}
use Rattle.linear.specs.Matches.{Matches, FillMatches, FromOne, FromTwo, update_call, resize_call}
use Rattle.linear.specs.Simulates.{Simulates}
use Rattle.bounds.specs.EnoughRecords.{enough_nodes, enough_buckets}
use Rattle.bounds.specs.HeldChains.{ShortChains}
use Rattle.bounds.specs.FewNodesHeld.{of_tasks, of_tasks_length, of_tasks_has, node_list, node_list_length, node_listed, covers_with_0}
use Rattle.bounds.proofs.FewNodesHeld.{nodes_below}

joined_length : (g : ℕ → List ℕ) (m : ℕ) → ((l : ℕ) → length (g l) ≤ m) → (ls : List ℕ) → length (concat_map g ls) ≤ m * length ls
unfolding concat_map
joined_length g m f [] = omega arith
joined_length g m f (l ∷ ls) =
    let a = length-append (g l) (concat_map g ls) in let b = f l in let c = joined_length g m f ls in omega arith

places_length : (w : List ℕ) (k : ℕ) → length (places w k) ≤ 32
unfolding places
places_length w k = simp length-take (omega arith)

in_places : (w : List ℕ) (n k i : ℕ) → i < 32 → place w n i ≡ link k → member (link k) (places w n) ≡ true
unfolding places place
in_places w n k i lt e = has_take (link k) 32 (drop (34 * n + 2) w) i (λ q. omega arith) lt (get_or-drop (34 * n + 2) w i 0 ∙ e)

-- ---- buckets: those that the nodes place, and b, m, n and the new bucket of each task; of task p, m is among those placed
task_buckets : Machine → ℕ → ℕ → List ℕ
task_buckets y p j = (task_of y j).b ∷ (if eqb j p then 0 else (task_of y j).m) ∷ (task_of y j).n ∷ (task_of y j).new_bucket ∷ []

bucket_list : Machine → ℕ → List ℕ
bucket_list y p = concat_map (λ l. places y.nodes (number l)) (node_list y) ++ of_tasks (task_buckets y p) y.state.config.tasks

bucket_list_length : (y : Machine) (p : ℕ) → length (bucket_list y p) ≤ enough_buckets y.state.config.tasks
unfolding bucket_list task_buckets
bucket_list_length y p =
    let a =
    length-append (concat_map (λ l. places y.nodes (number l)) (node_list y)) (of_tasks (task_buckets y p) y.state.config.tasks) in
    let b = joined_length (λ l. places y.nodes (number l)) 32 (λ l. places_length y.nodes (number l)) (node_list y) in
    let c = of_tasks_length (task_buckets y p) 4 (λ j. refl) y.state.config.tasks in
    let d = node_list_length y in
    omega arith

pub record InHeldPlace (y : Machine) (k : ℕ) : Type 0 where
  pub node : ℕ
  pub index : ℕ
  pub held : HeldNode y node
  pub low : index < 32
  pub is : place y.nodes node index ≡ link k

module _ (y : Machine) (f : SoundFacts y) (chains : ShortChains y) (p : ℕ) (r : (task_of y p).running ≡ true)
    (m-placed-there : (k : ℕ) → (task_of y p).m ≡ link k → InHeldPlace y k) where
  lists_placed : (k : ℕ) → InHeldPlace y k → member (link k) (bucket_list y p) ≡ true
  unfolding bucket_list
  lists_placed k q =
      let n = q.node in
      let e : number (link n) ≡ n = omega arith in
      rw
      (member_append (link k) (concat_map (λ l. places y.nodes (number l)) (node_list y))
      (of_tasks (task_buckets y p) y.state.config.tasks))
      (or_l _ _ (from_join (λ l. places y.nodes (number l)) (link k) (link n) (node_list y) (node_listed y f chains q.held)
      (rw e (in_places y.nodes n k q.index q.low q.is))))

  lists_task : (j : ℕ) → (task_of y j).running ≡ true → (k : ℕ) → member k (task_buckets y p j) ≡ true
      → member k (bucket_list y p) ≡ true
  unfolding bucket_list
  lists_task j a k e =
      rw
      (member_append k (concat_map (λ l. places y.nodes (number l)) (node_list y)) (of_tasks (task_buckets y p) y.state.config.tasks))
      (or_r (member k (concat_map (λ l. places y.nodes (number l)) (node_list y))) _
      (of_tasks_has (task_buckets y p) k j y.state.config.tasks (run_of y f j a).below_T e))

  lists_m : (j k : ℕ) → ¬ (j ≡ p) → (task_of y j).m ≡ link k → member (link k) (task_buckets y p j) ≡ true
  unfolding task_buckets
  lists_m j k d e = rw (ne_eqb j p d) (member_there (link k) (task_of y j).b _ (member_here (link k) (task_of y j).m _ (sym e)))

  lists_0 : member 0 (task_buckets y p p) ≡ true
  unfolding task_buckets
  lists_0 = rw (eq-eqb p p refl) (member_there 0 (task_of y p).b _ (member_here 0 0 _ refl))

  bucket_listed : (k : ℕ) → HeldBucket y k → member (link k) (bucket_list y p) ≡ true
  unfolding task_buckets
  bucket_listed k (placed n i g lt e) = lists_placed k (record { node = n; index = i; held = g; low = lt; is = e })
  bucket_listed k (as_b j a e) = lists_task j a (link k) (member_here (link k) (task_of y j).b _ (sym e))
  bucket_listed k (as_m j a e) = go (ℕ_discrete j p)
    where
      go : Dec (j ≡ p) → member (link k) (bucket_list y p) ≡ true
      go (yes q) = lists_placed k (m-placed-there k (rw q at e))
      go (no d) = lists_task j a (link k) (lists_m j k d e)
  bucket_listed k (as_n j a e) =
      lists_task j a (link k)
      (member_there (link k) (task_of y j).b _ (member_there (link k) _ _ (member_here (link k) (task_of y j).n _ (sym e))))
  bucket_listed k (HeldBucket.as_new j a e) =
      lists_task j a (link k)
      (member_there (link k) (task_of y j).b _ (member_there (link k) _ _ (member_there (link k) (task_of y j).n _
      (member_here (link k) (task_of y j).new_bucket _ (sym e)))))

  pub buckets_below : ((k : ℕ) → k < bucket_count y → HeldBucket y k) → bucket_count y < enough_buckets y.state.config.tasks
  buckets_below all =
      let a =
      covers_with_0 y f chains (bucket_count y) (bucket_list y p) (lists_task p r 0 lists_0) (λ k lt. bucket_listed k (all k lt)) in
      let b = bucket_list_length y p in
      omega arith

-- ---- at line 49 a task's m is in a place of its s
module _ (y : Machine) (f : SoundFacts y) (w : Configuration) (reach : Reachable w)
    (sim : Simulates y w.heap w.position) (p : ℕ) (r : (task_of y p).running ≡ true) (e : (task_of y p).line ≡ 49) where
  abbrev h : Heap
  h = w.heap

  abbrev c : Task
  c = task_of y p

  inv : HeapInvariant w.heap
  inv = (invariant reach).1.heap

  placed_at : (s i k : ℕ) → Known w.heap w.position s → s < h.head → i < h.size s → c.s ≡ link (sim.records.node s)
      → c.m ≡ link (sim.records.bucket s i) → c.m ≡ link k → InHeldPlace y k
  placed_at s i k ks lt i< es em ek =
      let sz = size_bound f sim.rep s ks in
      record {
        node = sim.records.node s;
        index = i;
        held = as_s p r es;
        low = omega arith;
        is = sim.rep.place≡ s i ks i< ∙ place_word_filled (sim.records.bucket s i) (inv.past_filled s i lt i<) ∙ sym em ∙ ek;
      }

  fill_m_placed : (call tag t i : ℕ) (l : Fill) → FillMatches w.heap sim.records call tag t i l c → InNode w.heap t i
      → FillFacts w.heap t i l
      → ((x : ℕ) → FillNames t l x → Known w.heap w.position x) → (k : ℕ) → c.m ≡ link k → InHeldPlace y k
  fill_m_placed call tag t i at_39 m inside o names k ek = let q = m.call_fields.line≡ in absurd (omega arith)
  fill_m_placed call tag t i (at_40 b) m inside o names k ek = let q = m.call_fields.line≡ in absurd (omega arith)
  fill_m_placed call tag t i (at_43 s) m inside o names k ek = let q = m.call_fields.line≡ in absurd (omega arith)
  fill_m_placed call tag t i (at_44 s) m inside o names k ek = let q = m.call_fields.line≡ in absurd (omega arith)
  fill_m_placed call tag t i (at_46 s) m inside o names k ek = let q = m.call_fields.line≡ in absurd (omega arith)
  fill_m_placed call tag t i (at_47 s) m inside o names k ek = let q = m.call_fields.line≡ in absurd (omega arith)
  fill_m_placed call tag t i (at_48 s) m inside o names k ek = let q = m.call_fields.line≡ in absurd (omega arith)
  fill_m_placed call tag t i (at_52 s) m inside o names k ek = let q = m.call_fields.line≡ in absurd (omega arith)
  fill_m_placed call tag t i (at_49 s) m inside o names k ek = go m.fields.1
    where
      go : FromOne w.heap sim.records s t i c ⊎ FromTwo w.heap sim.records s t i c → InHeldPlace y k
      go (inl u) =
          let q = o.0 in
          let a = inside.0 in
          placed_at s (i % h.size s) k (names s (inr refl)) (omega arith) (place< w.heap inv s i (omega arith)) m.fields.0
          u.1 ek
      go (inr u) =
          let q = o.0 in
          let a = inside.0 in
          let b = inside.1 in
          let d = u.0 in
          placed_at s i k (names s (inr refl)) (omega arith) (omega arith) m.fields.0 u.1 ek
  fill_m_placed call tag t i (at_50 s) m inside o names k ek = let q = m.call_fields.line≡ in absurd (omega arith)
  fill_m_placed call tag t i at_51 m inside o names k ek = let q = m.call_fields.line≡ in absurd (omega arith)

  pub m_placed : (k : ℕ) → c.m ≡ link k → InHeldPlace y k
  m_placed = go (w.position p) (sim.matches p) ((invariant reach).1.task p) (λ x n. named p n)
    where
      go : (l : Position) → Matches w.heap sim.records l c → PositionFacts w.heap (invariant reach).0 (w.start p) l
          → ((x : ℕ) → Names l x → Known w.heap w.position x) → (k : ℕ) → c.m ≡ link k → InHeldPlace y k
      go no_call m o names k ek = absurd (tf r m)
      go (lookup j at_12) m o names k ek = let q = m.line≡ in absurd (omega arith)
      go (lookup j (at_13 t)) m o names k ek = let q = m.0.line≡ in absurd (omega arith)
      go (lookup j (at_15 t)) m o names k ek = let q = m.0.line≡ in absurd (omega arith)
      go (lookup j (at_16 t)) m o names k ek = let q = m.0.line≡ in absurd (omega arith)
      go (lookup j (at_17 t)) m o names k ek = let q = m.0.line≡ in absurd (omega arith)
      go (lookup j (at_18 t)) m o names k ek = let q = m.0.line≡ in absurd (omega arith)
      go (update b j at_32) m o names k ek = let q = m.0.line≡ in absurd (omega arith)
      go (update b j (at_33 t)) m o names k ek = let q = m.0.line≡ in absurd (omega arith)
      go (update b j (at_36 t)) m o names k ek = let q = m.0.line≡ in absurd (omega arith)
      go (update b j (Update.filling t i l)) m o names k ek = fill_m_placed (update_call b) j t i l m o.0 o.2 names k ek
      go (resize b at_20) m o names k ek = let q = m.0.line≡ in absurd (omega arith)
      go (resize b (at_24 t)) m o names k ek = let q = m.0.line≡ in absurd (omega arith)
      go (resize b (at_27 t)) m o names k ek = let q = m.0.line≡ in absurd (omega arith)
      go (resize b (at_28 t n)) m o names k ek = let q = m.0.line≡ in absurd (omega arith)
      go (resize b (Resize.filling t i l)) m o names k ek = fill_m_placed (resize_call b) 0 t i l m.0 o.0 o.2 names k ek

-- ---- so a record is free where one is taken
pub never_all_held : (y : Machine) → ShortChains y → (w : Configuration) → Reachable w → Simulates y w.heap w.position
    → enough_nodes y.state.config.tasks ≤ node_count y → enough_buckets y.state.config.tasks ≤ bucket_count y
    → (p : ℕ) → (task_of y p).running ≡ true → all_held y (task_of y p) ≡ true → ⊥
never_all_held y chains w reach sim hn hb p r x = go (all_held_means y f (task_of y p) x)
  where
    f : SoundFacts y
    f = sound_facts y sim.sound_now

    go : AllHeld y (task_of y p) → ⊥
    go (all_nodes e all) = let q = nodes_below y f chains p r e all in omega arith
    go (all_buckets e all) = let q = buckets_below y f chains p r (m_placed y f w reach sim p r e) all in omega arith
