-- What a sound yard says, record by record.
-- Assumes nothing.
use mathlib.Core.Path.{◌≡◌, sym, ◌∙◌}
use mathlib.Core.List.{List, [], ◌∷◌}
use mathlib.Core.Bool.{Bool, true, not, ◌&&◌, ◌||◌, false≢true}
use Prim.Native.Nat.{ℕ, zero, suc, ◌+◌, ◌-◌, ◌*◌, ◌<◌, ◌≤◌}
use native.Mathlib.Omega.{arith}
use borrow.Author.Tests.{leb-true, eq-eqb, ne_eqb}
use lib.Dec.{leb, ltb, eqb}
use lib.ListN.{length, get_or, take, drop, length-drop}
use lib.Seq.{drop-drop, get_or-drop, get_or-take, length-take-le}
use Rattle.laws.specs.Tests.{and_left, and_right}
use Rattle.spec.specs.Lists.{member, every}
use Rattle.spec.specs.Machine.{Machine}
use Rattle.spec.specs.Words.{number, filled, size, pred, place}
use Rattle.spec.specs.declared.Task.{Task}
use Rattle.spec.specs.Sound.{listed_size, zeros, lines_of, resizes, node_link, bucket_link, sound_node, sound_nodes, sound_bucket, sound_buckets}
use Rattle.spec.specs.Sound.{sound_running, sound_task, sound_tasks, sound_numbers, sound}
use Rattle.pool.proofs.Laws.{Numbers, numbers, listed_small, task_runs}

-- ---- the parts

module _ (y : Machine) (s : sound y ≡ true) where
  a : Bool
  a = sound_numbers y

  b : Bool
  b = sound_nodes y y.state.nodes y.nodes

  d : Bool
  d = sound_buckets y.state.buckets y.buckets

  e : Bool
  e = sound_tasks y 0 y.state.task

  all : (a && b && d && e) ≡ true
  unfolding sound a b d e
  all = s

  pub numbers_of : Numbers y
  unfolding a
  numbers_of = numbers y (and_left a b (and_left (a && b) d (and_left (a && b && d) e all)))

  pub nodes_of : sound_nodes y y.state.nodes y.nodes ≡ true
  unfolding b
  nodes_of = and_right a b (and_left (a && b) d (and_left (a && b && d) e all))

  pub buckets_of : sound_buckets y.state.buckets y.buckets ≡ true
  unfolding d
  buckets_of = and_right (a && b) d (and_left (a && b && d) e all)

  pub tasks_of : sound_tasks y 0 y.state.task ≡ true
  unfolding e
  tasks_of = and_right (a && b && d) e all

-- ---- one record of each

nth_bucket : (n : ℕ) (w : List ℕ) (k : ℕ) → sound_buckets n w ≡ true → k < n → sound_bucket (drop (66 * k) w) ≡ true
unfolding sound_buckets
nth_bucket zero w k s h = absurd (omega arith)
nth_bucket (suc n) w zero s h = and_left (sound_bucket w) (sound_buckets n (drop 66 w)) s
nth_bucket (suc n) w (suc k) s h =
    let q : 66 * suc k ≡ 66 + 66 * k = omega arith in
    let r : sound_bucket (drop (66 * k) (drop 66 w)) ≡ true =
    nth_bucket n (drop 66 w) k (and_right (sound_bucket w) (sound_buckets n (drop 66 w)) s) (omega arith) in
    rw (q, ← drop-drop (66 * k) 66 w) r

nth_node : (y : Machine) (n : ℕ) (w : List ℕ) (k : ℕ) → sound_nodes y n w ≡ true → k < n → sound_node y (drop (34 * k) w) ≡ true
unfolding sound_nodes
nth_node y zero w k s h = absurd (omega arith)
nth_node y (suc n) w zero s h = and_left (sound_node y w) (sound_nodes y n (drop 34 w)) s
nth_node y (suc n) w (suc k) s h =
    let q : 34 * suc k ≡ 34 + 34 * k = omega arith in
    let r : sound_node y (drop (34 * k) (drop 34 w)) ≡ true =
    nth_node y n (drop 34 w) k (and_right (sound_node y w) (sound_nodes y n (drop 34 w)) s) (omega arith) in
    rw (q, ← drop-drop (34 * k) 34 w) r

nth_task : (y : Machine) (j : ℕ) (ts : List Task) (k : ℕ) (x : Task) → sound_tasks y j ts ≡ true → k < length ts → sound_task y (j + k) (get_or ts k x) ≡ true
unfolding sound_tasks
nth_task y j [] k x s h = absurd (omega arith)
nth_task y j (c ∷ cs) zero x s h = let q : j + 0 ≡ j = omega arith in rw q (and_left (sound_task y j c) (sound_tasks y (suc j) cs) s)
nth_task y j (c ∷ cs) (suc k) x s h =
    let q : j + suc k ≡ suc j + k = omega arith in
    rw q (nth_task y (suc j) cs k x (and_right (sound_task y j c) (sound_tasks y (suc j) cs) s) (omega arith))

every_at : (f : ℕ → Bool) (xs : List ℕ) (i : ℕ) → every f xs ≡ true → i < length xs → f (get_or xs i 0) ≡ true
unfolding every
every_at f [] i s h = absurd (omega arith)
every_at f (x ∷ xs) zero s h = and_left (f x) (every f xs) s
every_at f (x ∷ xs) (suc i) s h = every_at f xs i (and_right (f x) (every f xs) s) (omega arith)

sized : (l z : ℕ) → (l ≡ 0 → ⊥) → z ≡ 0 → (not (filled l) || not (eqb z 0)) ≡ true → ⊥
sized l z n e p = false≢true (sym (rw (ne_eqb l 0 n, eq-eqb z 0 e)) ∙ p)

module _ (y : Machine) (s : sound y ≡ true) where
  pub bucket_fact : (k : ℕ) → k < y.state.buckets → sound_bucket (drop (66 * k) y.buckets) ≡ true
  bucket_fact k h = nth_bucket y.state.buckets y.buckets k (buckets_of y s) h

  -- a node's words
  pub record Node (k : ℕ) : Type 0 where
    pub small : size y.nodes k ≤ 32
    pub back : pred y.nodes k ≤ y.state.nodes
    pub back_sized : (pred y.nodes k ≡ 0 → ⊥) → size y.nodes (number (pred y.nodes k)) ≡ 0 → ⊥
    pub in_pool : (i : ℕ) → i < 32 → place y.nodes k i ≤ y.state.buckets

  pub node_fact : (k : ℕ) → k < y.state.nodes → Node k
  unfolding sound_node node_link bucket_link size pred place
  node_fact k h =
      let w : List ℕ = drop (34 * k) y.nodes in
      let z : ℕ = get_or w 0 0 in
      let A : Bool = eqb z 0 || listed_size z in
      let B : Bool = node_link y (get_or w 1 0) in
      let C : Bool = every (bucket_link y) (take 32 (drop 2 w)) in
      let D : Bool = zeros (32 - z) (drop (2 + z) w) in
      let g : (A && B && C && D) ≡ true = nth_node y y.state.nodes y.nodes k (nodes_of y s) h in
      let gc : (A && B && C) ≡ true = and_left (A && B && C) D g in
      let gb : (A && B) ≡ true = and_left (A && B) C gc in
      let n = numbers_of y s in
      let e0 : get_or w 0 0 ≡ get_or y.nodes (34 * k) 0 = let o : 34 * k + 0 ≡ 34 * k = omega arith in get_or-drop (34 * k) y.nodes 0 0 ∙ rw o in
      let e1 : get_or w 1 0 ≡ get_or y.nodes (34 * k + 1) 0 = get_or-drop (34 * k) y.nodes 1 0 in
      let l : length (drop 2 w) ≡ length y.nodes - 34 * k - 2 = rw (length-drop 2 w, length-drop (34 * k) y.nodes) in
      record {
        small = rw (← e0) (listed_small z (and_left A B gb));
        back = rw (← e1) (leb-true _ _ (and_left (leb (get_or w 1 0) y.state.nodes) _ (and_right A B gb)));
        back_sized = λ z o. sized (get_or w 1 0) (size y.nodes (number (get_or w 1 0))) (λ q. z (sym e1 ∙ q)) (rw e1 o)
            (and_right (leb (get_or w 1 0) y.state.nodes) _ (and_right A B gb));
        in_pool = λ i hi.
            let t : length (take 32 (drop 2 w)) ≡ 32 = length-take-le 32 (drop 2 w) (omega arith) in
            let p : get_or (take 32 (drop 2 w)) i 0 ≡ get_or y.nodes (34 * k + 2 + i) 0 =
            let o : 34 * k + (2 + i) ≡ 34 * k + 2 + i = omega arith in
            get_or-take 32 (drop 2 w) i 0 hi ∙ get_or-drop 2 w i 0 ∙ get_or-drop (34 * k) y.nodes (2 + i) 0 ∙ rw o in
            rw (← p) (leb-true _ _ (every_at (bucket_link y) (take 32 (drop 2 w)) i (and_right (A && B) C gc) (omega arith)));
      }

  -- a running task's record
  pub record Runs (c : Task) : Type 0 where
    pub low : c.i ≤ 32
    pub line_in : member c.line (lines_of c.call) ≡ true
    pub t_in : c.t ≤ y.state.nodes
    pub t_sized : (c.t ≡ 0 → ⊥) → size y.nodes (number c.t) ≡ 0 → ⊥
    pub s_in : c.s ≤ y.state.nodes
    pub b_in : c.b ≤ y.state.buckets
    pub m_in : c.m ≤ y.state.buckets
    pub n_in : c.n ≤ y.state.buckets
    pub nb_in : c.new_bucket ≤ y.state.buckets

  pub runs_fact : (k : ℕ) (c : Task) → sound_running y k c ≡ true → Runs c
  unfolding sound_running every node_link bucket_link size
  runs_fact k c g =
      let A : Bool = ltb k y.state.config.tasks in
      let B : Bool = member c.line (lines_of c.call) in
      let C : Bool = leb c.i 32 in
      let D : Bool = not (resizes c.call) || eqb c.tag 0 in
      let T : Bool = node_link y c.t in
      let S : Bool = node_link y c.s in
      let N : Bool = node_link y c.new_node in
      let b1 : Bool = leb c.b y.state.buckets in
      let b2 : Bool = leb c.m y.state.buckets in
      let b3 : Bool = leb c.n y.state.buckets in
      let b4 : Bool = leb c.new_bucket y.state.buckets in
      let E : Bool = T && (S && (N && true)) in
      let F : Bool = b1 && (b2 && (b3 && (b4 && true))) in
      let ge : (A && B && C && D && E) ≡ true = and_left (A && B && C && D && E) F g in
      let gf : F ≡ true = and_right (A && B && C && D && E) F g in
      let gd : (A && B && C && D) ≡ true = and_left (A && B && C && D) E ge in
      let gE : E ≡ true = and_right (A && B && C && D) E ge in
      let gc : (A && B && C) ≡ true = and_left (A && B && C) D gd in
      let f2 : (b2 && (b3 && (b4 && true))) ≡ true = and_right b1 (b2 && (b3 && (b4 && true))) gf in
      let f3 : (b3 && (b4 && true)) ≡ true = and_right b2 (b3 && (b4 && true)) f2 in
      let f4 : (b4 && true) ≡ true = and_right b3 (b4 && true) f3 in
      let gT : T ≡ true = and_left T (S && (N && true)) gE in
      let gS : S ≡ true = and_left S (N && true) (and_right T (S && (N && true)) gE) in
      record {
        low = leb-true _ _ (and_right (A && B) C gc);
        line_in = and_right A B (and_left (A && B) C gc);
        t_in = leb-true _ _ (and_left (leb c.t y.state.nodes) _ gT);
        t_sized = λ z e. sized c.t (size y.nodes (number c.t)) z e (and_right (leb c.t y.state.nodes) _ gT);
        s_in = leb-true _ _ (and_left (leb c.s y.state.nodes) _ gS);
        b_in = leb-true _ _ (and_left b1 _ gf);
        m_in = leb-true _ _ (and_left b2 _ f2);
        n_in = leb-true _ _ (and_left b3 _ f3);
        nb_in = leb-true _ _ (and_left b4 true f4);
      }

  pub task_fact : (k : ℕ) (x : Task) → k < length y.state.task → (get_or y.state.task k x).running ≡ true → Runs (get_or y.state.task k x)
  task_fact k x h r =
      let g : sound_task y (0 + k) (get_or y.state.task k x) ≡ true = nth_task y 0 y.state.task k x (tasks_of y s) h in
      runs_fact (0 + k) (get_or y.state.task k x) (sym (task_runs y (0 + k) (get_or y.state.task k x) r) ∙ g)

  -- a link within the bucket pool
  pub record Link (l : ℕ) : Type 0 where
    pub most : l ≤ 1024
    pub fits : 66 * l ≤ length y.buckets
    pub good : 0 < l → sound_bucket (drop (66 * (l - 1)) y.buckets) ≡ true

  pub link_of : (l : ℕ) → l ≤ y.state.buckets → Link l
  link_of l h =
      let n = numbers_of y s in
      record { most = omega arith; fits = omega arith; good = λ z. bucket_fact (l - 1) (omega arith) }
