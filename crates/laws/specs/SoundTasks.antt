-- The test of one task's record, and of all of them, against the facts of each task by number. Assumes nothing.
use Rattle.std.specs.Prelude.{ℕ, zero, suc, ◌+◌, ◌≡◌, List, [], ◌∷◌, Bool, not, ◌||◌, ltb, leb, get_or, if◌then◌else◌}
use Rattle.std.proofs.Math.Path.{refl}
use Rattle.std.proofs.Common.{◌∙◌, arith}
use Rattle.std.proofs.Math.Logic.{inl, inr}
use Rattle.std.proofs.Math.Bool.{true, false}
use borrow.Author.Tests.{eqb-true, eq-eqb, leb-true, le-leb, ltb-true, lt-ltb, not-true}
use Rattle.std.proofs.Math.Dec.{eqb}
use Rattle.spec.specs.declared.Task.{Task}
use Rattle.spec.specs.Lists.{member, every}
use Rattle.spec.specs.Machine.{Machine, idle}
use Rattle.spec.specs.Sound.{bucket_count, lines_of, resizes, node_link, bucket_link, sound_running, zero_task, sound_task, sound_tasks}
use Rattle.laws.specs.Tests.{tf, and_left, and_right, and_i, and6, and6_i, or_e, if_true}
use Rattle.laws.specs.Lists.{every_head, every_tail, every_cons, every_nil}
use Rattle.laws.specs.SoundFacts.{RunFacts, TaskFacts, is_idle, runs}
use Rattle.laws.specs.SoundNodes.{node_linked, link_noded}

-- ---- a task

abbrev nodes_of : Task → List ℕ
nodes_of c = c.t ∷ c.s ∷ c.new_node ∷ []

abbrev buckets_of : Task → List ℕ
buckets_of c = c.b ∷ c.m ∷ c.n ∷ c.new_bucket ∷ []

module _ (y : Machine) (k : ℕ) (c : Task) where
  run_tests : sound_running y k c ≡ true → (ltb k y.state.config.tasks ≡ true) × (member c.line (lines_of c.call) ≡ true) × (leb c.i 32 ≡ true)
      × ((not (resizes c.call) || eqb c.tag 0) ≡ true) × (every (node_link y) (nodes_of c) ≡ true) × (every (bucket_link y) (buckets_of c) ≡ true)
  unfolding sound_running
  run_tests e = and6 _ _ _ _ _ _ e

  run_facts : sound_running y k c ≡ true → RunFacts y k c
  unfolding bucket_link
  run_facts e =
      let p = run_tests e in
      let n0 = every_tail (node_link y) _ _ p.4 in
      let n1 = every_tail (node_link y) _ _ n0 in
      let b0 = every_tail (bucket_link y) _ _ p.5 in
      let b1 = every_tail (bucket_link y) _ _ b0 in
      let b2 = every_tail (bucket_link y) _ _ b1 in
      record {
        below_T = ltb-true k y.state.config.tasks p.0;
        line = p.1;
        i = leb-true c.i 32 p.2;
        tag = λ q. elim (or_e (not (resizes c.call)) (eqb c.tag 0) p.3) [
          | inl n ↦ absurd (tf q (not-true (resizes c.call) n))
          | inr h ↦ eqb-true c.tag 0 h
        ];
        t = node_linked y c.t (every_head (node_link y) _ _ p.4);
        s = node_linked y c.s (every_head (node_link y) _ _ n0);
        new_node = node_linked y c.new_node (every_head (node_link y) _ _ n1);
        b = leb-true c.b (bucket_count y) (every_head (bucket_link y) _ _ p.5);
        m = leb-true c.m (bucket_count y) (every_head (bucket_link y) _ _ b0);
        n = leb-true c.n (bucket_count y) (every_head (bucket_link y) _ _ b1);
        new_bucket = leb-true c.new_bucket (bucket_count y) (every_head (bucket_link y) _ _ b2);
      }

  facts_run : RunFacts y k c → sound_running y k c ≡ true
  unfolding sound_running bucket_link
  facts_run f = and6_i _ _ _ _ _ _ (lt-ltb k y.state.config.tasks f.below_T) f.line (le-leb c.i 32 f.i) tag_test
      (every_cons _ _ _ (link_noded y c.t f.t) (every_cons _ _ _ (link_noded y c.s f.s)
      (every_cons _ _ _ (link_noded y c.new_node f.new_node) (every_nil _))))
      (every_cons _ _ _ (le-leb c.b (bucket_count y) f.b) (every_cons _ _ _ (le-leb c.m (bucket_count y) f.m)
      (every_cons _ _ _ (le-leb c.n (bucket_count y) f.n) (every_cons _ _ _ (le-leb c.new_bucket (bucket_count y) f.new_bucket) (every_nil _)))))
    where
      go : (b : Bool) → resizes c.call ≡ b → (not b || eqb c.tag 0) ≡ true
      go true q = eq-eqb c.tag 0 (f.tag q)
      go false q = refl

      tag_test : (not (resizes c.call) || eqb c.tag 0) ≡ true
      tag_test = go (resizes c.call) refl

  -- a record of zeros is the idle one
  zero_idle : c.running ≡ false → zero_task c ≡ true → c ≡ idle
  unfolding zero_task idle
  zero_idle r e =
      let t0 = every_tail (λ x. eqb x 0) _ _ e in
      let t1 = every_tail (λ x. eqb x 0) _ _ t0 in
      let t2 = every_tail (λ x. eqb x 0) _ _ t1 in
      let t3 = every_tail (λ x. eqb x 0) _ _ t2 in
      let t4 = every_tail (λ x. eqb x 0) _ _ t3 in
      let t5 = every_tail (λ x. eqb x 0) _ _ t4 in
      let t6 = every_tail (λ x. eqb x 0) _ _ t5 in
      let t7 = every_tail (λ x. eqb x 0) _ _ t6 in
      let t8 = every_tail (λ x. eqb x 0) _ _ t7 in
      let t9 = every_tail (λ x. eqb x 0) _ _ t8 in
      let t10 = every_tail (λ x. eqb x 0) _ _ t9 in
      let e0 = eqb-true c.call 0 (every_head (λ x. eqb x 0) _ _ e) in
      let e1 = eqb-true c.tag 0 (every_head (λ x. eqb x 0) _ _ t0) in
      let e2 = eqb-true c.line 0 (every_head (λ x. eqb x 0) _ _ t1) in
      let e3 = eqb-true c.i 0 (every_head (λ x. eqb x 0) _ _ t2) in
      let e4 = eqb-true c.own 0 (every_head (λ x. eqb x 0) _ _ t3) in
      let e5 = eqb-true c.t 0 (every_head (λ x. eqb x 0) _ _ t4) in
      let e6 = eqb-true c.s 0 (every_head (λ x. eqb x 0) _ _ t5) in
      let e7 = eqb-true c.b 0 (every_head (λ x. eqb x 0) _ _ t6) in
      let e8 = eqb-true c.m 0 (every_head (λ x. eqb x 0) _ _ t7) in
      let e9 = eqb-true c.n 0 (every_head (λ x. eqb x 0) _ _ t8) in
      let e10 = eqb-true c.new_node 0 (every_head (λ x. eqb x 0) _ _ t9) in
      let e11 = eqb-true c.new_bucket 0 (every_head (λ x. eqb x 0) _ _ t10) in
      λ j. record {
        running = r j;
        call = e0 j;
        tag = e1 j;
        line = e2 j;
        i = e3 j;
        own = e4 j;
        t = e5 j;
        s = e6 j;
        b = e7 j;
        m = e8 j;
        n = e9 j;
        new_node = e10 j;
        new_bucket = e11 j;
      }

  pub task_facts : sound_task y k c ≡ true → TaskFacts y k c
  unfolding sound_task
  task_facts e = go c.running refl e
    where
      go : (b : Bool) → c.running ≡ b → (if b then sound_running y k c else zero_task c) ≡ true → TaskFacts y k c
      go true q h = runs q (run_facts h)
      go false q h = is_idle (zero_idle q h)

  pub facts_task : TaskFacts y k c → sound_task y k c ≡ true
  unfolding sound_task zero_task idle every
  facts_task (runs q f) = if_true c.running (sound_running y k c) (zero_task c) q ∙ facts_run f
  facts_task (is_idle q) = rw q

pub tasks_at : (y : Machine) (k : ℕ) (cs : List Task) → sound_tasks y k cs ≡ true → (j : ℕ) → sound_task y (k + j) (get_or cs j idle) ≡ true
unfolding sound_tasks
tasks_at y k [] e j = facts_task y (k + j) idle (is_idle refl)
tasks_at y k (c ∷ cs) e zero = let q : k + 0 ≡ k = omega arith in rw q (and_left (sound_task y k c) _ e)
tasks_at y k (c ∷ cs) e (suc j) = let q : k + suc j ≡ suc k + j = omega arith in rw q (tasks_at y (suc k) cs (and_right (sound_task y k c) _ e) j)

pub at_tasks : (y : Machine) (k : ℕ) (cs : List Task) → ((j : ℕ) → sound_task y (k + j) (get_or cs j idle) ≡ true) → sound_tasks y k cs ≡ true
unfolding sound_tasks
at_tasks y k [] h = refl
at_tasks y k (c ∷ cs) h =
    let q : k + 0 ≡ k = omega arith in
    and_i (sound_task y k c) _ (rw q at (h 0)) (at_tasks y (suc k) cs (λ j. let p : k + suc j ≡ suc k + j = omega arith in rw p at (h (suc j))))
