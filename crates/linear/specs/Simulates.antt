-- The words simulate the model: they represent its heap, each task's record matches its position, what tasks have taken is theirs
-- alone. How that goes on when one task steps. Assumes nothing.
use Rattle.std.specs.Prelude.{◌≡◌, refl, true, ℕ, ◌<◌, length}
use Rattle.std.proofs.Common.{sym, ◌∙◌}
use Rattle.std.proofs.Math.Path.{ap}
use mathlib.Core.List.{List}
use Rattle.std.proofs.Math.Decide.{ℕ_discrete}
use native.Mathlib.Omega.{arith}
use Rattle.std.proofs.Math.ListN.{get_or}
use Rattle.spec.specs.declared.Task.{Task}
use Rattle.spec.specs.Machine.{Machine, idle, with_task, with_state, state_task, set_task, task_of}
use Rattle.spec.specs.Words.{link}
use Rattle.spec.specs.Sound.{bucket_count, sound}
use Rattle.laws.specs.SoundFacts.{SoundFacts, TaskFacts, runs, is_idle}
use Rattle.laws.specs.AfterWrites.{SameState, after_task}
use Rattle.model.specs.Functions.{upd, upd_same, upd_other}
use Rattle.model.specs.Heap.{Heap}
use Rattle.model.specs.HeapInvariant.{Rely}
use Rattle.model.specs.Positions.{Position}
use Rattle.model.specs.Runs.{Configuration}
use Rattle.spec.specs.History.{Ended}
use Rattle.linear.specs.Represents.{Represents, represents_task, NewBucket, NewNode, Records}
use Rattle.linear.specs.KnownNodes.{Known, Takes, takes_at, IsBucket, IsNode, takes_from}
use Rattle.linear.specs.Matches.{Matches}
use Rattle.linear.specs.Taken.{Taken}
use Rattle.linear.specs.OthersSee.{OthersSee, matches_stay, taken_stays}
use Rattle.model.specs.Linearization.{Invariant}
use Rattle.laws.specs.Tests.{at_hit, at_miss}

-- what tasks have taken are different records
pub record Simulates (y : Machine) (h : Heap) (position : ℕ → Position) : Type 0 where
  pub records : Records
  pub sound_now : sound y ≡ true
  pub eight_tasks : length y.state.task ≡ 8
  pub rep : Represents y h (Known h position) records
  pub matches : (p : ℕ) → Matches h records (position p) (task_of y p)
  pub taken : (p : ℕ) → Taken y h (Known h position) records (takes_at (position p)) (task_of y p)
  pub buckets_apart : (p q : ℕ) → ¬ (p ≡ q) → IsBucket (takes_at (position p)) → IsBucket (takes_at (position q))
      → ¬ ((task_of y p).new_bucket ≡ (task_of y q).new_bucket)
  pub nodes_apart : (p q : ℕ) → ¬ (p ≡ q) → IsNode (takes_at (position p)) → IsNode (takes_at (position q))
      → ¬ ((task_of y p).new_node ≡ (task_of y q).new_node)

-- ---- a task's record is no part of the words
others_see_task : {y z : Machine} {h g : Heap} {K J : ℕ → Type 0} {R R' : Records} {nb nn : ℕ → Type 0} (k : ℕ) (c : Task)
    → OthersSee y z h g K J R R' nb nn → OthersSee y (set_task k c z) h g K J R R' nb nn
unfolding set_task with_task with_state state_task
others_see_task k c s = record {
  node≡ = s.node≡;
  bucket≡ = s.bucket≡;
  away_bucket = s.away_bucket;
  away_node = s.away_node;
  first_word≡ = s.first_word≡;
  tags≡ = s.tags≡;
  size≡ = s.size≡;
  pred≡ = s.pred≡;
  place≡ = s.place≡;
}

pub new_bucket_task : {y : Machine} {h : Heap} {K : ℕ → Type 0} {R : Records} {s t i r : ℕ} (k : ℕ) (c : Task) → NewBucket y h K R s t i r
    → NewBucket (set_task k c y) h K R s t i r
unfolding set_task with_task with_state state_task
new_bucket_task k c n = record { opened = n.opened; inside = n.inside; outside = n.outside; away = n.away }

pub new_node_task : {y : Machine} {K : ℕ → Type 0} {R : Records} {t n r : ℕ} (k : ℕ) (c : Task) → NewNode y K R t n r → NewNode (set_task k c y) K R t n r
unfolding set_task with_task with_state state_task
new_node_task k c n = record { size≡ = n.size≡; from = n.from; places = n.places; away = n.away }

-- ---- task p goes to position l' with the record c, and the words become those of z
module _ {y : Machine} {w : Configuration} {L : List Ended} (sim : Simulates y w.heap w.position) (f : SoundFacts y) (i : Invariant w L) (p : ℕ)
    (p< : p < 8) where
  -- another task's new bucket is in the pool
  below : (q r : ℕ) → (task_of y q).new_bucket ≡ link r → r < bucket_count y
  unfolding idle
  below q r e = go (f.task q)
    where
      go : TaskFacts y q (task_of y q) → r < bucket_count y
      go (runs a b) = let c = b.new_bucket in omega arith
      go (is_idle a) = absurd (zero_idle a)
        where
          zero_idle : task_of y q ≡ idle → ⊥
          zero_idle a = let z : 0 ≡ link r = ap (λ (c : Task). c.new_bucket) (sym a) ∙ e in omega arith

  module _ {z : Machine} (same : SameState y z) (l' : Position) (c : Task) where
    task_is : task_of (set_task p c z) p ≡ c
    task_is = at_hit (refl, rw (same.task≡, sim.eight_tasks) p<) ((after_task z p c).task_at p)

    task_other : (q : ℕ) → ¬ (q ≡ p) → task_of (set_task p c z) q ≡ task_of y q
    unfolding task_of
    task_other q n = at_miss (λ e. n e.0) ((after_task z p c).task_at q) ∙ ap (λ (l : List Task). get_or l q idle) same.task≡

    -- two tasks that have taken a record of one kind have different ones; `field` is its place in a task's record
    apart : (P : Takes → Type 0) (field : Task → ℕ)
        → ((q r : ℕ) → ¬ (q ≡ r) → P (takes_at (w.position q)) → P (takes_at (w.position r)) → ¬ (field (task_of y q) ≡ field (task_of y r)))
        → (P (takes_at l') → (q : ℕ) → ¬ (q ≡ p) → P (takes_at (w.position q)) → ¬ (field c ≡ field (task_of y q)))
        → (q r : ℕ) → ¬ (q ≡ r) → P (takes_at (upd w.position p l' q)) → P (takes_at (upd w.position p l' r))
        → ¬ (field (task_of (set_task p c z) q) ≡ field (task_of (set_task p c z) r))
    apart P field old new q r n a b u = go (ℕ_discrete q p) (ℕ_discrete r p)
      where
        mine : (q : ℕ) → q ≡ p → P (takes_at (upd w.position p l' q)) → P (takes_at l')
        mine q e a = rw (e, upd_same w.position p l') at a

        other : (q : ℕ) → ¬ (q ≡ p) → P (takes_at (upd w.position p l' q)) → P (takes_at (w.position q))
        other q d a = rw (upd_other w.position p l' q d) at a

        mine≡ : (q : ℕ) → q ≡ p → field (task_of (set_task p c z) q) ≡ field c
        mine≡ q e = ap field (ap (task_of (set_task p c z)) e ∙ task_is)

        go : Dec (q ≡ p) → Dec (r ≡ p) → ⊥
        go (yes d) (yes e) = n (d ∙ sym e)
        go (yes d) (no e) = new (mine q d a) r e (other r e b) (sym (mine≡ q d) ∙ u ∙ ap field (task_other r e))
        go (no d) (yes e) = new (mine r e b) q d (other q d a) (sym (mine≡ r e) ∙ sym u ∙ ap field (task_other q d))
        go (no d) (no e) = old q r n (other q d a) (other r e b) (sym (ap field (task_other q d)) ∙ u ∙ ap field (task_other r e))

    pub simulates_next : {g : Heap} {R' : Records} {nb nn : ℕ → Type 0} → Rely w.heap g → Represents z g (Known g (upd w.position p l')) R'
        → OthersSee y z w.heap g (Known w.heap w.position) (Known g (upd w.position p l')) sim.records R' nb nn
        → Matches g R' l' c → Taken (set_task p c z) g (Known g (upd w.position p l')) R' (takes_at l') c
        → ((q : ℕ) → ¬ (q ≡ p) → IsBucket (takes_at (w.position q)) → (r : ℕ) → (task_of y q).new_bucket ≡ link r → ¬ nb r)
        → ((q : ℕ) → ¬ (q ≡ p) → IsNode (takes_at (w.position q)) → (r : ℕ) → (task_of y q).new_node ≡ link r → ¬ nn r)
        → (IsBucket (takes_at l') → (q : ℕ) → ¬ (q ≡ p) → IsBucket (takes_at (w.position q)) → ¬ (c.new_bucket ≡ (task_of y q).new_bucket))
        → (IsNode (takes_at l') → (q : ℕ) → ¬ (q ≡ p) → IsNode (takes_at (w.position q)) → ¬ (c.new_node ≡ (task_of y q).new_node))
        → sound (set_task p c z) ≡ true → Simulates (set_task p c z) g (upd w.position p l')
    simulates_next {g} {R'} le rep sh m own ob on ab an so = record {
      records = R';
      sound_now = so;
      eight_tasks = (after_task z p c).length≡ ∙ ap length same.task≡ ∙ sim.eight_tasks;
      rep = represents_task p c rep;
      matches = λ q. job' q (ℕ_discrete q p);
      taken = λ q. taken' q (ℕ_discrete q p);
      buckets_apart = apart IsBucket (λ d. d.new_bucket) sim.buckets_apart ab;
      nodes_apart = apart IsNode (λ d. d.new_node) sim.nodes_apart an;
    }
      where
        job' : (q : ℕ) → Dec (q ≡ p) → Matches g R' (upd w.position p l' q) (task_of (set_task p c z) q)
        job' q (yes e) = rw (e, upd_same w.position p l', task_is) m
        job' q (no n) =
            rw (upd_other w.position p l' q n, task_other q n)
            (matches_stay sh i.heap le (task_of y q) L (w.start q) (w.position q) (i.task q) (sim.matches q))

        taken' : (q : ℕ) → Dec (q ≡ p) → Taken (set_task p c z) g (Known g (upd w.position p l')) R' (takes_at (upd w.position p l' q))
            (task_of (set_task p c z) q)
        taken' q (yes e) = rw (e, upd_same w.position p l', task_is) own
        taken' q (no n) =
            rw (upd_other w.position p l' q n, task_other q n)
            (taken_stays (others_see_task p c sh) i.heap le (task_of y q) (takes_at (w.position q))
            (takes_from w.heap L (w.start q) (w.position q) (i.task q))
            (below q) (ob q n) (on q n) (sim.taken q))
