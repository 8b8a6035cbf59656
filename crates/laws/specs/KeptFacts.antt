-- What stays sound in memory that differs little from sound memory: links, tasks, nodes and buckets whose words are the same.
-- Assumes nothing.
use Rattle.std.specs.Prelude.{ℕ, ◌+◌, ◌*◌, ◌≤◌, ◌<◌, ◌≡◌}
use Rattle.std.proofs.Common.{sym, ap, ◌∙◌}
use Rattle.std.proofs.Math.Path.{subst}
use mathlib.Core.List.{List}
use Rattle.std.proofs.Math.ListN.{get_or}
use Rattle.spec.specs.declared.Task.{Task}
use Rattle.spec.specs.Machine.{Machine, idle, task_of}
use Rattle.spec.specs.Words.{number, size, pred, place, changeable, count, tags}
use Rattle.spec.specs.Sound.{node_count, bucket_count}
use Rattle.laws.specs.SoundFacts.{NodeLink, NodeFacts, BucketFacts, RunFacts, TaskFacts, runs, is_idle, SoundFacts}
use Rattle.laws.specs.AfterWrites.{SameState}

-- ---- what stays true in a machine z that differs little from y

module _ (y z : Machine) (same : SameState y z) (sized : (j : ℕ) → ¬ (size y.nodes j ≡ 0) → ¬ (size z.nodes j ≡ 0)) where
  pub link_kept : (l : ℕ) → NodeLink y l → NodeLink z l
  link_kept l g = record { within = rw same.H≡ g.within; sized = λ d. sized (number l) (g.sized d) }

  pub low : (l : ℕ) → l ≤ bucket_count y → l ≤ bucket_count z
  low l h = rw same.B≡ h

  pub run_kept : (k : ℕ) (c : Task) → RunFacts y k c → RunFacts z k c
  run_kept k c r = record {
    below_T = rw same.config≡ r.below_T;
    line = r.line;
    i = r.i;
    tag = r.tag;
    t = link_kept c.t r.t;
    s = link_kept c.s r.s;
    new_node = link_kept c.new_node r.new_node;
    b = low c.b r.b;
    m = low c.m r.m;
    n = low c.n r.n;
    new_bucket = low c.new_bucket r.new_bucket;
  }

  pub task_kept : (k : ℕ) (c : Task) → TaskFacts y k c → TaskFacts z k c
  task_kept k c (runs q r) = runs q (run_kept k c r)
  task_kept k c (is_idle q) = is_idle q

  pub node_kept : (k : ℕ) → size z.nodes k ≡ size y.nodes k → pred z.nodes k ≡ pred y.nodes k
      → ((i : ℕ) → i < 32 → place z.nodes k i ≡ place y.nodes k i) → NodeFacts y k → NodeFacts z k
  node_kept k e p q g = record {
    size_ok = rw e g.size_ok;
    pred_ok = rw p (link_kept (pred y.nodes k) g.pred_ok);
    place_ok = λ i h. rw (q i h) (low (place y.nodes k i) (g.place_ok i h));
    past = λ i a h. q i h ∙ g.past i (rw e at a) h;
  }

  pub bucket_kept : (k : ℕ) → changeable z.buckets k ≤ 1 → count z.buckets k ≡ count y.buckets k
      → (count y.buckets k ≤ 64 → tags z.buckets k ≡ tags y.buckets k)
      → ((i : ℕ) → i < 64 → get_or z.buckets (66 * k + 2 + i) 0 ≡ get_or y.buckets (66 * k + 2 + i) 0) → BucketFacts y k → BucketFacts z k
  bucket_kept k f e t q g =
      let t = t g.few in
      record {
        flag = f;
        few = rw e g.few;
        long = rw (t, e) g.long;
        rising = rw t g.rising;
        after = λ i a h. q i h ∙ g.after i (rw e at a) h;
      }

  pub rebuilt : SoundFacts y → z.state.head < node_count y → z.state.last_node < node_count y → z.state.last_bucket < bucket_count y
      → ¬ (size z.nodes z.state.head ≡ 0)
      → ((k : ℕ) → k < node_count y → NodeFacts z k) → ((k : ℕ) → k < bucket_count y → BucketFacts z k) → SoundFacts z
  unfolding task_of
  rebuilt f h ln lb hs ns bs = record {
    config = rw same.config≡ f.config;
    H_low = rw same.H≡ f.H_low;
    H_high = rw same.H≡ f.H_high;
    B_low = rw same.B≡ f.B_low;
    B_high = rw same.B≡ f.B_high;
    nodes_length = rw same.H≡ (same.nodes_length≡ ∙ f.nodes_length);
    buckets_length = rw same.B≡ (same.buckets_length≡ ∙ f.buckets_length);
    head = rw same.H≡ h;
    last_node = rw same.H≡ ln;
    last_bucket = rw same.B≡ lb;
    head_sized = hs;
    chosen = rw (same.chosen≡, same.config≡) f.chosen;
    node = λ k q. ns k (rw same.H≡ at q);
    bucket = λ k q. bs k (rw same.B≡ at q);
    task = λ k. subst (λ (c : Task). TaskFacts z k c) (ap (λ (ts : List Task). get_or ts k idle) (sym same.task≡))
        (task_kept k (get_or y.state.task k idle) (f.task k));
  }
