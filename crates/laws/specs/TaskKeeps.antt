-- A task's record put into sound memory, and a running task's record with one part changed, stay sound. Assumes nothing.
use Rattle.std.specs.Prelude.{ℕ, ◌≤◌, ◌<◌, ◌≡◌, refl, true}
use Rattle.std.proofs.Common.{sym, arith}
use Rattle.std.proofs.Math.Path.{subst}
use Rattle.std.proofs.Math.ListN.{length}
use Rattle.spec.specs.declared.Task.{Task}
use Rattle.spec.specs.Lists.{member}
use Rattle.spec.specs.Machine.{Machine, with_line, state_task, with_state, with_task, with_own, with_i, with_t, with_s, with_b, with_m, with_n}
use Rattle.spec.specs.Machine.{with_new_node, with_new_bucket, without_places, set_task, task_of}
use Rattle.spec.specs.Words.{pred}
use Rattle.spec.specs.Sound.{bucket_count, lines_of}
use Rattle.laws.specs.Tests.{At as Seen, hit, miss}
use Rattle.laws.specs.SoundFacts.{NodeLink, RunFacts, TaskFacts, runs, is_idle, SoundFacts}
use Rattle.laws.specs.AfterWrites.{after_task}

-- ---- a task's record put

module _ (y : Machine) (k : ℕ) (c : Task) where
  link_put : (l : ℕ) → NodeLink y l → NodeLink (set_task k c y) l
  unfolding set_task with_task with_state state_task
  link_put l g = record { within = g.within; sized = g.sized }

  task_put : (j : ℕ) (d : Task) → TaskFacts y j d → TaskFacts (set_task k c y) j d
  unfolding set_task with_task with_state state_task
  task_put j d (is_idle q) = is_idle q
  task_put j d (runs q r) = runs q (record {
    below_T = r.below_T;
    line = r.line;
    i = r.i;
    tag = r.tag;
    t = link_put d.t r.t;
    s = link_put d.s r.s;
    new_node = link_put d.new_node r.new_node;
    b = r.b;
    m = r.m;
    n = r.n;
    new_bucket = r.new_bucket;
  })

  pub task_keeps : SoundFacts y → TaskFacts y k c → SoundFacts (set_task k c y)
  unfolding set_task with_task with_state state_task
  task_keeps f g = record {
    config = f.config;
    H_low = f.H_low;
    H_high = f.H_high;
    B_low = f.B_low;
    B_high = f.B_high;
    nodes_length = f.nodes_length;
    buckets_length = f.buckets_length;
    head = f.head;
    last_node = f.last_node;
    last_bucket = f.last_bucket;
    head_sized = f.head_sized;
    chosen = f.chosen;
    node = λ j h. record {
      size_ok = (f.node j h).size_ok;
      pred_ok = link_put (pred y.nodes j) (f.node j h).pred_ok;
      place_ok = (f.node j h).place_ok;
      past = (f.node j h).past;
    };
    bucket = λ j h. record {
      flag = (f.bucket j h).flag;
      few = (f.bucket j h).few;
      long = (f.bucket j h).long;
      rising = (f.bucket j h).rising;
      after = (f.bucket j h).after;
    };
    task = λ j. go j ((after_task y k c).task_at j);
  }
    where
      go : (j : ℕ) → Seen ((j ≡ k) × (k < length y.state.task)) c (task_of y j) (task_of (set_task k c y) j)
          → TaskFacts (set_task k c y) j (task_of (set_task k c y) j)
      go j (hit q e) =
          subst (λ (d : Task). TaskFacts (set_task k c y) j d) (sym e) (subst (λ (n : ℕ). TaskFacts (set_task k c y) n c) (sym q.0) (task_put k c g))
      go j (miss n e) = subst (λ (d : Task). TaskFacts (set_task k c y) j d) (sym e) (task_put j (task_of y j) (f.task j))

-- ---- a task's record with one part changed

module _ (y : Machine) (k : ℕ) (c : Task) (r : RunFacts y k c) where
  pub run_to : (v : ℕ) → member v (lines_of c.call) ≡ true → RunFacts y k (with_line v c)
  unfolding with_line
  run_to v h = record {
    below_T = r.below_T;
    line = h;
    i = r.i;
    tag = r.tag;
    t = r.t;
    s = r.s;
    new_node = r.new_node;
    b = r.b;
    m = r.m;
    n = r.n;
    new_bucket = r.new_bucket;
  }

  pub run_i : (v : ℕ) → v ≤ 32 → RunFacts y k (with_i v c)
  unfolding with_i
  run_i v h = record {
    below_T = r.below_T;
    line = r.line;
    i = h;
    tag = r.tag;
    t = r.t;
    s = r.s;
    new_node = r.new_node;
    b = r.b;
    m = r.m;
    n = r.n;
    new_bucket = r.new_bucket;
  }

  pub run_t : (v : ℕ) → NodeLink y v → RunFacts y k (with_t v c)
  unfolding with_t
  run_t v h = record {
    below_T = r.below_T;
    line = r.line;
    i = r.i;
    tag = r.tag;
    t = h;
    s = r.s;
    new_node = r.new_node;
    b = r.b;
    m = r.m;
    n = r.n;
    new_bucket = r.new_bucket;
  }

  pub run_s : (v : ℕ) → NodeLink y v → RunFacts y k (with_s v c)
  unfolding with_s
  run_s v h = record {
    below_T = r.below_T;
    line = r.line;
    i = r.i;
    tag = r.tag;
    t = r.t;
    s = h;
    new_node = r.new_node;
    b = r.b;
    m = r.m;
    n = r.n;
    new_bucket = r.new_bucket;
  }

  pub run_new_node : (v : ℕ) → NodeLink y v → RunFacts y k (with_new_node v c)
  unfolding with_new_node
  run_new_node v h = record {
    below_T = r.below_T;
    line = r.line;
    i = r.i;
    tag = r.tag;
    t = r.t;
    s = r.s;
    new_node = h;
    b = r.b;
    m = r.m;
    n = r.n;
    new_bucket = r.new_bucket;
  }

  pub run_b : (v : ℕ) → v ≤ bucket_count y → RunFacts y k (with_b v c)
  unfolding with_b
  run_b v h = record {
    below_T = r.below_T;
    line = r.line;
    i = r.i;
    tag = r.tag;
    t = r.t;
    s = r.s;
    new_node = r.new_node;
    b = h;
    m = r.m;
    n = r.n;
    new_bucket = r.new_bucket;
  }

  pub run_m : (v : ℕ) → v ≤ bucket_count y → RunFacts y k (with_m v c)
  unfolding with_m
  run_m v h = record {
    below_T = r.below_T;
    line = r.line;
    i = r.i;
    tag = r.tag;
    t = r.t;
    s = r.s;
    new_node = r.new_node;
    b = r.b;
    m = h;
    n = r.n;
    new_bucket = r.new_bucket;
  }

  pub run_n : (v : ℕ) → v ≤ bucket_count y → RunFacts y k (with_n v c)
  unfolding with_n
  run_n v h = record {
    below_T = r.below_T;
    line = r.line;
    i = r.i;
    tag = r.tag;
    t = r.t;
    s = r.s;
    new_node = r.new_node;
    b = r.b;
    m = r.m;
    n = h;
    new_bucket = r.new_bucket;
  }

  pub run_new_bucket : (v : ℕ) → v ≤ bucket_count y → RunFacts y k (with_new_bucket v c)
  unfolding with_new_bucket
  run_new_bucket v h = record {
    below_T = r.below_T;
    line = r.line;
    i = r.i;
    tag = r.tag;
    t = r.t;
    s = r.s;
    new_node = r.new_node;
    b = r.b;
    m = r.m;
    n = r.n;
    new_bucket = h;
  }

  pub run_own : (v : ℕ) → RunFacts y k (with_own v c)
  unfolding with_own
  run_own v = record {
    below_T = r.below_T;
    line = r.line;
    i = r.i;
    tag = r.tag;
    t = r.t;
    s = r.s;
    new_node = r.new_node;
    b = r.b;
    m = r.m;
    n = r.n;
    new_bucket = r.new_bucket;
  }

  pub run_emptied : RunFacts y k (without_places c)
  unfolding without_places
  run_emptied = record {
    below_T = r.below_T;
    line = r.line;
    i = r.i;
    tag = r.tag;
    t = record { within = omega arith; sized = λ d. absurd (d refl) };
    s = record { within = omega arith; sized = λ d. absurd (d refl) };
    new_node = record { within = omega arith; sized = λ d. absurd (d refl) };
    b = omega arith;
    m = omega arith;
    n = omega arith;
    new_bucket = omega arith;
  }

pub no_link : (y : Machine) → NodeLink y 0
no_link y = record { within = omega arith; sized = λ d. absurd (d refl) }
