-- Reading after writing: for each write, what every accessor reads afterwards: the new value at the record written, the old one at
-- all others. Assumes nothing.
use Rattle.std.specs.Prelude.{ℕ, ◌+◌, ◌*◌, ◌≤◌, ◌<◌, ◌≡◌, List, length, get_or, set}
use Rattle.std.proofs.Math.Path.{refl}
use Rattle.std.proofs.Common.{ap, ◌∙◌, arith, length-set, get_or-set_same, get_or-set_other}
use Rattle.std.proofs.Math.Decide.{ℕ_discrete, dec_lt}
use Rattle.std.proofs.Math.Seq.{set_out}
use Rattle.spec.specs.declared.Task.{Task}
use Rattle.spec.specs.declared.Config.{Config}
use Rattle.spec.specs.declared.State.{State}
use Rattle.spec.specs.Machine.{Machine, idle, state_head, state_last_node, state_last_bucket, state_task, with_state, with_nodes, with_buckets, with_head}
use Rattle.spec.specs.Machine.{with_last_node, with_last_bucket, with_task, set_task, task_of}
use Rattle.spec.specs.Words.{size, pred, place, changeable, count, tags, Write, apply, nothing, set_head, set_place, clear_pred, freeze, put_tags, new_node}
use Rattle.spec.specs.Words.{new_bucket}
use Rattle.spec.specs.Sound.{node_count, bucket_count}
use Rattle.laws.specs.Tests.{At, hit, miss}
use Rattle.laws.specs.NodeWords.{sp_size, cp_size, cp_pred, cp_place, sp_pred, nn_length, sp_place, nn_size, nn_pred, nn_place}
use Rattle.laws.specs.BucketWords.{fr_changeable, fr_count, fr_tags, fr_word, bk_length, bk_changeable, bk_count, bk_tags, bk_same, bk_words}

-- ---- the state: what it was opened with, H, B, the last one chosen and the tasks stay with every write; z is what the write leaves of y

pub record SameState (y z : Machine) : Type 0 where
  pub config≡ : z.state.config ≡ y.state.config
  pub H≡ : node_count z ≡ node_count y
  pub B≡ : bucket_count z ≡ bucket_count y
  pub chosen≡ : z.state.chosen ≡ y.state.chosen
  pub task≡ : z.state.task ≡ y.state.task
  pub nodes_length≡ : length z.nodes ≡ length y.nodes
  pub buckets_length≡ : length z.buckets ≡ length y.buckets

-- the part of the state that no write changes
pub record Kept : Type 0 where
  pub config : Config
  pub nodes : ℕ
  pub buckets : ℕ
  pub chosen : ℕ
  pub task : List Task

abbrev pub kept : State → Kept
kept s = record { config = s.config; nodes = s.nodes; buckets = s.buckets; chosen = s.chosen; task = s.task }

-- one maker: that part is the same, and so are the pools' lengths
pub same_but : (y z : Machine) → kept z.state ≡ kept y.state → length z.nodes ≡ length y.nodes → length z.buckets ≡ length y.buckets
    → SameState y z
same_but y z e n b = record {
  config≡ = ap (λ (k : Kept). k.config) e;
  H≡ = ap (λ (k : Kept). k.nodes) e;
  B≡ = ap (λ (k : Kept). k.buckets) e;
  chosen≡ = ap (λ (k : Kept). k.chosen) e;
  task≡ = ap (λ (k : Kept). k.task) e;
  nodes_length≡ = n;
  buckets_length≡ = b;
}

pub record AfterHead (y : Machine) (k : ℕ) (z : Machine) : Type 0 where
  pub same : SameState y z
  pub head≡ : z.state.head ≡ k
  pub last_node≡ : z.state.last_node ≡ y.state.last_node
  pub last_bucket≡ : z.state.last_bucket ≡ y.state.last_bucket
  pub nodes≡ : z.nodes ≡ y.nodes
  pub buckets≡ : z.buckets ≡ y.buckets

pub record AfterPlace (y : Machine) (k i l : ℕ) (z : Machine) : Type 0 where
  pub same : SameState y z
  pub state≡ : z.state ≡ y.state
  pub buckets≡ : z.buckets ≡ y.buckets
  pub size≡ : (j : ℕ) → size z.nodes j ≡ size y.nodes j
  pub pred≡ : (j : ℕ) → pred z.nodes j ≡ pred y.nodes j
  pub place_at : (j a : ℕ) → a < 32 → At ((j ≡ k) × (a ≡ i)) l (place y.nodes j a) (place z.nodes j a)

pub record AfterPred (y : Machine) (k : ℕ) (z : Machine) : Type 0 where
  pub same : SameState y z
  pub state≡ : z.state ≡ y.state
  pub buckets≡ : z.buckets ≡ y.buckets
  pub size≡ : (j : ℕ) → size z.nodes j ≡ size y.nodes j
  pub pred_at : (j : ℕ) → At (j ≡ k) 0 (pred y.nodes j) (pred z.nodes j)
  pub place≡ : (j a : ℕ) → a < 32 → place z.nodes j a ≡ place y.nodes j a

pub record AfterNode (y : Machine) (k sz p : ℕ) (z : Machine) : Type 0 where
  pub same : SameState y z
  pub head≡ : z.state.head ≡ y.state.head
  pub last_node≡ : z.state.last_node ≡ k
  pub last_bucket≡ : z.state.last_bucket ≡ y.state.last_bucket
  pub buckets≡ : z.buckets ≡ y.buckets
  pub size_at : (j : ℕ) → At (j ≡ k) sz (size y.nodes j) (size z.nodes j)
  pub pred_at : (j : ℕ) → At (j ≡ k) p (pred y.nodes j) (pred z.nodes j)
  pub place_at : (j a : ℕ) → a < 32 → At (j ≡ k) 0 (place y.nodes j a) (place z.nodes j a)

-- the words after the tags too: word_at, with an index below 64 past the two first words
pub record AfterFreeze (y : Machine) (k : ℕ) (z : Machine) : Type 0 where
  pub same : SameState y z
  pub state≡ : z.state ≡ y.state
  pub nodes≡ : z.nodes ≡ y.nodes
  pub changeable_at : (j : ℕ) → At (j ≡ k) 0 (changeable y.buckets j) (changeable z.buckets j)
  pub count≡ : (j : ℕ) → count z.buckets j ≡ count y.buckets j
  pub tags≡ : (j : ℕ) → count y.buckets j ≤ 64 → tags z.buckets j ≡ tags y.buckets j
  pub word≡ : (j a : ℕ) → a < 64 → get_or z.buckets (66 * j + 2 + a) 0 ≡ get_or y.buckets (66 * j + 2 + a) 0

-- of put_tags and new_bucket alike
pub record AfterBucket (y : Machine) (k : ℕ) (ks : List ℕ) (z : Machine) : Type 0 where
  pub same : SameState y z
  pub head≡ : z.state.head ≡ y.state.head
  pub last_node≡ : z.state.last_node ≡ y.state.last_node
  pub nodes≡ : z.nodes ≡ y.nodes
  pub changeable_at : (j : ℕ) → At (j ≡ k) 1 (changeable y.buckets j) (changeable z.buckets j)
  pub count_at : (j : ℕ) → At (j ≡ k) (length ks) (count y.buckets j) (count z.buckets j)
  pub tags_at : (j : ℕ) → count y.buckets j ≤ 64 → At (j ≡ k) ks (tags y.buckets j) (tags z.buckets j)
  pub tags_same : tags z.buckets k ≡ ks
  pub word_at : (j a : ℕ) → a < 64 → At (j ≡ k) (get_or ks a 0) (get_or y.buckets (66 * j + 2 + a) 0) (get_or z.buckets (66 * j + 2 + a) 0)

-- ---- on the machine

-- no write changes that part, in whatever machine
pub apply_kept : (w : Write) (y : Machine) → kept (apply w y).state ≡ kept y.state
unfolding apply with_state with_head with_nodes with_buckets with_last_node with_last_bucket state_head state_last_node state_last_bucket
apply_kept nothing y = refl
apply_kept (set_head k) y = refl
apply_kept (set_place k i l) y = refl
apply_kept (clear_pred k) y = refl
apply_kept (freeze k) y = refl
apply_kept (put_tags k ks) y = refl
apply_kept (new_node k sz p) y = refl
apply_kept (new_bucket k ks) y = refl

pub apply_task : (w : Write) (y : Machine) → (apply w y).state.task ≡ y.state.task
apply_task w y = ap (λ (k : Kept). k.task) (apply_kept w y)

module _ (y : Machine) where
  pub after_head : (k : ℕ) → AfterHead y k (apply (set_head k) y)
  unfolding apply with_head with_state state_head
  after_head k = record {
    same = same_but _ _ refl refl refl;
    head≡ = refl;
    last_node≡ = refl;
    last_bucket≡ = refl;
    nodes≡ = refl;
    buckets≡ = refl;
  }

  module _ (fits : length y.nodes ≡ 34 * node_count y) (k : ℕ) (in_range : k < node_count y) where
    pub after_place : (i l : ℕ) → i < 32 → AfterPlace y k i l (apply (set_place k i l) y)
    unfolding apply with_nodes
    after_place i l h = record {
      same = same_but _ _ refl (length-set y.nodes (34 * k + 2 + i) l) refl;
      state≡ = refl;
      buckets≡ = refl;
      size≡ = sp_size y.nodes (node_count y) fits k in_range i l h;
      pred≡ = sp_pred y.nodes (node_count y) fits k in_range i l h;
      place_at = sp_place y.nodes (node_count y) fits k in_range i l h;
    }

    pub after_pred : AfterPred y k (apply (clear_pred k) y)
    unfolding apply with_nodes
    after_pred = record {
      same = same_but _ _ refl (length-set y.nodes (34 * k + 1) 0) refl;
      state≡ = refl;
      buckets≡ = refl;
      size≡ = cp_size y.nodes (node_count y) fits k in_range;
      pred_at = cp_pred y.nodes (node_count y) fits k in_range;
      place≡ = cp_place y.nodes (node_count y) fits k in_range;
    }

    pub after_node : (sz p : ℕ) → AfterNode y k sz p (apply (new_node k sz p) y)
    unfolding apply with_nodes with_last_node with_state state_last_node
    after_node sz p = record {
      same = same_but _ _ refl (nn_length y.nodes (node_count y) fits k in_range sz p) refl;
      head≡ = refl;
      last_node≡ = refl;
      last_bucket≡ = refl;
      buckets≡ = refl;
      size_at = nn_size y.nodes (node_count y) fits k in_range sz p;
      pred_at = nn_pred y.nodes (node_count y) fits k in_range sz p;
      place_at = nn_place y.nodes (node_count y) fits k in_range sz p;
    }

  module _ (fits : length y.buckets ≡ 66 * bucket_count y) (k : ℕ) (in_range : k < bucket_count y) where
    pub after_freeze : AfterFreeze y k (apply (freeze k) y)
    unfolding apply with_buckets
    after_freeze = record {
      same = same_but _ _ refl refl (length-set y.buckets (66 * k) 0);
      state≡ = refl;
      nodes≡ = refl;
      changeable_at = fr_changeable y.buckets (bucket_count y) fits k in_range;
      count≡ = fr_count y.buckets (bucket_count y) fits k in_range;
      tags≡ = fr_tags y.buckets (bucket_count y) fits k in_range;
      word≡ = fr_word y.buckets (bucket_count y) fits k in_range;
    }

    pub after_put : (ks : List ℕ) → length ks ≤ 64 → AfterBucket y k ks (apply (put_tags k ks) y)
    unfolding apply with_buckets
    after_put ks h = record {
      same = same_but _ _ refl refl (bk_length y.buckets (bucket_count y) fits k in_range ks h);
      head≡ = refl;
      last_node≡ = refl;
      nodes≡ = refl;
      changeable_at = bk_changeable y.buckets (bucket_count y) fits k in_range ks h;
      count_at = bk_count y.buckets (bucket_count y) fits k in_range ks h;
      tags_at = bk_tags y.buckets (bucket_count y) fits k in_range ks h;
      tags_same = bk_same y.buckets (bucket_count y) fits k in_range ks h;
      word_at = bk_words y.buckets (bucket_count y) fits k in_range ks h;
    }

    pub after_bucket : (ks : List ℕ) → length ks ≤ 64 → AfterBucket y k ks (apply (new_bucket k ks) y)
    unfolding apply with_buckets with_last_bucket with_state state_last_bucket
    after_bucket ks h = record {
      same = same_but _ _ refl refl (bk_length y.buckets (bucket_count y) fits k in_range ks h);
      head≡ = refl;
      last_node≡ = refl;
      nodes≡ = refl;
      changeable_at = bk_changeable y.buckets (bucket_count y) fits k in_range ks h;
      count_at = bk_count y.buckets (bucket_count y) fits k in_range ks h;
      tags_at = bk_tags y.buckets (bucket_count y) fits k in_range ks h;
      tags_same = bk_same y.buckets (bucket_count y) fits k in_range ks h;
      word_at = bk_words y.buckets (bucket_count y) fits k in_range ks h;
    }

  pub after_put_state : (k : ℕ) (ks : List ℕ) → (apply (put_tags k ks) y).state ≡ y.state
  unfolding apply with_buckets
  after_put_state k ks = refl

  pub after_bucket_last : (k : ℕ) (ks : List ℕ) → (apply (new_bucket k ks) y).state.last_bucket ≡ k
  unfolding apply with_buckets with_last_bucket with_state state_last_bucket
  after_bucket_last k ks = refl

-- ---- a task's record
pub record AfterTask (y : Machine) (k : ℕ) (c : Task) (z : Machine) : Type 0 where
  pub config≡ : z.state.config ≡ y.state.config
  pub H≡ : node_count z ≡ node_count y
  pub B≡ : bucket_count z ≡ bucket_count y
  pub head≡ : z.state.head ≡ y.state.head
  pub last_node≡ : z.state.last_node ≡ y.state.last_node
  pub last_bucket≡ : z.state.last_bucket ≡ y.state.last_bucket
  pub nodes≡ : z.nodes ≡ y.nodes
  pub buckets≡ : z.buckets ≡ y.buckets
  pub length≡ : length z.state.task ≡ length y.state.task
  pub task_at : (j : ℕ) → At ((j ≡ k) × (k < length y.state.task)) c (task_of y j) (task_of z j)

pub after_task : (y : Machine) (k : ℕ) (c : Task) → AfterTask y k c (set_task k c y)
unfolding set_task with_task with_state state_task task_of
after_task y k c = record {
  config≡ = refl;
  H≡ = refl;
  B≡ = refl;
  head≡ = refl;
  last_node≡ = refl;
  last_bucket≡ = refl;
  nodes≡ = refl;
  buckets≡ = refl;
  length≡ = length-set y.state.task k c;
  task_at = λ j. go j (ℕ_discrete j k) (dec_lt k (length y.state.task));
}
  where
    go : (j : ℕ) → Dec (j ≡ k) → Dec (k < length y.state.task)
        → At ((j ≡ k) × (k < length y.state.task)) c (get_or y.state.task j idle) (get_or (set y.state.task k c) j idle)
    go j (no n) d = miss (λ p. n p.0) (get_or-set_other y.state.task k j c idle n)
    go j (yes p) (yes h) = hit (p, h) (ap (λ (n : ℕ). get_or (set y.state.task k c) n idle) p ∙ get_or-set_same y.state.task k c idle h)
    go j (yes p) (no n) = miss (λ q. n q.1) (ap (λ (l : List Task). get_or l j idle) (set_out y.state.task k c (omega arith)))
