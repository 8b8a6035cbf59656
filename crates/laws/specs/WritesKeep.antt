-- Each write whose arguments are in order keeps memory sound. Assumes nothing.
use Rattle.std.specs.Prelude.{ℕ, ◌+◌, ◌*◌, ◌≤◌, ◌<◌, ◌≡◌, List, length, get_or}
use Rattle.std.proofs.Math.Path.{refl}
use Rattle.std.proofs.Common.{sym, ap, subst, ◌∙◌, arith}
use Rattle.std.proofs.Math.Decide.{ℕ_discrete}
use Rattle.std.proofs.Math.ListN.{get_or-eq_default}
use Rattle.spec.specs.Machine.{Machine}
use Rattle.spec.specs.Words.{size, pred, place, changeable, count, tags, Write, nothing, set_head, set_place, clear_pred, freeze, put_tags, new_node}
use Rattle.spec.specs.Words.{new_bucket, apply}
use Rattle.spec.specs.Sound.{node_count, bucket_count}
use Rattle.laws.specs.Tests.{At as Seen, hit, miss, at_hit, at_miss}
use Rattle.laws.specs.SoundFacts.{NodeLink, NodeFacts, BucketFacts, SoundFacts}
use Rattle.laws.specs.Sizes.{used, ListedSize, is_listed, listed_low, size_most}
use Rattle.laws.specs.AfterWrites.{SameState, same_but, AfterHead, AfterPlace, AfterPred, AfterNode, AfterFreeze, AfterBucket, after_head}
use Rattle.laws.specs.AfterWrites.{after_place, after_pred, after_node, after_freeze, after_put, after_put_state, after_bucket, after_bucket_last}
use Rattle.laws.specs.Ascending.{Rising, rising_ascending}
use Rattle.laws.specs.KeptFacts.{node_kept, bucket_kept, rebuilt, link_kept}

-- ---- the writes

-- a write that a sound machine can take
pub data WriteSound (y : Machine) : Write → Type 0 where
  sound_nothing : WriteSound y nothing
  sound_head : {k : ℕ} → k < node_count y → ¬ (size y.nodes k ≡ 0) → WriteSound y (set_head k)
  sound_place : {k i l : ℕ} → k < node_count y → i < size y.nodes k → l ≤ bucket_count y → WriteSound y (set_place k i l)
  sound_pred : {k : ℕ} → k < node_count y → WriteSound y (clear_pred k)
  sound_freeze : {k : ℕ} → k < bucket_count y → WriteSound y (freeze k)
  sound_put : {k : ℕ} {ks : List ℕ} → k < bucket_count y → length ks ≤ 64 → Rising ks → WriteSound y (put_tags k ks)
  sound_new_node : {k sz p : ℕ} → k < node_count y → ListedSize sz → NodeLink y p → WriteSound y (new_node k sz p)
  sound_new_bucket : {k : ℕ} {ks : List ℕ} → k < bucket_count y → length ks ≤ 64 → Rising ks → WriteSound y (new_bucket k ks)

pub record Keeps (y z : Machine) : Type 0 where
  pub same : SameState y z
  pub sized : (j : ℕ) → ¬ (size y.nodes j ≡ 0) → ¬ (size z.nodes j ≡ 0)
  pub sound : SoundFacts z

-- the node pool as it was
module _ (y z : Machine) (same : SameState y z) (e : z.nodes ≡ y.nodes) where
  same_sized : (j : ℕ) → ¬ (size y.nodes j ≡ 0) → ¬ (size z.nodes j ≡ 0)
  same_sized j d q = d (ap (λ (w : List ℕ). size w j) (sym e) ∙ q)

  same_node : (k : ℕ) → NodeFacts y k → NodeFacts z k
  same_node k g =
      node_kept y z same same_sized k (ap (λ (w : List ℕ). size w k) e) (ap (λ (w : List ℕ). pred w k) e) (λ i h. ap (λ (w : List ℕ). place w k i) e) g

module _ (y z : Machine) (same : SameState y z) (sized : (j : ℕ) → ¬ (size y.nodes j ≡ 0) → ¬ (size z.nodes j ≡ 0)) (e : z.buckets ≡ y.buckets) where
  same_bucket : (k : ℕ) → BucketFacts y k → BucketFacts z k
  same_bucket k g = bucket_kept y z same sized k (subst (λ (w : List ℕ). changeable w k ≤ 1) (sym e) g.flag) (ap (λ (w : List ℕ). count w k) e)
      (λ h. ap (λ (w : List ℕ). tags w k) e) (λ i h. ap (λ (w : List ℕ). get_or w (66 * k + 2 + i) 0) e) g

module _ (y : Machine) (f : SoundFacts y) where
  keeps_head : (k : ℕ) (z : Machine) → AfterHead y k z → k < node_count y → ¬ (size y.nodes k ≡ 0) → Keeps y z
  keeps_head k z a h d =
      let sized = same_sized y z a.same a.nodes≡ in
      record {
        same = a.same;
        sized = sized;
        sound =
            rebuilt y z a.same sized f (rw a.head≡ h) (rw a.last_node≡ f.last_node) (rw a.last_bucket≡ f.last_bucket)
            (sized z.state.head (rw a.head≡ d))
            (λ j q. same_node y z a.same a.nodes≡ j (f.node j q)) (λ j q. same_bucket y z a.same sized a.buckets≡ j (f.bucket j q));
      }

  -- head and last taken as they were
  keeps_state : (z : Machine) (same : SameState y z) (sized : (j : ℕ) → ¬ (size y.nodes j ≡ 0) → ¬ (size z.nodes j ≡ 0)) → z.state ≡ y.state
      → ((k : ℕ) → k < node_count y → NodeFacts z k) → ((k : ℕ) → k < bucket_count y → BucketFacts z k) → Keeps y z
  keeps_state z same sized e ns bs =
      let h : z.state.head ≡ y.state.head = ap (λ s. s.head) e in
      let ln : z.state.last_node ≡ y.state.last_node = ap (λ s. s.last_node) e in
      let lb : z.state.last_bucket ≡ y.state.last_bucket = ap (λ s. s.last_bucket) e in
      record {
        same = same;
        sized = sized;
        sound = rebuilt y z same sized f (rw h f.head) (rw ln f.last_node) (rw lb f.last_bucket) (sized z.state.head (rw h f.head_sized)) ns bs;
      }

  keeps_place : (k i l : ℕ) (z : Machine) → AfterPlace y k i l z → k < node_count y → i < size y.nodes k → l ≤ bucket_count y → Keeps y z
  keeps_place k i l z a h q low-l = keeps_state z a.same sized a.state≡ nodes (λ j p. same_bucket y z a.same sized a.buckets≡ j (f.bucket j p))
    where
      sized : (j : ℕ) → ¬ (size y.nodes j ≡ 0) → ¬ (size z.nodes j ≡ 0)
      sized j d e = d (sym (a.size≡ j) ∙ e)

      nodes : (j : ℕ) → j < node_count y → NodeFacts z j
      nodes j p = record {
        size_ok = rw (a.size≡ j) (f.node j p).size_ok;
        pred_ok = rw (a.pred≡ j) (link_kept y z a.same sized (pred y.nodes j) (f.node j p).pred_ok);
        place_ok = λ b t. ok b t (a.place_at j b t);
        past = λ b u t. off b (rw (a.size≡ j) at u) t (a.place_at j b t);
      }
        where
          ok : (b : ℕ) → b < 32 → Seen ((j ≡ k) × (b ≡ i)) l (place y.nodes j b) (place z.nodes j b) → place z.nodes j b ≤ bucket_count z
          ok b t (hit g e) = rw (e, a.same.B≡) low-l
          ok b t (miss g e) = rw (e, a.same.B≡) ((f.node j p).place_ok b t)

          off : (b : ℕ) → size y.nodes j ≤ b → b < 32 → Seen ((j ≡ k) × (b ≡ i)) l (place y.nodes j b) (place z.nodes j b) → place z.nodes j b ≡ 0
          off b u t (hit g e) = let r : size y.nodes k ≤ b = rw g.0 at u in let x = g.1 in absurd (omega arith)
          off b u t (miss g e) = e ∙ (f.node j p).past b u t

  keeps_pred : (k : ℕ) (z : Machine) → AfterPred y k z → Keeps y z
  keeps_pred k z a = keeps_state z a.same sized a.state≡ nodes (λ j p. same_bucket y z a.same sized a.buckets≡ j (f.bucket j p))
    where
      sized : (j : ℕ) → ¬ (size y.nodes j ≡ 0) → ¬ (size z.nodes j ≡ 0)
      sized j d e = d (sym (a.size≡ j) ∙ e)

      nodes : (j : ℕ) → j < node_count y → NodeFacts z j
      nodes j p = go (a.pred_at j)
        where
          go : Seen (j ≡ k) 0 (pred y.nodes j) (pred z.nodes j) → NodeFacts z j
          go (miss n e) = node_kept y z a.same sized j (a.size≡ j) e (a.place≡ j) (f.node j p)
          go (hit q e) = record {
            size_ok = rw (a.size≡ j) (f.node j p).size_ok;
            pred_ok = rw e (record { within = omega arith; sized = λ d. absurd (d refl) });
            place_ok = λ i h. rw (a.place≡ j i h, a.same.B≡) ((f.node j p).place_ok i h);
            past = λ i u h. a.place≡ j i h ∙ (f.node j p).past i (rw (a.size≡ j) at u) h;
          }

  keeps_freeze : (k : ℕ) (z : Machine) → AfterFreeze y k z → Keeps y z
  keeps_freeze k z a = keeps_state z a.same sized a.state≡ (λ j p. same_node y z a.same a.nodes≡ j (f.node j p)) buckets
    where
      sized : (j : ℕ) → ¬ (size y.nodes j ≡ 0) → ¬ (size z.nodes j ≡ 0)
      sized = same_sized y z a.same a.nodes≡

      flag : (j : ℕ) → changeable y.buckets j ≤ 1 → Seen (j ≡ k) 0 (changeable y.buckets j) (changeable z.buckets j) → changeable z.buckets j ≤ 1
      flag j h (hit q e) = omega arith
      flag j h (miss n e) = omega arith

      buckets : (j : ℕ) → j < bucket_count y → BucketFacts z j
      buckets j p =
          bucket_kept y z a.same sized j (flag j (f.bucket j p).flag (a.changeable_at j)) (a.count≡ j) (a.tags≡ j) (a.word≡ j) (f.bucket j p)

  buckets_put : (k : ℕ) (ks : List ℕ) (z : Machine) → AfterBucket y k ks z → length ks ≤ 64 → Rising ks → (j : ℕ) → j < bucket_count y → BucketFacts z j
  buckets_put k ks z a few up j p = go (ℕ_discrete j k)
    where
      sized : (j : ℕ) → ¬ (size y.nodes j ≡ 0) → ¬ (size z.nodes j ≡ 0)
      sized = same_sized y z a.same a.nodes≡

      go : Dec (j ≡ k) → BucketFacts z j
      go (no n) = bucket_kept y z a.same sized j (rw (at_miss n (a.changeable_at j)) (f.bucket j p).flag) (at_miss n (a.count_at j))
          (λ h. at_miss n (a.tags_at j h))
          (λ i h. at_miss n (a.word_at j i h)) (f.bucket j p)
      go (yes q) =
          let t : tags z.buckets j ≡ ks = at_hit q (a.tags_at j (f.bucket j p).few) in
          let c : count z.buckets j ≡ length ks = at_hit q (a.count_at j) in
          let g = at_hit q (a.changeable_at j) in
          record {
            flag = omega arith;
            few = rw c few;
            long = rw (t, c);
            rising = rw t (rising_ascending ks up);
            after = λ i u h. at_hit q (a.word_at j i h) ∙ get_or-eq_default ks 0 (rw c at u);
          }

  keeps_put : (k : ℕ) (ks : List ℕ) (z : Machine) → AfterBucket y k ks z → length ks ≤ 64 → Rising ks → z.state.last_bucket < bucket_count y → Keeps y z
  keeps_put k ks z a few up lb =
      let sized = same_sized y z a.same a.nodes≡ in
      record {
        same = a.same;
        sized = sized;
        sound = rebuilt y z a.same sized f (rw a.head≡ f.head) (rw a.last_node≡ f.last_node) lb
            (sized z.state.head (rw a.head≡ f.head_sized))
            (λ j q. same_node y z a.same a.nodes≡ j (f.node j q)) (buckets_put k ks z a few up);
      }

  keeps_node : (k sz p : ℕ) (z : Machine) → AfterNode y k sz p z → k < node_count y → ListedSize sz → NodeLink y p → Keeps y z
  keeps_node k sz p z a h l g = record {
    same = a.same;
    sized = sized;
    sound =
        rebuilt y z a.same sized f (rw a.head≡ f.head) (rw a.last_node≡ h) (rw a.last_bucket≡ f.last_bucket)
        (sized z.state.head (rw a.head≡ f.head_sized))
        nodes (λ j q. same_bucket y z a.same sized a.buckets≡ j (f.bucket j q));
  }
    where
      sized : (j : ℕ) → ¬ (size y.nodes j ≡ 0) → ¬ (size z.nodes j ≡ 0)
      sized j d = go (a.size_at j)
        where
          go : Seen (j ≡ k) sz (size y.nodes j) (size z.nodes j) → ¬ (size z.nodes j ≡ 0)
          go (hit q e) u = let low = listed_low l in omega arith
          go (miss n e) u = d (sym e ∙ u)

      nodes : (j : ℕ) → j < node_count y → NodeFacts z j
      nodes j q = go (ℕ_discrete j k)
        where
          go : Dec (j ≡ k) → NodeFacts z j
          go (no n) = node_kept y z a.same sized j (at_miss n (a.size_at j)) (at_miss n (a.pred_at j)) (λ i t. at_miss n (a.place_at j i t)) (f.node j q)
          go (yes r) = record {
            size_ok = rw (at_hit r (a.size_at j)) (used (is_listed l));
            pred_ok = rw (at_hit r (a.pred_at j)) (link_kept y z a.same sized p g);
            place_ok = λ i t. rw (at_hit r (a.place_at j i t)) (omega arith);
            past = λ i u t. at_hit r (a.place_at j i t);
          }

  pub write_keeps : (w : Write) → WriteSound y w → Keeps y (apply w y)
  unfolding apply
  write_keeps nothing sound_nothing = record {
    same = same_but _ _ refl refl refl;
    sized = λ j d. d;
    sound = f;
  }
  write_keeps (set_head k) (sound_head h d) = keeps_head k _ (after_head y k) h d
  write_keeps (set_place k i l) (sound_place h q low-l) =
      let s = size_most (f.node k h).size_ok in
      keeps_place k i l _ (after_place y f.nodes_length k h i l (omega arith)) h q low-l
  write_keeps (clear_pred k) (sound_pred h) = keeps_pred k _ (after_pred y f.nodes_length k h)
  write_keeps (freeze k) (sound_freeze h) = keeps_freeze k _ (after_freeze y f.buckets_length k h)
  write_keeps (put_tags k ks) (sound_put h few up) =
      keeps_put k ks _ (after_put y f.buckets_length k h ks few) few up
      (subst (λ s. s.last_bucket < bucket_count y) (sym (after_put_state y k ks)) f.last_bucket)
  write_keeps (new_node k sz p) (sound_new_node h l g) = keeps_node k sz p _ (after_node y f.nodes_length k h sz p) h l g
  write_keeps (new_bucket k ks) (sound_new_bucket h few up) =
      keeps_put k ks _ (after_bucket y f.buckets_length k h ks few) few up (rw (after_bucket_last y k ks) h)
