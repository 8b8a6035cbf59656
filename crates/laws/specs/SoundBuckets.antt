-- The test of one bucket, and of all buckets in one pass, against the facts of each bucket by number. Assumes nothing.
use Rattle.std.specs.Prelude.{ℕ, zero, suc, ◌+◌, ◌*◌, ◌-◌, ◌≤◌, ◌<◌, ◌≡◌, refl, List, length, take, drop}
use Rattle.std.proofs.Common.{sym, ◌∙◌, arith, length-take, length-drop}
use Rattle.std.proofs.Math.Path.{ap}
use Rattle.std.proofs.Math.Bool.{true}
use borrow.Author.Tests.{leb-true, le-leb}
use Rattle.std.proofs.Math.Dec.{leb}
use Rattle.std.proofs.Math.ListN.{get_or}
use Rattle.std.proofs.Math.Seq.{get_or-drop, drop-drop}
use Rattle.spec.specs.Lists.{ascending}
use Rattle.spec.specs.Machine.{Machine}
use Rattle.spec.specs.Words.{changeable, count, tags}
use Rattle.spec.specs.Sound.{bucket_count, zeros, sound_bucket, sound_buckets}
use Rattle.laws.specs.Tests.{and_left, and_right, and_i, and4, and4_i}
use Rattle.laws.specs.Lists.{zeros_at, all_zeros}
use Rattle.laws.specs.SoundFacts.{BucketFacts}

-- ---- a bucket

module _ (y : Machine) (fits : length y.buckets ≡ 66 * bucket_count y) (k : ℕ) (in_range : k < bucket_count y) where
  unfoldable pub bucket_words : List ℕ
  bucket_words = drop (66 * k) y.buckets

  bword : (i : ℕ) → get_or bucket_words i 0 ≡ get_or y.buckets (66 * k + i) 0
  unfolding bucket_words
  bword i = get_or-drop (66 * k) y.buckets i 0

  bword_0 : get_or bucket_words 0 0 ≡ changeable y.buckets k
  unfolding changeable
  bword_0 = bword 0 ∙ ap (λ (n : ℕ). get_or y.buckets n 0) (omega arith)

  bword_1 : get_or bucket_words 1 0 ≡ count y.buckets k
  unfolding count
  bword_1 = bword 1

  bword_tags : take (get_or bucket_words 1 0) (drop 2 bucket_words) ≡ tags y.buckets k
  unfolding tags bucket_words
  bword_tags = rw (bword_1, drop-drop 2 (66 * k) y.buckets)

  bword_2 : (i : ℕ) → get_or bucket_words (2 + i) 0 ≡ get_or y.buckets (66 * k + 2 + i) 0
  bword_2 i = bword (2 + i) ∙ ap (λ (n : ℕ). get_or y.buckets n 0) (omega arith)

  tags_long : count y.buckets k ≤ 64 → length (tags y.buckets k) ≡ count y.buckets k
  unfolding tags
  tags_long h = rw (length-take, length-drop) (omega arith)

  pub bucket_facts : sound_bucket bucket_words ≡ true → BucketFacts y k
  unfolding sound_bucket
  bucket_facts e = record {
    flag = rw bword_0 at (leb-true (get_or bucket_words 0 0) 1 p.0);
    few = few;
    long = tags_long few;
    rising = rw bword_tags at p.2;
    after = λ i h g. rest i (rw (← bword_1) at h) g;
  }
    where
      p : (leb (get_or bucket_words 0 0) 1 ≡ true) × (leb (get_or bucket_words 1 0) 64 ≡ true)
          × (ascending (take (get_or bucket_words 1 0) (drop 2 bucket_words)) ≡ true)
          × (zeros (64 - get_or bucket_words 1 0) (drop (2 + get_or bucket_words 1 0) bucket_words) ≡ true)
      p = and4 _ _ _ _ e

      few : count y.buckets k ≤ 64
      few = rw bword_1 at (leb-true (get_or bucket_words 1 0) 64 p.1)

      rest : (i : ℕ) → get_or bucket_words 1 0 ≤ i → i < 64 → get_or y.buckets (66 * k + 2 + i) 0 ≡ 0
      rest i h g =
          let q = zeros_at _ _ p.3 (i - get_or bucket_words 1 0) (omega arith) in
          let r : (2 + get_or bucket_words 1 0) + (i - get_or bucket_words 1 0) ≡ 2 + i = omega arith in
          sym (bword_2 i) ∙ ap (λ (n : ℕ). get_or bucket_words n 0) (sym r) ∙ sym (get_or-drop _ bucket_words _ 0) ∙ q

  pub facts_bucket : BucketFacts y k → sound_bucket bucket_words ≡ true
  unfolding sound_bucket
  facts_bucket f = and4_i _ _ _ _ t0 t1 t2 (all_zeros _ _ rest)
    where
      t0 : leb (get_or bucket_words 0 0) 1 ≡ true
      t0 = le-leb (get_or bucket_words 0 0) 1 (rw bword_0 f.flag)

      t1 : leb (get_or bucket_words 1 0) 64 ≡ true
      t1 = le-leb (get_or bucket_words 1 0) 64 (rw bword_1 f.few)

      t2 : ascending (take (get_or bucket_words 1 0) (drop 2 bucket_words)) ≡ true
      t2 = rw bword_tags f.rising

      rest : (i : ℕ) → i < 64 - get_or bucket_words 1 0 → get_or (drop (2 + get_or bucket_words 1 0) bucket_words) i 0 ≡ 0
      rest i h =
          let r : (2 + get_or bucket_words 1 0) + i ≡ 2 + (get_or bucket_words 1 0 + i) = omega arith in
          get_or-drop _ bucket_words i 0 ∙ ap (λ (n : ℕ). get_or bucket_words n 0) r ∙ bword_2 (get_or bucket_words 1 0 + i)
          ∙ f.after (get_or bucket_words 1 0 + i) (rw bword_1 (omega arith)) (omega arith)

pub buckets_at : (n : ℕ) (w : List ℕ) → sound_buckets n w ≡ true → (k : ℕ) → k < n → sound_bucket (drop (66 * k) w) ≡ true
unfolding sound_buckets
buckets_at zero w e k h = absurd (omega arith)
buckets_at (suc n) w e zero h = and_left (sound_bucket w) (sound_buckets n (drop 66 w)) e
buckets_at (suc n) w e (suc k) h =
    let q : 66 * suc k ≡ 66 + 66 * k = omega arith in
    rw (q, ← (drop-drop (66 * k) 66 w)) (buckets_at n (drop 66 w) (and_right (sound_bucket w) (sound_buckets n (drop 66 w)) e) k (omega arith))

pub at_buckets : (n : ℕ) (w : List ℕ) → ((k : ℕ) → k < n → sound_bucket (drop (66 * k) w) ≡ true) → sound_buckets n w ≡ true
unfolding sound_buckets
at_buckets zero w h = refl
at_buckets (suc n) w h = and_i (sound_bucket w) (sound_buckets n (drop 66 w)) (h 0 (omega arith)) (at_buckets n (drop 66 w) rest)
  where
    rest : (k : ℕ) → k < n → sound_bucket (drop (66 * k) (drop 66 w)) ≡ true
    rest k p = let q : 66 * suc k ≡ 66 + 66 * k = omega arith in rw (drop-drop (66 * k) 66 w, ← q) (h (suc k) (omega arith))
