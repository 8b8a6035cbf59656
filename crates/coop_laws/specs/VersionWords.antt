-- What a version's words read after a write: its first word set, or the version taken. A version that is taken has the words of a bucket
-- with these tags, but for a first word of 0. Assumes nothing.
use Rattle.std.specs.Prelude.{◌*◌, ◌+◌, ◌-◌, ◌<◌, ◌≤◌, ℕ, List, [], ◌∷◌, ◌++◌, ◌≡◌, refl, drop, get_or, take}
use Rattle.std.proofs.Common.{◌∙◌, arith, length-set, get_or-set_same}
use Rattle.std.proofs.Math.Path.{ap, sym}
use Rattle.std.proofs.Math.ListN.{length, length-take, replicate, set}
use Rattle.std.proofs.Math.Seq.{get_or-set_other}
use Rattle.spec.specs.Words.{bucket_of, changeable, count, overwrite, tags}
use Rattle.laws.specs.Overwrite.{same_part}
use Rattle.laws.specs.Tests.{At, at_hit, hit, miss}
use Rattle.laws.specs.BucketWords as bucket

module _ (w : List ℕ) (k m : ℕ) (fits : 66 * k < length w) where
  pub first_same : get_or (set w (66 * k) m) (66 * k) 0 ≡ m
  first_same = get_or-set_same w (66 * k) m 0 fits

  pub first_other : (j : ℕ) → ¬ (j ≡ k) → get_or (set w (66 * k) m) (66 * j) 0 ≡ get_or w (66 * j) 0
  first_other j d = get_or-set_other w (66 * k) (66 * j) m 0 (λ q. d (omega arith))

  pub first_count : (j : ℕ) → count (set w (66 * k) m) j ≡ count w j
  unfolding count
  first_count j = get_or-set_other w (66 * k) (66 * j + 1) m 0 (λ q. absurd (omega arith))

  pub first_words : (j a : ℕ) → a < 64 → get_or (set w (66 * k) m) (66 * j + 2 + a) 0 ≡ get_or w (66 * j + 2 + a) 0
  first_words j a b = get_or-set_other w (66 * k) (66 * j + 2 + a) m 0 (λ q. absurd (omega arith))

  pub first_tags : (j : ℕ) → count w j ≤ 64 → tags (set w (66 * k) m) j ≡ tags w j
  unfolding tags
  first_tags j b =
      rw (first_count j) (same_part (set w (66 * k) m) w (66 * j + 2) (count w j) (length-set w (66 * k) m)
      (λ a h. first_words j a (omega arith)))

-- the element after xs
set_after : (xs ys zs : List ℕ) (a b : ℕ) → set (xs ++ a ∷ ys ++ zs) (length xs) b ≡ xs ++ b ∷ ys ++ zs
set_after [] ys zs a b = refl
set_after (x ∷ xs) ys zs a b = ap (λ (l : List ℕ). x ∷ l) (set_after xs ys zs a b)

module _ (w : List ℕ) (B : ℕ) (fits : length w ≡ 66 * B) (k : ℕ) (below : k < B) (ks : List ℕ) (few : length ks ≤ 64) where
  -- the pool with a changeable bucket of these tags, and with a version of them
  abbrev with_bucket : List ℕ
  with_bucket = overwrite w (66 * k) (bucket_of 1 ks)

  abbrev with_version : List ℕ
  with_version = overwrite w (66 * k) (bucket_of 0 ks)

  first_zeroed : with_version ≡ set with_bucket (66 * k) 0
  unfolding overwrite bucket_of
  first_zeroed =
      let e : length (take (66 * k) w) ≡ 66 * k = rw length-take (omega arith) in
      sym (set_after (take (66 * k) w) (length ks ∷ ks ++ replicate (64 - length ks) 0) (drop (66 * k + length (bucket_of 1 ks)) w) 1 0)
      ∙ ap (λ (i : ℕ). set with_bucket i 0) e

  bucket_long : length with_bucket ≡ 66 * B
  bucket_long = bucket.bk_length w B fits k below ks few ∙ fits

  pub new_length : length with_version ≡ length w
  new_length = ap length first_zeroed ∙ length-set with_bucket (66 * k) 0 ∙ bucket.bk_length w B fits k below ks few

  pub new_first : (j : ℕ) → At (j ≡ k) 0 (get_or w (66 * j) 0) (get_or with_version (66 * j) 0)
  unfolding changeable
  new_first j = go (bucket.bk_changeable w B fits k below ks few j) (bucket.fr_changeable with_bucket B bucket_long k below j)
    where
      go : At (j ≡ k) 1 (get_or w (66 * j) 0) (get_or with_bucket (66 * j) 0)
          → At (j ≡ k) 0 (get_or with_bucket (66 * j) 0) (get_or (set with_bucket (66 * k) 0) (66 * j) 0)
          → At (j ≡ k) 0 (get_or w (66 * j) 0) (get_or with_version (66 * j) 0)
      go a (hit e f) = hit e (rw first_zeroed f)
      go (hit e f) (miss d g) = absurd (d e)
      go (miss d f) (miss _ g) = miss d (rw first_zeroed (g ∙ f))

  pub new_count : (j : ℕ) → At (j ≡ k) (length ks) (count w j) (count with_version j)
  new_count j = rw (first_zeroed, bucket.fr_count with_bucket B bucket_long k below j) (bucket.bk_count w B fits k below ks few j)

  pub new_words : (j a : ℕ) → a < 64 → At (j ≡ k) (get_or ks a 0) (get_or w (66 * j + 2 + a) 0) (get_or with_version (66 * j + 2 + a) 0)
  new_words j a h = rw (first_zeroed, bucket.fr_word with_bucket B bucket_long k below j a h) (bucket.bk_words w B fits k below ks few j a h)

  pub new_tags : (j : ℕ) → count w j ≤ 64 → At (j ≡ k) ks (tags w j) (tags with_version j)
  new_tags j h =
      rw (first_zeroed, bucket.fr_tags with_bucket B bucket_long k below j (counted (bucket.bk_count w B fits k below ks few j)))
      (bucket.bk_tags w B fits k below ks few j h)
    where
      counted : At (j ≡ k) (length ks) (count w j) (count with_bucket j) → count with_bucket j ≤ 64
      counted (hit e f) = rw f few
      counted (miss d f) = rw f h

  pub new_same : tags with_version k ≡ ks
  new_same =
      let e : count with_bucket k ≡ length ks = at_hit refl (bucket.bk_count w B fits k below ks few k) in
      rw (first_zeroed, bucket.fr_tags with_bucket B bucket_long k below k (rw e few)) (bucket.bk_same w B fits k below ks few)
