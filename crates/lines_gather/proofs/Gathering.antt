-- The bucket that line 49 makes, from one or from two.
-- Assumes nothing.
use Rattle.std.specs.Prelude.{if◌then◌else◌, Some, None}
use mathlib.Core.Path.{◌≡◌, refl}
use mathlib.Core.List.{List, [], ◌∷◌}
use mathlib.Core.Bool.{Bool, true, false}
use Prim.Native.Nat.{ℕ, suc, ◌+◌, ◌*◌, ◌≤◌}
use native.Mathlib.Omega.{arith}
use borrow.Author.Tests.{leb-true, leb-false}
use lib.Dec.{leb}
use lib.ListN.{length, drop, length-take}
use Rattle.spec.specs.Lists.{filter, union}
use Rattle.spec.specs.Words.{tags, count, bucket_of}
use Rattle.spec.specs.Sound.{sound_bucket}
use Rattle.bucket.specs.declared.Bucket.{Bucket}
use Rattle.bucket.specs.Bucket.{tags_in}
use Rattle.bucket_copies.specs.Copies.{joined}
use Rattle.pool.proofs.At.{few}
use Rattle.lines_gather.specs.Made.{Makes}

pub length_filter : (f : ℕ → Bool) (xs : List ℕ) → length (filter f xs) ≤ length xs
unfolding filter
length_filter f [] = omega arith
length_filter f (x ∷ xs) = go (f x) (length_filter f xs)
  where
    go : (b : Bool) → length (filter f xs) ≤ length xs → length (if b then (x ∷ filter f xs) else filter f xs) ≤ suc (length xs)
    go true h = omega arith
    go false h = omega arith

pub few_tags : (w : List ℕ) (k : ℕ) → sound_bucket (drop (66 * k) w) ≡ true → length (tags w k) ≤ 64
unfolding tags
few_tags w k s = rw (length-take (count w k) (drop (66 * k + 2) w)) (omega (arith, few w k s))

-- from one bucket, and from two
pub makes_one : (b : Bucket) (ts : List ℕ) → length ts ≤ 64 → b.words ≡ bucket_of 1 ts → Makes (Some b) ts
makes_one b ts l e = (l, e)

pub makes_two : (a b : Bucket) → Makes (joined a b) (union (tags_in a.words) (tags_in b.words))
unfolding joined
makes_two a b = go (leb (length (union (tags_in a.words) (tags_in b.words))) 64) refl
  where
    both : List ℕ
    both = union (tags_in a.words) (tags_in b.words)

    go : (t : Bool) → leb (length both) 64 ≡ t → Makes (if t then Some (record { words = bucket_of 1 both }) else None) both
    go true p = (leb-true _ _ p, refl)
    go false p = leb-false _ _ p
