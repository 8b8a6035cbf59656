-- Laws of the tags that a new bucket takes over from one bucket or from two.
-- Assumes nothing.
use Rattle.std.specs.Prelude.{Option, Some, None}
use mathlib.Core.Path.{◌≡◌, sym, ap, ◌∙◌}
use mathlib.Core.List.{List, [], ◌∷◌, ◌++◌, append-nil}
use mathlib.Core.Bool.{Bool, true, false}
use Prim.Native.Nat.{ℕ, suc, ◌+◌, ◌<◌, ◌≤◌}
use native.Mathlib.Numerals.{add-one}
use borrow.Author.Tests.{le-leb, lt-leb}
use lib.ListN.{length, get_or, drop, set, drop_of_length-le}
use lib.Seq.{drop-cons, append_snoc}
use Rattle.spec.specs.Lists.{filter, union}
use Rattle.spec.specs.Words.{bucket_of}
use Rattle.bucket.specs.declared.Bucket.{Bucket}
use Rattle.bucket.specs.Bucket.{tags_in}
use Rattle.bucket.proofs.Pad.{padded, words_bucket}
use Rattle.bucket_copies.specs.Copies.{joined}

-- ---- the filter

module _ (f : ℕ → Bool) (ts acc : List ℕ) (j t : ℕ) (h : j < length ts) (e : get_or ts j 0 ≡ t) where
  pub filter_yes : f t ≡ true → acc ++ filter f (drop j ts) ≡ (acc ++ (t ∷ [])) ++ filter f (drop (j + 1) ts)
  unfolding filter
  filter_yes y = rw (add-one, drop-cons ts j 0 h, e, y) (sym (append_snoc acc t (filter f (drop (suc j) ts))))

  pub filter_no : f t ≡ false → acc ++ filter f (drop j ts) ≡ acc ++ filter f (drop (j + 1) ts)
  unfolding filter
  filter_no n = rw (add-one, drop-cons ts j 0 h, e, n)

pub filter_end : (f : ℕ → Bool) (ts acc : List ℕ) (j : ℕ) → length ts ≤ j → acc ++ filter f (drop j ts) ≡ acc
unfolding filter
filter_end f ts acc j h = rw (drop_of_length-le ts h) (append-nil acc)

-- the count goes in last
pub counted : (acc out : List ℕ) (n : ℕ) → out ≡ padded (1 ∷ 0 ∷ acc) → length acc ≡ n → set out 1 n ≡ bucket_of 1 acc
unfolding padded
counted acc out n e l = rw (e, ← l) (words_bucket 1 acc)

-- ---- the union

-- the bucket of these words
abbrev new : List ℕ → Option Bucket
new w = Some (record { words = w })

pub is_full : (a b : Bucket) → 64 < length (union (tags_in a.words) (tags_in b.words)) → None ≡ joined a b
unfolding joined
is_full a b l = rw (lt-leb _ _ l)

pub is_union : (a b : Bucket) (w acc : List ℕ) → length acc ≤ 64 → acc ≡ union (tags_in a.words) (tags_in b.words) → w ≡ bucket_of 1 acc
    → new w ≡ joined a b
unfolding joined
is_union a b w acc few e words =
    let h : length (union (tags_in a.words) (tags_in b.words)) ≤ 64 = rw e at few in
    rw (le-leb _ _ h) (ap new (words ∙ ap (λ (t : List ℕ). bucket_of 1 t) e))
