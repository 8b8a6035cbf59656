-- What line 49 makes: a bucket of at most 64 tags, or none.
-- Assumes nothing.
use Rattle.std.specs.Prelude.{ℕ, ◌<◌, ◌≤◌, ◌≡◌, List, length, Option, Some, None}
use Rattle.spec.specs.Words.{bucket_of}
use Rattle.bucket.specs.declared.Bucket.{Bucket}

-- of these tags none, being more than 64, or the changeable bucket of them
abbrev pub Makes : Option Bucket → List ℕ → Type 0
Makes None ts = 64 < length ts
Makes (Some b) ts = (length ts ≤ 64) × (b.words ≡ bucket_of 1 ts)
