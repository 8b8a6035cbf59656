-- What split and union make of the tags of one bucket or two, for any words. Assumes nothing.
use Rattle.std.specs.Prelude.{ℕ, length, leb, eqb, if◌then◌else◌, Option, Some, None}
use Rattle.spec.specs.declared.Config.{Config}
use Rattle.spec.specs.Lists.{filter, union}
use Rattle.spec.specs.Words.{bucket_of}
use Rattle.spec.specs.Listed.{slot}
use Rattle.bucket.specs.declared.Bucket.{Bucket}
use Rattle.bucket.specs.Bucket.{tags_in}

-- the changeable bucket with both buckets' tags, where there are at most 64; else none
unfoldable pub joined : Bucket → Bucket → Option Bucket
joined a b =
    if leb (length (union (tags_in a.words) (tags_in b.words))) 64
    then Some (record { words = bucket_of 1 (union (tags_in a.words) (tags_in b.words)) })
    else None

-- the changeable bucket of the tags that belong to place i of a node of that size, in a set opened so
unfoldable pub split_of : Bucket → Config → ℕ → ℕ → Bucket
split_of b g sz i = record { words = bucket_of 1 (filter (λ k. eqb (slot g k sz) i) (tags_in b.words)) }
