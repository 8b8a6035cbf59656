-- Records of the pools by their numbers, for any words: a number past the pool names zero words, and a write there changes nothing.
-- Assumes nothing.
use Rattle.std.specs.Prelude.{List, ℕ, ◌*◌, ◌/◌, length, take, drop, replicate, leb, ltb, eqb, if◌then◌else◌}
use Rattle.spec.specs.Lists.{member, add_tag, remove_tag}
use Rattle.spec.specs.Words.{changeable, tags, overwrite, bucket_of}
use Rattle.bucket.specs.declared.Bucket.{Bucket}
use Rattle.bucket.specs.declared.Changed.{Changed}
use Rattle.bucket.specs.declared.Response.{Response}
use Rattle.bucket.specs.declared.Response.TheVariants.{Yes, No, Frozen, Full}
use Rattle.pool.specs.declared.buckets.Answered.{Answered}
unfoldable pub use Rattle.pool_writes.specs.Writes.{write_front, record_at, store_record, store_node}

-- the bucket whose words are the first of p
abbrev pub front_of : List ℕ → Bucket
front_of p = record { words = take 66 p }

-- bucket number k
unfoldable pub bucket_at : List ℕ → ℕ → Bucket
bucket_at p k = if ltb k (length p / 66) then front_of (drop (66 * k) p) else record { words = replicate 66 0 }

unfoldable pub store_bucket : List ℕ → ℕ → Bucket → List ℕ
store_bucket p k b = if ltb k (length p / 66) then overwrite p (66 * k) b.words else p

-- a bucket's answer and count, without its words
abbrev pub answer_of : Changed → Answered
answer_of d = record { response = d.answer; count = d.count }

-- ---- what adding and removing answer and leave where bucket number k is sound

unfoldable pub add_answer : List ℕ → ℕ → ℕ → Response
add_answer w k x =
    if eqb (changeable w k) 0 then Frozen
    else if member x (tags w k) then No
    else if leb 64 (length (tags w k)) then Full else Yes

unfoldable pub add_words : List ℕ → ℕ → ℕ → List ℕ
add_words w k x =
    if eqb (changeable w k) 0 then w
    else if member x (tags w k) then w
    else if leb 64 (length (tags w k)) then w else overwrite w (66 * k) (bucket_of 1 (add_tag x (tags w k)))

unfoldable pub remove_answer : List ℕ → ℕ → ℕ → Response
remove_answer w k x =
    if eqb (changeable w k) 0 then Frozen else if member x (tags w k) then Yes else No

unfoldable pub remove_words : List ℕ → ℕ → ℕ → List ℕ
remove_words w k x =
    if eqb (changeable w k) 0 then w
    else if member x (tags w k) then overwrite w (66 * k) (bucket_of 1 (remove_tag x (tags w k))) else w
