-- "The words in memory": what a node's and a bucket's words say, and the writes that a line makes to them. Assumes nothing.
use Rattle.std.specs.Prelude.{ℕ, ◌+◌, ◌*◌, ◌-◌, List, ◌∷◌, ◌++◌, Bool, not, eqb, length, get_or, take, drop, set, replicate}
use Rattle.spec.specs.Machine.{Machine, with_nodes, with_buckets, with_head, with_last_node, with_last_bucket}

-- ---- a link: a record's "number plus 1, or 0" for none

abbrev pub link : ℕ → ℕ
link k = k + 1

abbrev pub number : ℕ → ℕ
number l = l - 1

abbrev pub filled : ℕ → Bool
filled l = not (eqb l 0)

-- ---- node k: "A node is 34 words"

-- "its size (0 if never used)"
unfoldable pub size : List ℕ → ℕ → ℕ
size w k = get_or w (34 * k) 0

-- "its predecessor's number plus 1, or 0 for none"
unfoldable pub pred : List ℕ → ℕ → ℕ
pred w k = get_or w (34 * k + 1) 0

-- "32 places, each a bucket's number plus 1, or 0 for empty"
unfoldable pub place : List ℕ → ℕ → ℕ → ℕ
place w k i = get_or w (34 * k + 2 + i) 0

-- all 32 of them
unfoldable pub places : List ℕ → ℕ → List ℕ
places w k = take 32 (drop (34 * k + 2) w)

-- ---- bucket k: "A bucket is 66 words"

-- "1 if it may change, 0 if frozen"
unfoldable pub changeable : List ℕ → ℕ → ℕ
changeable w k = get_or w (66 * k) 0

-- "the count of tags"
unfoldable pub count : List ℕ → ℕ → ℕ
count w k = get_or w (66 * k + 1) 0

-- "the tags ascending, then zeros"
unfoldable pub tags : List ℕ → ℕ → List ℕ
tags w k = take (count w k) (drop (66 * k + 2) w)

-- ---- whole records

-- the words with those of v in the place of as many from word i on
unfoldable pub overwrite : List ℕ → ℕ → List ℕ → List ℕ
overwrite w i v = take i w ++ v ++ drop (i + length v) w

-- a node of this size and predecessor, "all places empty"
unfoldable pub node_of : ℕ → ℕ → List ℕ
node_of sz p = sz ∷ p ∷ replicate 32 0

-- a bucket with this first word and these tags
unfoldable pub bucket_of : ℕ → List ℕ → List ℕ
bucket_of c ks = c ∷ length ks ∷ ks ++ replicate (64 - length ks) 0

-- ---- writes: what a line may do to the shared words, one constructor a kind

pub data Write : Type 0 where
  nothing : Write
  -- node k becomes head
  set_head : ℕ → Write
  -- node k's place i, to a link
  set_place : ℕ → ℕ → ℕ → Write
  -- node k's predecessor, to none
  clear_pred : ℕ → Write
  -- bucket k
  freeze : ℕ → Write
  -- the tags of bucket k, which stays changeable
  put_tags : ℕ → List ℕ → Write
  -- node k is taken, with a size and a predecessor's link
  new_node : ℕ → ℕ → ℕ → Write
  -- bucket k is taken, with its tags
  new_bucket : ℕ → List ℕ → Write

-- the one place where memory changes; a record that is taken "becomes the last taken"
unfoldable pub apply : Write → Machine → Machine
apply nothing y = y
apply (set_head k) y = with_head k y
apply (set_place k i l) y = with_nodes (set y.nodes (34 * k + 2 + i) l) y
apply (clear_pred k) y = with_nodes (set y.nodes (34 * k + 1) 0) y
apply (freeze k) y = with_buckets (set y.buckets (66 * k) 0) y
apply (put_tags k ks) y = with_buckets (overwrite y.buckets (66 * k) (bucket_of 1 ks)) y
apply (new_node k sz p) y = with_last_node k (with_nodes (overwrite y.nodes (34 * k) (node_of sz p)) y)
apply (new_bucket k ks) y = with_last_bucket k (with_buckets (overwrite y.buckets (66 * k) (bucket_of 1 ks)) y)
