-- Words and a node written over, for any words: what does not fit, or a number past the pool, changes nothing.
-- Assumes nothing.
use Rattle.std.specs.Prelude.{List, ℕ, ◌*◌, ◌/◌, length, take, drop, replicate, leb, ltb, if◌then◌else◌}
use Rattle.spec.specs.Words.{overwrite, node_of}

-- the words v over the first words of p, where they fit
unfoldable pub write_front : List ℕ → List ℕ → List ℕ
write_front p v = if leb (length v) (length p) then overwrite p 0 v else p

-- ---- records of n words by number: a number past the pool names zeros, and a write there changes nothing

-- record number k
unfoldable pub record_at : ℕ → List ℕ → ℕ → List ℕ
record_at n p k = if ltb k (length p / n) then take n (drop (n * k) p) else replicate n 0

-- the words v over those of record number k
unfoldable pub store_record : ℕ → List ℕ → ℕ → List ℕ → List ℕ
store_record n p k v = if ltb k (length p / n) then overwrite p (n * k) v else p

-- node number k anew
unfoldable pub store_node : List ℕ → ℕ → ℕ → ℕ → List ℕ
store_node p k sz l = if ltb k (length p / 34) then overwrite p (34 * k) (node_of sz l) else p
