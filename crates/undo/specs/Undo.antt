-- The records whose words a step may change, what is kept of them, and what putting it back leaves. That it leaves what was there before
-- the step is shown in StepUndone. Assumes nothing.
use Rattle.std.specs.Prelude.{ℕ, ◌*◌, ◌/◌, List, ltb, eqb, length, take, drop, replicate, if◌then◌else◌}
use Rattle.spec.specs.declared.Task.{Task}
use Rattle.spec.specs.Machine.{Machine}
use Rattle.spec.specs.Words.{number, overwrite}
use Rattle.pool.specs.Pool.{bucket_at, store_bucket}
use Rattle.held.specs.Held.{node_to_take, bucket_to_take}
use Rattle.undo.specs.declared.Kept.{Kept}

-- ---- the words of node number k, for any words: zeros for a number past the pool, where a write changes nothing

unfoldable pub node_words : List ℕ → ℕ → List ℕ
node_words p k = if ltb k (length p / 34) then take 34 (drop (34 * k) p) else replicate 34 0

unfoldable pub store_words : List ℕ → ℕ → List ℕ → List ℕ
store_words p k v = if ltb k (length p / 34) then overwrite p (34 * k) v else p

-- ---- the records that a step at a line may write

-- a node: line 27 writes the one that it takes, lines 24 and 50 write t, no other line writes one
unfoldable pub node_of_line : ℕ → Machine → Task → ℕ
node_of_line line y c = if eqb line 27 then number (node_to_take y) else number c.t

-- a bucket: line 49 writes the one that it takes, 36 b, 52 n, 44 and 48 m, no other line writes one
unfoldable pub bucket_of_line : ℕ → Machine → Task → ℕ
bucket_of_line line y c =
    if eqb line 49 then number (bucket_to_take y)
    else if eqb line 36 then number c.b
    else if eqb line 52 then number c.n else number c.m

unfoldable pub written_node : Machine → Task → ℕ
written_node y c = node_of_line c.line y c

unfoldable pub written_bucket : Machine → Task → ℕ
written_bucket y c = bucket_of_line c.line y c

-- ---- keeping and putting back

unfoldable pub kept_of : Machine → Task → Kept
kept_of y c =
    record {
      node = written_node y c;
      words = node_words y.nodes (written_node y c);
      bucket = written_bucket y c;
      contents = bucket_at y.buckets (written_bucket y c);
    }

unfoldable pub nodes_back : Kept → List ℕ → List ℕ
nodes_back r ns = store_words ns r.node r.words

unfoldable pub buckets_back : Kept → List ℕ → List ℕ
buckets_back r bs = store_bucket bs r.bucket r.contents
