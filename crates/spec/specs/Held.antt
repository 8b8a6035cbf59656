-- "Held": which nodes and buckets are held, and which one is taken next. Assumes nothing.
use Rattle.std.specs.Prelude.{ℕ, zero, suc, ◌+◌, ◌%◌, List, [], ◌∷◌, ◌++◌, map, if◌then◌else◌}
use Rattle.spec.specs.declared.Task.{Task}
use Rattle.spec.specs.Lists.{member, range, concat_map}
use Rattle.spec.specs.Machine.{Machine}
use Rattle.spec.specs.Words.{link, number, filled, pred, places}
use Rattle.spec.specs.Sound.{node_count, bucket_count}

-- ---- nodes, as links: a 0 among them names none
-- "A node is held if it is the head, the t, s or new node of a running task, or the predecessor of a held node."

-- the link, its node's predecessor, and so on, n at most. The chain from a node repeats itself after H nodes at the latest,
-- so that n = H reaches all that it ever reaches, also around a cycle.
unfoldable pub chain : List ℕ → ℕ → ℕ → List ℕ
chain w zero l = []
chain w (suc n) l = let rest = chain w n (pred w (number l)) in if filled l then (l ∷ rest) else []

unfoldable pub task_nodes : Task → List ℕ
task_nodes c = if c.running then (c.t ∷ c.s ∷ c.new_node ∷ []) else []

unfoldable pub held_nodes : Machine → List ℕ
held_nodes y = concat_map (chain y.nodes (node_count y)) (link y.state.head ∷ concat_map task_nodes y.state.task)

-- ---- buckets, as links
-- "A bucket is held if a held node places it, or it is the b, m, n or new bucket of a running task."

unfoldable pub task_buckets : Task → List ℕ
task_buckets c = if c.running then (c.b ∷ c.m ∷ c.n ∷ c.new_bucket ∷ []) else []

unfoldable pub held_buckets : Machine → List ℕ
held_buckets y = concat_map (λ l. places y.nodes (number l)) (held_nodes y) ++ concat_map task_buckets y.state.task

-- ---- taking
-- "A record is taken as the first one not held after the last taken, going round and trying the last taken itself at the end"

-- the links of a pool of n records, from the one after the last taken round to the last taken itself
unfoldable pub cyclic_order : ℕ → ℕ → List ℕ
cyclic_order n last = map (λ j. link ((last + j) % n)) (range 1 n)

-- the first link of a list that is not held, or 0
unfoldable pub first_free : List ℕ → List ℕ → ℕ
first_free held [] = 0
first_free held (l ∷ ls) = if member l held then first_free held ls else l

-- the link of the node or bucket to be taken, 0 if all are held
unfoldable pub free_node : Machine → ℕ
free_node y = let held = held_nodes y in first_free held (cyclic_order (node_count y) y.state.last_node)

unfoldable pub free_bucket : Machine → ℕ
free_bucket y = let held = held_buckets y in first_free held (cyclic_order (bucket_count y) y.state.last_bucket)
