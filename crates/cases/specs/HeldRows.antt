-- Rows of which record line 27 or 49 takes: held records are passed, the last taken is tried at the end. Assumes nothing.
use Rattle.std.specs.Prelude.{ℕ, ◌≡◌, refl, [], ◌∷◌, map}
use Rattle.spec.specs.declared.Task.{Task}
use Rattle.spec.specs.Machine.{Machine, idle, task_of}
use Rattle.spec.specs.Entries.{step}
use Rattle.spec.specs.Everything.{everything}
use Rattle.spec.specs.WholeRows.{call◌tag◌line◌i◌own◌t◌s◌b◌m◌n◌new_node◌new_bucket◌, node, bucket, yard, whole_rows}
use Rattle.spec.specs.EditEntryRows.{task_1, growing, node_taken, three_nodes}

-- ---- nodes, as numbers plus 1: 0 if the step is refused

-- by what task 1 has: nothing; node 1 as its t, s or new node; number 2 as its b, m, n or new bucket, which are no nodes
pub nodes_of_task_1 :
    map (λ c. node_taken (three_nodes 0 0 0 0 0 c))
    (idle ∷ task_1 2 0 0 0 0 0 0 ∷ task_1 0 2 0 0 0 0 0 ∷ task_1 0 0 0 0 0 2 0 ∷ task_1 2 3 0 0 0 0 0 ∷ task_1 0 0 2 2 2 0 2 ∷ [])
    ≡ 2 ∷ 3 ∷ 3 ∷ 3 ∷ 0 ∷ 2 ∷ []
unfolding everything whole_rows task_1 growing node_taken three_nodes
nodes_of_task_1 = refl

-- the head is held, its predecessor, and the predecessor's; so are those of a task's node, round a cycle too
pub nodes_by_predecessor :
    node_taken (three_nodes 1 0 0 0 0 idle) ∷ node_taken (three_nodes 0 0 2 0 0 idle) ∷ node_taken (three_nodes 0 0 2 3 0 idle)
    ∷ node_taken (three_nodes 0 0 0 3 0 (task_1 2 0 0 0 0 0 0)) ∷ node_taken (three_nodes 0 0 0 3 2 (task_1 2 0 0 0 0 0 0))
    ∷ node_taken (three_nodes 0 0 0 3 2 (task_1 0 0 0 0 0 2 0)) ∷ node_taken (three_nodes 0 0 0 3 2 idle) ∷ []
    ≡ 3 ∷ 3 ∷ 0 ∷ 0 ∷ 0 ∷ 0 ∷ 2 ∷ []
unfolding everything whole_rows task_1 growing node_taken three_nodes
nodes_by_predecessor = refl

-- by the last taken: the next one, going round, itself at the end
pub nodes_after_last :
    node_taken (three_nodes 0 1 0 0 0 idle) ∷ node_taken (three_nodes 0 2 0 0 0 idle) ∷ node_taken (three_nodes 0 1 0 0 0 (task_1 3 0 0 0 0 0 0)) ∷ []
    ≡ 3 ∷ 2 ∷ 2 ∷ []
unfolding everything whole_rows task_1 growing node_taken three_nodes
nodes_after_last = refl

-- ---- buckets, likewise

unfoldable pub copying : Task
copying = call 1 tag 5 line 49 i 0 own 4 t 1 s 0 b 0 m 1 n 0 new_node 0 new_bucket 0

unfoldable pub bucket_taken : Machine → ℕ
bucket_taken y = (task_of (step y 0).machine 0).new_bucket

-- the head is node 0 with bucket 0; the bucket last taken, node 0's predecessor, the bucket that node 1 places, and task 1
unfoldable pub three_buckets : ℕ → ℕ → ℕ → Task → Machine
three_buckets lb p l c =
    yard 0 0 lb (node 1 p (1 ∷ []) ∷ node 2 0 (0 ∷ l ∷ []) ∷ []) (bucket 1 [] ∷ bucket 1 [] ∷ bucket 0 [] ∷ []) (copying ∷ c ∷ [])

-- by what task 1 has: nothing; bucket 1 as its b, m, n or new bucket; number 2 as its t, s or new node, which are no buckets
pub buckets_of_task_1 :
    map (λ c. bucket_taken (three_buckets 0 0 0 c))
    (idle ∷ task_1 0 0 2 0 0 0 0 ∷ task_1 0 0 0 2 0 0 0 ∷ task_1 0 0 0 0 2 0 0 ∷ task_1 0 0 0 0 0 0 2 ∷ task_1 0 0 2 0 0 0 3 ∷ task_1 2 2 0 0 0 2 0 ∷ [])
    ≡ 2 ∷ 3 ∷ 3 ∷ 3 ∷ 3 ∷ 0 ∷ 2 ∷ []
unfolding everything whole_rows task_1 copying bucket_taken three_buckets
buckets_of_task_1 = refl

-- a bucket that a held node places: the head's predecessor, task 1's t, s or new node; a node that is not held places none
pub buckets_by_node :
    bucket_taken (three_buckets 0 2 2 idle) ∷ bucket_taken (three_buckets 0 0 2 idle)
    ∷ map (λ c. bucket_taken (three_buckets 0 0 2 c)) (task_1 2 0 0 0 0 0 0 ∷ task_1 0 2 0 0 0 0 0 ∷ task_1 0 0 0 0 0 2 0 ∷ [])
    ≡ 3 ∷ 2 ∷ 3 ∷ 3 ∷ 3 ∷ []
unfolding everything whole_rows task_1 copying bucket_taken three_buckets
buckets_by_node = refl

pub buckets_after_last :
    bucket_taken (three_buckets 1 0 0 idle) ∷ bucket_taken (three_buckets 2 0 0 idle) ∷ bucket_taken (three_buckets 1 0 3 (task_1 2 0 0 0 0 0 0)) ∷ []
    ≡ 3 ∷ 2 ∷ 2 ∷ []
unfolding everything whole_rows task_1 copying bucket_taken three_buckets
buckets_after_last = refl
