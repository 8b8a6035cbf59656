-- Rows of memory in which a task's record is spoilt, or just not: as SpoiltRows, for the conditions on tasks. Assumes nothing.
use Rattle.std.specs.Prelude.{ℕ, ◌≡◌, refl, List, [], ◌∷◌, map}
use Rattle.spec.specs.declared.Task.{Task}
use Rattle.spec.specs.Lists.{member, range, filter}
use Rattle.spec.specs.Machine.{Machine, idle}
use Rattle.spec.specs.Entries.{show}
use Rattle.spec.specs.Everything.{everything}
use Rattle.spec.specs.WholeRows.{call◌tag◌line◌i◌own◌t◌s◌b◌m◌n◌new_node◌new_bucket◌, stopped, node, bucket, yard, whole_rows}
use Rattle.cases.specs.SpoiltRows.{said, refusing, spoilt, sound_with_5, some_nodes, some_buckets}

-- the tasks of a yard with three nodes, the last of them never used, and two buckets
unfoldable pub with_tasks : List Task → Machine
with_tasks cs = yard 0 0 0 some_nodes some_buckets cs

unfoldable pub spoilt_tasks : List (List Task)
spoilt_tasks =
    -- i over 32, a resize with a tag
    (call 1 tag 5 line 39 i 33 own 1 t 1 s 0 b 0 m 0 n 0 new_node 0 new_bucket 0 ∷ [])
    ∷ (call 4 tag 5 line 39 i 0 own 1 t 1 s 0 b 0 m 0 n 0 new_node 0 new_bucket 0 ∷ [])
    ∷ (call 5 tag 5 line 39 i 0 own 1 t 1 s 0 b 0 m 0 n 0 new_node 0 new_bucket 0 ∷ [])
    -- a node of size 0, a node past the pool
    ∷ (call 1 tag 5 line 39 i 0 own 1 t 3 s 0 b 0 m 0 n 0 new_node 0 new_bucket 0 ∷ [])
    ∷ (call 1 tag 5 line 39 i 0 own 1 t 1 s 3 b 0 m 0 n 0 new_node 0 new_bucket 0 ∷ [])
    ∷ (call 1 tag 5 line 39 i 0 own 1 t 1 s 0 b 0 m 0 n 0 new_node 3 new_bucket 0 ∷ [])
    ∷ (call 1 tag 5 line 39 i 0 own 1 t 4 s 0 b 0 m 0 n 0 new_node 0 new_bucket 0 ∷ [])
    ∷ (call 1 tag 5 line 39 i 0 own 1 t 1 s 4 b 0 m 0 n 0 new_node 0 new_bucket 0 ∷ [])
    ∷ (call 1 tag 5 line 39 i 0 own 1 t 1 s 0 b 0 m 0 n 0 new_node 4 new_bucket 0 ∷ [])
    -- a bucket past the pool
    ∷ (call 1 tag 5 line 39 i 0 own 1 t 1 s 0 b 3 m 0 n 0 new_node 0 new_bucket 0 ∷ [])
    ∷ (call 1 tag 5 line 39 i 0 own 1 t 1 s 0 b 0 m 3 n 0 new_node 0 new_bucket 0 ∷ [])
    ∷ (call 1 tag 5 line 39 i 0 own 1 t 1 s 0 b 0 m 0 n 3 new_node 0 new_bucket 0 ∷ [])
    ∷ (call 1 tag 5 line 39 i 0 own 1 t 1 s 0 b 0 m 0 n 0 new_node 0 new_bucket 3 ∷ [])
    -- task 2 of two runs, and task 7
    ∷ (idle ∷ idle ∷ call 1 tag 5 line 39 i 0 own 1 t 1 s 0 b 0 m 0 n 0 new_node 0 new_bucket 0 ∷ [])
    ∷ (idle ∷ idle ∷ idle ∷ idle ∷ idle ∷ idle ∷ idle ∷ call 1 tag 5 line 39 i 0 own 1 t 1 s 0 b 0 m 0 n 0 new_node 0 new_bucket 0 ∷ [])
    -- an idle task with a word that is not 0, also from T on
    ∷ (stopped (call 1 tag 0 line 0 i 0 own 0 t 0 s 0 b 0 m 0 n 0 new_node 0 new_bucket 0) ∷ [])
    ∷ (stopped (call 0 tag 1 line 0 i 0 own 0 t 0 s 0 b 0 m 0 n 0 new_node 0 new_bucket 0) ∷ [])
    ∷ (stopped (call 0 tag 0 line 1 i 0 own 0 t 0 s 0 b 0 m 0 n 0 new_node 0 new_bucket 0) ∷ [])
    ∷ (stopped (call 0 tag 0 line 0 i 1 own 0 t 0 s 0 b 0 m 0 n 0 new_node 0 new_bucket 0) ∷ [])
    ∷ (stopped (call 0 tag 0 line 0 i 0 own 1 t 0 s 0 b 0 m 0 n 0 new_node 0 new_bucket 0) ∷ [])
    ∷ (stopped (call 0 tag 0 line 0 i 0 own 0 t 1 s 0 b 0 m 0 n 0 new_node 0 new_bucket 0) ∷ [])
    ∷ (stopped (call 0 tag 0 line 0 i 0 own 0 t 0 s 1 b 0 m 0 n 0 new_node 0 new_bucket 0) ∷ [])
    ∷ (stopped (call 0 tag 0 line 0 i 0 own 0 t 0 s 0 b 1 m 0 n 0 new_node 0 new_bucket 0) ∷ [])
    ∷ (stopped (call 0 tag 0 line 0 i 0 own 0 t 0 s 0 b 0 m 1 n 0 new_node 0 new_bucket 0) ∷ [])
    ∷ (stopped (call 0 tag 0 line 0 i 0 own 0 t 0 s 0 b 0 m 0 n 1 new_node 0 new_bucket 0) ∷ [])
    ∷ (stopped (call 0 tag 0 line 0 i 0 own 0 t 0 s 0 b 0 m 0 n 0 new_node 1 new_bucket 0) ∷ [])
    ∷ (stopped (call 0 tag 0 line 0 i 0 own 0 t 0 s 0 b 0 m 0 n 0 new_node 0 new_bucket 1) ∷ [])
    ∷ (idle ∷ idle ∷ stopped (call 0 tag 0 line 0 i 0 own 1 t 0 s 0 b 0 m 0 n 0 new_node 0 new_bucket 0) ∷ [])
    ∷ []

pub tasks_spoilt : map (λ cs. said (with_tasks cs)) spoilt_tasks ≡ map (λ cs. spoilt (with_tasks cs)) spoilt_tasks
unfolding everything whole_rows said refusing spoilt some_nodes some_buckets with_tasks spoilt_tasks
tasks_spoilt = refl

-- i is 32 and the numbers are the last of their pools; own steps and a tag may be any, a place may be empty at any line
unfoldable pub sound_tasks_rows : List (List Task)
sound_tasks_rows =
    (idle ∷ call 1 tag 4294967295 line 52 i 32 own 65535 t 2 s 2 b 2 m 2 n 2 new_node 2 new_bucket 2 ∷ [])
    ∷ (call 3 tag 5 line 18 i 0 own 0 t 0 s 0 b 0 m 0 n 0 new_node 0 new_bucket 0
    ∷ call 4 tag 0 line 28 i 0 own 0 t 0 s 0 b 0 m 0 n 0 new_node 0 new_bucket 0 ∷ [])
    ∷ []

pub tasks_sound : map (λ cs. said (with_tasks cs)) sound_tasks_rows ≡ map (λ cs. sound_with_5 (with_tasks cs)) sound_tasks_rows
unfolding everything whole_rows said refusing sound_with_5 some_nodes some_buckets with_tasks sound_tasks_rows
tasks_sound = refl

-- ---- the lines of each call: those below 64 at which a task that runs it is sound, so that bucket 0 is shown with its one tag

unfoldable pub lone_task : Task → Machine
lone_task c = yard 0 0 0 (node 1 0 (1 ∷ []) ∷ []) (bucket 1 (5 ∷ []) ∷ []) (c ∷ [])

unfoldable pub sound_lines : ℕ → List ℕ
sound_lines f =
    filter (λ l. member 5 (show (lone_task (call f tag 0 line l i 0 own 0 t 0 s 0 b 0 m 0 n 0 new_node 0 new_bucket 0)) 0)) (range 0 64)

unfoldable pub update_lines : List ℕ
update_lines = 32 ∷ 33 ∷ 36 ∷ 39 ∷ 40 ∷ 43 ∷ 44 ∷ 46 ∷ 47 ∷ 48 ∷ 49 ∷ 50 ∷ 51 ∷ 52 ∷ []

unfoldable pub contains_lines : List ℕ
contains_lines = 12 ∷ 13 ∷ 15 ∷ 16 ∷ 17 ∷ 18 ∷ []

unfoldable pub resize_lines : List ℕ
resize_lines = 20 ∷ 24 ∷ 27 ∷ 28 ∷ 39 ∷ 40 ∷ 43 ∷ 44 ∷ 46 ∷ 47 ∷ 48 ∷ 49 ∷ 50 ∷ 51 ∷ 52 ∷ []

-- no call, insert, remove, contains, grow, shrink, and a number that is no call's
pub lines_of_calls :
    map sound_lines (range 0 7) ≡ [] ∷ update_lines ∷ update_lines ∷ contains_lines ∷ resize_lines ∷ resize_lines ∷ [] ∷ []
unfolding everything whole_rows lone_task sound_lines update_lines contains_lines resize_lines
lines_of_calls = refl
