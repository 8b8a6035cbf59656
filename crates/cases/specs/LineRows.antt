-- A row for each line of contains, grow, shrink, insert and remove, and for each way in which it may go on: the whole machine before and
-- after. Every place of the task is filled and t is not always the head, so that what a line leaves alone shows. The yard, and the rows that
-- have a name, are in EditRows of `spec`. Assumes nothing.
use Rattle.std.specs.Prelude.{ℕ, ◌≡◌, refl, List, [], ◌∷◌, map}
use Rattle.spec.specs.declared.Answer.TheVariants.{Yes, No, Done, Lost, Limit}
use Rattle.spec.specs.declared.Task.{Task}
use Rattle.spec.specs.Machine.{Machine}
use Rattle.spec.specs.Everything.{everything}
use Rattle.spec.specs.Rows.{ended, counted}
use Rattle.spec.specs.WholeRows.{call◌tag◌line◌i◌own◌t◌s◌b◌m◌n◌new_node◌new_bucket◌, node, bucket, yard, Row, told, stepped, goes, keeps, ends}
use Rattle.spec.specs.WholeRows.{ends_writing}
use Rattle.spec.specs.EditRows.{other, node_0, node_1, bucket_0, bucket_2, bucket_3, old_nodes, old_buckets, with_these_nodes, with_these_buckets, grown}
use Rattle.spec.specs.EditRows.{line_15_predecessor, line_15_none, line_17_old_node, line_18_yes, line_36_gains, edit_yards}

-- ---- contains

unfoldable pub contains_rows : List Row
contains_rows =
    keeps grown
    (call 3 tag 5 line 12 i 1 own 4 t 1 s 3 b 3 m 1 n 2 new_node 3 new_bucket 4)
    (call 3 tag 5 line 13 i 1 own 5 t 2 s 3 b 3 m 1 n 2 new_node 3 new_bucket 4)
    -- t is not the head: its place, filled
    ∷ keeps grown
    (call 3 tag 5 line 13 i 1 own 4 t 1 s 3 b 3 m 1 n 2 new_node 3 new_bucket 4)
    (call 3 tag 5 line 18 i 1 own 5 t 1 s 3 b 1 m 1 n 2 new_node 3 new_bucket 4)
    -- an empty place is stored too
    ∷ keeps grown
    (call 3 tag 4 line 13 i 1 own 4 t 2 s 3 b 3 m 1 n 2 new_node 3 new_bucket 4)
    (call 3 tag 4 line 15 i 1 own 5 t 2 s 3 b 0 m 1 n 2 new_node 3 new_bucket 4)
    ∷ line_15_predecessor
    ∷ line_15_none
    ∷ keeps grown
    (call 3 tag 9 line 16 i 1 own 4 t 2 s 3 b 2 m 1 n 2 new_node 3 new_bucket 4)
    (call 3 tag 9 line 18 i 1 own 5 t 2 s 3 b 3 m 1 n 2 new_node 3 new_bucket 4)
    -- an empty place of s
    ∷ keeps grown
    (call 3 tag 2 line 16 i 1 own 4 t 2 s 3 b 3 m 1 n 2 new_node 3 new_bucket 4)
    (call 3 tag 2 line 18 i 1 own 5 t 2 s 3 b 0 m 1 n 2 new_node 3 new_bucket 4)
    ∷ line_17_old_node
    ∷ line_18_yes
    ∷ ends grown (ended No 5)
    (call 3 tag 5 line 18 i 1 own 4 t 2 s 3 b 3 m 1 n 2 new_node 3 new_bucket 4)
    ∷ []

pub contains_rows_hold : map stepped contains_rows ≡ map told contains_rows
unfolding everything edit_yards contains_rows
contains_rows_hold = refl

-- ---- grow, shrink

-- a yard of one node, of this size
unfoldable pub lone : ℕ → Task → Machine
lone sz c = yard 0 0 0 (node sz 0 (1 ∷ []) ∷ []) (bucket 1 (5 ∷ []) ∷ []) (c ∷ [])

unfoldable pub resize_rows : List Row
resize_rows =
    ends (lone 32) (ended Limit 5)
    (call 4 tag 0 line 20 i 1 own 4 t 0 s 1 b 1 m 1 n 1 new_node 1 new_bucket 1)
    ∷ ends (lone 1) (ended Limit 5)
    (call 5 tag 0 line 20 i 1 own 4 t 0 s 1 b 1 m 1 n 1 new_node 1 new_bucket 1)
    -- a shrink at 32, a grow at 1, and a grow between: t is the head, i is 0
    ∷ keeps (lone 32)
    (call 5 tag 0 line 20 i 1 own 4 t 0 s 1 b 1 m 1 n 1 new_node 1 new_bucket 1)
    (call 5 tag 0 line 39 i 0 own 5 t 1 s 1 b 1 m 1 n 1 new_node 1 new_bucket 1)
    ∷ keeps (lone 1)
    (call 4 tag 0 line 20 i 1 own 4 t 0 s 1 b 1 m 1 n 1 new_node 1 new_bucket 1)
    (call 4 tag 0 line 39 i 0 own 5 t 1 s 1 b 1 m 1 n 1 new_node 1 new_bucket 1)
    ∷ keeps grown
    (call 4 tag 0 line 20 i 1 own 4 t 1 s 3 b 3 m 1 n 2 new_node 3 new_bucket 4)
    (call 4 tag 0 line 39 i 0 own 5 t 2 s 3 b 3 m 1 n 2 new_node 3 new_bucket 4)
    ∷ goes grown (with_these_nodes (node_0 ∷ node_1 ∷ node 8 0 (4 ∷ 3 ∷ []) ∷ []))
    (call 4 tag 0 line 24 i 1 own 4 t 3 s 3 b 3 m 1 n 2 new_node 3 new_bucket 4)
    (call 4 tag 0 line 27 i 1 own 5 t 3 s 3 b 3 m 1 n 2 new_node 3 new_bucket 4)
    -- all words of node 2 are new, and it is the last taken; t is not the head
    ∷ goes grown (λ c. yard 1 2 2 (node_0 ∷ node_1 ∷ node 2 1 [] ∷ []) old_buckets (c ∷ other ∷ []))
    (call 4 tag 0 line 27 i 1 own 4 t 1 s 2 b 3 m 1 n 2 new_node 2 new_bucket 4)
    (call 4 tag 0 line 28 i 1 own 5 t 1 s 2 b 3 m 1 n 2 new_node 3 new_bucket 4)
    ∷ goes grown (λ c. yard 1 2 2 (node_0 ∷ node_1 ∷ node 1 2 [] ∷ []) old_buckets (c ∷ other ∷ []))
    (call 5 tag 0 line 27 i 1 own 4 t 2 s 2 b 3 m 1 n 2 new_node 2 new_bucket 4)
    (call 5 tag 0 line 28 i 1 own 5 t 2 s 2 b 3 m 1 n 2 new_node 3 new_bucket 4)
    -- the head is t, the head is not t
    ∷ ends_writing grown (λ c. yard 2 0 2 old_nodes old_buckets (c ∷ other ∷ [])) (ended Done 5)
    (call 4 tag 0 line 28 i 1 own 4 t 2 s 1 b 3 m 1 n 2 new_node 3 new_bucket 4)
    ∷ ends grown (ended Lost 5)
    (call 4 tag 0 line 28 i 1 own 4 t 1 s 1 b 3 m 1 n 2 new_node 3 new_bucket 4)
    ∷ []

pub resize_rows_hold : map stepped resize_rows ≡ map told resize_rows
unfolding everything edit_yards lone resize_rows
resize_rows_hold = refl

-- ---- insert, remove

unfoldable pub apply_rows : List Row
apply_rows =
    keeps grown
    (call 1 tag 5 line 32 i 1 own 4 t 1 s 3 b 3 m 1 n 2 new_node 3 new_bucket 4)
    (call 1 tag 5 line 33 i 1 own 5 t 2 s 3 b 3 m 1 n 2 new_node 3 new_bucket 4)
    -- a filled place: i stays
    ∷ keeps grown
    (call 1 tag 5 line 33 i 1 own 4 t 1 s 3 b 3 m 1 n 2 new_node 3 new_bucket 4)
    (call 1 tag 5 line 36 i 1 own 5 t 1 s 3 b 1 m 1 n 2 new_node 3 new_bucket 4)
    -- empty ones: b is emptied, i is the place's number
    ∷ keeps grown
    (call 1 tag 4 line 33 i 1 own 4 t 2 s 3 b 3 m 1 n 2 new_node 3 new_bucket 4)
    (call 1 tag 4 line 39 i 0 own 5 t 2 s 3 b 0 m 1 n 2 new_node 3 new_bucket 4)
    ∷ keeps grown
    (call 2 tag 13 line 33 i 1 own 4 t 3 s 3 b 3 m 1 n 2 new_node 3 new_bucket 4)
    (call 2 tag 13 line 39 i 5 own 5 t 3 s 3 b 0 m 1 n 2 new_node 3 new_bucket 4)
    -- frozen
    ∷ keeps grown
    (call 1 tag 5 line 36 i 1 own 4 t 2 s 3 b 1 m 1 n 2 new_node 3 new_bucket 4)
    (call 1 tag 5 line 32 i 0 own 5 t 0 s 0 b 0 m 0 n 0 new_node 0 new_bucket 0)
    ∷ keeps grown
    (call 2 tag 5 line 36 i 1 own 4 t 2 s 3 b 1 m 1 n 2 new_node 3 new_bucket 4)
    (call 2 tag 5 line 32 i 0 own 5 t 0 s 0 b 0 m 0 n 0 new_node 0 new_bucket 0)
    ∷ line_36_gains
    ∷ ends grown (counted No 5 2)
    (call 1 tag 9 line 36 i 1 own 4 t 2 s 3 b 2 m 1 n 2 new_node 3 new_bucket 4)
    ∷ ends_writing grown (with_these_buckets (bucket_0 ∷ bucket 1 (9 ∷ []) ∷ bucket_2 ∷ bucket_3 ∷ [])) (counted Yes 5 1)
    (call 2 tag 5 line 36 i 1 own 4 t 2 s 3 b 2 m 1 n 2 new_node 3 new_bucket 4)
    ∷ ends grown (counted No 5 2)
    (call 2 tag 4 line 36 i 1 own 4 t 2 s 3 b 2 m 1 n 2 new_node 3 new_bucket 4)
    ∷ []

pub apply_rows_hold : map stepped apply_rows ≡ map told apply_rows
unfolding everything edit_yards apply_rows
apply_rows_hold = refl
