-- A row for each of lines 39 to 52, which fill a place, and for each way in which it may go on: the whole machine before and after, in
-- the yard of EditRows of `spec`, where the rows are that have a name. Assumes nothing.
use Rattle.std.specs.Prelude.{◌≡◌, refl, List, [], ◌∷◌, map}
use Rattle.spec.specs.Everything.{everything}
use Rattle.spec.specs.WholeRows.{call◌tag◌line◌i◌own◌t◌s◌b◌m◌n◌new_node◌new_bucket◌, node, bucket, yard, Row, told, stepped, goes, keeps}
use Rattle.spec.specs.EditRows.{other, node_0, node_1, node_2, bucket_0, bucket_1, bucket_2, bucket_3, old_nodes, with_these_nodes}
use Rattle.spec.specs.EditRows.{with_these_buckets, grown, edit_yards}
use Rattle.spec.specs.EditRows.{line_40_greater, line_48_first, line_49_split, line_50_filled, line_51_insert}

-- ---- what to copy: lines 39 to 47

unfoldable pub find_rows : List Row
find_rows =
    keeps grown
    (call 1 tag 5 line 39 i 1 own 4 t 2 s 3 b 3 m 1 n 2 new_node 3 new_bucket 4)
    (call 1 tag 5 line 40 i 1 own 5 t 2 s 3 b 2 m 1 n 2 new_node 3 new_bucket 4)
    -- an empty place is stored too
    ∷ keeps grown
    (call 4 tag 0 line 39 i 0 own 4 t 2 s 3 b 3 m 1 n 2 new_node 3 new_bucket 4)
    (call 4 tag 0 line 40 i 0 own 5 t 2 s 3 b 0 m 1 n 2 new_node 3 new_bucket 4)
    -- b is filled
    ∷ keeps grown
    (call 1 tag 5 line 40 i 1 own 4 t 2 s 3 b 3 m 1 n 2 new_node 3 new_bucket 4)
    (call 1 tag 5 line 51 i 1 own 5 t 2 s 1 b 3 m 1 n 2 new_node 3 new_bucket 4)
    -- t has no predecessor
    ∷ keeps grown
    (call 1 tag 5 line 40 i 1 own 4 t 1 s 3 b 0 m 1 n 2 new_node 3 new_bucket 4)
    (call 1 tag 5 line 51 i 1 own 5 t 1 s 0 b 0 m 1 n 2 new_node 3 new_bucket 4)
    -- t is twice s
    ∷ keeps grown
    (call 1 tag 5 line 40 i 1 own 4 t 2 s 3 b 0 m 1 n 2 new_node 3 new_bucket 4)
    (call 1 tag 5 line 43 i 1 own 5 t 2 s 1 b 0 m 1 n 2 new_node 3 new_bucket 4)
    -- greater, but not twice s; half of s; as large as s
    ∷ line_40_greater
    ∷ keeps (with_these_nodes (node_0 ∷ node_1 ∷ node 1 2 [] ∷ []))
    (call 1 tag 5 line 40 i 1 own 4 t 3 s 3 b 0 m 1 n 2 new_node 3 new_bucket 4)
    (call 1 tag 5 line 46 i 1 own 5 t 3 s 2 b 0 m 1 n 2 new_node 3 new_bucket 4)
    ∷ keeps (with_these_nodes (node_0 ∷ node_1 ∷ node 1 1 [] ∷ []))
    (call 1 tag 5 line 40 i 1 own 4 t 3 s 3 b 0 m 1 n 2 new_node 3 new_bucket 4)
    (call 1 tag 5 line 46 i 1 own 5 t 3 s 1 b 0 m 1 n 2 new_node 3 new_bucket 4)
    -- place 3 mod 2 of node 1
    ∷ keeps grown
    (call 1 tag 5 line 43 i 3 own 4 t 3 s 2 b 3 m 1 n 3 new_node 3 new_bucket 4)
    (call 1 tag 5 line 44 i 3 own 5 t 3 s 2 b 3 m 2 n 3 new_node 3 new_bucket 4)
    ∷ keeps grown
    (call 1 tag 5 line 46 i 1 own 4 t 1 s 3 b 3 m 1 n 2 new_node 3 new_bucket 4)
    (call 1 tag 5 line 47 i 1 own 5 t 1 s 3 b 3 m 3 n 2 new_node 3 new_bucket 4)
    -- place 0 + 1 of node 2
    ∷ keeps grown
    (call 1 tag 5 line 47 i 0 own 4 t 1 s 3 b 3 m 1 n 2 new_node 3 new_bucket 4)
    (call 1 tag 5 line 48 i 0 own 5 t 1 s 3 b 3 m 1 n 3 new_node 3 new_bucket 4)
    -- place 0 + 2
    ∷ keeps (with_these_nodes (node_0 ∷ node_1 ∷ node 8 1 (4 ∷ 3 ∷ 2 ∷ []) ∷ []))
    (call 1 tag 5 line 47 i 0 own 4 t 2 s 3 b 3 m 1 n 1 new_node 3 new_bucket 4)
    (call 1 tag 5 line 48 i 0 own 5 t 2 s 3 b 3 m 1 n 2 new_node 3 new_bucket 4)
    ∷ []

pub find_rows_hold : map stepped find_rows ≡ map told find_rows
unfolding everything edit_yards find_rows
find_rows_hold = refl

-- ---- the copy, and the place: lines 44, 48, 52, 49, 50 and 51

unfoldable pub place_rows : List Row
place_rows =
    -- m alone is frozen
    goes grown (with_these_buckets (bucket_0 ∷ bucket_1 ∷ bucket 0 (6 ∷ []) ∷ bucket_3 ∷ []))
    (call 1 tag 5 line 44 i 1 own 4 t 2 s 1 b 1 m 3 n 2 new_node 3 new_bucket 4)
    (call 1 tag 5 line 49 i 1 own 5 t 2 s 1 b 1 m 3 n 2 new_node 3 new_bucket 4)
    ∷ line_48_first
    -- n alone
    ∷ goes grown (with_these_buckets (bucket_0 ∷ bucket_1 ∷ bucket 0 (6 ∷ []) ∷ bucket_3 ∷ []))
    (call 1 tag 5 line 52 i 1 own 4 t 2 s 1 b 1 m 2 n 3 new_node 3 new_bucket 4)
    (call 1 tag 5 line 49 i 1 own 5 t 2 s 1 b 1 m 2 n 3 new_node 3 new_bucket 4)
    ∷ line_49_split
    -- n filled: the whole union, though t is twice s
    ∷ goes grown (λ c. yard 1 0 3 old_nodes (bucket_0 ∷ bucket_1 ∷ bucket_2 ∷ bucket 1 (4 ∷ 5 ∷ 6 ∷ 9 ∷ []) ∷ []) (c ∷ other ∷ []))
    (call 1 tag 4 line 49 i 0 own 4 t 2 s 1 b 2 m 1 n 2 new_node 2 new_bucket 1)
    (call 1 tag 4 line 50 i 0 own 5 t 2 s 1 b 2 m 1 n 2 new_node 2 new_bucket 4)
    -- n empty, t half of s: still m's tags with tag mod 1 = 0 alone
    ∷ goes grown (λ c. yard 1 0 3 old_nodes (bucket_0 ∷ bucket_1 ∷ bucket_2 ∷ bucket 1 (5 ∷ 9 ∷ []) ∷ []) (c ∷ other ∷ []))
    (call 1 tag 4 line 49 i 0 own 4 t 1 s 2 b 1 m 2 n 0 new_node 2 new_bucket 1)
    (call 1 tag 4 line 50 i 0 own 5 t 1 s 2 b 1 m 2 n 0 new_node 2 new_bucket 4)
    -- still empty, no longer empty
    ∷ goes grown (with_these_nodes (node_0 ∷ node 2 1 (3 ∷ 2 ∷ []) ∷ node_2 ∷ []))
    (call 1 tag 4 line 50 i 0 own 4 t 2 s 1 b 1 m 1 n 2 new_node 3 new_bucket 3)
    (call 1 tag 4 line 51 i 0 own 5 t 2 s 1 b 1 m 1 n 2 new_node 3 new_bucket 3)
    ∷ line_50_filled
    -- insert and remove keep i, a resize adds 1 to it; t and the new node stay
    ∷ line_51_insert
    ∷ keeps grown
    (call 2 tag 5 line 51 i 1 own 4 t 3 s 1 b 1 m 1 n 2 new_node 3 new_bucket 4)
    (call 2 tag 5 line 36 i 1 own 5 t 3 s 0 b 3 m 0 n 0 new_node 3 new_bucket 0)
    ∷ keeps grown
    (call 4 tag 0 line 51 i 0 own 4 t 2 s 1 b 3 m 1 n 3 new_node 3 new_bucket 4)
    (call 4 tag 0 line 39 i 1 own 5 t 2 s 0 b 0 m 0 n 0 new_node 3 new_bucket 0)
    ∷ keeps grown
    (call 5 tag 0 line 51 i 1 own 4 t 2 s 1 b 3 m 1 n 3 new_node 3 new_bucket 4)
    (call 5 tag 0 line 24 i 2 own 5 t 2 s 0 b 0 m 0 n 0 new_node 3 new_bucket 0)
    ∷ []

pub place_rows_hold : map stepped place_rows ≡ map told place_rows
unfolding everything edit_yards place_rows
place_rows_hold = refl
