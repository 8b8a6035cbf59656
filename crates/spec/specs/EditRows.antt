-- Rows of lines that wrong definitions break: those that the must-fail edits of this crate need and no more, since each edit computes them
-- all. The whole tables, with every line and every way in which it may go on, are in the crate `cases` (LineRows, FillRows, FullRows,
-- RefusalOrderRows, VersionRows) and hold these rows too. Every place of the task is filled and t is not always the head, so that what a
-- line leaves alone shows. Assumes nothing.
use Rattle.std.specs.Prelude.{ℕ, zero, suc, ◌+◌, ◌≡◌, refl, List, [], ◌∷◌, map}
use Rattle.spec.specs.declared.Refusal.TheVariants.{Spoilt}
use Rattle.spec.specs.declared.Answer.TheVariants.{Yes, No, Full}
use Rattle.spec.specs.declared.Config.{Config}
use Rattle.spec.specs.declared.Task.{Task}
use Rattle.spec.specs.Lists.{range}
use Rattle.spec.specs.Machine.{Machine, machine_of, config_of, with_version, idle}
use Rattle.spec.specs.Listed.{slot, listed}
use Rattle.spec.specs.Everything.{everything}
use Rattle.spec.specs.Rows.{ended, counted}
use Rattle.spec.specs.WholeRows.{call◌tag◌line◌i◌own◌t◌s◌b◌m◌n◌new_node◌new_bucket◌, config◌H◌B◌head◌last_node◌last_bucket◌tasks◌}
use Rattle.spec.specs.WholeRows.{node, bucket, pool, yard, Row, told, stepped, goes, keeps, ends, ends_writing, refused, whole_rows}

-- ---- one yard for most rows: node 1 is head with place 0 empty, node 0 its predecessor, node 2 and bucket 3 hold old words

unfoldable pub other : Task
other = call 3 tag 8 line 15 i 0 own 2 t 1 s 0 b 0 m 0 n 0 new_node 0 new_bucket 0

unfoldable pub node_0 : List ℕ
node_0 = node 1 0 (1 ∷ [])

unfoldable pub node_1 : List ℕ
node_1 = node 2 1 (0 ∷ 2 ∷ [])

unfoldable pub node_2 : List ℕ
node_2 = node 8 1 (4 ∷ 3 ∷ [])

unfoldable pub bucket_0 : List ℕ
bucket_0 = bucket 0 (4 ∷ 5 ∷ 6 ∷ [])

unfoldable pub bucket_1 : List ℕ
bucket_1 = bucket 1 (5 ∷ 9 ∷ [])

unfoldable pub bucket_2 : List ℕ
bucket_2 = bucket 1 (6 ∷ [])

unfoldable pub bucket_3 : List ℕ
bucket_3 = bucket 0 (1 ∷ 2 ∷ 3 ∷ [])

unfoldable pub old_nodes : List (List ℕ)
old_nodes = node_0 ∷ node_1 ∷ node_2 ∷ []

unfoldable pub old_buckets : List (List ℕ)
old_buckets = bucket_0 ∷ bucket_1 ∷ bucket_2 ∷ bucket_3 ∷ []

-- with other nodes, with other buckets, with neither
unfoldable pub with_these_nodes : List (List ℕ) → Task → Machine
with_these_nodes ns c = yard 1 0 2 ns old_buckets (c ∷ other ∷ [])

unfoldable pub with_these_buckets : List (List ℕ) → Task → Machine
with_these_buckets bs c = yard 1 0 2 old_nodes bs (c ∷ other ∷ [])

unfoldable pub grown : Task → Machine
grown c = yard 1 0 2 old_nodes old_buckets (c ∷ other ∷ [])

-- ---- contains

unfoldable pub line_15_predecessor : Row
line_15_predecessor =
    keeps grown
    (call 3 tag 4 line 15 i 1 own 4 t 2 s 3 b 3 m 1 n 2 new_node 3 new_bucket 4)
    (call 3 tag 4 line 16 i 1 own 5 t 2 s 1 b 3 m 1 n 2 new_node 3 new_bucket 4)

-- t has no predecessor
unfoldable pub line_15_none : Row
line_15_none =
    keeps grown
    (call 3 tag 4 line 15 i 1 own 4 t 1 s 3 b 3 m 1 n 2 new_node 3 new_bucket 4)
    (call 3 tag 4 line 17 i 1 own 5 t 1 s 0 b 3 m 1 n 2 new_node 3 new_bucket 4)

-- t is not the head
unfoldable pub line_17_old_node : Row
line_17_old_node =
    keeps grown
    (call 3 tag 5 line 17 i 1 own 4 t 1 s 3 b 3 m 1 n 2 new_node 3 new_bucket 4)
    (call 3 tag 5 line 18 i 1 own 5 t 1 s 3 b 1 m 1 n 2 new_node 3 new_bucket 4)

-- b alone is looked into
unfoldable pub line_18_yes : Row
line_18_yes =
    ends grown (ended Yes 5)
    (call 3 tag 6 line 18 i 1 own 4 t 2 s 3 b 3 m 1 n 2 new_node 3 new_bucket 4)

-- ---- insert

-- b alone decides: tag 6 is in the set and not in b
unfoldable pub line_36_gains : Row
line_36_gains =
    ends_writing grown (with_these_buckets (bucket_0 ∷ bucket 1 (5 ∷ 6 ∷ 9 ∷ []) ∷ bucket_2 ∷ bucket_3 ∷ [])) (counted Yes 5 3)
    (call 1 tag 6 line 36 i 1 own 4 t 2 s 3 b 2 m 1 n 2 new_node 3 new_bucket 4)

-- every second number from k on, so many
unfoldable pub by_two : ℕ → ℕ → List ℕ
by_two k zero = []
by_two k (suc j) = k ∷ by_two (2 + k) j

unfoldable pub head_node : List ℕ
head_node = node 2 0 (1 ∷ 2 ∷ [])

-- 0, 2, .. in bucket 0 and 1, 3, .. in bucket 1 are listed; bucket 2 holds 64 tags and bucket 3 two, which nobody places
unfoldable pub holding : List ℕ → List ℕ → Task → Machine
holding es os c =
    yard 0 0 0 (head_node ∷ []) (bucket 1 es ∷ bucket 1 os ∷ bucket 1 (range 100 64) ∷ bucket 0 (163 ∷ 164 ∷ []) ∷ []) (c ∷ [])

-- so many of each
unfoldable pub listing : ℕ → ℕ → Task → Machine
listing j k = holding (by_two 0 j) (by_two 1 k)

-- call 1 or 2, of a tag, at 36 with this b
unfoldable pub at_36 : ℕ → ℕ → ℕ → Task
at_36 f k b' = call f tag k line 36 i 0 own 2 t 1 s 0 b b' m 0 n 0 new_node 0 new_bucket 0

-- 64 tags are listed, 32 of them in b: the tag absent, and present
unfoldable pub line_36_full : Row
line_36_full = ends (listing 32 32) (counted Full 3 32) (at_36 1 90 1)

unfoldable pub line_36_inside : Row
line_36_inside = ends (listing 32 32) (counted No 3 32) (at_36 1 4 1)

-- ---- filling a place

-- t is greater, but not twice s
unfoldable pub line_40_greater : Row
line_40_greater =
    keeps grown
    (call 1 tag 5 line 40 i 1 own 4 t 3 s 3 b 0 m 1 n 2 new_node 3 new_bucket 4)
    (call 1 tag 5 line 46 i 1 own 5 t 3 s 1 b 0 m 1 n 2 new_node 3 new_bucket 4)

-- m alone is frozen
unfoldable pub line_48_first : Row
line_48_first =
    goes grown (with_these_buckets (bucket_0 ∷ bucket 0 (5 ∷ 9 ∷ []) ∷ bucket_2 ∷ bucket_3 ∷ []))
    (call 1 tag 5 line 48 i 1 own 4 t 2 s 1 b 1 m 2 n 3 new_node 3 new_bucket 4)
    (call 1 tag 5 line 52 i 1 own 5 t 2 s 1 b 1 m 2 n 3 new_node 3 new_bucket 4)

-- n empty: m's tags with tag mod 2 = 0, into bucket 3, all words of it new; it is the last taken
unfoldable pub line_49_split : Row
line_49_split =
    goes grown (λ c. yard 1 0 3 old_nodes (bucket_0 ∷ bucket_1 ∷ bucket_2 ∷ bucket 1 (4 ∷ 6 ∷ []) ∷ []) (c ∷ other ∷ []))
    (call 1 tag 4 line 49 i 0 own 4 t 2 s 1 b 2 m 1 n 0 new_node 2 new_bucket 1)
    (call 1 tag 4 line 50 i 0 own 5 t 2 s 1 b 2 m 1 n 0 new_node 2 new_bucket 4)

-- no longer empty
unfoldable pub line_50_filled : Row
line_50_filled =
    keeps grown
    (call 1 tag 5 line 50 i 1 own 4 t 2 s 1 b 1 m 1 n 2 new_node 3 new_bucket 3)
    (call 1 tag 5 line 51 i 1 own 5 t 2 s 1 b 1 m 1 n 2 new_node 3 new_bucket 3)

-- an insert keeps i; t and the new node stay
unfoldable pub line_51_insert : Row
line_51_insert =
    keeps grown
    (call 1 tag 5 line 51 i 1 own 4 t 2 s 1 b 3 m 1 n 3 new_node 3 new_bucket 4)
    (call 1 tag 5 line 36 i 1 own 5 t 2 s 0 b 2 m 0 n 0 new_node 3 new_bucket 0)

-- ---- 8 before 7: every node and every bucket is held, and half of 1 is no size

unfoldable pub all_taken : Task → Machine
all_taken c = yard 0 0 0 (node 1 2 (1 ∷ []) ∷ node 2 0 (0 ∷ 2 ∷ []) ∷ []) (bucket 1 (5 ∷ []) ∷ bucket 1 [] ∷ []) (c ∷ [])

unfoldable pub line_27_unlisted : Row
line_27_unlisted = refused Spoilt all_taken (call 5 tag 0 line 27 i 0 own 1 t 1 s 0 b 0 m 0 n 0 new_node 0 new_bucket 0)

-- ---- all of these

-- opens the yards and the rows above
unfoldable pub edit_yards : ℕ
unfolding whole_rows other node_0 node_1 node_2 bucket_0 bucket_1 bucket_2 bucket_3 old_nodes old_buckets with_these_nodes with_these_buckets grown
    line_15_predecessor line_15_none line_17_old_node line_18_yes line_36_gains by_two head_node holding listing at_36 line_36_full line_36_inside
    line_40_greater line_48_first line_49_split line_50_filled line_51_insert all_taken line_27_unlisted
edit_yards = 0

unfoldable pub edit_rows : List Row
edit_rows =
    line_15_predecessor ∷ line_15_none ∷ line_17_old_node ∷ line_18_yes ∷ line_36_gains ∷ line_36_full ∷ line_36_inside ∷ line_40_greater
    ∷ line_48_first ∷ line_49_split ∷ line_50_filled ∷ line_51_insert ∷ line_27_unlisted ∷ []

pub edit_rows_hold : map stepped edit_rows ≡ map told edit_rows
unfolding everything edit_yards edit_rows
edit_rows_hold = refl

-- ---- version 2: 170 and 171 share a place at every size; in version 1 they do not

unfoldable pub version_2 : ℕ → Config
version_2 t' = with_version 2 (config_of t')

unfoldable pub slots : Config → ℕ → List ℕ
slots g k = map (slot g k) (1 ∷ 2 ∷ 4 ∷ 8 ∷ 16 ∷ 32 ∷ [])

pub shared_places :
    slots (version_2 1) 170 ∷ slots (version_2 1) 171 ∷ slots (version_2 1) 9 ∷ slots (version_2 1) 4294967295 ∷ slots (config_of 1) 171 ∷ []
    ≡ (0 ∷ 1 ∷ 1 ∷ 1 ∷ 1 ∷ 17 ∷ [])
    ∷ (0 ∷ 1 ∷ 1 ∷ 1 ∷ 1 ∷ 17 ∷ [])
    ∷ (0 ∷ 0 ∷ 0 ∷ 0 ∷ 0 ∷ 0 ∷ [])
    ∷ (0 ∷ 1 ∷ 1 ∷ 1 ∷ 9 ∷ 25 ∷ [])
    ∷ (0 ∷ 1 ∷ 3 ∷ 3 ∷ 11 ∷ 11 ∷ [])
    ∷ []
unfolding everything version_2 slots
shared_places = refl

-- node 0 has two places, with buckets 0 and 1; node 1 is head, has four, and places bucket 2 at place 1
unfoldable pub crowded_with : ℕ → List ℕ → Task → Machine
crowded_with lb last c =
    machine_of (config (version_2 1) H 2 B 4 head 1 last_node 1 last_bucket lb tasks (c ∷ []))
    (pool (node 2 0 (1 ∷ 2 ∷ []) ∷ node 4 1 (0 ∷ 3 ∷ []) ∷ []))
    (pool (bucket 0 (20 ∷ 40 ∷ 45 ∷ []) ∷ bucket 0 (10 ∷ 30 ∷ 31 ∷ []) ∷ bucket 1 (10 ∷ 51 ∷ []) ∷ last ∷ []))

unfoldable pub crowded : Task → Machine
crowded c = crowded_with 2 (bucket 0 []) c

-- 30 has place 1 of node 0
unfoldable pub line_16_by_key : Row
line_16_by_key =
    keeps crowded
    (call 3 tag 30 line 16 i 0 own 3 t 2 s 1 b 0 m 0 n 0 new_node 0 new_bucket 0)
    (call 3 tag 30 line 18 i 0 own 4 t 2 s 1 b 2 m 0 n 0 new_node 0 new_bucket 0)

-- of bucket 1's tags 30 and 31 go to place 3, whole
unfoldable pub line_49_by_key : Row
line_49_by_key =
    goes crowded (crowded_with 3 (bucket 1 (30 ∷ 31 ∷ [])))
    (call 1 tag 30 line 49 i 3 own 6 t 2 s 1 b 0 m 2 n 0 new_node 0 new_bucket 0)
    (call 1 tag 30 line 50 i 3 own 7 t 2 s 1 b 0 m 2 n 0 new_node 0 new_bucket 4)

unfoldable pub crowded_rows : ℕ
unfolding whole_rows version_2 crowded_with crowded line_16_by_key line_49_by_key
crowded_rows = 0

pub by_key : map stepped (line_16_by_key ∷ line_49_by_key ∷ []) ≡ map told (line_16_by_key ∷ line_49_by_key ∷ [])
unfolding everything crowded_rows
by_key = refl

-- place 1 of the head, and both places of its predecessor for the others
pub version_listed : listed (crowded idle) ≡ 10 ∷ 20 ∷ 30 ∷ 31 ∷ 40 ∷ 45 ∷ 51 ∷ []
unfolding everything crowded_rows
version_listed = refl
