-- Rows of spoilt memory: for each condition of refusal 8 a memory that breaks it and nothing else, and for each bound a memory at the
-- bound, which is sound (H, B and the slices' lengths: SpoiltLengths; a task's record: SpoiltTaskRows). Start and step are asked
-- for a task that is not there, the list has no room: 8 comes before 4 and 9. Assumes nothing.
use Rattle.std.specs.Prelude.{ℕ, ◌≡◌, refl, List, [], ◌∷◌, ◌++◌, map, replicate, Err}
use Rattle.spec.specs.declared.Refusal.TheVariants.{NoTask, Spoilt, ShortList}
use Rattle.spec.specs.declared.Refusal.{Refusal}
use Rattle.spec.specs.declared.Call.TheVariants.{Insert}
use Rattle.spec.specs.Lists.{range}
use Rattle.spec.specs.Machine.{Machine, machine_of, config_of, with_version, with_chosen}
use Rattle.spec.specs.Entries.{Reply, Written, start, step, list, show}
use Rattle.spec.specs.Everything.{everything}
use Rattle.spec.specs.WholeRows.{config◌H◌B◌head◌last_node◌last_bucket◌tasks◌, node, bucket, pool, whole_rows}

-- ---- what the entries say of a memory

pub record Said : Type 0 where
  pub starts : Reply
  pub steps : Reply
  pub lists : Written
  pub shows : List ℕ

unfoldable pub said : Machine → Said
said y = record { starts = start y 8 Insert 5; steps = step y 8; lists = list y (7 ∷ []); shows = show y 0 }

-- the two refusals, and the tags shown; every word is kept
unfoldable pub refusing : Refusal → Refusal → List ℕ → Machine → Said
refusing r l ks y =
    let reply : Reply = record { out = Err r; machine = y } in
    record { starts = reply; steps = reply; lists = record { says = Err l; words = 7 ∷ [] }; shows = ks }

unfoldable pub spoilt : Machine → Said
spoilt y = refusing Spoilt Spoilt [] y

-- sound, with 5 in bucket 0
unfoldable pub sound_with_5 : Machine → Said
sound_with_5 y = refusing NoTask ShortList (5 ∷ []) y

-- ---- T, H, B, the head and the records last taken, over pools that are right

-- node 1 is node 0's predecessor and places nothing, node 2 was never used
unfoldable pub some_nodes : List (List ℕ)
some_nodes = node 2 2 (1 ∷ 2 ∷ []) ∷ node 1 0 [] ∷ node 0 0 [] ∷ []

unfoldable pub some_buckets : List (List ℕ)
some_buckets = bucket 1 (5 ∷ []) ∷ bucket 0 [] ∷ []

-- T, the head, the node and the bucket last taken
unfoldable pub numbered : ℕ → ℕ → ℕ → ℕ → Machine
numbered t' k ln lb =
    machine_of (config (config_of t') H 3 B 2 head k last_node ln last_bucket lb tasks []) (pool some_nodes) (pool some_buckets)

-- T 0 and 9; the head, the node and the bucket last taken past their pools; the last one chosen T
unfoldable pub spoilt_numbers : List Machine
spoilt_numbers =
    numbered 0 0 0 0 ∷ numbered 9 0 0 0 ∷ numbered 2 3 0 0 ∷ numbered 2 0 3 0 ∷ numbered 2 0 0 2 ∷ with_chosen 2 (numbered 2 0 0 0) ∷ []

pub numbers_spoilt : map said spoilt_numbers ≡ map spoilt spoilt_numbers
unfolding everything whole_rows said refusing spoilt some_nodes some_buckets numbered spoilt_numbers
numbers_spoilt = refl

unfoldable pub right_numbers : List Machine
right_numbers = numbered 1 0 0 0 ∷ numbered 8 0 0 0 ∷ numbered 2 1 2 1 ∷ with_chosen 0 (numbered 2 0 0 0) ∷ []

pub numbers_sound : map said right_numbers ≡ map sound_with_5 right_numbers
unfolding everything whole_rows said refusing sound_with_5 some_nodes some_buckets numbered right_numbers
numbers_sound = refl

-- ---- the version that a state keeps

unfoldable pub versioned : ℕ → Machine
versioned v =
    machine_of (config (with_version v (config_of 2)) H 3 B 2 head 0 last_node 0 last_bucket 0 tasks []) (pool some_nodes) (pool some_buckets)

pub versions_spoilt : said (versioned 0) ∷ said (versioned 3) ∷ [] ≡ spoilt (versioned 0) ∷ spoilt (versioned 3) ∷ []
unfolding everything whole_rows said refusing spoilt some_nodes some_buckets versioned
versions_spoilt = refl

pub versions_sound : said (versioned 1) ∷ said (versioned 2) ∷ [] ≡ sound_with_5 (versioned 1) ∷ sound_with_5 (versioned 2) ∷ []
unfolding everything whole_rows said refusing sound_with_5 some_nodes some_buckets versioned
versions_sound = refl

-- ---- one node or bucket in the place of another

-- the head, nodes 1 and 2, buckets 0 and 1; node 0's predecessor is node 1
unfoldable pub with_records : ℕ → List ℕ → List ℕ → List ℕ → List ℕ → Machine
with_records k r r' d d' =
    machine_of (config (config_of 2) H 3 B 2 head k last_node 0 last_bucket 0 tasks []) (pool (node 1 2 (1 ∷ []) ∷ r ∷ r' ∷ [])) (pool (d ∷ d' ∷ []))

-- a predecessor
unfoldable pub with_node_1 : List ℕ → Machine
with_node_1 r = with_records 0 r (node 0 0 []) (bucket 1 (5 ∷ [])) (bucket 0 [])

-- nobody's predecessor, and not head
unfoldable pub with_node_2 : List ℕ → Machine
with_node_2 r = with_records 0 (node 1 0 []) r (bucket 1 (5 ∷ [])) (bucket 0 [])

-- a head of size 0, which is nobody's predecessor
unfoldable pub empty_head : Machine
empty_head = with_records 2 (node 1 0 []) (node 0 0 []) (bucket 1 (5 ∷ [])) (bucket 0 [])

unfoldable pub with_bucket_0 : List ℕ → Machine
with_bucket_0 d = with_records 0 (node 1 0 []) (node 0 0 []) d (bucket 0 [])

unfoldable pub with_bucket_1 : List ℕ → Machine
with_bucket_1 d = with_records 0 (node 1 0 []) (node 0 0 []) (bucket 1 (5 ∷ [])) d

unfoldable pub spoilt_records : List Machine
spoilt_records =
    -- sizes that are not listed
    map (λ k. with_node_2 (node k 0 [])) (3 ∷ 5 ∷ 31 ∷ 33 ∷ 64 ∷ [])
    -- a predecessor past the pool, one of size 0, a head of size 0
    ++ with_node_2 (node 1 4 []) ∷ with_node_1 (node 0 0 []) ∷ empty_head
    -- a place past the pool, places at and past the size, in a node that was never used too
    ∷ with_node_2 (node 1 0 (3 ∷ [])) ∷ with_node_2 (node 2 0 (0 ∷ 0 ∷ 1 ∷ [])) ∷ with_node_2 (node 16 0 (replicate 31 0 ++ 1 ∷ []))
    ∷ with_node_2 (node 0 0 (1 ∷ []))
    -- a bucket's first word; its tags; a word after them
    ∷ with_bucket_0 (bucket 2 (5 ∷ [])) ∷ with_bucket_0 (bucket 1 (5 ∷ 5 ∷ [])) ∷ with_bucket_0 (bucket 1 (5 ∷ 6 ∷ 4 ∷ []))
    ∷ with_bucket_0 (1 ∷ 1 ∷ 5 ∷ 6 ∷ replicate 62 0) ∷ with_bucket_0 (1 ∷ 1 ∷ 5 ∷ replicate 62 0 ++ 6 ∷ []) ∷ with_bucket_0 (1 ∷ 0 ∷ 5 ∷ replicate 63 0)
    -- 65 tags, in the last bucket
    ∷ with_bucket_1 (1 ∷ 65 ∷ range 0 64)
    ∷ []

pub records_spoilt : map said spoilt_records ≡ map spoilt spoilt_records
unfolding everything whole_rows said refusing spoilt with_records with_node_1 with_node_2 empty_head with_bucket_0 with_bucket_1 spoilt_records
records_spoilt = refl

-- every listed size, every place of 32, predecessors round a cycle, a frozen bucket, 64 tags
unfoldable pub sound_records : List Machine
sound_records =
    map (λ k. with_node_2 (node k 0 [])) (0 ∷ 1 ∷ 2 ∷ 4 ∷ 8 ∷ 16 ∷ 32 ∷ [])
    ++ with_node_2 (node 32 0 (replicate 32 2)) ∷ with_node_2 (node 1 3 []) ∷ with_bucket_0 (bucket 0 (5 ∷ [])) ∷ with_bucket_1 (bucket 0 (range 0 64)) ∷ []

pub records_sound : map said sound_records ≡ map sound_with_5 sound_records
unfolding everything whole_rows said refusing sound_with_5 with_records with_node_1 with_node_2 with_bucket_0 with_bucket_1 sound_records
records_sound = refl
