-- Refusal 8, as far as it does not depend on the entry called: the state and both pools are sound. Each condition of paper 01's
-- sentence on spoilt memory has a name, in the sentence's order within each record. Assumes nothing.
use Rattle.std.specs.Prelude.{ℕ, zero, suc, ◌+◌, ◌*◌, ◌-◌, List, [], ◌∷◌, Bool, true, not, ◌&&◌, ◌||◌, ltb, leb, eqb, length, get_or, take, drop, if◌then◌else◌}
use Rattle.spec.specs.declared.Task.{Task}
use Rattle.spec.specs.declared.Config.{Config}
use Rattle.spec.specs.Lists.{member, all_true, every, ascending}
use Rattle.spec.specs.Machine.{Machine}
use Rattle.spec.specs.Words.{number, filled, size}

-- ---- bounds

abbrev pub within : ℕ → ℕ → ℕ → Bool
within lo hi n = leb lo n && leb n hi

-- "Buckets in a node: 1, 2, 4, 8, 16 or 32."
unfoldable pub listed_size : ℕ → Bool
listed_size n = member n (1 ∷ 2 ∷ 4 ∷ 8 ∷ 16 ∷ 32 ∷ [])

-- the first n words are 0
unfoldable pub zeros : ℕ → List ℕ → Bool
zeros zero w = true
zeros (suc n) [] = true
zeros (suc n) (x ∷ w) = eqb x 0 && zeros n w

-- the state's T, H and B
abbrev pub task_count : Machine → ℕ
task_count y = y.state.config.tasks

abbrev pub node_count : Machine → ℕ
node_count y = y.state.nodes

abbrev pub bucket_count : Machine → ℕ
bucket_count y = y.state.buckets

-- ---- T, H, B, the slices' lengths, the head, the records last taken and the task last chosen

-- paper 02, U3: "version 1 or 2"
abbrev pub version_known : Config → Bool
version_known g = within 1 2 g.version

-- what the state keeps of what it was opened with. "T, H, B or a slice length is wrong": T. Paper 02, U3: "its state keeps the version
-- (another there is 8)"
unfoldable pub config_sound : Config → Bool
config_sound g = all_true (within 1 8 g.tasks ∷ version_known g ∷ [])

abbrev pub nodes_in_bounds : Machine → Bool
nodes_in_bounds y = within 1 64 (node_count y)

abbrev pub buckets_in_bounds : Machine → Bool
buckets_in_bounds y = within 1 1024 (bucket_count y)

abbrev pub node_words_right : Machine → Bool
node_words_right y = eqb (length y.nodes) (34 * node_count y)

abbrev pub bucket_words_right : Machine → Bool
bucket_words_right y = eqb (length y.buckets) (66 * bucket_count y)

-- "a record number is past its pool": of the state's own three
abbrev pub head_in_pool : Machine → Bool
head_in_pool y = ltb y.state.head (node_count y)

abbrev pub last_node_in_pool : Machine → Bool
last_node_in_pool y = ltb y.state.last_node (node_count y)

abbrev pub last_bucket_in_pool : Machine → Bool
last_bucket_in_pool y = ltb y.state.last_bucket (bucket_count y)

-- "the head .. has size 0"
abbrev pub head_used : Machine → Bool
head_used y = not (eqb (size y.nodes y.state.head) 0)

-- paper 02, U7: the last one chosen; "T or more is 8"
abbrev pub chosen_below_T : Machine → Bool
chosen_below_T y = ltb y.state.chosen (task_count y)

unfoldable pub sound_numbers : Machine → Bool
sound_numbers y =
    all_true
    (config_sound y.state.config
    ∷ nodes_in_bounds y
    ∷ buckets_in_bounds y
    ∷ node_words_right y
    ∷ bucket_words_right y
    ∷ head_in_pool y
    ∷ last_node_in_pool y
    ∷ last_bucket_in_pool y
    ∷ head_used y
    ∷ chosen_below_T y
    ∷ [])

-- ---- links

-- "a record number is past its pool"; "a task's node or a predecessor has size 0"
unfoldable pub node_link : Machine → ℕ → Bool
node_link y l = leb l (node_count y) && (not (filled l) || not (eqb (size y.nodes (number l)) 0))

unfoldable pub bucket_link : Machine → ℕ → Bool
bucket_link y l = leb l (bucket_count y)

-- ---- a node, given by the pool from its first word on

-- "a node's size is neither 0 nor a listed one"
abbrev pub size_known : List ℕ → Bool
size_known w = eqb (get_or w 0 0) 0 || listed_size (get_or w 0 0)

abbrev pub predecessor_sound : Machine → List ℕ → Bool
predecessor_sound y w = node_link y (get_or w 1 0)

abbrev pub places_in_pool : Machine → List ℕ → Bool
places_in_pool y w = every (bucket_link y) (take 32 (drop 2 w))

-- "a place at or past it is filled"
abbrev pub none_past_size : List ℕ → Bool
none_past_size w = zeros (32 - get_or w 0 0) (drop (2 + get_or w 0 0) w)

unfoldable pub sound_node : Machine → List ℕ → Bool
sound_node y w = size_known w && predecessor_sound y w && places_in_pool y w && none_past_size w

-- the first k nodes of the words w
unfoldable pub sound_nodes : Machine → ℕ → List ℕ → Bool
sound_nodes y zero w = true
sound_nodes y (suc k) w = sound_node y w && sound_nodes y k (drop 34 w)

-- ---- a bucket, given by the pool from its first word on

-- "a bucket's first word is over 1, its count over 64, its tags not strictly ascending or a word after them not 0"
abbrev pub first_word_known : List ℕ → Bool
first_word_known w = leb (get_or w 0 0) 1

abbrev pub count_in_bounds : List ℕ → Bool
count_in_bounds w = leb (get_or w 1 0) 64

abbrev pub tags_ascend : List ℕ → Bool
tags_ascend w = ascending (take (get_or w 1 0) (drop 2 w))

abbrev pub zeros_after_tags : List ℕ → Bool
zeros_after_tags w = zeros (64 - get_or w 1 0) (drop (2 + get_or w 1 0) w)

unfoldable pub sound_bucket : List ℕ → Bool
sound_bucket w = first_word_known w && count_in_bounds w && tags_ascend w && zeros_after_tags w

unfoldable pub sound_buckets : ℕ → List ℕ → Bool
sound_buckets zero w = true
sound_buckets (suc k) w = sound_bucket w && sound_buckets k (drop 66 w)

-- ---- tasks

-- the lines that fill a place, 39 to 52
unfoldable pub fill_lines : List ℕ
fill_lines = 39 ∷ 40 ∷ 43 ∷ 44 ∷ 46 ∷ 47 ∷ 48 ∷ 52 ∷ 49 ∷ 50 ∷ 51 ∷ []

-- the lines of a call, by its number; none for another number
unfoldable pub lines_of : ℕ → List ℕ
lines_of call =
    let update : List ℕ = 32 ∷ 33 ∷ 36 ∷ fill_lines in
    let contains : List ℕ = 12 ∷ 13 ∷ 15 ∷ 16 ∷ 17 ∷ 18 ∷ [] in
    let resize : List ℕ = 20 ∷ 24 ∷ 27 ∷ 28 ∷ fill_lines in
    get_or ([] ∷ update ∷ update ∷ contains ∷ resize ∷ resize ∷ []) call []

abbrev pub resizes : ℕ → Bool
resizes call = eqb call 4 || eqb call 5

-- "a task from T on runs"
abbrev pub task_below_T : Machine → ℕ → Bool
task_below_T y k = ltb k (task_count y)

-- "a running task's line is not one of its call's, its i is over 32, or a resize has a tag"
abbrev pub line_of_call : Task → Bool
line_of_call c = member c.line (lines_of c.call)

abbrev pub i_in_bounds : Task → Bool
i_in_bounds c = leb c.i 32

abbrev pub resize_without_tag : Task → Bool
resize_without_tag c = not (resizes c.call) || eqb c.tag 0

abbrev pub task_nodes_sound : Machine → Task → Bool
task_nodes_sound y c = every (node_link y) (c.t ∷ c.s ∷ c.new_node ∷ [])

abbrev pub task_buckets_sound : Machine → Task → Bool
task_buckets_sound y c = every (bucket_link y) (c.b ∷ c.m ∷ c.n ∷ c.new_bucket ∷ [])

unfoldable pub sound_running : Machine → ℕ → Task → Bool
sound_running y k c =
    task_below_T y k
    && line_of_call c
    && i_in_bounds c
    && resize_without_tag c
    && task_nodes_sound y c
    && task_buckets_sound y c

-- "an idle task's record is not zeros and empty places"
unfoldable pub zero_task : Task → Bool
zero_task c =
    every (λ x. eqb x 0)
    (c.call ∷ c.tag ∷ c.line ∷ c.i ∷ c.own ∷ c.t ∷ c.s ∷ c.b ∷ c.m ∷ c.n ∷ c.new_node ∷ c.new_bucket ∷ [])

unfoldable pub sound_task : Machine → ℕ → Task → Bool
sound_task y k c = if c.running then sound_running y k c else zero_task c

-- the tasks from number k on
unfoldable pub sound_tasks : Machine → ℕ → List Task → Bool
sound_tasks y k [] = true
sound_tasks y k (c ∷ cs) = sound_task y k c && sound_tasks y (suc k) cs

-- ---- the whole

unfoldable pub sound : Machine → Bool
sound y =
    sound_numbers y
    && sound_nodes y (node_count y) y.nodes
    && sound_buckets (bucket_count y) y.buckets
    && sound_tasks y 0 y.state.task
