-- The numbers of marked nodes. What the two functions take, for any state and words.
-- Assumes nothing.
use Rattle.std.specs.Prelude.{ℕ, List, ◌++◌, Bool, false, ◌&&◌, ltb, leb, get_or, if◌then◌else◌}
use Rattle.spec.specs.Lists.{filter, range, concat_map}
use Rattle.spec.specs.Machine.{Machine}
use Rattle.spec.specs.Words.{number, places}
use Rattle.spec.specs.Sound.{node_count, bucket_count}
use Rattle.spec.specs.Held.{task_buckets, held_nodes, first_free, cyclic_order, free_node}

-- the numbers of the marked nodes, of 64
unfoldable pub marked_numbers : List Bool → List ℕ
marked_numbers m = filter (λ k. get_or m k false) (range 0 64)

-- the buckets that the held nodes of numbers below 64 place: in a sound machine those are all that are held
unfoldable pub placed_low : Machine → List ℕ
placed_low y = concat_map (λ l. places y.nodes (number l)) (filter (λ l. leb l 64) (held_nodes y))

-- the link of the node to be taken, where the state's numbers are within their bounds
unfoldable pub node_to_take : Machine → ℕ
node_to_take y =
    if ltb y.state.head 64 && leb (node_count y) 64 && ltb y.state.last_node (node_count y)
    then free_node y else 0

-- and of the bucket
unfoldable pub bucket_to_take : Machine → ℕ
bucket_to_take y =
    if ltb y.state.head 64 && leb (bucket_count y) 1024 && ltb y.state.last_bucket (bucket_count y)
    then first_free (placed_low y ++ concat_map task_buckets y.state.task) (cyclic_order (bucket_count y) y.state.last_bucket)
    else 0
