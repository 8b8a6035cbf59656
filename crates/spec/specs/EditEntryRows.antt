-- Rows of openings, starts, held records, the listing and shown buckets that wrong definitions break: those that the must-fail edits of this
-- crate need and no more, since each edit computes them all. The others are in the crate `cases` (EntryRows, VersionRows, WithdrawnRows,
-- HeldRows). Assumes nothing.
use Rattle.std.specs.Prelude.{ℕ, ◌≡◌, refl, List, [], ◌∷◌, map, Bool, true, replicate, Ok, Err}
use Rattle.spec.specs.declared.Refusal.{Refusal}
use Rattle.spec.specs.declared.Refusal.TheVariants.{Running, Spoilt, Withdrawn}
use Rattle.spec.specs.declared.Call.TheVariants.{Insert, Remove, Grow}
use Rattle.spec.specs.declared.Config.{Config}
use Rattle.spec.specs.Outputs.{Output}
use Rattle.spec.specs.declared.Progress.TheVariants.{At}
use Rattle.spec.specs.declared.Task.{Task}
use Rattle.spec.specs.Machine.{Machine, machine_of, config_of, with_version, with_zero_withdrawn, task_of}
use Rattle.spec.specs.Listed.{listed}
use Rattle.spec.specs.Entries.{Opened, opening, Reply, start, step, show}
use Rattle.spec.specs.Everything.{everything}
use Rattle.spec.specs.WholeRows.{call◌tag◌line◌i◌own◌t◌s◌b◌m◌n◌new_node◌new_bucket◌, config◌H◌B◌head◌last_node◌last_bucket◌tasks◌, node, bucket, yard}
use Rattle.spec.specs.WholeRows.{stopped, whole_rows}

-- ---- openings, over pools of sevens

unfoldable pub opened : Config → ℕ → ℕ → Opened
opened g w x = opening g (replicate w 7) (replicate x 7)

-- three nodes and two buckets
pub opened_whole :
    opened (config_of 2) 102 132
    ≡ record {
      refusal = 0;
      machine = machine_of (config (config_of 2) H 3 B 2 head 0 last_node 0 last_bucket 0 tasks []) (1 ∷ 0 ∷ 1 ∷ replicate 99 0) (1 ∷ replicate 131 0);
    }
unfolding everything opened
opened_whole = refl

-- by the version; 3 comes before 11
pub openings_by_version :
    map (λ v. (opened (with_version v (config_of 2)) 34 66).refusal) (0 ∷ 1 ∷ 2 ∷ 3 ∷ []) ≡ 11 ∷ 0 ∷ 0 ∷ 11 ∷ []
unfolding everything opened
openings_by_version = refl

pub eleven_after_three : (opened (with_version 3 (config_of 2)) 34 67).refusal ≡ 3
unfolding everything opened
eleven_after_three = refl

-- ---- a small yard with these tasks

unfoldable pub small : List Task → Machine
small cs = yard 0 0 0 (node 1 0 (1 ∷ []) ∷ []) (bucket 1 (5 ∷ 6 ∷ []) ∷ bucket 1 [] ∷ []) cs

unfoldable pub insert_at_33 : Task
insert_at_33 = call 1 tag 5 line 33 i 0 own 1 t 1 s 0 b 0 m 0 n 0 new_node 0 new_bucket 0

-- its i is over 32
unfoldable pub worn : Task
worn = call 1 tag 5 line 33 i 33 own 1 t 1 s 0 b 0 m 0 n 0 new_node 0 new_bucket 0

-- it finds no node at 27
unfoldable pub wants_node : Task
wants_node = call 4 tag 0 line 27 i 0 own 1 t 1 s 0 b 0 m 0 n 0 new_node 0 new_bucket 0

unfoldable pub replies : Output → Machine → Reply
replies o y = record { out = o; machine = y }

unfoldable pub refuses : Refusal → List Task → Reply
refuses r cs = replies (Err r) (small cs)

-- 8 where an idle task's record is not zeros: it has made a step
unfoldable pub left_over : Task
left_over = stopped (call 0 tag 0 line 0 i 0 own 1 t 0 s 0 b 0 m 0 n 0 new_node 0 new_bucket 0)

pub eight_for_an_idle_task : step (small (insert_at_33 ∷ left_over ∷ [])) 0 ≡ refuses Spoilt (insert_at_33 ∷ left_over ∷ [])
unfolding everything whole_rows small insert_at_33 replies refuses left_over
eight_for_an_idle_task = refl

-- nothing is shown of spoilt memory
pub shows_none : show (small (worn ∷ [])) 0 ≡ []
unfolding everything whole_rows small worn
shows_none = refl

-- ---- tag 0 withdrawn

-- two tasks, of version 2, under this rule
unfoldable pub ruled : Bool → Config
ruled w = with_zero_withdrawn w (with_version 2 (config_of 2))

-- one bucket with these tags, and these tasks
unfoldable pub yard_under : Bool → List ℕ → List Task → Machine
yard_under w ks cs =
    machine_of (config (ruled w) H 1 B 1 head 0 last_node 0 last_bucket 0 tasks cs) (node 1 0 (1 ∷ [])) (bucket 1 ks)

-- "a set that holds it lists it until it leaves"
unfoldable pub with_zero : List Task → Machine
with_zero cs = yard_under true (0 ∷ 7 ∷ []) cs

pub zero_listed : listed (with_zero []) ∷ listed (yard_under true (7 ∷ []) []) ∷ [] ≡ (0 ∷ 7 ∷ []) ∷ (7 ∷ []) ∷ []
unfolding everything whole_rows ruled yard_under with_zero
zero_listed = refl

-- a started call
unfoldable pub fresh : ℕ → ℕ → ℕ → Task
fresh f k l = call f tag k line l i 0 own 0 t 0 s 0 b 0 m 0 n 0 new_node 0 new_bucket 0

-- starts of task 0 with tag 0, the last one while its call runs
pub starts_of_zero :
    start (with_zero []) 0 Insert 0 ∷ start (with_zero []) 0 Remove 0 ∷ start (with_zero []) 0 Grow 0 ∷ start (with_zero (insert_at_33 ∷ [])) 0 Insert 0 ∷ []
    ≡ replies (Err Withdrawn) (with_zero []) ∷ replies (Ok (At 32)) (with_zero (fresh 2 0 32 ∷ [])) ∷ replies (Ok (At 20)) (with_zero (fresh 4 0 20 ∷ []))
    ∷ replies (Err Running) (with_zero (insert_at_33 ∷ [])) ∷ []
unfolding everything whole_rows insert_at_33 replies ruled yard_under with_zero fresh
starts_of_zero = refl

-- ---- which node line 27 takes, as its number plus 1: 0 if the step is refused

-- task 1, with these places: t, s, b, m, n, new node, new bucket
unfoldable pub task_1 : ℕ → ℕ → ℕ → ℕ → ℕ → ℕ → ℕ → Task
task_1 t' s' b' m' n' h' d' = call 1 tag 5 line 39 i 0 own 3 t t' s s' b b' m m' n n' new_node h' new_bucket d'

unfoldable pub growing : Task
growing = call 4 tag 0 line 27 i 1 own 4 t 1 s 0 b 0 m 0 n 0 new_node 0 new_bucket 0

unfoldable pub node_taken : Machine → ℕ
node_taken y = (task_of (step y 0).machine 0).new_node

-- the head, the last taken, the predecessors of nodes 0, 1 and 2, and task 1
unfoldable pub three_nodes : ℕ → ℕ → ℕ → ℕ → ℕ → Task → Machine
three_nodes k ln p q r c =
    yard k ln 0 (node 1 p (1 ∷ []) ∷ node 2 q [] ∷ node 2 r [] ∷ []) (bucket 1 [] ∷ bucket 1 [] ∷ []) (growing ∷ c ∷ [])

-- node 1 is task 1's t, and node 2 that node's predecessor or not
pub nodes_of_t :
    map (λ q. node_taken (three_nodes 0 0 0 q 0 (task_1 2 0 0 0 0 0 0))) (0 ∷ 3 ∷ []) ≡ 3 ∷ 0 ∷ []
unfolding everything whole_rows task_1 growing node_taken three_nodes
nodes_of_t = refl
