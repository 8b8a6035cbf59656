-- Rows of the entries: the whole machine that an opening and a start leave, and which refusal comes first where two apply.
-- Assumes nothing.
use Rattle.std.specs.Prelude.{ℕ, ◌≡◌, refl, [], ◌∷◌, map, replicate, Ok}
use Rattle.spec.specs.declared.Refusal.TheVariants.{NoTask, Running, Idle, NoRecord, Spoilt}
use Rattle.spec.specs.declared.Call.TheVariants.{Insert, Remove, Contains, Grow, Shrink}
use Rattle.spec.specs.declared.Progress.TheVariants.{At}
use Rattle.spec.specs.Machine.{machine_of, config_of, zero_config, idle}
use Rattle.spec.specs.Entries.{Opened, start, step, show}
use Rattle.spec.specs.Everything.{everything}
use Rattle.spec.specs.WholeRows.{call◌tag◌line◌i◌own◌t◌s◌b◌m◌n◌new_node◌new_bucket◌, config◌H◌B◌head◌last_node◌last_bucket◌tasks◌}
use Rattle.spec.specs.WholeRows.{whole_rows}
use Rattle.spec.specs.EditEntryRows.{opened, small, insert_at_33, worn, wants_node, replies, refuses}

-- ---- openings, over pools of sevens

-- a state of zeros, and the words as they were
unfoldable pub not_opened_by : ℕ → ℕ → ℕ → Opened
not_opened_by r w x =
    record {
      refusal = r;
      machine = machine_of (config zero_config H 0 B 0 head 0 last_node 0 last_bucket 0 tasks []) (replicate w 7) (replicate x 7);
    }

-- T before the nodes before the buckets
pub openings_refused :
    opened (config_of 9) 35 67 ∷ opened (config_of 0) 34 66 ∷ opened (config_of 2) 35 67 ∷ opened (config_of 2) 34 67 ∷ []
    ≡ not_opened_by 1 35 67 ∷ not_opened_by 1 34 66 ∷ not_opened_by 2 35 67 ∷ not_opened_by 3 34 67 ∷ []
unfolding everything opened not_opened_by
openings_refused = refl

-- paper 02, U7: "an opening sets T − 1", so that task 0 is first; a refused one gives zeros
pub opened_chosen : map (λ k. (opened (config_of k) 34 66).machine.state.chosen) (1 ∷ 2 ∷ 8 ∷ 9 ∷ []) ≡ 0 ∷ 1 ∷ 7 ∷ 0 ∷ []
unfolding everything opened
opened_chosen = refl

-- ---- starts, in the small yard of EditEntryRows of `spec`

-- task 1's start of each call with tag 9, task 0 running
pub starts_whole :
    map (λ f. start (small (insert_at_33 ∷ [])) 1 f 9) (Insert ∷ Remove ∷ Contains ∷ Grow ∷ Shrink ∷ [])
    ≡ replies (Ok (At 32)) (small (insert_at_33 ∷ call 1 tag 9 line 32 i 0 own 0 t 0 s 0 b 0 m 0 n 0 new_node 0 new_bucket 0 ∷ []))
    ∷ replies (Ok (At 32)) (small (insert_at_33 ∷ call 2 tag 9 line 32 i 0 own 0 t 0 s 0 b 0 m 0 n 0 new_node 0 new_bucket 0 ∷ []))
    ∷ replies (Ok (At 12)) (small (insert_at_33 ∷ call 3 tag 9 line 12 i 0 own 0 t 0 s 0 b 0 m 0 n 0 new_node 0 new_bucket 0 ∷ []))
    ∷ replies (Ok (At 20)) (small (insert_at_33 ∷ call 4 tag 0 line 20 i 0 own 0 t 0 s 0 b 0 m 0 n 0 new_node 0 new_bucket 0 ∷ []))
    ∷ replies (Ok (At 20)) (small (insert_at_33 ∷ call 5 tag 0 line 20 i 0 own 0 t 0 s 0 b 0 m 0 n 0 new_node 0 new_bucket 0 ∷ []))
    ∷ []
unfolding everything whole_rows small insert_at_33 replies
starts_whole = refl

-- own steps stay at 65,535, and no other task moves
pub own_stay :
    step (small (idle ∷ call 3 tag 5 line 12 i 0 own 65535 t 0 s 0 b 0 m 0 n 0 new_node 0 new_bucket 0 ∷ [])) 1
    ∷ step (small (insert_at_33 ∷ call 3 tag 5 line 12 i 0 own 65534 t 0 s 0 b 0 m 0 n 0 new_node 0 new_bucket 0 ∷ [])) 1
    ∷ []
    ≡ replies (Ok (At 13)) (small (idle ∷ call 3 tag 5 line 13 i 0 own 65535 t 1 s 0 b 0 m 0 n 0 new_node 0 new_bucket 0 ∷ []))
    ∷ replies (Ok (At 13)) (small (insert_at_33 ∷ call 3 tag 5 line 13 i 0 own 65535 t 1 s 0 b 0 m 0 n 0 new_node 0 new_bucket 0 ∷ []))
    ∷ []
unfolding everything whole_rows small insert_at_33 replies
own_stay = refl

-- ---- refusals 4, 5 and 6; a task that is not there is not running either, and a step of it gives 4

pub refusals_456 :
    start (small (insert_at_33 ∷ [])) 2 Insert 9 ∷ start (small (insert_at_33 ∷ [])) 0 Insert 9
    ∷ step (small (insert_at_33 ∷ [])) 2 ∷ step (small (insert_at_33 ∷ [])) 8 ∷ step (small (insert_at_33 ∷ [])) 1 ∷ []
    ≡ map (λ r. refuses r (insert_at_33 ∷ [])) (NoTask ∷ Running ∷ NoTask ∷ NoTask ∷ Idle ∷ [])
unfolding everything whole_rows small insert_at_33 replies refuses
refusals_456 = refl

-- ---- 8 before 5, 6 and 7: i is over 32 in task 0's record, which runs; task 1 is idle; or it finds no node at 27

pub eight_first :
    start (small (worn ∷ [])) 0 Insert 9 ∷ step (small (worn ∷ [])) 1 ∷ step (small (worn ∷ wants_node ∷ [])) 1
    ∷ step (small (insert_at_33 ∷ wants_node ∷ [])) 1 ∷ []
    ≡ refuses Spoilt (worn ∷ []) ∷ refuses Spoilt (worn ∷ []) ∷ refuses Spoilt (worn ∷ wants_node ∷ []) ∷ refuses NoRecord (insert_at_33 ∷ wants_node ∷ []) ∷ []
unfolding everything whole_rows small insert_at_33 replies refuses worn wants_node
eight_first = refl

-- ---- show: each bucket's tags, none past the pool

pub shows :
    map (show (small (insert_at_33 ∷ []))) (0 ∷ 1 ∷ 2 ∷ []) ≡ (5 ∷ 6 ∷ []) ∷ [] ∷ [] ∷ []
unfolding everything whole_rows small insert_at_33
shows = refl
