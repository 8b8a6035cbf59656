-- Rows: what is said of small positions, computed from the definitions. A wrong definition breaks them. Assumes nothing.
use Rattle.std.specs.Prelude.{ℕ, ◌*◌, ◌≡◌, refl, List, [], ◌∷◌, ◌++◌, replicate}
use Rattle.spec.specs.declared.Call.TheVariants.{Insert, Remove, Contains, Grow}
use Rattle.spec.specs.declared.Config.{Config}
use Rattle.spec.specs.declared.Task.{Task}
use Rattle.spec.specs.Lists.{range}
use Rattle.spec.specs.Machine.{Machine, machine_of, config_of, with_version, with_head}
use Rattle.spec.specs.Entries.{opening}
use Rattle.spec.specs.Schedule.{Event, run}
use Rattle.spec.specs.Everything.{everything}
use Rattle.spec.specs.Rows.{stepping, calling}
use Rattle.spec.specs.WholeRows.{call◌tag◌line◌i◌own◌t◌s◌b◌m◌n◌new_node◌new_bucket◌, config◌H◌B◌head◌last_node◌last_bucket◌tasks◌}
use Rattle.spec.specs.WholeRows.{node, bucket, pool, whole_rows}
use Rattle.game.specs.declared.LanesMove.TheVariants.{StepTask0, StepTask1}
use Rattle.game.specs.declared.Verdict.TheVariants.{LanesWin, OfficeHolds, Refused}
use Rattle.game.specs.Game.{lanes_may, after_lanes, ended, ends_insert, office_may, after_office, wins_by, loses_by}
use Rattle.game.specs.Game.{lanes_win, winning_move, plies, inserts, no_game, verdict}

-- ---- positions

-- what these events leave, of an opening with pools of so many records
unfoldable pub after : Config → ℕ → ℕ → List Event → Machine
after g h d es = (run (opening g (replicate (34 * h) 7) (replicate (66 * d) 7)).machine es).machine

unfoldable pub in_yard : List Event → Machine
in_yard es = after (config_of 3) 2 3 es

-- task 0 has the old node after one step, and its bucket after two; the office grows for the second time, so many steps of it
unfoldable pub office_at : ℕ → ℕ → Machine
office_at j k = in_yard (calling 0 Insert 1 j ++ calling 2 Grow 0 7 ++ calling 2 Grow 0 k)

-- task 1 is to put the bucket in the place that task 0 reads next
unfoldable pub task_1_at_50 : Machine
task_1_at_50 = in_yard (calling 2 Grow 0 7 ++ calling 1 Insert 1 7 ++ calling 0 Insert 3 1)

-- place 1 is filled for tag 1 in version 1, place 0 in version 2; task 0 is to read the place of tag 13, which is 1 in both
unfoldable pub in_version : ℕ → Machine
in_version v = after (with_version v (config_of 3)) 2 3 (calling 2 Grow 0 7 ++ calling 1 Insert 1 10 ++ calling 0 Insert 13 1)

-- an insert of 5 and a remove of 100 stand at 36 with a bucket of 64 tags that no node places
unfoldable pub at_36 : ℕ → ℕ → Task
at_36 f k = call f tag k line 36 i 0 own 2 t 1 s 0 b 2 m 0 n 0 new_node 0 new_bucket 0

unfoldable pub crowded : Machine
crowded =
    machine_of (config (config_of 3) H 1 B 2 head 0 last_node 0 last_bucket 0 tasks (at_36 1 5 ∷ at_36 2 100 ∷ []))
    (pool (node 1 0 (1 ∷ []) ∷ [])) (pool (bucket 1 [] ∷ bucket 1 (range 100 64) ∷ []))

-- one name that opens every definition
unfoldable pub game_definitions : ℕ
unfolding everything whole_rows stepping calling lanes_may after_lanes ended ends_insert office_may after_office wins_by loses_by
    lanes_win winning_move plies inserts no_game verdict after in_yard office_at task_1_at_50 in_version at_36 crowded
game_definitions = 0

-- ---- "Refused: 16, N out of range, under three tasks, or task 0 not running an insert, after 8"

pub refusals :
    verdict 0 (in_yard (calling 0 Insert 5 2)) ∷ verdict 7 (in_yard (calling 0 Insert 5 2))
    ∷ verdict 1 (after (config_of 2) 2 3 (calling 0 Insert 5 2))
    ∷ verdict 1 (in_yard []) ∷ verdict 1 (in_yard (calling 0 Remove 5 2)) ∷ verdict 1 (in_yard (calling 0 Contains 5 2))
    ∷ verdict 0 (with_head 2 (in_yard [])) ∷ []
    ≡ Refused 16 ∷ Refused 16 ∷ Refused 16 ∷ Refused 16 ∷ Refused 16 ∷ Refused 16 ∷ Refused 8 ∷ []
unfolding game_definitions
refusals = refl

-- ---- who wins

-- at 36 the first step ends the insert; at 33 the second does
pub one_turn_or_two :
    verdict 1 (in_yard (calling 0 Insert 5 2)) ∷ verdict 6 (in_yard (calling 0 Insert 5 2))
    ∷ verdict 1 (in_yard (calling 0 Insert 5 1)) ∷ verdict 2 (in_yard (calling 0 Insert 5 1)) ∷ []
    ≡ LanesWin StepTask0 ∷ LanesWin StepTask0 ∷ OfficeHolds ∷ LanesWin StepTask0 ∷ []
unfolding game_definitions
one_turn_or_two = refl

-- The office is to freeze the bucket: task 0 at 36 comes first, as the lanes move first; at 33 it comes too late. With one line more
-- to go the office comes too late.
pub before_the_freeze :
    verdict 1 (office_at 2 4) ∷ verdict 2 (office_at 1 4) ∷ verdict 2 (office_at 1 3) ∷ []
    ≡ LanesWin StepTask0 ∷ OfficeHolds ∷ LanesWin StepTask0 ∷ []
unfolding game_definitions
before_the_freeze = refl

-- the end of task 1's insert is no win
pub task_1_ends : verdict 1 (in_yard (calling 0 Insert 5 1 ++ calling 1 Insert 6 2)) ≡ OfficeHolds
unfolding game_definitions
task_1_ends = refl

-- a win by task 1's step alone, and one turn fewer
pub only_by_task_1 : verdict 2 task_1_at_50 ∷ verdict 3 task_1_at_50 ∷ [] ≡ OfficeHolds ∷ LanesWin StepTask1 ∷ []
unfolding game_definitions
only_by_task_1 = refl

-- every bucket is held: 7 uses up the turn
pub refused_with_7 : verdict 3 (after (config_of 3) 2 1 (calling 2 Grow 0 7 ++ calling 0 Insert 1 6)) ≡ OfficeHolds
unfolding game_definitions
refused_with_7 = refl

-- Task 0's step is refused with 8 until task 1's has made room: it uses up the turn and no more, so that with three turns it is a winning
-- first move all the same.
pub refused_with_8 : verdict 1 crowded ∷ verdict 2 crowded ∷ verdict 3 crowded ∷ [] ≡ OfficeHolds ∷ LanesWin StepTask1 ∷ LanesWin StepTask0 ∷ []
unfolding game_definitions
refused_with_8 = refl

-- the place of tag 13 is filled in version 1 and empty in version 2
pub versions : verdict 2 (in_version 1) ∷ verdict 2 (in_version 2) ∷ [] ≡ LanesWin StepTask0 ∷ OfficeHolds ∷ []
unfolding game_definitions
versions = refl
