-- Lane against office (paper 02, U14): the moves of each side, what a move does, who wins with so many plies left, and what is said of
-- a position. A ply is one turn of one side. Assumes nothing.
use Rattle.std.specs.Prelude.{ℕ, zero, suc, ◌*◌, ◌-◌, Bool, true, false, not, ◌&&◌, ◌||◌, ltb, eqb, if◌then◌else◌, Ok, Err}
use Rattle.spec.specs.declared.Call.TheVariants.{Insert, Grow, Shrink}
use Rattle.spec.specs.Outputs.{Output}
use Rattle.spec.specs.declared.Progress.TheVariants.{At, End}
use Rattle.spec.specs.Numbers.{call_number}
use Rattle.spec.specs.Machine.{Machine, task_of}
use Rattle.spec.specs.Sound.{within, task_count, sound}
use Rattle.spec.specs.Entries.{start, step}
use Rattle.game.specs.declared.LanesMove.{LanesMove}
use Rattle.game.specs.declared.LanesMove.TheVariants.{StepTask0, StepTask1, LanesPass}
use Rattle.game.specs.declared.OfficeMove.{OfficeMove}
use Rattle.game.specs.declared.OfficeMove.TheVariants.{StepTask2, StartGrow, StartShrink, OfficePass}
use Rattle.game.specs.declared.Verdict.{Verdict}
use Rattle.game.specs.declared.Verdict.TheVariants.{LanesWin, OfficeHolds, Refused}

-- ---- the lanes: "The lanes own tasks 0 and 1", "the lanes step one of theirs that runs or pass"

unfoldable pub lanes_may : Machine → LanesMove → Bool
lanes_may y StepTask0 = (task_of y 0).running
lanes_may y StepTask1 = (task_of y 1).running
lanes_may y LanesPass = true

-- "A move refused with 7, or with a step's 8, only uses up its turn, and other tasks stand still.": a refused step leaves the
-- machine as it was
unfoldable pub after_lanes : Machine → LanesMove → Machine
after_lanes y StepTask0 = (step y 0).machine
after_lanes y StepTask1 = (step y 1).machine
after_lanes y LanesPass = y

unfoldable pub ended : Output → Bool
ended (Ok (At l)) = false
ended (Ok (End a own full)) = true
ended (Err r) = false

-- "task 0's insert ends": with this move, whatever its answer
unfoldable pub ends_insert : Machine → LanesMove → Bool
ends_insert y StepTask0 = ended (step y 0).out
ends_insert y StepTask1 = false
ends_insert y LanesPass = false

-- ---- the office: "the office task 2", "the office steps its task, or starts a grow or shrink if it is idle, or passes"

unfoldable pub office_may : Machine → OfficeMove → Bool
office_may y StepTask2 = (task_of y 2).running
office_may y StartGrow = not (task_of y 2).running
office_may y StartShrink = not (task_of y 2).running
office_may y OfficePass = true

unfoldable pub after_office : Machine → OfficeMove → Machine
after_office y StepTask2 = (step y 2).machine
after_office y StartGrow = (start y 2 Grow 0).machine
after_office y StartShrink = (start y 2 Shrink 0).machine
after_office y OfficePass = y

-- ---- who wins: "Each side's turn is worked out from the other's next turns, with fewer turns left."

-- a move that the lanes may make, and with it the insert ends, or the office, whose turn is next, loses
unfoldable pub wins_by : (Machine → Bool) → Machine → LanesMove → Bool
wins_by loses y m = lanes_may y m && (ends_insert y m || loses (after_lanes y m))

-- a move that the office may not make, or one after which the lanes, whose turn is next, win
unfoldable pub loses_by : (Machine → Bool) → Machine → OfficeMove → Bool
loses_by win y o = not (office_may y o) || win (after_office y o)

-- with so many plies left
unfoldable mutual
  -- the lanes are to move: one of their moves wins
  pub lanes_win : ℕ → Machine → Bool
  lanes_win zero y = false
  lanes_win (suc n) y =
      wins_by (λ z. office_loses n z) y StepTask0
      || (wins_by (λ z. office_loses n z) y StepTask1 || wins_by (λ z. office_loses n z) y LanesPass)

  -- the office is to move: each of its moves loses
  pub office_loses : ℕ → Machine → Bool
  office_loses zero y = false
  office_loses (suc n) y =
      loses_by (λ z. lanes_win n z) y OfficePass
      && (loses_by (λ z. lanes_win n z) y StepTask2
      && (loses_by (λ z. lanes_win n z) y StartGrow && loses_by (λ z. lanes_win n z) y StartShrink))

-- ---- what is said of a position

-- "give a winning first move, task 0 before task 1 before a pass"
unfoldable pub winning_move : ℕ → Machine → Verdict
winning_move zero y = OfficeHolds
winning_move (suc n) y =
    if wins_by (office_loses n) y StepTask0 then LanesWin StepTask0
    else if wins_by (office_loses n) y StepTask1 then LanesWin StepTask1
    else if wins_by (office_loses n) y LanesPass then LanesWin LanesPass
    else OfficeHolds

-- "They move in turn, lanes first", "within N of their turns": n turns of the lanes, and those of the office between them
unfoldable pub plies : ℕ → ℕ
plies n = 2 * n - 1

-- "task 0 .. running an insert"
unfoldable pub inserts : Machine → Bool
inserts y = (task_of y 0).running && eqb (task_of y 0).call (call_number Insert)

-- "16, N out of range, under three tasks, or task 0 not running an insert"
unfoldable pub no_game : ℕ → Machine → Bool
no_game n y = not (within 1 6 n) || (ltb (task_count y) 3 || not (inserts y))

-- "For a sound state and N of 1 to 6, say whether the lanes can win against every play, and give a winning first move"; "Refused:
-- 16, .., after 8"
unfoldable pub verdict : ℕ → Machine → Verdict
verdict n y =
    if not (sound y) then Refused 8
    else if no_game n y then Refused 16
    else winning_move (plies n) y

unfoldable pub is_win : Verdict → Bool
is_win (LanesWin m) = true
is_win OfficeHolds = false
is_win (Refused r) = false
