-- The game as text, for the program `yardgame`: a session whose last line is `game=N`, and the one line that is printed for it.
-- Assumes nothing.
use Rattle.std.specs.Prelude.{ℕ, ◌≡◌, refl, List, [], ◌∷◌, ◌++◌, eqb, if◌then◌else◌, Option, Some, None}
use Rattle.spec.specs.Machine.{Machine}
use Rattle.spec.specs.Entries.{Opened}
use Rattle.spec.specs.Schedule.{Event, starts, steps, run}
use Rattle.session.specs.declared.EventLine.{EventLine}
use Rattle.session.specs.declared.EventLine.TheVariants.{Start, Step}
use Rattle.session.specs.Ascii.{codes, ascii}
use Rattle.session.specs.Keys.{newline}
use Rattle.session.specs.Grammar.{InputLine, input_lines, parse_header_line, parse_event_line}
use Rattle.session.specs.Header.{HeaderRead, complete, incomplete, read_header}
use Rattle.session.specs.Print.{refusal_line}
use Rattle.session.specs.Transcript.{session_opening}
use Rattle.game.specs.declared.LanesMove.{LanesMove}
use Rattle.game.specs.declared.LanesMove.TheVariants.{StepTask0, StepTask1, LanesPass}
use Rattle.game.specs.declared.Verdict.{Verdict}
use Rattle.game.specs.declared.Verdict.TheVariants.{LanesWin, OfficeHolds, Refused}
use Rattle.game.specs.Game.{verdict}

-- ---- the fixed byte strings, in ASCII

-- `game=`
abbrev pub game_key : List ℕ
game_key = 103 ∷ 97 ∷ 109 ∷ 101 ∷ 61 ∷ []

-- `lanes=0`, `lanes=1`, `lanes=pass`: a winning first move
unfoldable pub move_word : LanesMove → List ℕ
move_word StepTask0 = 108 ∷ 97 ∷ 110 ∷ 101 ∷ 115 ∷ 61 ∷ 48 ∷ []
move_word StepTask1 = 108 ∷ 97 ∷ 110 ∷ 101 ∷ 115 ∷ 61 ∷ 49 ∷ []
move_word LanesPass = 108 ∷ 97 ∷ 110 ∷ 101 ∷ 115 ∷ 61 ∷ 112 ∷ 97 ∷ 115 ∷ 115 ∷ []

-- `office`: the lanes cannot win against every play
abbrev pub office_word : List ℕ
office_word = 111 ∷ 102 ∷ 102 ∷ 105 ∷ 99 ∷ 101 ∷ []

pub words_spelled : game_key ∷ move_word StepTask0 ∷ move_word StepTask1 ∷ move_word LanesPass ∷ office_word ∷ []
    ≡ ascii "game=" ∷ ascii "lanes=0" ∷ ascii "lanes=1" ∷ ascii "lanes=pass" ∷ ascii "office" ∷ []
unfolding codes ascii move_word
words_spelled = refl

-- the line that is printed
unfoldable pub verdict_line : Verdict → List ℕ
verdict_line (LanesWin m) = move_word m ++ (newline ∷ [])
verdict_line OfficeHolds = office_word ++ (newline ∷ [])
verdict_line (Refused r) = refusal_line r

-- ---- what the lines after the header ask for

-- N of a line `game=N`: a key and a number, as a header line has them
unfoldable pub parse_game_line : InputLine → Option ℕ
parse_game_line l = parse_header_line game_key l

-- some events and then a game of N; or a line is outside the grammar, stands after the game's, or there is no game
pub data Asked : Type 0 where
  asks : List Event → ℕ → Asked
  outside : Asked

unfoldable pub first_event : Event → Asked → Asked
first_event e (asks es n) = asks (e ∷ es) n
first_event e outside = outside

unfoldable pub event_then : Option EventLine → Asked → Asked
event_then (Some (Start k call tag)) later = first_event (starts k call tag) later
event_then (Some (Step k)) later = first_event (steps k) later
event_then None later = outside

-- nothing stands after a game's line
unfoldable pub game_then : ℕ → List InputLine → Asked
game_then n [] = asks [] n
game_then n (l ∷ ls) = outside

unfoldable pub line_then : Option ℕ → InputLine → List InputLine → Asked → Asked
line_then (Some n) l ls later = game_then n ls
line_then None l ls later = event_then (parse_event_line l) later

unfoldable pub asked : List InputLine → Asked
asked [] = outside
asked (l ∷ ls) = line_then (parse_game_line l) l ls (asked ls)

-- ---- what is printed

-- of the machine that an opening left: 10 for a line outside the grammar, as of a session
unfoldable pub game_line : Machine → Asked → List ℕ
game_line y (asks es n) = verdict_line (verdict n (run y es).machine)
game_line y outside = refusal_line 10

unfoldable pub opened_line : Opened → List InputLine → List ℕ
opened_line o ls = if eqb o.refusal 0 then game_line o.machine (asked ls) else refusal_line o.refusal

unfoldable pub header_line : HeaderRead → List ℕ
header_line (complete h ls) = opened_line (session_opening h) ls
header_line incomplete = refusal_line 10

-- for these lines, and for these bytes
unfoldable pub lines_answer : List InputLine → List ℕ
lines_answer ls = header_line (read_header ls)

unfoldable pub game_answer : List ℕ → List ℕ
game_answer input = lines_answer (input_lines input)
