-- Rows of the program's text: what is printed for an input, computed from the definitions by one statement, `table_holds`. Assumes nothing.
use Rattle.std.specs.Prelude.{◌≡◌, refl, List, [], ◌∷◌, map}
use Rattle.session.specs.Ascii.{codes, ascii}
use Rattle.session.specs.Everything.{session_definitions}
use Rattle.session.specs.Cases.{Case, texts, gives}
use Rattle.game.specs.Rows.{game_definitions}
use Rattle.game.specs.Text.{move_word, verdict_line, parse_game_line, first_event, event_then, game_then, line_then, asked}
use Rattle.game.specs.Text.{game_line, opened_line, header_line, lines_answer, game_answer}

unfoldable pub table : List Case
table =
    -- task 0 is at 36
    gives ("tasks=3\nnodes=1\nbuckets=1\nstart=0,insert,5\nstep=0\nstep=0\ngame=1\n" ∷ []) ("lanes=0\n" ∷ [])
    ∷
    -- at 33, in version 2
    gives ("tasks=3\nnodes=1\nbuckets=1\nversion=2\nstart=0,insert,5\nstep=0\ngame=1\n" ∷ []) ("office\n" ∷ [])
    ∷
    -- nothing runs; a task that there is not is refused, which is not printed
    gives ("tasks=3\nnodes=1\nbuckets=1\nstep=3\ngame=1\n" ∷ []) ("refuse=16\n" ∷ [])
    ∷
    -- the header alone, a game after the first header line, no game, a game that is not the last line, a second game
    gives ("tasks=3\nnodes=1\nbuckets=1\n" ∷ []) ("refuse=10\n" ∷ [])
    ∷ gives ("tasks=3\ngame=1\n" ∷ []) ("refuse=10\n" ∷ [])
    ∷ gives ("tasks=3\nnodes=1\nbuckets=1\nstart=0,insert,5\n" ∷ []) ("refuse=10\n" ∷ [])
    ∷ gives ("tasks=3\nnodes=1\nbuckets=1\nstart=0,insert,5\ngame=1\nstep=0\n" ∷ []) ("refuse=10\n" ∷ [])
    ∷ gives ("tasks=3\nnodes=1\nbuckets=1\nstart=0,insert,5\ngame=1\ngame=1\n" ∷ []) ("refuse=10\n" ∷ [])
    ∷
    -- a game that is not closed, without a number, with a leading zero
    gives ("tasks=3\nnodes=1\nbuckets=1\nstart=0,insert,5\ngame=1" ∷ []) ("refuse=10\n" ∷ [])
    ∷ gives ("tasks=3\nnodes=1\nbuckets=1\nstart=0,insert,5\ngame=\n" ∷ []) ("refuse=10\n" ∷ [])
    ∷ gives ("tasks=3\nnodes=1\nbuckets=1\nstart=0,insert,5\ngame=01\n" ∷ []) ("refuse=10\n" ∷ [])
    ∷
    -- a refused opening, whatever stands after the header
    gives ("tasks=9\nnodes=1\nbuckets=1\n" ∷ []) ("refuse=1\n" ∷ [])
    ∷ gives ("tasks=3\nnodes=65\nbuckets=1\ngame=x\nstep=0\n" ∷ []) ("refuse=2\n" ∷ [])
    ∷ gives ("tasks=3\nnodes=1\nbuckets=201\ngame=1\n" ∷ []) ("refuse=3\n" ∷ [])
    ∷ gives ("tasks=3\nnodes=1\nbuckets=1\nversion=3\ngame=1\n" ∷ []) ("refuse=11\n" ∷ [])
    ∷ []

pub table_holds : map (λ c. game_answer c.input) table ≡ map (λ c. c.prints) table
unfolding game_definitions session_definitions codes ascii texts gives table move_word verdict_line parse_game_line
    first_event event_then game_then line_then asked game_line opened_line header_line lines_answer game_answer
table_holds = refl
