-- `game_text::ending::print` meets its contract: of a move that wins, its word, closed. Assumes nothing.
use Rattle.std.proofs.Common.{rules, [], ◌∷◌}
use Rattle.game.specs.Text.{move_word, verdict_line}
use Rattle.session_bytes.proofs.Laws.{append_2}
use Rattle.game_text.proofs.ending.print.Goals as goal

pub returns-in-LanesWin : goal.returns-in-LanesWin
unfolding verdict_line
returns-in-LanesWin c =
    let w = move_word c.in-LanesWin.m in
    rw c.in-LanesWin.is
    (record { same = search rules; shows = append_2 w (10 ∷ []) _ _ _ c.move_word.ensures.shows c.byte.ensures.shows })
