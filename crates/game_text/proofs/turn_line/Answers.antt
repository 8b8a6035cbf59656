-- `game_text::turn_line` meets its contract: by what is asked, and by what the line says. Assumes nothing.
use Rattle.game_text.proofs.Laws.{game_at, no_game_at, after_game_at}
use Rattle.game_text.proofs.turn_line.Goals as goal

pub returns-in-Some-header_number : goal.returns-in-Some-header_number
returns-in-Some-header_number c =
    let a = c.args in
    let n = c.header_number in
    let is = c.in-Some-header_number in
    game_at a.t a.ns.now a.bs.now _ c.in-None.is n.result n.ensures is.n is.is _ c.stands.ensures

pub returns-in-None-header_number : goal.returns-in-None-header_number
returns-in-None-header_number c =
    let a = c.args in
    let n = c.header_number in
    no_game_at a.t a.ns.now a.bs.now _ c.in-None.is n.result n.ensures c.in-None-header_number.is _ _ _ c.event_line.ensures

pub returns-in-Some : goal.returns-in-Some
returns-in-Some c = let a = c.args in after_game_at a.t a.ns.now a.bs.now _ _ c.in-Some.is _ c.outside.ensures
