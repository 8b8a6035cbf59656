-- `game_text::ending::finish` meets its contract: by whether a game is asked for. Assumes nothing.
use Rattle.std.proofs.Common.{rules, sym, ◌∙◌}
use Rattle.game_text.proofs.Laws.{played_to, refused_to}
use Rattle.game_text.proofs.ending.finish.Goals as goal

pub returns-in-Some : goal.returns-in-Some
returns-in-Some c =
    let a = c.args in
    played_to _ a.t a.ns.now a.bs.now c.in-Some.n (sym c.asked_at_end.ensures ∙ c.in-Some.is) _ _ _ _ _ c.play.ensures

pub returns-in-None : goal.returns-in-None
returns-in-None c =
    let a = c.args in
    let why = c.end_refusal-why in
    refused_to _ a.t a.ns.now a.bs.now (sym c.asked_at_end.ensures ∙ c.in-None.is) why.result why.ensures _ _ _ (search rules)
