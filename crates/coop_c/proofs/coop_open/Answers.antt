-- `coop_open` meets its contract: words of another length, or what the opening gives.
use Rattle.coop_c.proofs.Laws.{not_opened, opened}
use Rattle.coop_c.proofs.coop_open.Goals as goal

pub returns-then-w-ne-STATE_WORDS : goal.returns-then-w-ne-STATE_WORDS
returns-then-w-ne-STATE_WORDS c =
    let a = c.args in
    not_opened a.tasks a.w.now a.vs.now c.if-w-ne-STATE_WORDS.true

pub returns : goal.returns
returns c =
    let a = c.args in
    let o = c.open-o in
    opened a.tasks a.w.now a.vs.now c.if-w-ne-STATE_WORDS.false _ o.result.state _ o.ensures
    _ c.put_state.ensures _ c.open_number.ensures
