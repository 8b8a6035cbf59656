-- `yard_open` meets its contract: words of another length, or what the opening gives.
use mathlib.Core.Path.{ap, ◌∙◌}
use Rattle.spec.specs.declared.Config.{Config}
use Rattle.c_calls.specs.Calls.{c_open}
use Rattle.yard_c.proofs.Laws.{not_opened, opened}
use Rattle.yard_c.proofs.yard_open.Goals as goal

pub returns-then-w-ne-STATE_WORDS : goal.returns-then-w-ne-STATE_WORDS
returns-then-w-ne-STATE_WORDS c =
    not_opened _ c.args.w.now c.args.ns.now c.args.bs.now c.if-w-ne-STATE_WORDS.true

pub returns : goal.returns
returns c =
    let a = c.args in
    let w = a.w.now in
    let ns = a.ns.now in
    let bs = a.bs.now in
    let g = c.config-g in
    let o = c.open-o in
    opened g.result w ns bs c.if-w-ne-STATE_WORDS.false _ _ _ _ o.ensures.0 o.ensures.1 _ c.put_state.ensures _ c.open_number.ensures
    ∙ ap (λ (x : Config). c_open x w ns bs) g.ensures
