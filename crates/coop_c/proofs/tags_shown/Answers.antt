-- `tags_shown` meets its contract: the count of a version of the pool.
use mathlib.Core.Path.{sym, ◌∙◌}
use Rattle.coop_c.proofs.Laws.{none_spoilt, none_past, counted}
use Rattle.coop_c.proofs.tags_shown.Goals as goal

pub returns-then-not-sound : goal.returns-then-not-sound
returns-then-not-sound c =
    let a = c.args in
    none_spoilt a.s a.vs.now a.k (sym c.sound.ensures ∙ c.if-not-sound.true)

pub returns-then-s-k : goal.returns-then-s-k
returns-then-s-k c =
    let a = c.args in
    none_past a.s a.vs.now a.k (sym c.sound.ensures ∙ c.if-not-sound.false) c.if-s-k.true

pub returns : goal.returns
returns c =
    let a = c.args in
    c.word.ensures ∙ counted a.s a.vs.now a.k (sym c.sound.ensures ∙ c.if-not-sound.false) c.if-s-k.false
