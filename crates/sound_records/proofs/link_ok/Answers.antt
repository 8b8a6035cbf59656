use borrow.Author.Tests.{ne_eqb, le-leb, lt-leb}
use Rattle.spec.specs.Sound.{node_link}
use Rattle.sound_records.proofs.link_ok.Goals as goal

pub returns-then-l-eq0 : goal.returns-then-l-eq0
unfolding node_link
returns-then-l-eq0 c = λ y e h. rw (h, le-leb _ _ c.if-l-h.true, c.if-l-eq0.true)

pub returns-else-l-eq0 : goal.returns-else-l-eq0
unfolding node_link
returns-else-l-eq0 c = λ y e h. rw (h, le-leb _ _ c.if-l-h.true, e, ne_eqb _ _ c.if-l-eq0.false, ← c.size_of.ensures)

pub returns-else-l-h : goal.returns-else-l-h
unfolding node_link
returns-else-l-h c = λ y e h. rw (h, lt-leb _ _ c.if-l-h.false)
