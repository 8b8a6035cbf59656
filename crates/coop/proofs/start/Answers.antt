-- Each early return is a refusal of `start`; what follows is `start_of_task`.
use Rattle.std.proofs.Common.{sym, ◌∙◌}
use borrow.Author.Tests.{lt-ltb, le-ltb}
use Rattle.coop_spec.specs.Entries as entries
use Rattle.coop_starts.specs.Starts.{start_of_task}
use Rattle.coop.proofs.start.Goals as goal

pub returns-then-not-sound : goal.returns-then-not-sound
unfolding entries.start
returns-then-not-sound c = rw (sym c.sound.ensures ∙ c.if-not-sound.true) (c.refused.ensures _)

pub returns-then-s-k : goal.returns-then-s-k
unfolding entries.start
returns-then-s-k c = rw (sym c.sound.ensures ∙ c.if-not-sound.false, le-ltb _ _ c.if-s-k.true) (c.refused-then-s-k.ensures _)

pub returns : goal.returns
unfolding entries.start start_of_task
returns c = rw (sym c.sound.ensures ∙ c.if-not-sound.false, lt-ltb _ _ c.if-s-k.false) (c.start_of_task.ensures c.args.vs.now)
