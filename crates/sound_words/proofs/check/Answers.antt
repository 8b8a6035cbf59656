use Rattle.std.proofs.Common.{sym, ◌∙◌}
use Rattle.soundness.proofs.Laws.{told_unsound}
use Rattle.spec.specs.Machine.{machine_of, task_of}
use Rattle.state_words.specs.StateWords.{state_of_words}
use Rattle.state_words.specs.RoundTrip.{fits_long}
use Rattle.sound_words.proofs.check.Goals as goal

pub known-requires : goal.known-requires
known-requires c = fits_long c.args.w.now c.requires

pub returns-then-sound : goal.returns-then-sound
returns-then-sound c = c.known.ensures _ _ (sym c.sound.ensures ∙ c.if-sound.true)

pub returns-else-sound : goal.returns-else-sound
returns-else-sound c =
    let a = c.args in
    let y = machine_of (state_of_words a.w.now) a.ns.now a.bs.now in
    sym (told_unsound (task_of y a.j) (sym c.sound.ensures ∙ c.if-sound.false))
