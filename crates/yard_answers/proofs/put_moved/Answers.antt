-- `put_moved` meets its contract: what a move changes, or nothing where it was refused.
use mathlib.Core.Path.{sym, ap, ◌∙◌}
use Rattle.state_words.specs.StateWords.{state_words, state_of_words}
use Rattle.state_words.specs.RoundTrip.{fits_long}
use Rattle.lines.proofs.Settling.{changes_below}
use Rattle.yard_answers.proofs.Laws.{settled_changed, settled_same}
use Rattle.yard_answers.proofs.put_moved.Goals as goal

pub put_changes-requires : goal.put_changes-requires
put_changes-requires c =
    let moves = sym c.changes.ensures ∙ c.if-changes.true in
    (fits_long c.args.w.now c.requires, c.requires, changes_below c.args.m.out c.args.k moves)

pub returns-then-changes : goal.returns-then-changes
returns-then-changes c =
    let a = c.args in
    let moves = sym c.changes.ensures ∙ c.if-changes.true in
    c.put_changes.ensures ∙ ap state_words (settled_changed (state_of_words a.w.now) a.k a.m moves)

pub returns-else-changes : goal.returns-else-changes
returns-else-changes c =
    let a = c.args in
    settled_same a.w.now c.requires a.k a.m (sym c.changes.ensures ∙ c.if-changes.false)
