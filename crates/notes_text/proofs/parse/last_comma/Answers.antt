-- `notes_text::parse::last_comma` meets its contract. Assumes nothing.
use Rattle.std.proofs.Common.{refl, sym, ◌∙◌, arith}
use Rattle.notes.specs.Text.{last_comma}
use Rattle.notes_text.proofs.Laws.{comma_here, comma_elsewhere, comma_end}
use Rattle.notes_text.proofs.parse.last_comma.Goals as goal
use Rattle.notes_text.proofs.parse.last_comma.Goals.{then-x-eq44, else-x-eq44}

pub loop-i-init : goal.loop-i-init
unfolding last_comma
loop-i-init c = (refl, omega arith)

pub loop-i-preserved : goal.loop-i-preserved
loop-i-preserved c =
    let l = c.loop-i in
    let s = c.args.s.now in
    elim c.if-x-eq44.branch [
      | then-x-eq44 w ↦ rw w.last-is (sym (comma_here s l.i l.last c.loop-i-test.true w.if-x-eq44.true) ∙ l.invariant.0, omega arith)
      | else-x-eq44 w ↦ rw w.last-is (sym (comma_elsewhere s l.i l.last c.loop-i-test.true w.if-x-eq44.false) ∙ l.invariant.0, l.invariant.1)
    ]

pub returns : goal.returns
returns c =
    let l = c.loop-i in
    (sym (comma_end c.args.s.now l.i l.last (omega arith)) ∙ l.invariant.0, l.invariant.1)
