-- `reader_state::comparing::same_line` meets its contract. The length, the last byte, and the bytes before it. Assumes nothing.
use Rattle.std.proofs.Common.{sym, ◌∙◌, eqb-true}
use Rattle.std.proofs.lemmas.Bool.{eqb-false}
use Rattle.reader_state.proofs.Laws.{other_length, other_last, same_last}
use Rattle.reader_state.proofs.comparing.same_line.Goals as goal
use Rattle.reader_state.proofs.comparing.same_line.Goals.{then-printed-n, else-printed-n}

pub returns-then-printed-n-eq10 : goal.returns-then-printed-n-eq10
returns-then-printed-n-eq10 c =
    let closes = c.if-printed-n-eq10.true in
    elim c.if-printed-n.branch [
      | then-printed-n w ↦ c.equals.ensures ∙ same_last _ _ w.if-printed-n.true (eqb-true _ _ (sym w.value-is ∙ closes))
      | else-printed-n w ↦ absurd (w.if-printed-n.false (eqb-true _ _ (sym w.value-is ∙ closes)))
    ]

pub returns-else-printed-n-eq10 : goal.returns-else-printed-n-eq10
returns-else-printed-n-eq10 c =
    let other = c.if-printed-n-eq10.false in
    elim c.if-printed-n.branch [
      | then-printed-n w ↦ other ∙ sym (other_last _ _ w.if-printed-n.true (eqb-false _ _ (sym w.value-is ∙ other)))
      | else-printed-n w ↦ other ∙ sym (other_length _ _ w.if-printed-n.false)
    ]
