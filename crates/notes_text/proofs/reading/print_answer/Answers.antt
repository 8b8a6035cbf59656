-- `notes_text::reading::print_answer` meets its contract. The tests of the definition, in its order. Assumes nothing.
use Rattle.std.proofs.Common.{sym, ◌∙◌}
use Rattle.session.specs.Grammar.{admissible}
use Rattle.stdio.specs.Readers.{last_lines}
use Rattle.notes.specs.Text.{parse_note_line}
use Rattle.notes_text.specs.Reading.{add_line, answer}
use Rattle.notes_text.specs.Lines.{outside_refused}
use Rattle.notes_text.proofs.reading.print_answer.Goals as goal
use Rattle.notes_text.proofs.reading.print_answer.Goals.{then-r-via-then-r, then-r-via-else-r+then-cut_off}

pub returns-then-r : goal.returns-then-r
unfolding answer last_lines add_line parse_note_line admissible
returns-then-r c =
    elim c.then-r.branch [
      | then-r-via-then-r w ↦ rw (outside_refused c.args.r w.if-r.true (last_lines c.args.p)) c.refusal.ensures
      | then-r-via-else-r+then-cut_off w ↦ rw (sym w.cut_off.ensures ∙ w.if-cut_off.true) c.refusal.ensures
    ]

pub returns : goal.returns
unfolding answer last_lines
returns c = rw (sym c.cut_off.ensures ∙ c.if-cut_off.false, c.if-r.false) c.merged.ensures
