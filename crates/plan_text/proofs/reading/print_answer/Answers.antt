-- `plan_text::reading::print_answer` meets its contract. A last line that is too long or not closed, then the tests of the definition. Assumes nothing.
use Rattle.std.proofs.Common.{◌≡◌, true, false, [], rules, refl, sym, ◌∙◌}
use Rattle.session.specs.Grammar.{open_line, admissible}
use Rattle.partial_line.specs.PartialLines.{line_bytes}
use Rattle.stdio.specs.Readers.{last_lines}
use Rattle.plan_text.specs.Reading.{answer}
use Rattle.plan_text.specs.Lines.{outside_refused}
use Rattle.plan_text.proofs.reading.print_answer.Goals as goal
use Rattle.plan_text.proofs.reading.print_answer.Goals.{then-cut_off-via-then-cut_off, then-cut_off-via-else-cut_off+then-not-in_grammar}

pub returns-then-cut_off : goal.returns-then-cut_off
unfolding last_lines admissible answer
returns-then-cut_off c =
    elim c.then-cut_off.branch [
      | then-cut_off-via-then-cut_off w ↦
          rw (sym c.cut_off.ensures ∙ w.if-cut_off.true, outside_refused c.args.r (open_line (line_bytes c.args.p.line)) [] refl) c.refusal.ensures
      | then-cut_off-via-else-cut_off+then-not-in_grammar w ↦
          let outside : w.in_grammar.result ≡ false = search rules in
          rw (sym c.cut_off.ensures ∙ w.if-cut_off.false, sym w.in_grammar.ensures ∙ outside) c.refusal.ensures
    ]

pub returns : goal.returns
unfolding answer last_lines
returns c =
    let inside : c.in_grammar.result ≡ true = search rules in
    rw (sym c.cut_off.ensures ∙ c.if-cut_off.false, sym c.in_grammar.ensures ∙ inside) c.planned.ensures
