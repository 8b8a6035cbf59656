-- `plan_text::program::text` meets its contract: the lines of the input give its transcript. Assumes nothing.
use Rattle.std.proofs.Common.{sym, ap, ◌∙◌}
use Rattle.session.specs.Grammar.{input_lines}
use Rattle.stdio.specs.Runs.{prints_as}
use Rattle.plan_text.specs.Text.{plan_transcript}
use Rattle.plan_text.specs.declared.reading.Reading.{Reading}
use Rattle.plan_text.specs.Reading.{answer}
use Rattle.plan_text.specs.Lines.{lines_print_transcript}
use Rattle.plan_text.proofs.program.text.Goals as goal

pub returns : goal.returns
returns g c =
    let begun = sym c.new_reading-begin.ensures in record {
      prints =
          prints_as _ plan_transcript (λ xs. lines_print_transcript xs ∙ ap (λ (r : Reading). answer r (input_lines xs)) begun) _ _ _ _
          c.text.ensures.prints;
      len_in_bounds = c.text.ensures.len_in_bounds;
    }
