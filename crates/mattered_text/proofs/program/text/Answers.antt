-- `mattered_text::program::text` meets its contract: the lines of the input give its answer, whatever the lent words of events hold. Assumes nothing.
use Rattle.std.proofs.Common.{sym, ap, ◌∙◌}
use Rattle.session.specs.Grammar.{input_lines}
use Rattle.stdio.specs.Runs.{prints_as}
use Rattle.mattered.specs.Text.{mattered_answer}
use Rattle.mattered_standing.specs.declared.Standing.{Standing}
use Rattle.mattered_text.specs.Reading.{place}
use Rattle.mattered_text.specs.Program.{says, whole_answer}
use Rattle.mattered_text.proofs.program.text.Goals as goal

pub returns : goal.returns
returns g c =
    let a = c.args in
    let begun = sym c.new_standing.ensures in record {
      prints =
          prints_as _ mattered_answer
          (λ xs. whole_answer a.events.now c.requires.0 xs ∙ ap (λ (t : Standing). says (place t a.events.now) (input_lines xs)) begun)
          _ _ _ _ c.text.ensures.prints;
      len_in_bounds = c.text.ensures.len_in_bounds;
    }
