-- `game_text::program::text` meets its contract: the lines of the input give the game's answer, whatever the lent pools hold. Assumes nothing.
use Rattle.std.proofs.Common.{sym, ap, ◌∙◌}
use Rattle.session.specs.Grammar.{input_lines}
use Rattle.stdio.specs.Runs.{prints_as}
use Rattle.game.specs.Text.{game_answer}
use Rattle.game_text.specs.declared.Standing.{Standing}
use Rattle.game_text.specs.Reading.{place}
use Rattle.game_text.specs.LinesAnswer.{answered}
use Rattle.game_text.specs.Program.{whole_answer}
use Rattle.game_text.proofs.program.text.Goals as goal

pub returns : goal.returns
returns g c =
    let a = c.args in
    let begun = sym c.new_standing-begin.ensures in record {
      prints =
          prints_as _ game_answer
          (λ xs. whole_answer a.ns.now a.bs.now c.requires.0 c.requires.1 xs
          ∙ ap (λ (t : Standing). answered (place t a.ns.now a.bs.now) (input_lines xs)) begun)
          _ _ _ _ c.text.ensures.prints;
      len_in_bounds = c.text.ensures.len_in_bounds;
    }
