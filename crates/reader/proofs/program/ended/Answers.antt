-- `reader::program::ended` meets its contract. The last line is closed or is not. Assumes nothing.
use Rattle.std.proofs.Common.{Bool, not, refl, ap, ◌∙◌, rules}
use Rattle.reader_state.specs.Standing.{read_end}
use Rattle.reader.proofs.program.ended.Goals as goal

pub returns : goal.returns
returns c =
    let a = c.args in
    record {
      input = refl;
      verdict = c.read_end.ensures ∙ ap (λ (b : Bool). read_end (not b) a.r a.ns.now a.bs.now) c.cut_off.ensures;
      room = search rules;
    }
