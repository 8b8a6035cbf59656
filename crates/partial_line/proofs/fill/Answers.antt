-- A byte that closes the line, and one that makes it longer.
use Rattle.std.proofs.Common.{arith, sym, ◌∙◌}
use Rattle.partial_line.proofs.Laws.{pushed_room}
use Rattle.partial_line.proofs.FillLaws.{closed_at, longer_at, not_both}
use Rattle.partial_line.proofs.fill.Goals as goal

pub returns-then-closes : goal.returns-then-closes
returns-then-closes c =
    let l = c.loop-i in
    record {
      within = omega arith;
      closes = λ e more. l.invariant.lines more ∙ closed_at c.args.input.now l.i (omega arith) more _ (sym c.closes.ensures ∙ c.if-closes.true);
      goes_on = λ e. not_both (sym e);
      whole = λ e. not_both (sym e);
      short = λ e. omega arith;
      uses = λ e. omega arith;
      some_used = λ some h. omega arith;
      room = l.invariant.room;
    }

pub loop-i-preserved : goal.loop-i-preserved
loop-i-preserved c =
    let l = c.loop-i in
    record {
      room = pushed_room l.line _ c.push-line.result c.push-line.ensures l.invariant.room;
      lines = λ more. l.invariant.lines more
          ∙ longer_at c.args.input.now l.i (omega arith) more l.line c.push-line.result l.invariant.room (omega arith)
          (sym c.closes.ensures ∙ c.if-closes.false) c.push-line.ensures;
      begun = λ z. absurd (omega arith);
    }
