-- The last line is closed, or it is outside the grammar. Assumes nothing.
use Rattle.std.proofs.Common.{List, ℕ, sym, ap, ◌∙◌}
use Rattle.session.specs.Buffer.{buffer, append}
use Rattle.session_run.proofs.Laws.{ends_closed, ends_cut_off}
use Rattle.session_run.proofs.ReadingLinePrinter.finish.Goals as goal

pub returns-then-cut_off : goal.returns-then-cut_off
returns-then-cut_off c =
    let a = c.args in
    let same = ends_cut_off a.self.session a.ns.now a.bs.now a.p (sym c.cut_off.ensures ∙ c.if-cut_off.true) _ c.too_long-long.ensures in
    c.handle_line.ensures.wrote ∙ ap (λ (w : List ℕ). append w (buffer a.out.now 0)) same

pub returns-else-cut_off : goal.returns-else-cut_off
returns-else-cut_off c =
    let a = c.args in
    let same = ends_closed a.self.session a.ns.now a.bs.now a.p (sym c.cut_off.ensures ∙ c.if-cut_off.false) in
    c.end_input.ensures.wrote ∙ ap (λ (w : List ℕ). append w (buffer a.out.now 0)) same
