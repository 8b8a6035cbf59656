-- The last line is closed, or it is outside the grammar. Assumes nothing.
use Rattle.std.proofs.Common.{List, ℕ, not, sym, ap, ◌∙◌}
use Rattle.session.specs.Buffer.{buffer, append}
use Rattle.timeline_program.specs.Running.{running, ends_with}
use Rattle.timeline_program.proofs.ReadingLinePrinter.finish.Goals as goal

pub returns : goal.returns
returns c =
    let a = c.args in
    let same = sym (ends_with (running a.self.timeline a.ns.now a.bs.now) a.p _ (ap not c.cut_off-closed.ensures)) in
    c.finish.ensures.wrote ∙ ap (λ (w : List ℕ). append w (buffer a.out.now 0)) same
