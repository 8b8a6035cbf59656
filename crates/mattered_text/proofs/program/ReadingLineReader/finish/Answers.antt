-- What is printed at the end is the answer to the lines that are left. Assumes nothing.
use Rattle.std.proofs.Common.{Bool, not, ap, ◌∙◌}
use Rattle.session.specs.Buffer.{buffer, append}
use Rattle.mattered.specs.declared.Verdict.{Verdict}
use Rattle.mattered.specs.Text.{verdict_line}
use Rattle.mattered_text.specs.Reading.{place, said_at_end}
use Rattle.mattered_text.specs.Program.{ended_says}
use Rattle.mattered_text.proofs.program.ReadingLineReader.finish.Goals as goal

pub returns : goal.returns
returns c =
    let a = c.args in
    let here = place a.self.standing a.events.now in
    let said = c.verdict-v.ensures ∙ ap (λ (b : Bool). said_at_end (not b) here) c.cut_off-closed.ensures ∙ ended_says a.p here in
    c.print.ensures ∙ ap (λ (v : Verdict). append (verdict_line v) (buffer a.out.now 0)) said
