-- What is printed at the end is the answer to the lines that are left. Assumes nothing.
use Rattle.std.proofs.Common.{Bool, not, List, ℕ, ap, ◌∙◌}
use Rattle.session.specs.Buffer.{buffer, append}
use Rattle.game_text.specs.Reading.{place, asked_at_end, ends_as}
use Rattle.game_text.specs.Program.{ended_prints}
use Rattle.game_text.proofs.program.StandingLineReader.finish.Goals as goal

pub returns : goal.returns
returns c =
    let a = c.args in
    let here = place a.self a.ns.now a.bs.now in
    c.finish.ensures.wrote
    ∙ ap (λ (b : Bool). append (ends_as (asked_at_end (not b) a.self) here).prints (buffer a.out.now 0)) c.cut_off-closed.ensures
    ∙ ap (λ (w : List ℕ). append w (buffer a.out.now 0)) (ended_prints a.p here)
