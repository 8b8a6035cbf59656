-- A line of 41 bytes, which is too long, is left out as one that is not closed. Assumes nothing.
use Rattle.std.proofs.Common.{List, ℕ, arith, sym, ap, ◌∙◌}
use Rattle.session.specs.Buffer.{buffer, append}
use Rattle.session.specs.Grammar.{closed_line}
use Rattle.session_state.specs.Handling.{LineEffect}
use Rattle.recorder.specs.LentRecorder.{lent}
use Rattle.recorder.specs.LineRecorder.{outside_line, long_outside, recorder_ends}
use Rattle.recorder.proofs.program.RecorderLinePrinter.finish.Goals as goal

pub record_line-requires : goal.record_line-requires
record_line-requires c = c.requires.0

pub returns : goal.returns
returns c =
    let a = c.args in
    let s = lent a.self a.ns.now a.bs.now in
    let long = c.too_long-long in
    let same = ap (λ (d : LineEffect). d.prints) (outside_line s (closed_line long.result) (long_outside long.result (omega (arith, long.ensures))))
    ∙ sym (recorder_ends s a._p) in
    c.record_line.ensures.wrote ∙ ap (λ (w : List ℕ). append w (buffer a.out.now 0)) same
