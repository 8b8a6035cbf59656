-- `reader::program::long_line` meets its contract. One refusal in any case, or the end of the line. Assumes nothing.
use Rattle.std.proofs.Math.Path.{sym}
use Rattle.std.proofs.Common.{rules, true, false, ◌∙◌}
use Rattle.reader.proofs.Programs.{answers_now, answers_then}
use Rattle.reader.proofs.program.long_line.Goals as goal

pub returns-then-same_refusal : goal.returns-then-same_refusal
returns-then-same_refusal g c = λ reads input e f gives.
    let a = c.args in
    answers_now reads input a.p a.room.now e f c.requires.1 a.g gives (search rules) (c.same_refusal.ensures c.if-same_refusal.true)

pub close_line-q-requires : goal.close_line-q-requires
close_line-q-requires g c = c.requires

pub returns-then-has_ended : goal.returns-then-has_ended
returns-then-has_ended g c = λ reads input e f gives.
    let a = c.args in
    answers_then reads input a.p a.room.now e f c.requires.1 a.g gives _ _ c.close_line-q.ensures true
    (sym c.has_ended.ensures ∙ c.if-has_ended.true)

pub returns-else-has_ended : goal.returns-else-has_ended
returns-else-has_ended g c = λ reads input e f gives.
    let a = c.args in
    answers_then reads input a.p a.room.now e f c.requires.1 a.g gives _ _ c.close_line-q.ensures false
    (sym c.has_ended.ensures ∙ c.if-has_ended.false)
