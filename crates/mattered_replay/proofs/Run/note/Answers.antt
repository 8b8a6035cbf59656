-- `note` notes the call that an output ends after the others, or nothing. Assumes nothing.
use Rattle.mattered_replay.proofs.Noting.{none_at, none_refused, one_ended}
use Rattle.mattered_replay.proofs.Run.note.Goals as goal

pub returns-in-Ok-End : goal.returns-in-Ok-End
returns-in-Ok-End c =
    let a = c.args in
    one_ended a.k a.c a.self.count a.calls.now _ _ _ _ c.in-Ok-End.is (rw c.in-Ok-End.is at c.in-Ok-End.field-0-is) c.answer_number-x.ensures _ c.write_words.ensures

pub returns-in-Ok-At : goal.returns-in-Ok-At
returns-in-Ok-At c =
    let a = c.args in
    none_at a.k a.c a.self.count a.calls.now _ c.in-Ok-At.is (rw c.in-Ok-At.is at c.in-Ok-At.field-0-is)

pub returns-in-Err : goal.returns-in-Err
returns-in-Err c =
    let a = c.args in
    none_refused a.k a.c a.self.count a.calls.now _ c.in-Err.is
