-- `notes_text::print::note` meets its contract. Four parts appended one after the other. Assumes nothing.
use Rattle.std.proofs.Common.{rules, [], ◌∷◌, ◌++◌}
use Rattle.session.specs.Print.{decimal, answer_word}
use Rattle.session.specs.Buffer.{append}
use Rattle.session_bytes.proofs.Laws.{append_2, append_3}
use Rattle.notes.specs.Merge.{number_of}
use Rattle.notes.specs.Text.{note_key, call_field, note_line}
use Rattle.notes_text.proofs.print.note.Goals as goal

pub returns : goal.returns
unfolding note_line append
returns c =
    let x = c.args.x in
    let key = note_key ++ decimal (number_of c.args.lane) ++ (44 ∷ []) in
    let field = call_field x.call x.tag in
    let word = answer_word x.answer in
    record {
      same = search rules;
      shows = append_2 (key ++ field ++ word) (10 ∷ []) _ _ _
          (append_3 key field word _ _ _ _ (rw c.number.ensures at c.keyed.ensures.shows) c.call_field.ensures.shows c.answer.ensures.shows)
          c.byte.ensures.shows;
    }
