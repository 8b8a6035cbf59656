-- An input of notes, line by line: the definitions that the code is held to. That they print the transcript is shown in Lines. Assumes nothing.
use Rattle.std.specs.Prelude.{ℕ, ◌+◌, List, [], ◌∷◌, Bool, true, false, ltb, set, replicate, if◌then◌else◌, Option, Some, None}
use Rattle.spec.specs.declared.Answer.TheVariants.{No}
use Rattle.spec.specs.declared.Call.TheVariants.{Contains}
use Rattle.session.specs.Grammar.{InputLine, closed_line}
use Rattle.session.specs.Print.{refusal_line}
use Rattle.notes.specs.declared.Note.{Note}
use Rattle.notes.specs.declared.Notes.{Notes}
use Rattle.notes.specs.declared.NoteLine.{NoteLine}
use Rattle.notes.specs.declared.NoteLine.TheVariants.{First, Second}
use Rattle.notes.specs.Orders.{note}
use Rattle.notes.specs.Merge.{list_of}
use Rattle.notes.specs.Text.{parse_note_line, merge_lines}
use Rattle.notes_text.specs.declared.reading.Reading.{Reading}

abbrev pub notes_of : ℕ → List Note → Notes
notes_of n xs = record { count = n; note = xs }

-- a list with a note more; of a list of more than six only that it is longer is kept
unfoldable pub add_note : Notes → Note → Notes
add_note l x = if ltb l.count 6 then notes_of (l.count + 1) (set l.note l.count x) else notes_of 7 l.note

abbrev pub reading : Bool → Notes → Notes → Reading
reading outside one two = record { outside = outside; one = one; two = two }

unfoldable pub no_notes : Notes
no_notes = notes_of 0 (replicate 6 (note Contains 0 No))

unfoldable pub new_reading : Reading
new_reading = reading false no_notes no_notes

-- what a line says
unfoldable pub add_line : Reading → Option NoteLine → Reading
add_line r (Some (First x)) = reading r.outside (add_note r.one x) r.two
add_line r (Some (Second x)) = reading r.outside r.one (add_note r.two x)
add_line r None = reading true r.one r.two

-- the bytes of a closed line
unfoldable pub take_line : Reading → List ℕ → Reading
take_line r l = add_line r (parse_note_line (closed_line l))

-- what is printed if these lines follow
unfoldable pub answer : Reading → List InputLine → List ℕ
answer r [] = if r.outside then refusal_line 10 else merge_lines (list_of r.one) (list_of r.two)
answer r (l ∷ ls) = answer (add_line r (parse_note_line l)) ls
