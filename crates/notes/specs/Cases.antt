-- Inputs of `yardnotes` and what it prints, computed from the definitions by one statement: `table_holds`. Assumes nothing.
use Prim.Native.String.{String}
use Rattle.std.specs.Prelude.{◌≡◌, refl, List, [], ◌∷◌, map}
use Rattle.spec.specs.Everything.{everything}
use Rattle.spec.specs.History.{set_call}
use Rattle.session.specs.Ascii.{codes, ascii}
use Rattle.session.specs.Everything.{session_definitions}
use Rattle.session.specs.Cases.{Case, texts, gives}
use Rattle.notes.specs.Merge.{preceded, or_else, either, gives as given, take_call, choice, search, search_all, unfit, merge}
use Rattle.notes.specs.Text.{parse_answer, last_comma_from, last_comma, noted, parse_noted, parse_note, parse_note_line, call_field, note_line}
use Rattle.notes.specs.Text.{order_lines, outcome_lines, merge_lines, add_first, first_notes, add_second, second_notes, is_note, all_notes}
use Rattle.notes.specs.Text.{notes_output, notes_transcript}

unfoldable pub three_of_first : String
three_of_first = "note=1,contains,5,no\nnote=1,contains,5,no\nnote=1,contains,5,no\n"

unfoldable pub three_of_second : String
three_of_second = "note=2,contains,5,no\nnote=2,contains,5,no\nnote=2,contains,5,no\n"

unfoldable pub table : List Case
table =
    -- both lanes empty
    gives [] []
    ∷
    -- one empty
    gives ("note=2,insert,7,yes\nnote=2,remove,7,yes\n" ∷ []) ("note=2,insert,7,yes\nnote=2,remove,7,yes\n" ∷ [])
    ∷
    -- several orders: the first lane's call wherever both choices can still succeed
    gives ("note=2,insert,6,yes\nnote=1,insert,5,yes\n" ∷ []) ("note=1,insert,5,yes\nnote=2,insert,6,yes\n" ∷ [])
    ∷
    -- the first lane's call is given at once, and no order can then succeed
    gives ("note=1,insert,5,yes\nnote=2,insert,5,yes\nnote=2,remove,5,yes\n" ∷ [])
    ("note=2,insert,5,yes\nnote=2,remove,5,yes\nnote=1,insert,5,yes\n" ∷ [])
    ∷
    -- six and six
    gives (three_of_second ∷ three_of_first ∷ three_of_first ∷ three_of_second ∷ [])
    (three_of_first ∷ three_of_first ∷ three_of_second ∷ three_of_second ∷ [])
    ∷
    -- no order
    gives ("note=1,insert,5,yes\nnote=2,insert,5,yes\n" ∷ []) ("none\n" ∷ [])
    ∷
    -- an answer full: twelve calls never fill the set
    gives ("note=1,insert,5,full\n" ∷ []) ("none\n" ∷ [])
    ∷
    -- an answer that no call of the set gives
    gives ("note=1,contains,5,done\n" ∷ []) ("none\n" ∷ [])
    ∷
    -- a resize
    gives ("note=1,insert,5,yes\nnote=2,grow,done\n" ∷ []) ("refuse=13\n" ∷ [])
    ∷
    -- seven
    gives (three_of_first ∷ three_of_first ∷ "note=1,contains,5,no\n" ∷ []) ("refuse=13\n" ∷ [])
    ∷
    -- a line outside the grammar after a resize
    gives ("note=1,shrink,lost\nnote=3,insert,5,yes\n" ∷ []) ("refuse=10\n" ∷ [])
    ∷
    -- no answer, an unknown answer, a leading zero, a resize with a tag, a last line that is not closed
    gives ("note=1,insert,5\n" ∷ []) ("refuse=10\n" ∷ [])
    ∷ gives ("note=1,insert,5,maybe\n" ∷ []) ("refuse=10\n" ∷ [])
    ∷ gives ("note=01,insert,5,yes\n" ∷ []) ("refuse=10\n" ∷ [])
    ∷ gives ("note=1,grow,5,done\n" ∷ []) ("refuse=10\n" ∷ [])
    ∷ gives ("note=1,insert,5,yes" ∷ []) ("refuse=10\n" ∷ [])
    ∷ []

pub table_holds : map (λ c. notes_transcript c.input) table ≡ map (λ c. c.prints) table
unfolding everything set_call codes ascii session_definitions texts gives three_of_first three_of_second table preceded or_else either given take_call
    choice search search_all unfit merge parse_answer last_comma_from last_comma noted parse_noted parse_note parse_note_line call_field note_line
    order_lines outcome_lines merge_lines add_first first_notes add_second second_notes is_note all_notes notes_output notes_transcript
table_holds = refl
