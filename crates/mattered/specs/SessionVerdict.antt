-- What is said of a session (paper 02, U13): `verdict` of its bytes. The refusals in their order: the header's 10, the opening's own, 10 for
-- any later line, 15. Assumes nothing.
use Rattle.std.specs.Prelude.{ℕ, List, eqb, ltb, length, if◌then◌else◌}
use Rattle.spec.specs.Machine.{Machine}
use Rattle.spec.specs.Entries.{Opened}
use Rattle.spec.specs.Schedule.{Event}
use Rattle.session.specs.Grammar.{InputLine, input_lines}
use Rattle.session.specs.Header.{HeaderRead, complete, incomplete, read_header}
use Rattle.session.specs.Transcript.{events, all_events, session_opening}
use Rattle.mattered.specs.declared.Verdict.{Verdict}
use Rattle.mattered.specs.declared.Verdict.TheVariants.{Place, NoStep, Refused}
use Rattle.mattered.specs.Mattered.{mattered}

-- "Given a session of at most 256 events"; "Refused: 15, a session of more events"
unfoldable pub events_verdict : Machine → List Event → Verdict
events_verdict y es =
    let answer = mattered y es in
    if ltb 256 (length es) then Refused 15 else answer

-- of the lines after the header. "15 .., after 10": a line outside the grammar, too long or not closed goes first, wherever it stands
unfoldable pub events_lines_verdict : Machine → List InputLine → Verdict
events_lines_verdict y ls =
    let answer = events_verdict y (events ls) in
    if all_events ls then answer else Refused 10

-- "A refused opening gives its own number and no event is read."
unfoldable pub opened_verdict : Opened → List InputLine → Verdict
opened_verdict o ls =
    let answer = events_lines_verdict o.machine ls in
    if eqb o.refusal 0 then answer else Refused o.refusal

-- "Input without three full header lines is 10." (paper 01)
unfoldable pub header_verdict : HeaderRead → Verdict
header_verdict (complete h ls) = opened_verdict (session_opening h) ls
header_verdict incomplete = Refused 10

-- of a session's lines, and of its bytes
unfoldable pub lines_verdict : List InputLine → Verdict
lines_verdict ls = header_verdict (read_header ls)

unfoldable pub verdict : List ℕ → Verdict
verdict input = lines_verdict (input_lines input)

-- of code that is lent both pools: the words of a pool after this verdict, by what they were before and what the opening makes of them. "A refusal gives
-- only its number; state and slices keep every word."
unfoldable pub words_after : Verdict → List ℕ → List ℕ → List ℕ
words_after (Refused r) before opened = before
words_after (Place n) before opened = opened
words_after NoStep before opened = opened
