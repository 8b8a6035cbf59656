-- A session whose lines are read one after the other, with the words of at most 256 events kept, and what is said at the end: the definitions that
-- the code is held to. That they give the verdict is shown in LinesVerdict. Assumes nothing.
use Rattle.std.specs.Prelude.{ℕ, ◌+◌, ◌*◌, ◌≡◌, List, [], ◌∷◌, Bool, true, false, not, ◌&&◌, ◌||◌, eqb, ltb, leb, length, if◌then◌else◌, Option, Some, None}
use Rattle.std.specs.declared.option.Option.{Option}
use Rattle.std.specs.declared.option.Option.TheVariants.{Some, None}
use Rattle.spec.specs.Numbers.{call_number}
use Rattle.spec.specs.Words.{overwrite}
use Rattle.spec.specs.Entries.{Opened}
use Rattle.spec.specs.Schedule.{Event}
use Rattle.schedule_events.specs.Events.{events_of}
use Rattle.session.specs.declared.EventLine.{EventLine}
use Rattle.session.specs.declared.EventLine.TheVariants.{Start, Step}
use Rattle.session.specs.Grammar.{InputLine, parse_event_line}
use Rattle.session.specs.Header.{optional, header_step}
use Rattle.session.specs.Transcript.{is_event, session_opening}
use Rattle.session_state.specs.declared.Phase.{Phase}
use Rattle.session_state.specs.declared.Phase.TheVariants.{Due, Events, Stopped}
use Rattle.mattered.specs.declared.Verdict.{Verdict}
use Rattle.mattered.specs.declared.Verdict.TheVariants.{Refused}
use Rattle.mattered_run.specs.Judged.{opened_events_verdict}
use Rattle.mattered_standing.specs.declared.Standing.{Standing}
use Rattle.mattered_standing.specs.Standings.{after_event, after_header}

-- where the input stands, and what the lent words of events hold
pub record Place : Type 0 where
  pub standing : Standing
  pub words : List ℕ

abbrev pub place : Standing → List ℕ → Place
place t w = record { standing = t; words = w }

-- ---- the words of an event

-- a kind, a task, a tag, and one that is not read (Events of schedule_events)
unfoldable pub event_words : Option EventLine → List ℕ
event_words (Some (Start k call tag)) = call_number call ∷ k ∷ tag ∷ 0 ∷ []
event_words (Some (Step k)) = 0 ∷ k ∷ 0 ∷ 0 ∷ []
event_words None = 0 ∷ 0 ∷ 0 ∷ 0 ∷ []

-- the words with those of event n, from 0; past 256 events, or where the slice has no room, they are not kept
unfoldable pub stored : List ℕ → ℕ → List ℕ → List ℕ
stored w n e = if ltb n 256 && leb (4 * n + 4) (length w) then overwrite w (4 * n) e else w

-- ---- a line, by where the input stands, and by whether it is of the form of an event's

unfoldable pub after_line : Phase → Standing → Bool → InputLine → Standing
after_line (Due due) t event l = after_header (header_step due t.header l) t.header event
after_line Events t event l = after_event event t.header t.outside t.count
after_line Stopped t event l = t

-- the words of the next event are written whatever the line is: they are read only if it is counted
unfoldable pub on_line : Place → InputLine → Place
on_line p l =
    let t = p.standing in
    let x = parse_event_line l in
    place (after_line t.phase t (is_event x) l) (stored p.words t.count (event_words x))

-- ---- the end of the input

-- "Input without three full header lines is 10."
unfoldable pub header_complete : Phase → Bool
header_complete (Due due) = optional due
header_complete Events = true
header_complete Stopped = false

-- "A refused opening gives its own number"; else 10 for a line outside the grammar; else what is said of the events
unfoldable pub opened_says : Opened → Bool → List Event → Verdict
opened_says o outside es =
    if outside then (if eqb o.refusal 0 then Refused 10 else Refused o.refusal) else opened_events_verdict o es

-- of an input whose last line is closed or is not; one that is not is outside the grammar
unfoldable pub said_at_end : Bool → Place → Verdict
said_at_end closed p =
    let t = p.standing in
    if header_complete t.phase then opened_says (session_opening t.header) (not closed || t.outside) (events_of t.count p.words)
    else Refused 10

-- ---- what the code is held to: what it gives, and what it leaves in the lent words

pub record StandsAt (p : Place) (t : Standing) (w : List ℕ) : Type 0 where
  pub next : t ≡ p.standing
  pub words : w ≡ p.words
