-- All five roles in one recording, line by line, and what is answered where one of its lines is another. Which roles are only compared is a row of
-- the crate `recording_laws`. Assumes nothing.
use Prim.Native.String.{String}
use Rattle.std.specs.Prelude.{◌≡◌, refl, List, [], ◌∷◌, map, set, get_or}
use Rattle.spec.specs.Lists.{range}
use Rattle.spec.specs.Everything.{everything}
use Rattle.session.specs.Ascii.{codes, ascii}
use Rattle.session.specs.Everything.{session_definitions}
use Rattle.session.specs.Cases.{texts}
use Rattle.recording.specs.declared.Verdict.TheVariants.{Same, Differs, Refusal}
use Rattle.recording.specs.Recording.{header_role, event_role, output_role, size_role, listing_role, RecordedLine, recorded_lines, lines_of, bytes_of}
use Rattle.recording.specs.Verdict.{verdict}
use Rattle.recording.specs.Everything.{recording_definitions}

-- an insert and a step too many, of a yard with a version; a line outside the grammar ends it
unfoldable pub shift : List String
shift = "tasks=1\nnodes=1\nbuckets=1\nversion=2\n" ∷ "start=0,insert,17\nstep=0\nstep=0\nstep=0\nstep=0\n" ∷ "grow\n" ∷ []

unfoldable pub recorded : List RecordedLine
recorded = lines_of (recorded_lines (texts shift))

-- what is written, line by line
unfoldable pub written : List String
written =
    "tasks=1\n" ∷ "nodes=1\n" ∷ "buckets=1\n" ∷ "version=2\n" ∷ "start=0,insert,17\n" ∷ "at=0,32\n" ∷ "step=0\n" ∷ "at=0,33\n" ∷ "step=0\n"
    ∷ "at=0,36\n" ∷ "step=0\n" ∷ "end=0,yes,3,1\n" ∷ "step=0\n" ∷ "refuse=6\n" ∷ "size=1\n" ∷ "tags=1\n" ∷ "tag=17\n" ∷ []

-- the role of each line: a refusal's line is an output too, and the lines after `size=` are the listing's
pub roles :
    map (λ (r : RecordedLine). r.role) recorded
    ≡ header_role ∷ header_role ∷ header_role ∷ header_role ∷ event_role ∷ output_role ∷ event_role ∷ output_role ∷ event_role
    ∷ output_role ∷ event_role ∷ output_role ∷ event_role ∷ output_role ∷ size_role ∷ listing_role ∷ listing_role ∷ []
unfolding everything session_definitions recording_definitions codes ascii texts shift recorded
roles = refl

pub lines_written : bytes_of recorded ≡ texts written
unfolding everything session_definitions recording_definitions codes ascii texts shift recorded written
lines_written = refl

-- each line another, though of its form: those that are only compared give their number, from 1 on. Of the others, an event's gives the number of the
-- output that then differs, `size=` its own, and a header's 10, the opening's refusal or a later line's number, or changes nothing
unfoldable pub altered : List String
altered =
    "tasks=9\n" ∷ "nodes=0\n" ∷ "buckets=2\n" ∷ "version=1\n" ∷ "start=0,contains,17\n" ∷ "at=0,33\n" ∷ "step=1\n" ∷ "at=0,36\n" ∷ "start=0,grow\n"
    ∷ "end=0,yes,2,1\n" ∷ "step=1\n" ∷ "end=0,no,3,1\n" ∷ "start=0,grow\n" ∷ "refuse=5\n" ∷ "size=2\n" ∷ "tags=2\n" ∷ "tag=18\n" ∷ []

pub each_altered : map (λ n. verdict (texts (set written n (get_or altered n "")))) (range 0 17)
    ≡ Refusal 1 ∷ Refusal 2 ∷ Same ∷ Same ∷ Differs 6 ∷ Differs 6 ∷ Differs 8 ∷ Differs 8 ∷ Differs 10 ∷ Differs 10 ∷ Differs 12
    ∷ Differs 12 ∷ Differs 14 ∷ Differs 14 ∷ Differs 15 ∷ Differs 16 ∷ Differs 17 ∷ []
unfolding everything session_definitions recording_definitions codes ascii texts written altered
each_altered = refl

-- "The listing begins at the first event's turn whose line starts with `size=`": without its `=` a line is an event's, outside the grammar
pub listing_begins :
    map (λ s. verdict (texts ("tasks=1\nnodes=1\nbuckets=1\n" ∷ s ∷ []))) ("size\n" ∷ "sizes=1\n" ∷ "size=\n" ∷ "size=x\n" ∷ [])
    ≡ Refusal 10 ∷ Refusal 10 ∷ Differs 4 ∷ Differs 4 ∷ []
unfolding everything session_definitions recording_definitions codes ascii texts
listing_begins = refl
