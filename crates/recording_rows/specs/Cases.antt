-- Recordings and verdicts computed from the definitions: paper 01's whole case, recorded; one insert, with each line left out, not closed
-- or altered; what is recorded and what not; and each answer of a reader, in each place. Assumes nothing.
use Rattle.std.specs.Prelude.{ℕ, ◌≡◌, refl, List, [], ◌∷◌, ◌++◌, map, take, set, replicate}
use Prim.Native.String.{String}
use Rattle.spec.specs.Lists.{range}
use Rattle.spec.specs.Everything.{everything}
use Rattle.session.specs.Ascii.{codes, ascii}
use Rattle.session.specs.Everything.{session_definitions}
use Rattle.session.specs.Cases.{texts}
use Rattle.recording.specs.declared.Verdict.TheVariants.{Same, Differs, Refusal}
use Rattle.recording.specs.Recording.{not_recorded, recorded_lines, recording}
use Rattle.recording.specs.Verdict.{verdict}
use Rattle.recording.specs.Everything.{recording_definitions}
use Rattle.recording.specs.Rows.{yard, yard_2, RecordingCase, gives, VerdictCase, judged}

-- ---- paper 01's whole case

unfoldable pub shift : List String
shift =
    "tasks=1\nnodes=3\nbuckets=4\nstart=0,insert,17\nstep=0\nstep=0\nstep=0\nstart=0,grow\nstep=0\n"
    ∷ "step=0\nstep=0\nstep=0\nstep=0\nstep=0\nstep=0\nstart=0,contains,17\nstep=0\nstep=0\nstep=0\n"
    ∷ "step=0\nstep=0\n" ∷ []

-- its recording, line by line
unfoldable pub shift_recorded : List String
shift_recorded =
    "tasks=1\n" ∷ "nodes=3\n" ∷ "buckets=4\n" ∷ "start=0,insert,17\n" ∷ "at=0,32\n" ∷ "step=0\n"
    ∷ "at=0,33\n" ∷ "step=0\n" ∷ "at=0,36\n" ∷ "step=0\n" ∷ "end=0,yes,3,1\n" ∷ "start=0,grow\n"
    ∷ "at=0,20\n" ∷ "step=0\n" ∷ "at=0,39\n" ∷ "step=0\n" ∷ "at=0,40\n" ∷ "step=0\n"
    ∷ "at=0,51\n" ∷ "step=0\n" ∷ "at=0,24\n" ∷ "step=0\n" ∷ "at=0,27\n" ∷ "step=0\n"
    ∷ "at=0,28\n" ∷ "step=0\n" ∷ "end=0,done,7\n" ∷ "start=0,contains,17\n" ∷ "at=0,12\n" ∷ "step=0\n"
    ∷ "at=0,13\n" ∷ "step=0\n" ∷ "at=0,15\n" ∷ "step=0\n" ∷ "at=0,16\n" ∷ "step=0\n"
    ∷ "at=0,18\n" ∷ "step=0\n" ∷ "end=0,yes,5\n" ∷ "size=2\n" ∷ "tags=1\n" ∷ "tag=17\n" ∷ []

pub shift_is_recorded : recording (texts shift) ≡ texts shift_recorded
unfolding everything session_definitions recording_definitions codes ascii texts shift shift_recorded
shift_is_recorded = refl

pub shift_same : verdict (texts shift_recorded) ≡ Same
unfolding everything session_definitions recording_definitions codes ascii texts shift_recorded
shift_same = refl

-- ---- one insert, with each of its lines left out, not closed or altered

unfoldable pub one_insert : List String
one_insert =
    "tasks=1\n" ∷ "nodes=1\n" ∷ "buckets=1\n" ∷ "version=2\n" ∷ "start=0,insert,17\n" ∷ "at=0,32\n" ∷ "step=0\n" ∷ "at=0,33\n"
    ∷ "step=0\n" ∷ "at=0,36\n" ∷ "step=0\n" ∷ "end=0,yes,3,1\n" ∷ "size=1\n" ∷ "tags=1\n" ∷ "tag=17\n" ∷ []

-- its first n lines alone, for n from 0 to 15
pub lines_cut : map (λ n. verdict (texts (take n one_insert))) (range 0 16) ≡ replicate 15 (Refusal 12) ++ (Same ∷ [])
unfolding everything session_definitions recording_definitions codes ascii texts one_insert
lines_cut = refl

-- its first n lines, and a byte that is not closed, for n from 0 to 15
pub line_unclosed : map (λ n. verdict (texts (take n one_insert) ++ ascii "s")) (range 0 16) ≡ replicate 16 (Refusal 10)
unfolding everything session_definitions recording_definitions codes ascii texts one_insert
line_unclosed = refl

-- `x` in the place of a line: 10 for a header line, an event's line and the line `size=1`, the line's number for all others
pub line_altered : map (λ n. verdict (texts (set one_insert n "x\n"))) (range 0 15)
    ≡ Refusal 10 ∷ Refusal 10 ∷ Refusal 10 ∷ Refusal 10 ∷ Refusal 10 ∷ Differs 6 ∷ Refusal 10 ∷ Differs 8
    ∷ Refusal 10 ∷ Differs 10 ∷ Refusal 10 ∷ Differs 12 ∷ Refusal 10 ∷ Differs 14 ∷ Differs 15 ∷ []
unfolding everything session_definitions recording_definitions codes ascii texts one_insert
line_altered = refl

-- another number in a line: of tasks and of the version, which change nothing; of an event's task; an output line without its last
-- field; another size, count and tag
pub other_numbers : map (λ r. verdict (texts r))
    (set one_insert 0 "tasks=2\n" ∷ set one_insert 3 "version=1\n" ∷ set one_insert 6 "step=1\n" ∷ set one_insert 11 "end=0,yes,3\n"
    ∷ set one_insert 12 "size=2\n" ∷ set one_insert 13 "tags=2\n" ∷ set one_insert 14 "tag=18\n" ∷ [])
    ≡ Same ∷ Same ∷ Differs 8 ∷ Differs 12 ∷ Differs 13 ∷ Differs 14 ∷ Differs 15 ∷ []
unfolding everything session_definitions recording_definitions codes ascii texts one_insert
other_numbers = refl

-- ---- small yards

unfoldable pub recordings : List RecordingCase
recordings =
    -- a header and no event
    gives (yard ∷ [])
    (yard ∷ "size=1\ntags=0\n" ∷ [])
    ∷
    -- with a version
    gives (yard_2 ∷ [])
    (yard_2 ∷ "size=1\ntags=0\n" ∷ [])
    ∷
    -- a line outside the grammar is left out, and what comes after it
    gives (yard ∷ "start=0,grow\nstep=0\n\nstep=0\n" ∷ [])
    (yard ∷ "start=0,grow\nat=0,20\nstep=0\nat=0,39\nsize=1\ntags=0\n" ∷ [])
    ∷
    -- the line after the buckets is no version
    gives (yard ∷ "version=x\nstep=0\n" ∷ [])
    (yard ∷ "size=1\ntags=0\n" ∷ [])
    ∷
    -- the version's line is not closed
    gives (yard ∷ "version=2" ∷ [])
    (yard ∷ "size=1\ntags=0\n" ∷ [])
    ∷
    -- tag 0 is withdrawn, without a version and with one
    gives (yard ∷ "blank=no\nstart=0,insert,0\nstep=0\n" ∷ [])
    (yard ∷ "blank=no\nstart=0,insert,0\nrefuse=14\nstep=0\nrefuse=6\nsize=1\ntags=0\n" ∷ [])
    ∷
    gives (yard_2 ∷ "blank=no\nstart=0,remove,0\n" ∷ [])
    (yard_2 ∷ "blank=no\nstart=0,remove,0\nat=0,32\nsize=1\ntags=0\n" ∷ [])
    ∷
    -- it stands before the version, which is then left out
    gives (yard ∷ "blank=no\nversion=2\nstep=0\n" ∷ [])
    (yard ∷ "blank=no\nsize=1\ntags=0\n" ∷ [])
    ∷
    -- it is not closed
    gives (yard_2 ∷ "blank=no" ∷ [])
    (yard_2 ∷ "size=1\ntags=0\n" ∷ [])
    ∷
    -- a last line that is not closed is left out
    gives (yard ∷ "start=0,grow\nstep=0" ∷ [])
    (yard ∷ "start=0,grow\nat=0,20\nsize=1\ntags=0\n" ∷ [])
    ∷
    -- `size=` is outside the session's grammar
    gives (yard ∷ "start=0,grow\nsize=1\nstep=0\n" ∷ [])
    (yard ∷ "start=0,grow\nat=0,20\nsize=1\ntags=0\n" ∷ [])
    ∷
    -- refused events are recorded
    gives (yard ∷ "step=0\nstart=1,grow\nstart=0,shrink\nstart=0,shrink\nstep=0\n" ∷ [])
    (yard ∷ "step=0\nrefuse=6\nstart=1,grow\nrefuse=4\nstart=0,shrink\nat=0,20\nstart=0,shrink\n"
    ∷ "refuse=5\nstep=0\nend=0,limit,1\nsize=1\ntags=0\n" ∷ [])
    ∷
    -- tags are listed
    gives (yard_2 ∷ "start=0,insert,4294967295\nstep=0\nstep=0\nstep=0\nstart=0,insert,0\nstep=0\nstep=0\nstep=0\n" ∷ [])
    (yard_2 ∷ "start=0,insert,4294967295\nat=0,32\nstep=0\nat=0,33\nstep=0\nat=0,36\nstep=0\n"
    ∷ "end=0,yes,3,1\nstart=0,insert,0\nat=0,32\nstep=0\nat=0,33\nstep=0\nat=0,36\nstep=0\n"
    ∷ "end=0,yes,3,2\nsize=1\ntags=2\ntag=0\ntag=4294967295\n" ∷ [])
    ∷ []

-- nothing is recorded
unfoldable pub unrecorded : List (List ℕ)
unrecorded =
    -- no line
    texts []
    ∷
    -- two header lines
    texts ("tasks=1\nnodes=1\n" ∷ [])
    ∷
    -- a header line outside the grammar
    texts ("tasks=1\nnodes=x\nbuckets=1\n" ∷ [])
    ∷
    -- a refused opening
    texts ("tasks=9\nnodes=1\nbuckets=1\nstep=0\n" ∷ [])
    ∷
    -- another version
    texts (yard ∷ "version=3\nstep=0\n" ∷ [])
    ∷ texts (yard ∷ "version=3\nblank=no\n" ∷ [])
    ∷ []

unfoldable pub verdicts : List VerdictCase
verdicts =
    -- no line
    judged [] (Refusal 12)
    ∷
    -- two header lines
    judged ("tasks=1\nnodes=1\n" ∷ []) (Refusal 12)
    ∷
    -- the header alone, without a version and with one
    judged (yard ∷ []) (Refusal 12)
    ∷ judged (yard_2 ∷ []) (Refusal 12)
    ∷
    -- a header that is refused alone, without a version and with one
    judged ("tasks=1\nnodes=1\nbuckets=0\n" ∷ []) (Refusal 3)
    ∷ judged (yard ∷ "version=3\n" ∷ []) (Refusal 11)
    ∷
    -- a third line that is not closed
    judged ("tasks=1\nnodes=1\nbuckets=1" ∷ []) (Refusal 10)
    ∷
    -- a bad header line, and none after it
    judged ("tasks=1\nnodes=x\n" ∷ []) (Refusal 10)
    ∷
    -- a bad header line after tasks=0
    judged ("tasks=0\nnodes=x\nbuckets=1\n" ∷ []) (Refusal 10)
    ∷
    -- a header line of 41 bytes
    judged ("tasks=1\nnodes=11111111111111111111111111111111111\nbuckets=1\n" ∷ []) (Refusal 10)
    ∷
    -- tasks out of bounds, whatever comes then
    judged ("tasks=9\nnodes=0\nbuckets=0\njunk" ∷ []) (Refusal 1)
    ∷
    -- nodes out of bounds, and buckets
    judged ("tasks=8\nnodes=65\nbuckets=201\nversion=3\n" ∷ []) (Refusal 2)
    ∷
    -- the version's line is not closed, after an opening that is accepted or refused
    judged (yard ∷ "version=3" ∷ []) (Refusal 10)
    ∷ judged ("tasks=1\nnodes=0\nbuckets=1\nversion=2" ∷ []) (Refusal 2)
    ∷
    -- no version where a line is due, after an opening that is accepted or refused
    judged (yard ∷ "version=02\n" ∷ []) (Refusal 10)
    ∷ judged ("tasks=0\nnodes=1\nbuckets=1\nversion=02\n" ∷ []) (Refusal 1)
    ∷
    -- the version twice
    judged (yard_2 ∷ "version=2\nsize=1\ntags=0\n" ∷ []) (Refusal 10)
    ∷
    -- no event, without a version and with one
    judged (yard ∷ "size=1\ntags=0\n" ∷ []) Same
    ∷ judged (yard_2 ∷ "size=1\ntags=0\n" ∷ []) Same
    ∷
    -- the version counts as a line
    judged (yard_2 ∷ "step=0\nrefuse=5\n" ∷ []) (Differs 6)
    ∷
    -- tag 0 is withdrawn: the header alone, and with an opening that is refused
    judged (yard_2 ∷ "blank=no\n" ∷ []) (Refusal 12)
    ∷ judged ("tasks=1\nnodes=1\nbuckets=0\nblank=no\n" ∷ []) (Refusal 3)
    ∷ judged (yard ∷ "version=3\nblank=no\n" ∷ []) (Refusal 11)
    ∷
    -- no event, without a version and with one
    judged (yard ∷ "blank=no\nsize=1\ntags=0\n" ∷ []) Same
    ∷ judged (yard_2 ∷ "blank=no\nsize=1\ntags=0\n" ∷ []) Same
    ∷
    -- an insert of tag 0 under the new rule and under the old one; the line counts
    judged (yard_2 ∷ "blank=no\nstart=0,insert,0\nat=0,32\n" ∷ []) (Differs 7)
    ∷ judged (yard_2 ∷ "start=0,insert,0\nrefuse=14\n" ∷ []) (Differs 6)
    ∷
    -- twice, before the version, and another form of it
    judged (yard ∷ "blank=no\nblank=no\nsize=1\ntags=0\n" ∷ []) (Refusal 10)
    ∷ judged (yard ∷ "blank=no\nversion=2\nsize=1\ntags=0\n" ∷ []) (Refusal 10)
    ∷ judged (yard_2 ∷ "blank=yes\nsize=1\ntags=0\n" ∷ []) (Refusal 10)
    ∷
    -- another form of it, and one that is not closed, after an opening that is refused or accepted
    judged ("tasks=0\nnodes=1\nbuckets=1\nblank=yes\n" ∷ []) (Refusal 1)
    ∷ judged ("tasks=1\nnodes=0\nbuckets=1\nblank=no" ∷ []) (Refusal 2)
    ∷ judged (yard_2 ∷ "blank=no" ∷ []) (Refusal 10)
    ∷
    -- an event's line and no output line
    judged (yard ∷ "step=0\n" ∷ []) (Refusal 12)
    ∷
    -- an output line that is not closed
    judged (yard ∷ "step=0\nrefuse=6" ∷ []) (Refusal 10)
    ∷
    -- another output line, not closed: 10 goes before a difference
    judged (yard ∷ "step=0\nrefuse=5" ∷ []) (Refusal 10)
    ∷
    -- another output line, and a 10 after it
    judged (yard ∷ "step=0\nrefuse=5\njunk\n" ∷ []) (Differs 5)
    ∷
    -- a 10, and a difference after it
    judged (yard ∷ "junk\nrefuse=5\nsize=9\n" ∷ []) (Refusal 10)
    ∷
    -- a difference, and then nothing
    judged (yard ∷ "step=0\nrefuse=5\n" ∷ []) (Differs 5)
    ∷
    -- two differences
    judged (yard ∷ "step=0\nrefuse=5\nsize=2\ntags=0\n" ∷ []) (Differs 5)
    ∷
    -- an empty line for an event's
    judged (yard ∷ "\n" ∷ []) (Refusal 10)
    ∷
    -- an event's line of 41 bytes
    judged (yard ∷ "step=111111111111111111111111111111111111\nrefuse=4\n" ∷ []) (Refusal 10)
    ∷
    -- an output line with a carriage return
    judged (yard ∷ "step=0\nrefuse=6\r\nsize=1\ntags=0\n" ∷ []) (Differs 5)
    ∷
    -- an output line of 60 bytes
    judged (yard ∷ "step=0\nrefuse=60000000000000000000000000000000000000000000000000000\nsize=1\ntags=0\n" ∷ []) (Differs 5)
    ∷
    -- no listing
    judged (yard ∷ "step=0\nrefuse=6\n" ∷ []) (Refusal 12)
    ∷
    -- a listing of one line
    judged (yard ∷ "size=1\n" ∷ []) (Refusal 12)
    ∷
    -- a listing that is not closed
    judged (yard ∷ "size=1\ntags=0" ∷ []) (Refusal 10)
    ∷
    -- a first listing line that is not closed
    judged (yard ∷ "size=1" ∷ []) (Refusal 10)
    ∷
    -- another size
    judged (yard ∷ "size=2\ntags=0\n" ∷ []) (Differs 4)
    ∷
    -- a listing line of 60 bytes is only compared
    judged (yard ∷ "size=1111111111111111111111111111111111111111111111111111111\ntags=0\n" ∷ []) (Differs 4)
    ∷
    -- another word for `size=`
    judged (yard ∷ "siz=1\ntags=0\n" ∷ []) (Refusal 10)
    ∷
    -- `size=` where an output line is due
    judged (yard ∷ "step=0\nsize=1\ntags=0\n" ∷ []) (Differs 5)
    ∷
    -- an event's line in the listing
    judged (yard ∷ "size=1\nstep=0\n" ∷ []) (Differs 5)
    ∷
    -- an event's line past the listing
    judged (yard ∷ "size=1\ntags=0\nstep=0\n" ∷ []) (Differs 6)
    ∷
    -- an empty line past the listing
    judged (yard ∷ "size=1\ntags=0\n\n" ∷ []) (Differs 6)
    ∷
    -- a line past the listing, not closed
    judged (yard ∷ "size=1\ntags=0\nx" ∷ []) (Refusal 10)
    ∷
    -- a tag that is not there
    judged (yard ∷ "size=1\ntags=0\ntag=1\n" ∷ []) (Differs 6)
    ∷ []

pub recordings_hold : map (λ c. recording c.input) recordings ≡ map (λ c. c.writes) recordings
unfolding everything session_definitions recording_definitions codes ascii texts yard yard_2 gives recordings
recordings_hold = refl

pub unrecorded_hold : map recorded_lines unrecorded ≡ map (λ c. not_recorded) unrecorded
unfolding everything session_definitions recording_definitions codes ascii texts yard unrecorded
unrecorded_hold = refl

pub verdicts_hold : map (λ c. verdict c.input) verdicts ≡ map (λ c. c.answer) verdicts
unfolding everything session_definitions recording_definitions codes ascii texts yard yard_2 judged verdicts
verdicts_hold = refl
