-- Rows of a session's words, read and printed: each answer's, each call's with one letter more, digits and their neighbours, and the largest
-- pools. Assumes nothing.
use Rattle.std.specs.Prelude.{◌≡◌, refl, [], ◌∷◌, map, Some, None, Ok, Err}
use Rattle.spec.specs.declared.Refusal.TheVariants.{Withdrawn}
use Rattle.spec.specs.declared.Answer.TheVariants.{Yes, No, Full, Done, Lost, Limit}
use Rattle.spec.specs.declared.Call.TheVariants.{Insert, Remove, Contains, Grow, Shrink}
use Rattle.spec.specs.declared.Progress.TheVariants.{At}
use Rattle.spec.specs.Rows.{ended, counted}
use Rattle.spec.specs.Everything.{everything}
use Rattle.session.specs.declared.EventLine.TheVariants.{Start, Step}
use Rattle.session.specs.Ascii.{codes, ascii}
use Rattle.session.specs.Grammar.{parse_number, parse_event}
use Rattle.session.specs.Print.{output_line}
use Rattle.session.specs.Transcript.{transcript}
use Rattle.session.specs.Everything.{session_definitions}

-- ---- printed

-- the six answers, with and without the number of tags; a line; a refusal
pub lines_printed :
    map (output_line 7)
    (counted Yes 3 1 ∷ counted No 12 64 ∷ counted Full 24 64 ∷ counted Yes 3 0 ∷ ended Done 292 ∷ ended Lost 7 ∷ ended Limit 1 ∷ ended No 65535
    ∷ Ok (At 50) ∷ Err Withdrawn ∷ [])
    ≡ map ascii
    ("end=7,yes,3,1\n" ∷ "end=7,no,12,64\n" ∷ "end=7,full,24,64\n" ∷ "end=7,yes,3,0\n" ∷ "end=7,done,292\n" ∷ "end=7,lost,7\n" ∷ "end=7,limit,1\n"
    ∷ "end=7,no,65535\n" ∷ "at=7,50\n" ∷ "refuse=14\n" ∷ [])
unfolding everything session_definitions codes ascii
lines_printed = refl

-- ---- read

-- the greatest number and the next one; the bytes before `0` and after `9`, alone, first and last; a leading zero, a sign, nothing
pub numbers_read :
    map (λ s. parse_number (ascii s))
    ("0" ∷ "9" ∷ "4294967295" ∷ "4294967296" ∷ "/" ∷ ":" ∷ "1/" ∷ "1:" ∷ "/1" ∷ ":1" ∷ "00" ∷ "01" ∷ "-1" ∷ " 1" ∷ "1 " ∷ "" ∷ [])
    ≡ Some 0 ∷ Some 9 ∷ Some 4294967295 ∷ None ∷ None ∷ None ∷ None ∷ None ∷ None ∷ None
    ∷ None ∷ None ∷ None ∷ None ∷ None ∷ None ∷ []
unfolding everything session_definitions codes ascii
numbers_read = refl

-- the six events
pub events_read :
    map (λ s. parse_event (ascii s))
    ("start=0,insert,5" ∷ "start=1,remove,6" ∷ "start=2,contains,7" ∷ "start=3,grow" ∷ "start=4,shrink" ∷ "step=5" ∷ [])
    ≡ Some (Start 0 Insert 5) ∷ Some (Start 1 Remove 6) ∷ Some (Start 2 Contains 7) ∷ Some (Start 3 Grow 0) ∷ Some (Start 4 Shrink 0) ∷ Some (Step 5) ∷ []
unfolding everything session_definitions codes ascii
events_read = refl

-- a letter more or less, a letter in the place of the comma, a tag too many or missing, a blank, another key
pub not_events :
    map (λ s. parse_event (ascii s))
    ("start=0,inserts,5" ∷ "start=0,inser,5" ∷ "start=0,insertX5" ∷ "start=0,removes,5" ∷ "start=0,removeX5" ∷ "start=0,containss,5"
    ∷ "start=0,containsX5" ∷ "start=0,grows" ∷ "start=0,gro" ∷ "start=0,grow,5" ∷ "start=0,shrinks" ∷ "start=0,shrink,5" ∷ "start=0,insert,"
    ∷ "start=0,insert" ∷ "start=0" ∷ "start=0,step" ∷ "steps=0" ∷ "step=0," ∷ "step=" ∷ "Step=0" ∷ "start =0,grow" ∷ "" ∷ [])
    ≡ None ∷ None ∷ None ∷ None ∷ None ∷ None ∷ None ∷ None ∷ None ∷ None ∷ None ∷ None ∷ None
    ∷ None ∷ None ∷ None ∷ None ∷ None ∷ None ∷ None ∷ None ∷ None ∷ []
unfolding everything session_definitions codes ascii
not_events = refl

-- ---- the largest pools: 64 nodes and 200 buckets open, one more of either does not

pub largest_pools :
    map (λ s. transcript (ascii s))
    ("tasks=8\nnodes=64\nbuckets=200\n" ∷ "tasks=8\nnodes=65\nbuckets=200\n" ∷ "tasks=8\nnodes=64\nbuckets=201\n" ∷ [])
    ≡ map ascii ("size=1\ntags=0\n" ∷ "refuse=2\n" ∷ "refuse=3\n" ∷ [])
unfolding everything session_definitions codes ascii
largest_pools = refl
