-- Sessions computed from the definitions by one statement, `table_holds`: the whole case of the paper, what is outside the
-- grammar in each place, refused openings, refusals after which the session goes on, the version, and the rule for tag 0. Assumes
-- nothing.
use Rattle.std.specs.Prelude.{ℕ, ◌≡◌, refl, List, [], ◌∷◌, ◌++◌, map}
use Prim.Native.String.{String}
use Rattle.spec.specs.Everything.{everything}
use Rattle.session.specs.Ascii.{codes, ascii}
use Rattle.session.specs.Transcript.{transcript}
use Rattle.session.specs.Everything.{session_definitions}

pub record Case : Type 0 where
  pub input : List ℕ
  pub prints : List ℕ

unfoldable pub texts : List String → List ℕ
texts [] = []
texts (s ∷ ss) = ascii s ++ texts ss

-- this input gives that output
unfoldable pub gives : List String → List String → Case
gives input prints = record { input = texts input; prints = texts prints }

unfoldable pub table : List Case
table =
    -- the whole case
    gives ("tasks=1\nnodes=3\nbuckets=4\nstart=0,insert,17\nstep=0\nstep=0\nstep=0\nstart=0,grow\nstep=0\n"
    ∷ "step=0\nstep=0\nstep=0\nstep=0\nstep=0\nstep=0\nstart=0,contains,17\nstep=0\nstep=0\nstep=0\n"
    ∷ "step=0\nstep=0\n" ∷ [])
    ("at=0,32\nat=0,33\nat=0,36\nend=0,yes,3,1\nat=0,20\nat=0,39\nat=0,40\nat=0,51\nat=0,24\nat=0,27\n"
    ∷ "at=0,28\nend=0,done,7\nat=0,12\nat=0,13\nat=0,15\nat=0,16\nat=0,18\nend=0,yes,5\nsize=2\ntags=1\n"
    ∷ "tag=17\n" ∷ [])
    ∷
    -- no line
    gives []
    ("refuse=10\n" ∷ [])
    ∷
    -- two header lines
    gives ("tasks=1\nnodes=1\n" ∷ [])
    ("refuse=10\n" ∷ [])
    ∷
    -- the third header line is not closed
    gives ("tasks=1\nnodes=1\nbuckets=1" ∷ [])
    ("refuse=10\n" ∷ [])
    ∷
    -- a header and no event
    gives ("tasks=1\nnodes=1\nbuckets=1\n" ∷ [])
    ("size=1\ntags=0\n" ∷ [])
    ∷
    -- a key in the wrong place
    gives ("nodes=1\ntasks=1\nbuckets=1\n" ∷ [])
    ("refuse=10\n" ∷ [])
    ∷
    -- a bad header line after tasks=0
    gives ("tasks=0\nnodes=x\nbuckets=1\n" ∷ [])
    ("refuse=10\n" ∷ [])
    ∷
    -- tasks out of bounds
    gives ("tasks=0\nnodes=0\nbuckets=0\nstep=0\n" ∷ [])
    ("refuse=1\n" ∷ [])
    ∷
    -- tasks out of bounds
    gives ("tasks=9\nnodes=1\nbuckets=1\njunk\n" ∷ [])
    ("refuse=1\n" ∷ [])
    ∷
    -- nodes out of bounds, and buckets
    gives ("tasks=8\nnodes=65\nbuckets=201\n" ∷ [])
    ("refuse=2\n" ∷ [])
    ∷
    -- no nodes
    gives ("tasks=8\nnodes=0\nbuckets=1\n" ∷ [])
    ("refuse=2\n" ∷ [])
    ∷
    -- buckets out of bounds
    gives ("tasks=8\nnodes=64\nbuckets=201\n" ∷ [])
    ("refuse=3\n" ∷ [])
    ∷
    -- no buckets
    gives ("tasks=8\nnodes=1\nbuckets=0\n" ∷ [])
    ("refuse=3\n" ∷ [])
    ∷
    -- the largest number
    gives ("tasks=1\nnodes=4294967295\nbuckets=1\n" ∷ [])
    ("refuse=2\n" ∷ [])
    ∷
    -- one past the largest number
    gives ("tasks=1\nnodes=4294967296\nbuckets=1\n" ∷ [])
    ("refuse=10\n" ∷ [])
    ∷
    -- a leading zero
    gives ("tasks=01\nnodes=1\nbuckets=1\n" ∷ [])
    ("refuse=10\n" ∷ [])
    ∷
    -- a sign
    gives ("tasks=+1\nnodes=1\nbuckets=1\n" ∷ [])
    ("refuse=10\n" ∷ [])
    ∷
    -- no number
    gives ("tasks=\nnodes=1\nbuckets=1\n" ∷ [])
    ("refuse=10\n" ∷ [])
    ∷
    -- a space
    gives ("tasks=1 \nnodes=1\nbuckets=1\n" ∷ [])
    ("refuse=10\n" ∷ [])
    ∷
    -- an empty line among the events
    gives ("tasks=1\nnodes=1\nbuckets=1\nstart=0,grow\n\nstep=0\n" ∷ [])
    ("at=0,20\nrefuse=10\n" ∷ [])
    ∷
    -- a last line that is not closed
    gives ("tasks=1\nnodes=1\nbuckets=1\nstart=0,grow\nstep=0" ∷ [])
    ("at=0,20\nrefuse=10\n" ∷ [])
    ∷
    -- refusals of events, and the session goes on
    gives ("tasks=1\nnodes=1\nbuckets=1\nstep=0\nstart=1,grow\nstart=0,shrink\nstart=0,shrink\nstep=0\n"
    ∷ "step=4294967295\n" ∷ [])
    ("refuse=6\nrefuse=4\nat=0,20\nrefuse=5\nend=0,limit,1\nrefuse=4\nsize=1\ntags=0\n" ∷ [])
    ∷
    -- a resize with a tag
    gives ("tasks=1\nnodes=1\nbuckets=1\nstart=0,grow,1\n" ∷ [])
    ("refuse=10\n" ∷ [])
    ∷
    -- an insert without a tag
    gives ("tasks=1\nnodes=1\nbuckets=1\nstart=0,insert\n" ∷ [])
    ("refuse=10\n" ∷ [])
    ∷
    -- an insert with an empty tag
    gives ("tasks=1\nnodes=1\nbuckets=1\nstart=0,insert,\n" ∷ [])
    ("refuse=10\n" ∷ [])
    ∷
    -- an unknown call
    gives ("tasks=1\nnodes=1\nbuckets=1\nstart=0,clear\n" ∷ [])
    ("refuse=10\n" ∷ [])
    ∷
    -- no task
    gives ("tasks=1\nnodes=1\nbuckets=1\nstart=,grow\n" ∷ [])
    ("refuse=10\n" ∷ [])
    ∷
    -- a start without a call
    gives ("tasks=1\nnodes=1\nbuckets=1\nstart=0\n" ∷ [])
    ("refuse=10\n" ∷ [])
    ∷
    -- a tag with a leading zero
    gives ("tasks=1\nnodes=1\nbuckets=1\nstart=0,insert,007\n" ∷ [])
    ("refuse=10\n" ∷ [])
    ∷
    -- a header line among the events
    gives ("tasks=1\nnodes=1\nbuckets=1\ntasks=1\n" ∷ [])
    ("refuse=10\n" ∷ [])
    ∷
    -- a carriage return
    gives ("tasks=1\nnodes=1\nbuckets=1\nstep=0\r\n" ∷ [])
    ("refuse=10\n" ∷ [])
    ∷
    -- the longest event line
    gives ("tasks=1\nnodes=1\nbuckets=1\nstart=0,contains,4294967295\nstep=0\nstep=0\nstep=0\n" ∷ [])
    ("at=0,12\nat=0,13\nat=0,18\nend=0,no,3\nsize=1\ntags=0\n" ∷ [])
    ∷
    -- the largest tag goes in, and tag 0
    gives ("tasks=1\nnodes=1\nbuckets=1\nstart=0,insert,4294967295\nstep=0\nstep=0\nstep=0\nstart=0,insert,0\n"
    ∷ "step=0\nstep=0\nstep=0\nstart=0,remove,5\nstep=0\nstep=0\nstep=0\n" ∷ [])
    ("at=0,32\nat=0,33\nat=0,36\nend=0,yes,3,1\nat=0,32\nat=0,33\nat=0,36\nend=0,yes,3,2\nat=0,32\nat=0,33\n"
    ∷ "at=0,36\nend=0,no,3,2\nsize=1\ntags=2\ntag=0\ntag=4294967295\n" ∷ [])
    ∷
    -- one node: refusal 7 at line 27, and the session goes on
    gives ("tasks=1\nnodes=1\nbuckets=1\nstart=0,grow\nstep=0\nstep=0\nstep=0\nstep=0\nstep=0\nstep=0\nstep=0\n" ∷ [])
    ("at=0,20\nat=0,39\nat=0,40\nat=0,51\nat=0,24\nat=0,27\nrefuse=7\nrefuse=7\nsize=1\ntags=0\n" ∷ [])
    ∷
    -- a line of 41 bytes
    gives ("tasks=1\nnodes=1\nbuckets=1\nstep=111111111111111111111111111111111111\n" ∷ [])
    ("refuse=10\n" ∷ [])
    ∷
    -- version 2: 14 and 17 have the same place, and 4 another. Place 1 is filled by an insert after a grow
    gives ("tasks=1\nnodes=3\nbuckets=4\nversion=2\nstart=0,insert,17\nstep=0\nstep=0\nstep=0\nstart=0,grow\nstep=0\n"
    ∷ "step=0\nstep=0\nstep=0\nstep=0\nstep=0\nstep=0\nstart=0,insert,14\nstep=0\nstep=0\nstep=0\n"
    ∷ "step=0\nstep=0\nstep=0\nstep=0\nstep=0\nstep=0\nstep=0\nstart=0,insert,4\nstep=0\nstep=0\nstep=0\n"
    ∷ "step=0\nstep=0\nstep=0\nstep=0\nstep=0\nstep=0\nstep=0\n" ∷ [])
    ("at=0,32\nat=0,33\nat=0,36\nend=0,yes,3,1\nat=0,20\nat=0,39\nat=0,40\nat=0,51\nat=0,24\nat=0,27\n"
    ∷ "at=0,28\nend=0,done,7\nat=0,32\nat=0,33\nat=0,39\nat=0,40\nat=0,43\nat=0,44\nat=0,49\nat=0,50\n"
    ∷ "at=0,51\nat=0,36\nend=0,yes,10,2\nat=0,32\nat=0,33\nat=0,39\nat=0,40\nat=0,43\nat=0,44\nat=0,49\nat=0,50\n"
    ∷ "at=0,51\nat=0,36\nend=0,yes,10,1\nsize=2\ntags=3\ntag=4\ntag=14\ntag=17\n" ∷ [])
    ∷
    -- the version of a session without it
    gives ("tasks=1\nnodes=1\nbuckets=1\nversion=1\n" ∷ [])
    ("size=1\ntags=0\n" ∷ [])
    ∷
    -- another version
    gives ("tasks=1\nnodes=1\nbuckets=1\nversion=3\nstep=0\n" ∷ [])
    ("refuse=11\n" ∷ [])
    ∷
    -- another version, and buckets out of bounds
    gives ("tasks=1\nnodes=1\nbuckets=0\nversion=0\n" ∷ [])
    ("refuse=3\n" ∷ [])
    ∷
    -- the line after the buckets is not of the version's form: the opening is judged before it
    gives ("tasks=0\nnodes=1\nbuckets=1\nversion=x\n" ∷ [])
    ("refuse=1\n" ∷ [])
    ∷
    -- and then it is outside the grammar
    gives ("tasks=1\nnodes=1\nbuckets=1\nversion=x\n" ∷ [])
    ("refuse=10\n" ∷ [])
    ∷
    -- the version with a leading zero, after an opening that is refused
    gives ("tasks=1\nnodes=0\nbuckets=1\nversion=01\n" ∷ [])
    ("refuse=2\n" ∷ [])
    ∷
    -- the version's line is not closed
    gives ("tasks=1\nnodes=1\nbuckets=1\nversion=3" ∷ [])
    ("refuse=10\n" ∷ [])
    ∷
    -- the version's line is not closed, after an opening that is refused
    gives ("tasks=9\nnodes=1\nbuckets=1\nversion=2" ∷ [])
    ("refuse=1\n" ∷ [])
    ∷
    -- the version twice
    gives ("tasks=1\nnodes=1\nbuckets=1\nversion=2\nversion=2\n" ∷ [])
    ("refuse=10\n" ∷ [])
    ∷
    -- the version before the buckets
    gives ("tasks=1\nnodes=1\nversion=2\nbuckets=1\n" ∷ [])
    ("refuse=10\n" ∷ [])
    ∷
    -- tag 0 is withdrawn: its insert is refused and the session goes on; after 4 and 5; a remove and a contains of it, and a resize
    gives ("tasks=1\nnodes=1\nbuckets=1\nblank=no\nstart=0,insert,0\nstep=0\nstart=1,insert,0\nstart=0,contains,0\nstart=0,insert,0\n"
    ∷ "step=0\nstep=0\nstep=0\nstart=0,remove,0\nstep=0\nstep=0\nstep=0\nstart=0,shrink\nstep=0\n"
    ∷ "start=0,insert,1\nstep=0\nstep=0\nstep=0\n" ∷ [])
    ("refuse=14\nrefuse=6\nrefuse=4\nat=0,12\nrefuse=5\nat=0,13\nat=0,18\nend=0,no,3\nat=0,32\nat=0,33\nat=0,36\nend=0,no,3,0\n"
    ∷ "at=0,20\nend=0,limit,1\nat=0,32\nat=0,33\nat=0,36\nend=0,yes,3,1\nsize=1\ntags=1\ntag=1\n" ∷ [])
    ∷
    -- after the version
    gives ("tasks=1\nnodes=1\nbuckets=1\nversion=2\nblank=no\nstart=0,insert,0\n" ∷ [])
    ("refuse=14\nsize=1\ntags=0\n" ∷ [])
    ∷
    -- a version and no such line: the old rule
    gives ("tasks=1\nnodes=1\nbuckets=1\nversion=2\nstart=0,insert,0\n" ∷ [])
    ("at=0,32\nsize=1\ntags=0\n" ∷ [])
    ∷
    -- and no event
    gives ("tasks=1\nnodes=1\nbuckets=1\nblank=no\n" ∷ [])
    ("size=1\ntags=0\n" ∷ [])
    ∷
    -- before the version, which is then an event's line
    gives ("tasks=1\nnodes=1\nbuckets=1\nblank=no\nversion=2\n" ∷ [])
    ("refuse=10\n" ∷ [])
    ∷
    -- and another version is not judged there
    gives ("tasks=1\nnodes=1\nbuckets=1\nblank=no\nversion=3\n" ∷ [])
    ("refuse=10\n" ∷ [])
    ∷
    -- before the buckets
    gives ("tasks=1\nnodes=1\nblank=no\nbuckets=1\n" ∷ [])
    ("refuse=10\n" ∷ [])
    ∷
    -- another version
    gives ("tasks=1\nnodes=1\nbuckets=1\nversion=3\nblank=no\n" ∷ [])
    ("refuse=11\n" ∷ [])
    ∷
    -- twice
    gives ("tasks=1\nnodes=1\nbuckets=1\nblank=no\nblank=no\n" ∷ [])
    ("refuse=10\n" ∷ [])
    ∷
    -- another form: the opening is judged before it
    gives ("tasks=0\nnodes=1\nbuckets=1\nblank=yes\n" ∷ [])
    ("refuse=1\n" ∷ [])
    ∷
    -- and then it is outside the grammar
    gives ("tasks=1\nnodes=1\nbuckets=1\nversion=1\nblank=yes\n" ∷ [])
    ("refuse=10\n" ∷ [])
    ∷
    -- a space behind it
    gives ("tasks=1\nnodes=1\nbuckets=1\nblank=no \n" ∷ [])
    ("refuse=10\n" ∷ [])
    ∷
    -- nothing behind its key
    gives ("tasks=1\nnodes=1\nbuckets=1\nversion=2\nblank=\n" ∷ [])
    ("refuse=10\n" ∷ [])
    ∷
    -- it is not closed
    gives ("tasks=1\nnodes=1\nbuckets=1\nversion=2\nblank=no" ∷ [])
    ("refuse=10\n" ∷ [])
    ∷
    -- it is not closed, after an opening that is refused
    gives ("tasks=1\nnodes=1\nbuckets=1\nversion=0\nblank=no" ∷ [])
    ("refuse=11\n" ∷ [])
    ∷ []

pub table_holds : map (λ c. transcript c.input) table ≡ map (λ c. c.prints) table
unfolding everything session_definitions codes ascii texts gives table
table_holds = refl
