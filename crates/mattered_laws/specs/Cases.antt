-- What is said of sessions, and their ended calls, computed from the definitions: further rows than those of the crate `mattered`. Assumes nothing.
use Rattle.std.specs.Prelude.{◌≡◌, refl, List, [], ◌∷◌, ◌++◌, map, replicate}
use Prim.Native.String.{String}
use Rattle.session.specs.Ascii.{ascii}
use Rattle.mattered.specs.declared.Verdict.TheVariants.{Place, NoStep, Refused}
use Rattle.mattered.specs.Text.{verdict_line}
use Rattle.mattered.specs.Rows.{mattered_definitions, say, header_calls, calls_of, task◌call◌tag◌answer◌}

-- ---- the list of ended calls

-- the whole case of paper 01
unfoldable pub whole_case : List String
whole_case =
    "tasks=1\nnodes=3\nbuckets=4\nstart=0,insert,17\nstep=0\nstep=0\nstep=0\nstart=0,grow\nstep=0\nstep=0\nstep=0\nstep=0\n"
    ∷ "step=0\nstep=0\nstep=0\nstart=0,contains,17\nstep=0\nstep=0\nstep=0\nstep=0\nstep=0\n" ∷ []

-- an insert answered yes, a grow done, a contains answered yes
pub whole_calls : calls_of whole_case
    ≡ task 0 call 1 tag 17 answer 1 ∷ task 0 call 4 tag 0 answer 4 ∷ task 0 call 3 tag 17 answer 1 ∷ []
unfolding mattered_definitions header_calls calls_of whole_case
whole_calls = refl

-- ---- "the earliest step event whose omission alters the list of ended calls"

-- Without the first step the start of the grow is refused, and the grow does not end. In a session that stops after the grow's first step
-- no step matters: the insert ends all the same.
pub of_the_whole_case :
    say (whole_case ∷ ("tasks=1\nnodes=1\nbuckets=1\nstart=0,insert,17\nstep=0\nstep=0\nstep=0\nstart=0,grow\nstep=0\n" ∷ []) ∷ [])
    ≡ Place 2 ∷ NoStep ∷ []
unfolding mattered_definitions whole_case
of_the_whole_case = refl

-- no event, no step, steps that end nothing, steps that are refused
pub nothing_ends :
    say (("tasks=1\nnodes=1\nbuckets=1\n" ∷ [])
    ∷ ("tasks=1\nnodes=1\nbuckets=1\nstart=0,insert,3\n" ∷ [])
    ∷ ("tasks=1\nnodes=1\nbuckets=1\nstart=0,insert,3\nstep=0\nstep=0\n" ∷ [])
    ∷ ("tasks=1\nnodes=1\nbuckets=1\nstep=0\nstep=7\n" ∷ []) ∷ [])
    ≡ NoStep ∷ NoStep ∷ NoStep ∷ NoStep ∷ []
unfolding mattered_definitions
nothing_ends = refl

-- "Own steps .. are not compared": without a step of the grow the contains takes 3 own steps in the place of 5
pub other_own_steps :
    say (("tasks=2\nnodes=2\nbuckets=1\nstart=1,contains,5\nstart=0,grow\nstep=0\nstep=0\nstep=0\nstep=0\nstep=0\n"
    ∷ "step=0\nstep=0\nstep=1\nstep=1\nstep=0\nstep=1\nstep=1\nstep=1\nstep=1\n" ∷ []) ∷ [])
    ≡ NoStep ∷ []
unfolding mattered_definitions
other_own_steps = refl

-- Without the second event one start less is accepted and another one more: what ends is the same but for the tag, and but for the call
pub other_tag_or_call :
    say (("tasks=1\nnodes=1\nbuckets=1\nstart=0,contains,1\nstep=0\nstep=0\nstep=0\nstart=0,contains,2\nstep=0\nstart=0,contains,3\n"
    ∷ "step=0\nstep=0\nstep=0\n" ∷ [])
    ∷ ("tasks=1\nnodes=1\nbuckets=1\nstart=0,contains,1\nstep=0\nstep=0\nstep=0\nstart=0,contains,2\nstep=0\nstart=0,remove,2\n"
    ∷ "step=0\nstep=0\nstep=0\n" ∷ []) ∷ [])
    ≡ Place 2 ∷ Place 2 ∷ []
unfolding mattered_definitions
other_tag_or_call = refl

-- Without its first step task 1 reads the head only after task 0 has grown: both calls end in the same order, and its own is done where it was lost.
pub other_answer :
    say (("tasks=2\nnodes=3\nbuckets=3\nstart=1,grow\nstart=0,grow\nstep=1\n" ∷ (replicate 8 "step=0\n" ++ replicate 18 "step=1\n")) ∷ [])
    ≡ Place 3 ∷ []
unfolding mattered_definitions
other_answer = refl

-- ---- the header lines that may be left out

-- A grow and an insert, each with one step more than it needs; then a contains with three steps, which end it if its place is filled: the place
-- of tag 13 is in version 1, and not in version 2.
unfoldable pub grown : List String
grown =
    "start=0,grow\nstep=0\nstep=0\nstep=0\nstep=0\nstep=0\nstep=0\nstep=0\nstep=0\nstart=0,insert,1\nstep=0\nstep=0\nstep=0\nstep=0\nstep=0\n"
    ∷ "step=0\nstep=0\nstep=0\nstep=0\nstep=0\nstep=0\nstart=0,contains,13\nstep=0\nstep=0\nstep=0\n" ∷ []

pub versions :
    say (("tasks=1\nnodes=2\nbuckets=2\n" ∷ grown) ∷ ("tasks=1\nnodes=2\nbuckets=2\nversion=2\n" ∷ grown) ∷ [])
    ≡ Place 23 ∷ NoStep ∷ []
unfolding mattered_definitions grown
versions = refl

-- an insert of tag 0 is started, or cannot be
pub rules_for_tag_0 :
    say (("tasks=1\nnodes=1\nbuckets=1\nstart=0,insert,0\nstep=0\nstep=0\nstep=0\n" ∷ [])
    ∷ ("tasks=1\nnodes=1\nbuckets=1\nblank=no\nstart=0,insert,0\nstep=0\nstep=0\nstep=0\n" ∷ [])
    ∷ ("tasks=1\nnodes=1\nbuckets=1\nversion=2\nblank=no\nstart=0,remove,0\nstep=0\nstep=0\nstep=0\n" ∷ []) ∷ [])
    ≡ Place 2 ∷ NoStep ∷ Place 2 ∷ []
unfolding mattered_definitions
rules_for_tag_0 = refl

-- ---- refusals

-- a header without its three lines; then the opening, whatever comes after it
pub refused_before_events :
    say (("tasks=9\nnodes=0\n" ∷ [])
    ∷ ("tasks=1\nnodes=1\nbuckets=1" ∷ [])
    ∷ ("tasks=9\nnodes=0\nbuckets=201\nx" ∷ [])
    ∷ ("tasks=8\nnodes=65\nbuckets=201\nx" ∷ [])
    ∷ ("tasks=8\nnodes=64\nbuckets=201\nx\n" ∷ [])
    ∷ ("tasks=8\nnodes=1\nbuckets=1\nversion=3\nx\n" ∷ []) ∷ [])
    ≡ Refused 10 ∷ Refused 10 ∷ Refused 1 ∷ Refused 2 ∷ Refused 3 ∷ Refused 11 ∷ []
unfolding mattered_definitions
refused_before_events = refl

-- a line outside the grammar, too long, or not closed, after a step that matters; header lines out of their order
pub refused_lines :
    say (("tasks=1\nnodes=1\nbuckets=1\nstart=0,shrink\nstep=0\nstep=00\nstep=0\n" ∷ [])
    ∷ ("tasks=1\nnodes=1\nbuckets=1\nstart=0,shrink\nstep=0\nstep=00000000000000000000000000000000000000\n" ∷ [])
    ∷ ("tasks=1\nnodes=1\nbuckets=1\nstart=0,shrink\nstep=0" ∷ [])
    ∷ ("tasks=1\nnodes=1\nbuckets=1\nblank=no\nversion=2\n" ∷ [])
    ∷ ("tasks=1\nnodes=1\nbuckets=1\nblank=yes\n" ∷ []) ∷ [])
    ≡ Refused 10 ∷ Refused 10 ∷ Refused 10 ∷ Refused 10 ∷ Refused 10 ∷ []
unfolding mattered_definitions
refused_lines = refl

-- 256 events, 257, and 257 with a line outside the grammar after them
pub many_events :
    say (("tasks=1\nnodes=1\nbuckets=1\nstart=0,shrink\nstep=0\n" ∷ replicate 254 "step=1\n")
    ∷ ("tasks=1\nnodes=1\nbuckets=1\nstart=0,shrink\nstep=0\n" ∷ replicate 255 "step=1\n")
    ∷ ("tasks=1\nnodes=1\nbuckets=1\nstart=0,shrink\nstep=0\n" ∷ (replicate 255 "step=1\n" ++ ("x\n" ∷ []))) ∷ [])
    ≡ Place 2 ∷ Refused 15 ∷ Refused 10 ∷ []
unfolding mattered_definitions
many_events = refl

-- ---- the line that is printed

pub printed :
    map verdict_line (Place 256 ∷ NoStep ∷ Refused 15 ∷ []) ≡ map ascii ("event=256\n" ∷ "none\n" ∷ "refuse=15\n" ∷ [])
unfolding mattered_definitions verdict_line
printed = refl
