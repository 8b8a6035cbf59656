-- Rows: what is said of small sessions, and their ended calls, computed from the definitions. A wrong definition breaks them. Further rows are
-- in the crate `mattered_laws`. Assumes nothing.
use Rattle.std.specs.Prelude.{ℕ, ◌≡◌, refl, List, [], ◌∷◌, ◌++◌, map, replicate}
use Prim.Native.String.{String}
use Rattle.spec.specs.Everything.{everything}
use Rattle.session.specs.Ascii.{codes, ascii}
use Rattle.session.specs.Everything.{session_definitions}
use Rattle.session.specs.Cases.{texts}
use Rattle.session.specs.Grammar.{input_lines}
use Rattle.session.specs.Header.{HeaderRead, complete, incomplete, read_header}
use Rattle.session.specs.Transcript.{events, session_opening}
use Rattle.mattered.specs.declared.Verdict.{Verdict}
use Rattle.mattered.specs.declared.Verdict.TheVariants.{Place, NoStep, Refused}
use Rattle.mattered.specs.EndedCalls.{EndedCall, ended_by, ended_calls, same_call, same_calls}
use Rattle.mattered.specs.Mattered.{is_step, step_at, without, alters, first_place, mattered}
use Rattle.mattered.specs.SessionVerdict.{events_verdict, events_lines_verdict, opened_verdict, header_verdict, lines_verdict, verdict, words_after}

-- one name that opens every definition of the step that mattered
unfoldable pub mattered_definitions : ℕ
unfolding everything session_definitions codes ascii texts ended_by ended_calls same_call same_calls is_step step_at without alters
    first_place mattered events_verdict events_lines_verdict opened_verdict header_verdict lines_verdict verdict
mattered_definitions = 0

abbrev pub say : List (List String) → List Verdict
say inputs = map (λ input. verdict (texts input)) inputs

-- ---- the list of ended calls

-- of the events of a session whose header is complete and opens
unfoldable pub header_calls : HeaderRead → List EndedCall
header_calls (complete h ls) = ended_calls (session_opening h).machine (events ls)
header_calls incomplete = []

unfoldable pub calls_of : List String → List EndedCall
calls_of input = header_calls (read_header (input_lines (texts input)))

infix 90 task◌call◌tag◌answer◌
abbrev pub task◌call◌tag◌answer◌ : ℕ → ℕ → ℕ → ℕ → EndedCall
task◌call◌tag◌answer◌ k c t a = record { task = k; call = c; tag = t; answer = a }

-- a shrink at the least size, which ends limit in one step of its own
pub shrink_calls : calls_of ("tasks=1\nnodes=1\nbuckets=1\nstart=0,shrink\nstep=0\n" ∷ []) ≡ task 0 call 5 tag 0 answer 6 ∷ []
unfolding mattered_definitions header_calls calls_of
shrink_calls = refl

-- ---- "the earliest step event whose omission alters the list of ended calls"

-- "its place among the events, from 1": starts, and steps that were refused, count
pub counted_among_events :
    say (("tasks=1\nnodes=1\nbuckets=1\nstep=0\nstart=0,shrink\nstep=0\n" ∷ [])
    ∷ ("tasks=1\nnodes=1\nbuckets=1\nstep=1\nstart=0,shrink\nstart=0,grow\nstep=0\nstep=0\n" ∷ []) ∷ [])
    ≡ Place 3 ∷ NoStep ∷ []
unfolding mattered_definitions
counted_among_events = refl

-- "in order of ending": without the first step of task 0 the same two calls end in the other order
pub another_order :
    say (("tasks=2\nnodes=1\nbuckets=1\nstart=0,contains,1\nstart=1,contains,2\nstep=0\nstep=0\nstep=0\nstep=1\nstep=1\nstep=1\nstep=0\nstep=1\n"
    ∷ []) ∷ [])
    ≡ Place 3 ∷ []
unfolding mattered_definitions
another_order = refl

-- ---- refusals

-- 257 events, and a line outside the grammar after them
pub ten_first : say (("tasks=1\nnodes=1\nbuckets=1\n" ∷ (replicate 257 "step=1\n" ++ ("x\n" ∷ []))) ∷ []) ≡ Refused 10 ∷ []
unfolding mattered_definitions
ten_first = refl

-- the words that a pool had, of one that the opening makes zeros: kept with a refusal alone
pub refusal_keeps_words :
    map (λ v. words_after v (7 ∷ 7 ∷ []) (0 ∷ 0 ∷ [])) (Refused 1 ∷ Refused 15 ∷ Place 3 ∷ NoStep ∷ [])
    ≡ (7 ∷ 7 ∷ []) ∷ (7 ∷ 7 ∷ []) ∷ (0 ∷ 0 ∷ []) ∷ (0 ∷ 0 ∷ []) ∷ []
unfolding words_after
refusal_keeps_words = refl
