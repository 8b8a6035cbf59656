-- What is recorded of the smallest sessions, and what a reader answers: rows that wrong definitions break. Further ones are in the crate
-- `recording_rows`. Assumes nothing.
use Rattle.std.specs.Prelude.{ℕ, ◌≡◌, refl, List, [], ◌∷◌, map}
use Prim.Native.String.{String}
use Rattle.spec.specs.Everything.{everything}
use Rattle.session.specs.Ascii.{codes, ascii}
use Rattle.session.specs.Everything.{session_definitions}
use Rattle.session.specs.Cases.{texts}
use Rattle.recording.specs.declared.Verdict.{Verdict}
use Rattle.recording.specs.declared.Verdict.TheVariants.{Differs, Refusal}
use Rattle.recording.specs.Recording.{not_recorded, recorded_lines, recording}
use Rattle.recording.specs.Verdict.{verdict}
use Rattle.recording.specs.Everything.{recording_definitions}

unfoldable pub yard : String
yard = "tasks=1\nnodes=1\nbuckets=1\n"

unfoldable pub yard_2 : String
yard_2 = "tasks=1\nnodes=1\nbuckets=1\nversion=2\n"

pub record RecordingCase : Type 0 where
  pub input : List ℕ
  pub writes : List ℕ

-- this input gives that recording
unfoldable pub gives : List String → List String → RecordingCase
gives input writes = record { input = texts input; writes = texts writes }

pub record VerdictCase : Type 0 where
  pub input : List ℕ
  pub answer : Verdict

-- these bytes give that verdict
unfoldable pub judged : List String → Verdict → VerdictCase
judged input answer = record { input = texts input; answer = answer }

-- a header and no event; a line outside the grammar, which is left out with what comes after it
unfoldable pub recordings : List RecordingCase
recordings =
    gives (yard ∷ []) (yard ∷ "size=1\ntags=0\n" ∷ [])
    ∷ gives (yard ∷ "start=0,grow\n\nstep=0\n" ∷ []) (yard ∷ "start=0,grow\nat=0,20\nsize=1\ntags=0\n" ∷ [])
    ∷ []

pub recordings_hold : map (λ c. recording c.input) recordings ≡ map (λ c. c.writes) recordings
unfolding everything session_definitions recording_definitions codes ascii texts yard gives recordings
recordings_hold = refl

-- a refused opening
pub unrecorded : recorded_lines (texts ("tasks=9\nnodes=1\nbuckets=1\n" ∷ [])) ≡ not_recorded
unfolding everything session_definitions recording_definitions codes ascii texts
unrecorded = refl

-- no line; a difference, where the version counts as a line, and then nothing; an output line that is not closed; another size; an event's line past
-- the listing
unfoldable pub verdicts : List VerdictCase
verdicts =
    judged [] (Refusal 12)
    ∷ judged (yard_2 ∷ "step=0\nrefuse=5\n" ∷ []) (Differs 6)
    ∷ judged (yard ∷ "step=0\nrefuse=6" ∷ []) (Refusal 10)
    ∷ judged (yard ∷ "size=2\ntags=0\n" ∷ []) (Differs 4)
    ∷ judged (yard ∷ "size=1\ntags=0\nstep=0\n" ∷ []) (Differs 6)
    ∷ []

pub verdicts_hold : map (λ c. verdict c.input) verdicts ≡ map (λ c. c.answer) verdicts
unfolding everything session_definitions recording_definitions codes ascii texts yard yard_2 judged verdicts
verdicts_hold = refl
