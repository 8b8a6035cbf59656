-- A run of events whose ended calls are noted as words, four each, one after the other: what the code is held to, and the fold over the
-- events that its loop is, `replay`. Assumes nothing.
use Rattle.std.specs.Prelude.{ℕ, ◌+◌, ◌*◌, ◌≤◌, ◌≡◌, List, [], ◌∷◌, length}
use Rattle.spec.specs.Lists.{concat_map}
use Rattle.spec.specs.Machine.{Machine, task_of}
use Rattle.spec.specs.Words.{overwrite}
use Rattle.spec.specs.Schedule.{Event, event, run}
use Rattle.session.specs.Transcript.{task_in}
use Rattle.mattered.specs.EndedCalls.{EndedCall, ended_by, ended_calls}

abbrev pub call_words : EndedCall → List ℕ
call_words a = a.task ∷ a.call ∷ a.tag ∷ a.answer ∷ []

abbrev pub all_words : List EndedCall → List ℕ
all_words calls = concat_map call_words calls

-- some calls were noted after n others: n' are noted then, and the words w' hold them
abbrev pub NotedAfter : List EndedCall → ℕ → List ℕ → ℕ → List ℕ → Type 0
NotedAfter calls n w n' w' = (n' ≡ n + length calls) × (w' ≡ overwrite w (4 * n) (all_words calls))

-- events were run from the machine y, at most n of them: how many calls ended, their words from the first on, and both pools
pub record RunNoted (y : Machine) (es : List Event) (n : ℕ) (w : List ℕ) (m : ℕ) (v ns bs : List ℕ) : Type 0 where
  pub count : m ≡ length (ended_calls y es)
  pub few : m ≤ n
  pub words : v ≡ overwrite w 0 (all_words (ended_calls y es))
  pub nodes : ns ≡ (run y es).machine.nodes
  pub buckets : bs ≡ (run y es).machine.buckets

-- ---- the fold

-- the machine, how many calls are noted, and the words in which they are
pub record Noted : Type 0 where
  pub machine : Machine
  pub count : ℕ
  pub words : List ℕ

abbrev pub noted : Machine → ℕ → List ℕ → Noted
noted y n w = record { machine = y; count = n; words = w }

-- the calls that an event ends
unfoldable pub ended_at : Machine → Event → List EndedCall
ended_at y e = ended_by (task_in e) (task_of y (task_in e)) (event y e).out

unfoldable pub on_event : Noted → Event → Noted
on_event p e =
    let calls = ended_at p.machine e in
    noted (event p.machine e).machine (p.count + length calls) (overwrite p.words (4 * p.count) (all_words calls))

unfoldable pub replay : Noted → List Event → Noted
replay p [] = p
replay p (e ∷ es) = replay (on_event p e) es
