-- What request U10 promises of every schedule, as types. "For one bucket, any mixture of up to eight tasks, several helping one operation
-- if they like, lets its ended calls, and where needed some still running, be put in an order, a call that ended before another started
-- first, in which the atomic bucket of Figure 1 gives the same answers. Each operation takes effect at most once." "No version needs a
-- 65th tag; 8 .. never arises from an opening onward." Proved in the crate coop_linear. Assumes nothing.
use Rattle.std.specs.Prelude.{ℕ, ◌+◌, ◌/◌, ◌≤◌, ◌≡◌, ◌⊎◌, true, false, List, [], ◌∷◌, length, Err}
use Rattle.coop_spec.specs.declared.Refusal.{Refusal}
use Rattle.coop_spec.specs.declared.Refusal.TheVariants.{NoVersion}
use Rattle.coop_spec.specs.Outputs.{Output}
use Rattle.coop_spec.specs.Machine.{Machine, task_of}
use Rattle.coop_spec.specs.StepRefusals.{needs_65th_tag}
use Rattle.coop_spec.specs.Schedule.{Event, schedule}
use Rattle.coop_spec.specs.Atomic.{Operations, FSet, empty_bucket, next, outcome}
use Rattle.coop_spec.specs.History.{Occurrence, Ended, History, operations, history}

pub data In {A : Type 0} (e : A) : List A → Type 0 where
  here : {L : List A} → In e (e ∷ L)
  there : {a : A} {L : List A} → In e L → In e (a ∷ L)

-- ---- an order of calls

-- the two are one call: of one task, begun at one place
abbrev pub SameCall : Occurrence → Occurrence → Type 0
SameCall e f = (e.task ≡ f.task) × (e.start ≡ f.start)

-- if the call e has ended, then at event r or later
abbrev pub NotEndedBefore : List Ended → ℕ → Occurrence → Type 0
NotEndedBefore H r e = (d : Ended) → In d H → SameCall d.occurrence e → r ≤ d.end

abbrev pub Late : List Ended → ℕ → List Occurrence → Type 0
Late H r [] = Unit {0}
Late H r (e ∷ L) = NotEndedBefore H r e × Late H r L

-- "a call that ended before another started first": no call stands after one that started when it had ended
abbrev pub Timely : List Ended → List Occurrence → Type 0
Timely H [] = Unit {0}
Timely H (e ∷ L) = Late H e.start L × Timely H L

-- the call of task p begun at event r is not in the order
abbrev pub Absent : ℕ → ℕ → List Occurrence → Type 0
Absent p r [] = Unit {0}
Absent p r (e ∷ L) = (¬ ((e.task ≡ p) × (e.start ≡ r))) × Absent p r L

abbrev pub EachOnce : List Occurrence → Type 0
EachOnce [] = Unit {0}
EachOnce (e ∷ L) = Absent e.task e.start L × EachOnce L

-- "the atomic bucket of Figure 1 gives the same answers", from the bucket A on
abbrev pub Answers : Operations → FSet → List Occurrence → Type 0
Answers T A [] = Unit {0}
Answers T A (e ∷ L) = (outcome T e.call A ≡ e.result) × Answers T (next T e.call A) L

-- a call of the order has ended, with that answer
abbrev pub HasEnded : History → Occurrence → Type 0
HasEnded h e = (d : Ended) × In d h.ended × (d.occurrence ≡ e)

-- or is the one that its task still runs
abbrev pub StillRuns : History → Occurrence → Type 0
StillRuns h e = ((task_of h.machine e.task).running ≡ true) × ((h.last e.task).start ≡ e.start) × ((h.last e.task).call ≡ e.call)

-- ---- the claim, of one schedule: T, what the slice held before the opening, and the events

pub record Linearizable (t : ℕ) (ws : List ℕ) (es : List Event) : Type 0 where
  pub order : List Occurrence
  pub answers : Answers (operations (history t ws es).machine) empty_bucket order
  pub timely : Timely (history t ws es).ended order
  pub once : EachOnce order
  -- every ended call is in it with its answer; any other is still running
  pub ended : (d : Ended) → In d (history t ws es).ended → In d.occurrence order
  pub others : (e : Occurrence) → In e order → HasEnded (history t ws es) e ⊎ StillRuns (history t ws es) e

-- ---- beside it

-- no number twice
abbrev pub NoneTwice : List ℕ → Type 0
NoneTwice [] = Unit {0}
NoneTwice (n ∷ l) = (¬ (In n l)) × NoneTwice l

-- "Each operation takes effect at most once.": it is put into one of the bucket's versions at most once, and makes at most one new one
pub record AtMostOnce (t : ℕ) (ws : List ℕ) (es : List Event) : Type 0 where
  pub claimed : NoneTwice (history t ws es).claimed
  pub installed : NoneTwice (history t ws es).installed

-- no refusal of this number among the outputs: "8 .. never arises from an opening onward"; and 7, with versions enough
abbrev pub Never : Refusal → List Output → Type 0
Never r [] = Unit {0}
Never r (o ∷ os) = (¬ (o ≡ Err r)) × Never r os

-- v versions always suffice for T tasks: opened with at least so many, no schedule meets refusal 7
abbrev pub Suffices : ℕ → ℕ → Type 0
Suffices t v = (ws : List ℕ) (es : List Event) → v ≤ length ws / 66 → Never NoVersion (schedule t ws es).outs

-- the least number that does
abbrev pub enough_versions : ℕ → ℕ
enough_versions t = t + 1

-- "no version needs a 65th tag": whatever task steps next
abbrev pub No65thTag : Machine → Type 0
No65thTag y = (p : ℕ) → needs_65th_tag y (task_of y p) ≡ false
