-- Demand 3 as a type: of every schedule there is one order of all ended inserts, removes and contains in which a call that ended before
-- another started stands first, a plain set of at most 64 tags gives exactly their answers, and the set then has exactly the tags listed.
-- And a promise beside it. Proved in the crate linear. Assumes nothing.
use Rattle.std.specs.Prelude.{ℕ, ◌≤◌, ◌≡◌, List, [], ◌∷◌, ◌++◌, length, drop, Ok, Err}
use Rattle.spec.specs.declared.Refusal.TheVariants.{Spoilt}
use Rattle.spec.specs.declared.Config.{Config}
use Rattle.spec.specs.Outputs.{Output}
use Rattle.spec.specs.Plain.{plain}
use Rattle.spec.specs.Entries.{list}
use Rattle.spec.specs.Schedule.{Event, schedule}
use Rattle.spec.specs.History.{Ended, history}

-- ---- an order of ended calls

-- M is L with e put in somewhere
pub data Into (e : Ended) : List Ended → List Ended → Type 0 where
  here : {L : List Ended} → Into e L (e ∷ L)
  there : {a : Ended} {L M : List Ended} → Into e L M → Into e (a ∷ L) (a ∷ M)

-- "The order holds each ended insert, remove and contains once": L is a permutation of the history H
pub data Order : List Ended → List Ended → Type 0 where
  none : Order [] []
  more : {e : Ended} {H L M : List Ended} → Order H L → Into e L M → Order (e ∷ H) M

-- no call of L ended before event r
abbrev pub Late : ℕ → List Ended → Type 0
Late r [] = Unit {0}
Late r (e ∷ L) = (r ≤ e.end) × Late r L

-- real time: no call stands before one that ended before it started
abbrev pub Timely : List Ended → Type 0
Timely [] = Unit {0}
Timely (e ∷ L) = Late e.start L × Timely L

-- a plain set of at most 64 tags, S at first, gives exactly their answers
abbrev pub Answers : List ℕ → List Ended → Type 0
Answers S [] = length S ≤ 64
Answers S (e ∷ L) = (length S ≤ 64) × ((plain S e.call e.tag).answer ≡ e.answer) × Answers (plain S e.call e.tag).tags L

-- the plain set after them
abbrev pub after : List ℕ → List Ended → List ℕ
after S [] = S
after S (e ∷ L) = after (plain S e.call e.tag).tags L

-- ---- demand 3, of one schedule: what the opening is given, what the two slices held before it, and the events

pub record Linearizable (g : Config) (ns bs : List ℕ) (es : List Event) : Type 0 where
  pub order : List Ended
  pub once : Order (history es (schedule g ns bs es).outs) order
  pub timely : Timely order
  pub answers : Answers [] order
  -- "The tags then listed are those that a list call writes, given what the schedule left and 64 words."
  pub listed : (w : List ℕ) → length w ≡ 64
      → list (schedule g ns bs es).machine w
      ≡ record { says = Ok (length (after [] order)); words = after [] order ++ drop (length (after [] order)) w }

-- ---- beside it

-- "Never from an opening onward": no refusal 8 among the outputs
abbrev pub NoEight : List Output → Type 0
NoEight [] = Unit {0}
NoEight (o ∷ os) = (¬ (o ≡ Err Spoilt)) × NoEight os
