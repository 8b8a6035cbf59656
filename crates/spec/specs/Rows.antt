-- What the rows of computed cases are made of. A row gives an opening, all its events, all their outputs, and the head, its size and
-- the listed tags at the end. The cases that paper 01 marks P, and schedules of ours, are in the crate `cases`; those of whole machines are
-- made by WholeRows. Assumes nothing.
use Rattle.std.specs.Prelude.{ℕ, zero, suc, ◌*◌, List, [], ◌∷◌, ◌++◌, replicate, Some, None, Ok}
use Rattle.spec.specs.declared.Answer.{Answer}
use Rattle.spec.specs.declared.Answer.TheVariants.{Yes, Done}
use Rattle.spec.specs.declared.Call.{Call}
use Rattle.spec.specs.declared.Call.TheVariants.{Insert, Grow}
use Rattle.spec.specs.declared.Config.{Config}
use Rattle.spec.specs.Outputs.{Output}
use Rattle.spec.specs.declared.Progress.TheVariants.{At, End}
use Rattle.spec.specs.Listed.{listed, head_of, size_of}
use Rattle.spec.specs.Entries.{opening}
use Rattle.spec.specs.Schedule.{Event, starts, steps, run}

pub record Case : Type 0 where
  pub config : Config
  pub nodes : ℕ
  pub buckets : ℕ
  pub events : List Event
  pub outs : List Output
  pub head : ℕ
  pub size : ℕ
  pub tags : List ℕ

pub record Result : Type 0 where
  pub outs : List Output
  pub head : ℕ
  pub size : ℕ
  pub tags : List ℕ

unfoldable pub expected : Case → Result
expected c = record { outs = c.outs; head = c.head; size = c.size; tags = c.tags }

-- both pools hold sevens before the opening
unfoldable pub observed : Case → Result
observed c =
    let o = opening c.config (replicate (34 * c.nodes) 7) (replicate (66 * c.buckets) 7) in
    let r = run o.machine c.events in
    let y = r.machine in
    record { outs = r.outs; head = y.state.head; size = size_of y (head_of y); tags = listed y }

-- ---- events

-- n steps of task k
unfoldable pub stepping : ℕ → ℕ → List Event
stepping k n = replicate n (steps k)

-- task k's call with a tag, and n steps of it
unfoldable pub calling : ℕ → Call → ℕ → ℕ → List Event
calling k call tag n = starts k call tag ∷ stepping k n

-- task 0's inserts of n tags from this one on
unfoldable pub inserting : ℕ → ℕ → List Event
inserting tag zero = []
inserting tag (suc n) = calling 0 Insert tag 3 ++ inserting (suc tag) n

-- ---- outputs

-- the end of a contains or a resize, by its answer and own steps
abbrev pub ended : Answer → ℕ → Output
ended a own = Ok (End a own None)

-- of an insert or a remove, with the number of tags of its bucket
abbrev pub counted : Answer → ℕ → ℕ → Output
counted a own n = Ok (End a own (Some n))

-- a list n times
unfoldable pub times : ℕ → List Output → List Output
times zero os = []
times (suc n) os = os ++ times n os

-- an insert or remove that finds its bucket in place and ends with its third step
unfoldable pub in_three : Output → List Output
in_three end = Ok (At 32) ∷ Ok (At 33) ∷ Ok (At 36) ∷ end ∷ []

-- n inserts into a bucket of so many tags, each of which goes in
unfoldable pub gaining : ℕ → ℕ → List Output
gaining k zero = []
gaining k (suc n) = in_three (counted Yes 3 (suc k)) ++ gaining (suc k) n

-- filling an empty place after a grow: lines 39 to 51, up to the output of line 50
unfoldable pub filling : List Output
filling = Ok (At 40) ∷ Ok (At 43) ∷ Ok (At 44) ∷ Ok (At 49) ∷ Ok (At 50) ∷ Ok (At 51) ∷ []

-- the grow of the one place of size 1, which is filled
unfoldable pub first_grow : List Output
first_grow = Ok (At 20) ∷ Ok (At 39) ∷ Ok (At 40) ∷ Ok (At 51) ∷ Ok (At 24) ∷ Ok (At 27) ∷ Ok (At 28) ∷ ended Done 7 ∷ []

-- a grow that fills n + 1 empty places and then goes on to 24
unfoldable pub grow_to_24 : ℕ → List Output
grow_to_24 n = Ok (At 20) ∷ times n (Ok (At 39) ∷ filling) ++ Ok (At 39) ∷ filling ++ Ok (At 24) ∷ []

-- the same, ended by its k-th own step
unfoldable pub grow_filling : ℕ → ℕ → List Output
grow_filling n k = grow_to_24 n ++ Ok (At 27) ∷ Ok (At 28) ∷ ended Done k ∷ []

-- task 0's insert of 5 stands at 36, task 1 has grown the set
unfoldable pub waiting : List Event
waiting = calling 0 Insert 5 2 ++ calling 1 Grow 0 7

unfoldable pub waiting_outs : List Output
waiting_outs = Ok (At 32) ∷ Ok (At 33) ∷ Ok (At 36) ∷ first_grow
