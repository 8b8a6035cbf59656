-- Schedules that meet refusal 7, computed: with fewer than 2T nodes some schedule of T tasks does, for T 1 and 2, so that a claim with so few
-- is false. Each task but one stands at line 28 with a t and a new node that nobody else has, and the last one has the head. Assumes nothing.
use Rattle.std.specs.Prelude.{ℕ, ◌*◌, ◌≡◌, refl, List, [], ◌∷◌, ◌++◌, drop, replicate, Ok, Err}
use Rattle.spec.specs.declared.Refusal.TheVariants.{NoRecord}
use Rattle.spec.specs.declared.Call.TheVariants.{Grow}
use Rattle.spec.specs.Outputs.{Output}
use Rattle.spec.specs.declared.Progress.TheVariants.{At}
use Rattle.spec.specs.Machine.{config_of}
use Rattle.spec.specs.Schedule.{Event, schedule}
use Rattle.spec.specs.Rows.{stepping, calling}
use Rattle.spec.specs.Everything.{everything}

-- what a schedule of T tasks with so many nodes and six buckets answers from its n-th event on, the first being 0
unfoldable pub answers_from : ℕ → ℕ → ℕ → List Event → List Output
answers_from n t nodes es = drop n (schedule (config_of t) (replicate (34 * nodes) 7) (replicate (66 * 6) 7) es).outs

-- T 1, one node: the head is held, and line 27 finds no other
pub one_node : answers_from 6 1 1 (calling 0 Grow 0 6) ≡ Err NoRecord ∷ []
unfolding everything stepping calling answers_from
one_node = refl

-- T 2: task 0 stands at line 28, task 1 has grown the set and grows it again
unfoldable pub two_growing : List Event
two_growing = calling 0 Grow 0 6 ++ calling 1 Grow 0 7 ++ calling 1 Grow 0 17

pub three_nodes : answers_from 31 2 3 two_growing ≡ Ok (At 27) ∷ Err NoRecord ∷ []
unfolding everything stepping calling answers_from two_growing
three_nodes = refl

-- one node more is enough for it
pub four_nodes : answers_from 31 2 4 two_growing ≡ Ok (At 27) ∷ Ok (At 28) ∷ []
unfolding everything stepping calling answers_from two_growing
four_nodes = refl
