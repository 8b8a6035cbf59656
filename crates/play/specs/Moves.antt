-- The moves in the order in which the search tries them, and what a move that was made gives it: the definitions that the contracts of
-- `moves` cite. Assumes nothing.
use Rattle.std.specs.Prelude.{ℕ, ◌≡◌, List, [], ◌∷◌, Bool, ◌&&◌, eqb}
use Rattle.std.specs.declared.option.Option.{Option}
use Rattle.std.specs.declared.option.Option.TheVariants.{Some, None}
use Rattle.spec.specs.Outputs.{Output}
use Rattle.spec.specs.Machine.{Machine, machine_of}
use Rattle.game.specs.declared.LanesMove.{LanesMove}
use Rattle.game.specs.declared.LanesMove.TheVariants.{StepTask0, StepTask1, LanesPass}
use Rattle.game.specs.declared.OfficeMove.{OfficeMove}
use Rattle.game.specs.declared.OfficeMove.TheVariants.{StepTask2, StartGrow, StartShrink, OfficePass}
use Rattle.game.specs.declared.Verdict.{Verdict}
use Rattle.game.specs.declared.Verdict.TheVariants.{LanesWin, OfficeHolds}
use Rattle.game.specs.Game.{ended}
use Rattle.undo.specs.Undo.{nodes_back, buckets_back}
use Rattle.play.specs.declared.moves.Played.{Played}

-- "task 0 before task 1 before a pass"
abbrev pub lanes_moves : List LanesMove
lanes_moves = StepTask0 ∷ StepTask1 ∷ LanesPass ∷ []

abbrev pub office_moves : List OfficeMove
office_moves = OfficePass ∷ StepTask2 ∷ StartGrow ∷ StartShrink ∷ []

-- what is said of the lanes' turn: the move that wins, or that none does
abbrev pub said_of : Option LanesMove → Verdict
said_of (Some m) = LanesWin m
said_of None = OfficeHolds

-- an answer to a step of task k that ends task 0's call
unfoldable pub ends_of : ℕ → Output → Bool
ends_of k out = eqb k 0 && ended out

-- From machine y a move was made to machine z, which has the pools ns and bs: r says whether it ended task 0's call, and with what it
-- kept put back the pools are y's.
pub record PlayedTo (y : Machine) (e : Bool) (z : Machine) (r : Played) (ns bs : List ℕ) : Type 0 where
  pub ends : r.ends ≡ e
  pub after : machine_of r.state ns bs ≡ z
  pub nodes : nodes_back r.kept ns ≡ y.nodes
  pub buckets : buckets_back r.kept bs ≡ y.buckets
