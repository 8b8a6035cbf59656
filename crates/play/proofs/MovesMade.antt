-- A move that was made, by what the code's calls gave. Assumes nothing.
use Prim.Native.Nat.{ℕ}
use mathlib.Core.Path.{◌≡◌, refl, ap, subst, ◌∙◌}
use mathlib.Core.List.{List}
use mathlib.Core.Bool.{Bool, true, false}
use Rattle.spec.specs.declared.Call.{Call}
use Rattle.spec.specs.declared.State.{State}
use Rattle.spec.specs.declared.Task.{Task}
use Rattle.spec.specs.Machine.{Machine, machine_of, task_of}
use Rattle.spec.specs.Sound.{sound}
use Rattle.spec.specs.Entries.{Reply, start, step}
use Rattle.laws.specs.EntriesKeep.{start_keeps}
use Rattle.laws.proofs.EntriesKeep.{step_keeps}
use Rattle.lines.specs.declared.Stepped.{Stepped}
use Rattle.lines.specs.Reply.{reply_of}
use Rattle.game.specs.declared.LanesMove.{LanesMove}
use Rattle.game.specs.declared.LanesMove.TheVariants.{StepTask0, StepTask1, LanesPass}
use Rattle.game.specs.declared.OfficeMove.{OfficeMove}
use Rattle.game.specs.declared.OfficeMove.TheVariants.{StepTask2, StartGrow, StartShrink, OfficePass}
use Rattle.spec.specs.declared.Call.TheVariants.{Grow, Shrink}
use Rattle.game.specs.Game.{after_lanes, after_office}
use Rattle.undo.specs.declared.Kept.{Kept}
use Rattle.undo.specs.Undo.{kept_of, nodes_back, buckets_back}
use Rattle.undo.specs.StepUndone.{step_undone, nothing_undone}
use Rattle.play.specs.declared.moves.Played.{Played}
use Rattle.play.specs.Moves.{ends_of, PlayedTo}

abbrev pub played : Bool → State → Kept → Played
played e s k = record { ends = e; state = s; kept = k }

-- ---- a step, a move that writes nothing, a start

pub by_step : (y : Machine) (k : ℕ) → sound y ≡ true → (h : Kept) → h ≡ kept_of y (task_of y k) → (d : Stepped) (ns bs : List ℕ)
    → reply_of d ns bs ≡ step y k → (e : Bool) → e ≡ ends_of k d.out
    → PlayedTo y (ends_of k (step y k).out) (step y k).machine (played e d.state h) ns bs
by_step y k s h g d ns bs r e o =
    let z : machine_of d.state ns bs ≡ (step y k).machine = ap (λ (x : Reply). x.machine) r in
    let u = step_undone y k s in
    record {
      ends = o ∙ ap (λ (x : Reply). ends_of k x.out) r;
      after = z;
      nodes = ap (λ (x : Machine). nodes_back h x.nodes) z ∙ ap (λ (x : Kept). nodes_back x (step y k).machine.nodes) g ∙ u.0;
      buckets = ap (λ (x : Machine). buckets_back h x.buckets) z ∙ ap (λ (x : Kept). buckets_back x (step y k).machine.buckets) g ∙ u.1;
    }

pub by_nothing : (y : Machine) (c : Task) → sound y ≡ true → (h : Kept) → h ≡ kept_of y c → (next : State)
    → PlayedTo y false (machine_of next y.nodes y.buckets) (played false next h) y.nodes y.buckets
by_nothing y c s h g next =
    let u = nothing_undone y c s in
    record {
      ends = refl;
      after = refl;
      nodes = ap (λ (x : Kept). nodes_back x y.nodes) g ∙ u.0;
      buckets = ap (λ (x : Kept). buckets_back x y.buckets) g ∙ u.1;
    }

-- to another machine that is the same
pub made_to : (y : Machine) (e : Bool) {z z' : Machine} (r : Played) (ns bs : List ℕ) → z ≡ z' → PlayedTo y e z r ns bs → PlayedTo y e z' r ns bs
made_to y e r ns bs g p = subst (λ (x : Machine). PlayedTo y e x r ns bs) g p

pub by_start : (y : Machine) (call : Call) (d : Stepped) (r : Played) → reply_of d y.nodes y.buckets ≡ start y 2 call 0
    → PlayedTo y false (machine_of d.state y.nodes y.buckets) r y.nodes y.buckets
    → PlayedTo y false (start y 2 call 0).machine r y.nodes y.buckets
by_start y call d r e p = made_to y false r y.nodes y.buckets (ap (λ (x : Reply). x.machine) e) p

-- ---- a move leaves sound memory

pub lanes_keep : (y : Machine) (m : LanesMove) → sound y ≡ true → sound (after_lanes y m) ≡ true
unfolding after_lanes
lanes_keep y StepTask0 e = step_keeps y 0 e
lanes_keep y StepTask1 e = step_keeps y 1 e
lanes_keep y LanesPass e = e

pub office_keeps : (y : Machine) (o : OfficeMove) → sound y ≡ true → sound (after_office y o) ≡ true
unfolding after_office
office_keeps y StepTask2 e = step_keeps y 2 e
office_keeps y StartGrow e = start_keeps y 2 Grow 0 e
office_keeps y StartShrink e = start_keeps y 2 Shrink 0 e
office_keeps y OfficePass e = e
