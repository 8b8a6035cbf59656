-- Rows and examples of who wins (paper 02, U14): an insert that ends no or full wins too, task 1's end does not; a strategy that passes; positions
-- with one turn too few; the office's moves. Assumes nothing.
use Rattle.std.specs.Prelude.{ℕ, suc, ◌≡◌, refl, ◌⊎◌, [], ◌∷◌, ◌++◌, map, true, false, ◌&&◌, Ok, Err}
use Rattle.std.proofs.Common.{inl, inr, arith}
use Rattle.spec.specs.declared.Refusal.TheVariants.{NoRecord, Spoilt}
use Rattle.spec.specs.declared.Answer.TheVariants.{Yes, No, Full}
use Rattle.spec.specs.declared.Call.TheVariants.{Insert, Grow}
use Rattle.spec.specs.declared.Progress.TheVariants.{At}
use Rattle.spec.specs.Lists.{range}
use Rattle.spec.specs.Machine.{Machine, machine_of, config_of}
use Rattle.spec.specs.Entries.{step}
use Rattle.spec.specs.Rows.{calling, counted}
use Rattle.spec.specs.WholeRows.{config◌H◌B◌head◌last_node◌last_bucket◌tasks◌, node, bucket, pool}
use Rattle.spec.specs.WholeRows.{call◌tag◌line◌i◌own◌t◌s◌b◌m◌n◌new_node◌new_bucket◌}
use Rattle.game.specs.declared.LanesMove.TheVariants.{StepTask0, StepTask1, LanesPass}
use Rattle.game.specs.declared.OfficeMove.TheVariants.{StepTask2, StartGrow, StartShrink, OfficePass}
use Rattle.game.specs.declared.Verdict.TheVariants.{LanesWin, OfficeHolds}
use Rattle.game.specs.Game.{ended, ends_insert, office_may, loses_by, lanes_win, office_loses, verdict}
use Rattle.game.specs.Strategies.{LanesStrategy, OfficeStrategy, OfficePlay, LanesPlay, EndsWithin, HeldOff, LanesForce, OfficeHoldsOff}
use Rattle.game.specs.Rows.{game_definitions, in_yard, task_1_at_50}

-- ---- "The lanes win if task 0's insert ends", whatever it answers

-- any end, and nothing else
pub ends : map ended (counted Yes 3 1 ∷ counted No 3 1 ∷ counted Full 3 64 ∷ Ok (At 36) ∷ Err NoRecord ∷ Err Spoilt ∷ []) ≡ true ∷ true ∷ true ∷ false ∷ false ∷ false ∷ []
unfolding game_definitions
ends = refl

-- 5 is there already; task 1 stands at 36 beside it
unfoldable pub says_no : Machine
says_no = in_yard (calling 1 Insert 5 3 ++ calling 0 Insert 5 2 ++ calling 1 Insert 6 2)

-- the one bucket has 64 tags
unfoldable pub says_full : Machine
says_full =
    machine_of
    (config (config_of 3) H 1 B 1 head 0 last_node 0 last_bucket 0
    tasks (call 1 tag 5 line 36 i 0 own 2 t 1 s 0 b 1 m 0 n 0 new_node 0 new_bucket 0 ∷ []))
    (pool (node 1 0 (1 ∷ []) ∷ [])) (pool (bucket 1 (range 100 64) ∷ []))

pub no_wins : ((step says_no 0).out ≡ counted No 3 1) × (verdict 1 says_no ≡ LanesWin StepTask0)
unfolding game_definitions says_no
no_wins = (refl, refl)

pub full_wins : ((step says_full 0).out ≡ counted Full 3 64) × (verdict 1 says_full ≡ LanesWin StepTask0)
unfolding game_definitions says_full
full_wins = (refl, refl)

-- only task 0's step ends it: not task 1's, which ends an insert of its own, and not a pass
pub only_task_0 : map (ends_insert says_no) (StepTask0 ∷ StepTask1 ∷ LanesPass ∷ []) ≡ true ∷ false ∷ false ∷ []
unfolding game_definitions says_no
only_task_0 = refl

-- ---- a strategy that passes in its first turn and then steps task 0, against an office that passes

unfoldable pub passes_first : LanesStrategy
passes_first [] = LanesPass
passes_first (r ∷ rs) = StepTask0

-- it has ended the insert within two turns, and not within one: one turn too few
pub within_two : EndsWithin 2 says_no passes_first (λ k. OfficePass)
unfolding game_definitions says_no passes_first
within_two = (refl, inr (λ may. (refl, inl refl)))

pub not_within_one : ¬ EndsWithin 1 says_no passes_first (λ k. OfficePass)
unfolding game_definitions says_no passes_first
not_within_one e = go e.1
  where
    go : (false ≡ true) ⊎ (true ≡ true → ⊥) → ⊥
    go (inl q) = let z : ◌≡◌ {A = ℕ} 0 1 = cc in omega arith
    go (inr f) = f refl

-- a strategy may not step a task that does not run
pub steps_no_idle_task : ¬ EndsWithin 6 says_full (λ rs. StepTask1) (λ k. OfficePass)
unfolding game_definitions says_full
steps_no_idle_task e = let q = e.0 in let z : ◌≡◌ {A = ℕ} 0 1 = cc in omega arith

-- held off by passing as long as the lanes pass, and no longer
pub held_off : HeldOff 2 says_no (λ rs move. OfficePass) (λ k. LanesPass)
unfolding game_definitions says_no
held_off = λ may. (refl, (refl, λ may. (refl, (refl, tt))))

pub not_held_off : ¬ HeldOff 1 says_no (λ rs move. OfficePass) (λ k. StepTask0)
unfolding game_definitions says_no
not_held_off h = let e = (h refl).0 in let z : ◌≡◌ {A = ℕ} 0 1 = cc in omega arith

-- the office may not step its task while that is idle
pub office_steps_nothing : ¬ HeldOff 1 says_no (λ rs move. StepTask2) (λ k. LanesPass)
unfolding game_definitions says_no
office_steps_nothing h = let e = (h refl).1.0 in let z : ◌≡◌ {A = ℕ} 0 1 = cc in omega arith

-- ---- forcing: one strategy against every play, within so many turns and no more

pub forced : LanesForce 1 says_no
unfolding game_definitions says_no
forced = (λ rs. StepTask0, λ π. (refl, inl refl))

pub none_in_no_turn : ¬ LanesForce 0 says_no
none_in_no_turn f = f.1 (λ k. OfficePass)

-- a reading: the strategy comes before the play, of either side
pub one_strategy :
    (turns : ℕ) (y : Machine) → (LanesForce turns y → (σ : LanesStrategy) × ((π : OfficePlay) → EndsWithin turns y σ π))
    × (OfficeHoldsOff turns y → (τ : OfficeStrategy) × ((ρ : LanesPlay) → HeldOff turns y τ ρ))
one_strategy turns y = (λ f. f, λ held. held)

-- ---- one turn too few: a fresh insert needs three turns

pub three_turns : verdict 2 (in_yard (calling 0 Insert 5 0)) ∷ verdict 3 (in_yard (calling 0 Insert 5 0)) ∷ [] ≡ OfficeHolds ∷ LanesWin StepTask0 ∷ []
unfolding game_definitions
three_turns = refl

-- ---- "the office steps its task, or starts a grow or shrink if it is idle, or passes"

pub office_moves :
    map (office_may (in_yard [])) (StepTask2 ∷ StartGrow ∷ StartShrink ∷ OfficePass ∷ [])
    ∷ map (office_may (in_yard (calling 2 Grow 0 0))) (StepTask2 ∷ StartGrow ∷ StartShrink ∷ OfficePass ∷ []) ∷ []
    ≡ (false ∷ true ∷ true ∷ true ∷ []) ∷ (true ∷ false ∷ false ∷ true ∷ []) ∷ []
unfolding game_definitions
office_moves = refl

-- task 2 is to put the bucket in the place that task 0 reads next: the office holds the insert off by passing
pub office_passes : verdict 3 (in_yard (calling 1 Grow 0 7 ++ calling 2 Insert 1 7 ++ calling 0 Insert 3 1)) ≡ OfficeHolds
unfolding game_definitions
office_passes = refl

-- task 1 is, as in `only_by_task_1`: with a turn to spare a pass wins too, and task 1's step is given before it
pub task_1_before_a_pass : verdict 4 task_1_at_50 ≡ LanesWin StepTask1
unfolding game_definitions
task_1_before_a_pass = refl

-- a reading: the office loses only if each of its four moves does
pub each_office_move :
    (turns : ℕ) (y : Machine) → let loses = loses_by (λ z. lanes_win turns z) y in
    office_loses (suc turns) y ≡ (loses OfficePass && (loses StepTask2 && (loses StartGrow && loses StartShrink)))
unfolding lanes_win
each_office_move turns y = refl
