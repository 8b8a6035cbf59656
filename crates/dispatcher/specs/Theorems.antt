-- What is promised of every run of starts, steps and turns, whatever the opening is given, if it is accepted, and whatever stood in the two
-- slices before it (paper 02, U7).
--
--   fair               at most T − 1 turns go to others between two successive turns of a task that is idle at no turn between them
--   fair_anywhere      the same from any memory on, as long as nothing is refused with 8, and with no second turn
--   in_two_parts       the parts that `fair` speaks of are parts of one run
--   is_schedule        the run is a schedule of paper 01, a turn standing for its task's step and idle turns left out: the same outputs, and
--                      the same state and pools, but for the last one chosen
--   linearizable_run   so its ended calls fit one plain set, which ends with the tags then listed
--   never_8_run        no start, step or turn is refused with 8, and a turn with nothing but 7
--   sound_run          memory stays sound
--
-- Fairness holds because a waiting task's place after the last one chosen falls with each turn of another (Fairness); the rest because a turn
-- is its task's step (Erasure), and every schedule keeps these promises (the crate linear). Assumes nothing.
use Rattle.std.specs.Prelude.{ℕ, ◌-◌, ◌≤◌, ◌≡◌, refl, true, List, [], ◌∷◌, ◌++◌}
use native.Mathlib.Omega.{arith}
use Rattle.std.proofs.Common.{sym, ◌∙◌, eq-eqb}
use Rattle.std.proofs.Math.Path.{ap}
use Rattle.spec.specs.declared.Config.{Config}
use Rattle.spec.specs.Machine.{Machine, with_chosen, with_state, state_chosen, state_of}
use Rattle.spec.specs.Sound.{task_count, sound}
use Rattle.spec.specs.Entries.{opening, fresh_machine, list}
use Rattle.spec.specs.Schedule.{schedule, run_opened}
use Rattle.turns.specs.declared.Turn.TheVariants.{Idle, Of, Refused}
use Rattle.turns.specs.Turn.{turn}
use Rattle.turns.specs.Moves.{Move, turns, Said, entered, turned, move, moves, run_of, stands_for}
use Rattle.turns.specs.Promises.{To, Waits, turns_given, Fair, IsSchedule, LinearizableRun, NoEightRun}
use Rattle.laws.specs.Soundness.{sound_facts}
use Rattle.laws.specs.OpeningSound.{opening_sound, opened_machine}
use Rattle.laws.specs.LastChosen.{list_apart}
use Rattle.linear.specs.Opening.{opening_before}
use Rattle.linear.proofs.Theorems.{linearizable}
use Rattle.dispatcher.specs.InOrder.{move_tasks, move_keeps}
use Rattle.dispatcher.specs.Fairness.{waits, own_turn}
use Rattle.dispatcher.specs.Erasure.{Beside, erased}
use Rattle.dispatcher.specs.NoEight.{no_eight}

-- a run in two parts is one run: each move is given what the one before left
pub in_two_parts : (ms ns : List Move) (y : Machine)
    → moves y (ms ++ ns)
    ≡ record { says = (moves y ms).says ++ (moves (moves y ms).machine ns).says; machine = (moves (moves y ms).machine ns).machine }
unfolding moves
in_two_parts [] ns y = refl
in_two_parts (m ∷ ms) ns y = rw (in_two_parts ms ns (move y m).machine)

pub moves_tasks : (ms : List Move) (y : Machine) → task_count (moves y ms).machine ≡ task_count y
unfolding moves
moves_tasks [] y = refl
moves_tasks (m ∷ ms) y = moves_tasks ms (move y m).machine ∙ move_tasks y m

moves_keep : (ms : List Move) (y : Machine) → sound y ≡ true → sound (moves y ms).machine ≡ true
unfolding moves
moves_keep [] y ok = ok
moves_keep (m ∷ ms) y ok = moves_keep ms (move y m).machine (move_keeps y m ok)

-- nothing is refused with 8 in a later part of what a run says
no_eight_rest : (s : Said) (ss : List Said) → NoEightRun (s ∷ ss) → NoEightRun ss
no_eight_rest (entered o) ss n = n.1
no_eight_rest (turned (Of k o)) ss n = n.1
no_eight_rest (turned Idle) ss n = n
no_eight_rest (turned (Refused r)) ss n = absurd n

no_eight_later : (ss later : List Said) → NoEightRun (ss ++ later) → NoEightRun later
no_eight_later [] later n = n
no_eight_later (s ∷ ss) later n = no_eight_later ss later (no_eight_rest s (ss ++ later) n)

-- after a turn of task k, as long as it is idle at no turn and no turn goes to it
pub fair_anywhere : (k : ℕ) (y : Machine) (ms : List Move) → NoEightRun (moves y (turns ∷ ms)).says → To k (turn y).says
    → Waits k (turn y).machine ms → turns_given (moves (turn y).machine ms).says ≤ task_count y - 1
unfolding moves move
fair_anywhere k y ms n to w =
    let later = (moves (turn y).machine ms).says in
    let l = waits (task_count y) k ms (turn y).machine (task_count y) (own_turn k y later n to) (no_eight_rest (turned (turn y).says) later n) w in
    omega arith

module _ (g : Config) (ns bs : List ℕ) (ok : (opening g ns bs).refusal ≡ 0) where
  abbrev y₀ : Machine
  y₀ = (opening g ns bs).machine

  pub opened_tasks : task_count y₀ ≡ g.tasks
  unfolding fresh_machine state_of
  opened_tasks = ap task_count (opened_machine g ns bs ok)

  -- "an opening sets T − 1"
  opened_chosen : with_chosen (g.tasks - 1) y₀ ≡ y₀
  unfolding fresh_machine state_of with_chosen with_state state_chosen
  opened_chosen = rw (opened_machine g ns bs ok)

  beside : Beside (g.tasks - 1) y₀
  beside =
      let so = opening_sound g ns bs ok in
      let low = (sound_facts y₀ so).config.T_low in
      let e = opened_tasks in
      record { ok = so; below = omega arith }

  module _ (ms : List Move) where
    pub sound_run : sound (run_of g ns bs ms).machine ≡ true
    unfolding run_of
    sound_run = moves_keep ms y₀ (opening_sound g ns bs ok)

    pub is_schedule : IsSchedule g ns bs ms
    unfolding schedule run_opened run_of
    is_schedule = rw (eq-eqb (opening g ns bs).refusal 0 ok) (rw opened_chosen at (erased (g.tasks - 1) ms y₀ beside))

    -- a list does not look at the last one chosen
    same_list : (w : List ℕ) → list (with_chosen (g.tasks - 1) (run_of g ns bs ms).machine) w ≡ list (run_of g ns bs ms).machine w
    unfolding run_of
    same_list w =
        let e = moves_tasks ms y₀ ∙ opened_tasks in
        let f = sound_facts _ sound_run in
        let low = f.config.T_low in
        list_apart (moves y₀ ms).machine (g.tasks - 1) (omega arith) f.chosen w

    pub linearizable_run : LinearizableRun g ns bs ms
    linearizable_run =
        let l = linearizable g ns bs ok (stands_for ms (run_of g ns bs ms).says) in
        let e = is_schedule in
        record {
          order = l.order;
          once = rw e at l.once;
          timely = l.timely;
          answers = l.answers;
          listed = λ w h. sym (same_list w) ∙ (rw e at l.listed) w h;
        }

    pub never_8_run : NoEightRun (run_of g ns bs ms).says
    unfolding run_of
    never_8_run =
        no_eight (g.tasks - 1) ms y₀ beside
        (rw opened_chosen (record { place = 0; last = _; ended = _; before = opening_before g ns bs ok }))

  pub fair : Fair g ns bs
  unfolding run_of
  fair k before between to w again =
      let y = (moves y₀ before).machine in
      let both = in_two_parts before (turns ∷ between) y₀ in
      let n = no_eight_later (moves y₀ before).says (moves y (turns ∷ between)).says (rw both at (never_8_run (before ++ (turns ∷ between)))) in
      let f = fair_anywhere k y between n to w in
      let e = moves_tasks before y₀ ∙ opened_tasks in
      omega arith
