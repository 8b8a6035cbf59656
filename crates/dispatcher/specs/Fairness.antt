-- A running task's place after the last one chosen, going round, falls with each turn that goes to another, and after a turn of its own it
-- is T. So at most T − 1 turns go to others before it is its turn again. That is so as long as nothing is refused with 8: a turn that the
-- step's 8 refuses moves nothing, and the next one goes to the same task. Assumes nothing.
use Rattle.std.specs.Prelude.{ℕ, ◌+◌, ◌-◌, ◌%◌, ◌≤◌, ◌<◌, ◌≡◌, refl, true}
use Rattle.std.proofs.Math.Nat.{mod-add-mod, add-mod_right}
use Rattle.std.proofs.Common.{mod-eq_of_lt, sym, ap, ◌∙◌}
use Rattle.std.proofs.Math.Decide.{dec_lt}
use native.Mathlib.Omega.{arith}
use mathlib.Core.List.{List, [], ◌∷◌}
use Rattle.spec.specs.Machine.{Machine, with_chosen, with_state, state_chosen, task_of}
use Rattle.spec.specs.Sound.{task_count}
use Rattle.spec.specs.Schedule.{event}
use Rattle.turns.specs.Turn.{Turned, turn}
use Rattle.turns.specs.Moves.{Move, enters, turns, Said, turned, move, moves}
use Rattle.turns.specs.Promises.{To, Waits, turns_given, NoEightRun}
use Rattle.laws.specs.Tests.{tf}
use Rattle.laws.specs.LastChosen.{Fixed, event_same}
use Rattle.corollaries.specs.TurnOutcome.{Next, TurnOutcome, spoilt, nothing_runs, goes, step_spoilt, turn_outcome}
use Rattle.dispatcher.specs.InOrder.{event_tasks, step_tasks}

module _ (t k : ℕ) where
  -- task k is d places after the last one chosen
  pub record Ahead (y : Machine) (d : ℕ) : Type 0 where
    pub tasks : task_count y ≡ t
    pub low : 1 ≤ d
    pub high : d ≤ t
    pub place : (y.state.chosen + d) % t ≡ k

  -- the turn goes to a task that is nearer
  nearer : (y : Machine) (d : ℕ) → Ahead y d → (task_of y k).running ≡ true → (q : ℕ) → Next y q → ¬ (q ≡ k)
      → (e : ℕ) × (e < d) × (1 ≤ e) × ((q + e) % t ≡ k)
  nearer y d a r q n ne = go (dec_lt j d)
    where
      last : ℕ
      last = y.state.chosen

      j : ℕ
      j = n.first.distance

      there : q ≡ (last + j) % t
      there = n.first.there ∙ ap (λ (u : ℕ). (last + j) % u) a.tasks

      go : Dec (j < d) → (e : ℕ) × (e < d) × (1 ≤ e) × ((q + e) % t ≡ k)
      go (yes l) =
          let sum : last + j + (d - j) ≡ last + d = omega arith in
          let at = ap (λ (u : ℕ). (u + (d - j)) % t) there ∙ mod-add-mod (last + j) t (d - j) ∙ ap (λ (u : ℕ). u % t) sum ∙ a.place in
          let some = n.first.after_last in
          (d - j, omega arith, omega arith, at)
      -- all tasks before the next one are idle, and task k is not; nor is it the next one
      go (no l) = absurd (ne (there ∙ ap (λ (u : ℕ). (last + u) % t) (same (dec_lt d j)) ∙ a.place))
        where
          same : Dec (d < j) → j ≡ d
          same (no m) = omega arith
          same (yes m) =
              let i = n.first.held_between d a.low m in
              let k_at : (last + d) % task_count y ≡ k = ap (λ (u : ℕ). (last + d) % u) a.tasks ∙ a.place in
              absurd (tf r (ap (λ (u : ℕ). (task_of y u).running) (sym k_at) ∙ i.1))

  pub waits : (ms : List Move) (y : Machine) (d : ℕ) → Ahead y d → NoEightRun (moves y ms).says → Waits k y ms → turns_given (moves y ms).says < d
  unfolding moves move turns_given with_chosen with_state state_chosen
  waits [] y d a u w = a.low
  waits (enters e ∷ ms) y d a u w =
      let at : ((event y e).machine.state.chosen + d) % t ≡ k = rw (ap (λ (p : Fixed). p.chosen) (event_same y e)) a.place in
      waits ms (event y e).machine d (record { tasks = event_tasks y e ∙ a.tasks; low = a.low; high = a.high; place = at }) u.1 w
  waits (turns ∷ ms) y d a u w = go (turn_outcome y) u w.1 w.2 (waits ms)
    where
      go : {m : Turned} → TurnOutcome y m → NoEightRun (turned m.says ∷ (moves m.machine ms).says) → ¬ To k m.says → Waits k m.machine ms
          → ((z : Machine) (f : ℕ) → Ahead z f → NoEightRun (moves z ms).says → Waits k z ms → turns_given (moves z ms).says < f)
          → turns_given (turned m.says ∷ (moves m.machine ms).says) < d
      go (spoilt s) u n v ih = absurd u
      go (nothing_runs s i) u n v ih = ih y d a u v
      go (step_spoilt q s i f) u n v ih = absurd (u.0 refl)
      go (goes q o z s i f x only) u n v ih =
          let near = nearer y d a w.0 q i (λ e. n (o, rw e)) in
          let less = near.1 in
          let high = a.high in
          let tasks = step_tasks y q z x ∙ a.tasks in
          let l = ih (with_chosen q z) near.0 (record { tasks = tasks; low = near.2; high = omega arith; place = near.3 }) u.1 v in
          omega arith

-- after its own turn a task is T places after the last one chosen
pub own_turn : (k : ℕ) (y : Machine) (later : List Said) → NoEightRun (turned (turn y).says ∷ later) → To k (turn y).says
    → Ahead (task_count y) k (turn y).machine (task_count y)
unfolding with_chosen with_state state_chosen
own_turn k y later = go (turn_outcome y)
  where
    go : {m : Turned} → TurnOutcome y m → NoEightRun (turned m.says ∷ later) → To k m.says
        → Ahead (task_count y) k m.machine (task_count y)
    go (spoilt s) u v = absurd u
    go (nothing_runs s n) u v = absurd (let p = v.1 in let z : ◌≡◌ {A = ℕ} 0 1 = cc in omega arith)
    go (step_spoilt q s n f) u v = absurd (u.0 refl)
    go (goes q o z s n f x only) u v =
        let p = v.1 in
        let same : q ≡ k = cc in
        let below = n.below in
        let at = add-mod_right q (task_count y) ∙ mod-eq_of_lt below ∙ same in
        record { tasks = step_tasks y q z x; low = omega arith; high = omega arith; place = at }
