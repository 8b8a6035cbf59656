-- A turn by the tests that the code makes. The code steps the task that is next whether or not memory is spoilt: in spoilt memory the step's 8
-- is the turn's own, which names no task. Assumes nothing.
use Rattle.std.specs.Prelude.{if◌then◌else◌, Ok, Err}
use Prim.Native.Nat.{ℕ, ◌≤◌, ◌<◌}
use native.Mathlib.Omega.{arith}
use mathlib.Core.Path.{◌≡◌, refl, sym, ap, ◌∙◌}
use mathlib.Core.Logic.{◌⊎◌, inl, inr}
use mathlib.Core.List.{List}
use mathlib.Core.Bool.{Bool, true, false, not, ◌&&◌}
use borrow.Author.Tests.{le-leb, lt-leb, lt-ltb, le-ltb}
use lib.Dec.{leb, eqb}
use lib.ListN.{get_or}
use Rattle.spec.specs.declared.Refusal.{Refusal}
use Rattle.spec.specs.declared.Refusal.TheVariants.{Spoilt}
use Rattle.spec.specs.declared.State.{State}
use Rattle.spec.specs.declared.Task.{Task}
use Rattle.spec.specs.Outputs.{Output}
use Rattle.spec.specs.declared.Progress.TheVariants.{At, End}
use Rattle.spec.specs.Lists.{member}
use Rattle.spec.specs.Machine.{Machine, machine_of, idle, task_of, with_chosen, with_state, state_chosen}
use Rattle.spec.specs.Words.{link, number}
use Rattle.spec.specs.Sound.{task_count, sound}
use Rattle.spec.specs.Held.{cyclic_order, first_free}
use Rattle.spec.specs.Entries.{Reply, refuse, step}
use Rattle.spec.specs.Numbers.{refusal_number}
use Rattle.spec.specs.declared.Progress.{Progress}
use Rattle.laws.specs.Tests.{bool?}
use Rattle.laws.specs.Links.{true_filled}
use Rattle.laws.specs.Soundness.{sound_facts}
use Rattle.corollaries.specs.Unchanged.{refused_step_changes_nothing}
use Rattle.corollaries.specs.TurnOutcome.{idle_member}
use Rattle.lines.specs.declared.Stepped.{Stepped}
use Rattle.lines.specs.Reply.{reply_of}
use Rattle.turns.specs.declared.Turn.TheVariants.{Idle, Of, Refused}
use Rattle.turns.specs.Turn.{idle_tasks, next_task, gives, after_step, turn_to, turn}
use Rattle.dispatch.specs.Turned.{turned_of, next_to_step, uses_turn, chosen_after, by_output, stepped_turn}

-- the links ls are those of the idle tasks among the first t of ts
abbrev pub IdleLinks : List Task → ℕ → List ℕ → Type 0
IdleLinks ts t ls = (k : ℕ) → k < t → member (link k) ls ≡ not (get_or ts k idle).running

-- ---- an accepted step uses up its turn

pub used_if_accepted : (p : Progress) → uses_turn (Ok p) ≡ true
unfolding uses_turn
used_if_accepted (At line) = refl
used_if_accepted (End a own full) = refl

-- ---- what the code makes of a step, by whether it uses up its turn

module _ (k : ℕ) (z : State) where
  pub used_out : (ok : Bool) (o : Output) → uses_turn o ≡ true → record { says = Of k o; state = state_chosen k z } ≡ by_output k z ok o
  unfolding uses_turn by_output
  used_out ok (Ok (At line)) e = refl
  used_out ok (Ok (End a own full)) e = refl
  used_out ok (Err w) e = rw e

  pub unused_named : (w : Refusal) → uses_turn (Err w) ≡ false → record { says = Of k (Err w); state = z } ≡ by_output k z true (Err w)
  unfolding uses_turn by_output
  unused_named w e = rw e

  pub unused_spoilt : (w : Refusal) → uses_turn (Err w) ≡ false → record { says = Refused w; state = z } ≡ by_output k z false (Err w)
  unfolding uses_turn by_output
  unused_spoilt w e = rw e

module _ (y : Machine) where
  -- ---- who is next

  pub tasks_past : 8 < task_count y → next_to_step y ≡ 0
  unfolding next_to_step
  tasks_past h = rw (lt-leb _ _ h)

  pub chosen_past : task_count y ≤ y.state.chosen → next_to_step y ≡ 0
  unfolding next_to_step
  chosen_past h = rw (le-ltb _ _ h) (none (leb (task_count y) 8))
    where
      none : (b : Bool) → (if b && false then next_task y else 0) ≡ 0
      none true = refl
      none false = refl

  pub within_bounds : task_count y ≤ 8 → y.state.chosen < task_count y → next_to_step y ≡ next_task y
  unfolding next_to_step
  within_bounds h l = rw (le-leb _ _ h, lt-ltb _ _ l)

  -- what the code looks for among the idle tasks' links
  pub next_found : task_count y ≤ 8 → y.state.chosen < task_count y → (l : ℕ)
      → ((ls : List ℕ) → IdleLinks y.state.task (task_count y) ls → first_free ls (cyclic_order (task_count y) y.state.chosen) ≡ l)
      → l ≡ next_to_step y
  unfolding next_task task_of
  next_found h b l f = sym (within_bounds h b ∙ f (idle_tasks y) (idle_member y))

  sound_next : sound y ≡ true → next_to_step y ≡ next_task y
  sound_next ok = let f = sound_facts y ok in within_bounds f.config.T_high f.chosen

  -- ---- no task is stepped

  pub spoilt : sound y ≡ false → gives (Refused Spoilt) y ≡ turn y
  unfolding turn
  spoilt e = rw e

  pub nothing_runs : sound y ≡ true → next_to_step y ≡ 0 → gives Idle y ≡ turn y
  unfolding turn turn_to
  nothing_runs ok e = rw (ok, sym (sound_next ok) ∙ e)

  -- ---- task k is stepped

  module _ (k : ℕ) (e : next_to_step y ≡ link k) where
    turn_steps : sound y ≡ true → turn y ≡ after_step y k (step y k).out (step y k).machine
    unfolding turn turn_to
    turn_steps s =
        let same : number (link k) ≡ k = omega arith in
        rw (s, sym (sound_next s) ∙ e, true_filled (link k) (λ z. omega arith), same)

    -- by what its step answers and leaves
    after_each : (o : Output) (z : Machine) → ((w : Refusal) → o ≡ Err w → z ≡ y)
        → gives (Of k o) (with_chosen (chosen_after o k z.state.chosen) z) ≡ after_step y k o z
    unfolding uses_turn after_step with_chosen with_state state_chosen
    after_each (Ok (At line)) z same = refl
    after_each (Ok (End a own full)) z same = refl
    after_each (Err w) z same = rw (same w refl) (go (eqb (refusal_number w) 7))
      where
        go : (b : Bool) → gives (Of k (Err w)) (with_chosen (if b then k else y.state.chosen) y) ≡ gives (Of k (Err w)) (if b then with_chosen k y else y)
        go true = refl
        go false = refl

    module _ (o : Output) (z : Machine) (d : record { out = o; machine = z } ≡ step y k) where
      refused_kept : (w : Refusal) → o ≡ Err w → z ≡ y
      refused_kept w f = ap (λ (q : Reply). q.machine) d ∙ refused_step_changes_nothing y k w (sym (ap (λ (q : Reply). q.out) d) ∙ f)

      -- in sound memory the turn names the task
      pub names_its_step : sound y ≡ true → gives (Of k o) (with_chosen (chosen_after o k z.state.chosen) z) ≡ turn y
      names_its_step s = after_each o z refused_kept ∙ ap (λ (q : Reply). after_step y k q.out q.machine) d ∙ sym (turn_steps s)

      -- a step that does not use up its turn leaves all as it was; in spoilt memory no step uses up its turn
      pub unused_kept : uses_turn o ≡ false → z ≡ y
      unfolding uses_turn
      unused_kept e = go o refl e
        where
          go : (a : Output) → o ≡ a → uses_turn a ≡ false → z ≡ y
          go (Ok (At line)) f e = absurd (let u : ◌≡◌ {A = ℕ} 0 1 = cc in omega arith)
          go (Ok (End a own full)) f e = absurd (let u : ◌≡◌ {A = ℕ} 0 1 = cc in omega arith)
          go (Err w) f e = refused_kept w f

      pub used_sound : uses_turn o ≡ true → sound y ≡ true
      unfolding uses_turn step refuse
      used_sound e = go (bool? (sound y))
        where
          go : (sound y ≡ true) ⊎ (sound y ≡ false) → sound y ≡ true
          go (inl s) = s
          go (inr s) =
              let eight : o ≡ Err Spoilt = ap (λ (q : Reply). q.out) d ∙ rw s in
              absurd (let v : uses_turn (Err Spoilt) ≡ true = rw eight at e in let u : ◌≡◌ {A = ℕ} 0 1 = cc in omega arith)

      -- so a turn that is used up names its task, and one that is not does so in sound memory
      pub used : uses_turn o ≡ true → gives (Of k o) (with_chosen k z) ≡ turn y
      used e = rw e at (names_its_step (used_sound e))

      pub unused : uses_turn o ≡ false → sound y ≡ true → gives (Of k o) y ≡ turn y
      unfolding with_chosen with_state state_chosen
      unused e s = ap (gives (Of k o)) (sym (unused_kept e)) ∙ (rw e at (names_its_step s))

    module _ (r : Stepped) (ns bs : List ℕ) (d : reply_of r ns bs ≡ step y k) where
      -- a refused step leaves the machine as it was
      refused_same : (w : Refusal) → r.out ≡ Err w → machine_of r.state ns bs ≡ y
      refused_same w o =
          ap (λ (q : Reply). q.machine) d ∙ refused_step_changes_nothing y k w (sym (ap (λ (q : Reply). q.out) d) ∙ o)

      abbrev sound_after : Bool
      sound_after = sound (machine_of r.state ns bs)

      by_each : sound y ≡ true → (o : Output) → r.out ≡ o
          → turned_of (by_output k r.state sound_after o) ns bs ≡ after_step y k o (machine_of r.state ns bs)
      unfolding by_output after_step with_chosen with_state
      by_each s (Ok (At line)) f = refl
      by_each s (Ok (End a own full)) f = refl
      by_each s (Err w) f = rw (ap sound (refused_same w f) ∙ s) (go (eqb (refusal_number w) 7))
        where
          go : (b : Bool)
              → turned_of (
              if b then record { says = Of k (Err w); state = state_chosen k r.state } else record { says = Of k (Err w); state = r.state }
              ) ns bs
              ≡ gives (Of k (Err w)) (if b then with_chosen k y else y)
          go true = ap (λ (m : Machine). gives (Of k (Err w)) (with_chosen k m)) (refused_same w f)
          go false = ap (gives (Of k (Err w))) (refused_same w f)

      -- in spoilt memory the step is refused with 8, which is the turn's own
      spoilt_step : sound y ≡ false → r.out ≡ Err Spoilt
      unfolding step refuse
      spoilt_step s = ap (λ (q : Reply). q.out) d ∙ rw s

      own_eight : sound y ≡ false → turned_of (stepped_turn k r ns bs) ns bs ≡ turn y
      unfolding by_output
      own_eight s =
          let eight = spoilt_step s in
          let same = refused_same Spoilt eight in
          rw (eight, ap sound same ∙ s) (ap (gives (Refused Spoilt)) same ∙ spoilt s)

      -- what the code makes of the step is what the turn gives
      pub turn_goes : turned_of (stepped_turn k r ns bs) ns bs ≡ turn y
      turn_goes = go (bool? (sound y))
        where
          go : (sound y ≡ true) ⊎ (sound y ≡ false) → turned_of (stepped_turn k r ns bs) ns bs ≡ turn y
          go (inl s) = by_each s r.out refl ∙ ap (λ (q : Reply). after_step y k q.out q.machine) d ∙ sym (turn_steps s)
          go (inr s) = own_eight s
