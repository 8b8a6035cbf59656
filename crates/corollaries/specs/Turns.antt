-- What a turn of the dispatcher changes and refuses (paper 02, U7). "A step refused by lack of records uses up its turn: .. That is the one
-- exception to the mission's first demand, by which a refusal changes no word: it holds for the dispatcher's 7 alone, and a 7 from a step
-- called directly still changes nothing." A turn names a task, is idle, refused with 7 and refused with 8 exactly under its condition, and is
-- refused with no other number. Assumes nothing.
use Rattle.std.specs.Prelude.{ℕ, zero, suc, ◌+◌, ◌-◌, ◌%◌, ◌≤◌, ◌<◌, ◌≡◌, refl, ◌↔◌, ◌⊎◌, false, map, Ok, Err}
use Rattle.std.proofs.Common.{sym, ◌∙◌, mod-eq_of_lt, arith}
use Rattle.std.proofs.Math.Path.{ap}
use Rattle.std.proofs.Math.Logic.{inl, inr}
use Rattle.std.proofs.Math.Nat.{add-mod_left}
use Rattle.std.proofs.Math.Decide.{dec_lt}
use Rattle.spec.specs.declared.Refusal.{Refusal}
use Rattle.spec.specs.declared.Refusal.TheVariants.{NoRecord, Spoilt}
use Rattle.spec.specs.Outputs.{Output}
use Rattle.spec.specs.declared.Progress.TheVariants.{At, End}
use Rattle.spec.specs.Lists.{range}
use Rattle.spec.specs.Machine.{Machine, with_chosen, task_of}
use Rattle.spec.specs.Words.{link}
use Rattle.spec.specs.Held.{cyclic_order}
use Rattle.spec.specs.Sound.{task_count}
use Rattle.spec.specs.Entries.{step}
use Rattle.spec.specs.Schedule.{Event, event}
use Rattle.spec.specs.Numbers.{refusal_number}
use Rattle.turns.specs.declared.Turn.TheVariants.{Idle, Of, Refused}
use Rattle.turns.specs.Turn.{Turned, turn, refusal_of}
use Rattle.laws.specs.Tests.{tf}
use Rattle.laws.specs.SoundFacts.{SoundFacts}
use Rattle.laws.specs.Soundness.{sound_facts, facts_sound}
use Rattle.laws.specs.LastChosen.{Fixed, event_same}
use Rattle.laws.specs.RefusalNumbers.{same_refusal, from_1_to_14}
use Rattle.corollaries.specs.Unchanged.{refused_step_changes_nothing}
use Rattle.corollaries.specs.TurnOutcome.{Next, TurnOutcome, spoilt, nothing_runs, goes, step_spoilt, turn_outcome}

-- "Only the dispatcher moves it": no start and no step does
pub only_the_dispatcher : (y : Machine) (e : Event) → (event y e).machine.state.chosen ≡ y.state.chosen
only_the_dispatcher y e = ap (λ (p : Fixed). p.chosen) (event_same y e)

-- "a 7 from a step called directly still changes nothing", as every refusal of an entry
pub direct_seven_changes_nothing : (y : Machine) (k : ℕ) → (step y k).out ≡ Err NoRecord → (step y k).machine ≡ y
direct_seven_changes_nothing y k e = refused_step_changes_nothing y k NoRecord e

-- "task 0 first after an opening", which sets T − 1: the tasks are tried from 0 on
from_zero : (t i n : ℕ) → i + n ≤ t → map (λ j. link ((t - 1 + j) % t)) (range (suc i) n) ≡ map link (range i n)
unfolding range
from_zero t i zero h = refl
from_zero t i (suc n) h =
    let s : t - 1 + suc i ≡ t + i = omega arith in
    let below : i < t = omega arith in
    let e : (t - 1 + suc i) % t ≡ i = ap (λ (u : ℕ). u % t) s ∙ add-mod_left t i ∙ mod-eq_of_lt below in
    rw (e, from_zero t (suc i) n (omega arith))

pub zero_first : (t : ℕ) → cyclic_order t (t - 1) ≡ map link (range 0 t)
unfolding cyclic_order
zero_first t = from_zero t 0 t (omega arith)

-- the number of what a step answers
refused_by : (k : ℕ) (o : Output) (r : Refusal) → refusal_of (Of k o) ≡ refusal_number r → o ≡ Err r
unfolding refusal_of
refused_by k (Ok (At line)) r e = absurd (omega (arith, from_1_to_14 r))
refused_by k (Ok (End a own full)) r e = absurd (omega (arith, from_1_to_14 r))
refused_by k (Err s) r e = ap Err (same_refusal s r e)

refused_so : (k : ℕ) (o : Output) (r : ℕ) → ¬ (r ≡ 0) → refusal_of (Of k o) ≡ r → (s : Refusal) × (o ≡ Err s) × (refusal_number s ≡ r)
unfolding refusal_of
refused_so k (Ok (At line)) r d e = absurd (d (sym e))
refused_so k (Ok (End a own full)) r d e = absurd (d (sym e))
refused_so k (Err s) r d e = (s, refl, e)

module _ (y : Machine) where
  -- at most one task is next
  next_one : (j k : ℕ) → Next y j → Next y k → j ≡ k
  next_one j k p q = go (dec_lt p.first.distance q.first.distance) (dec_lt q.first.distance p.first.distance)
    where
      go : Dec (p.first.distance < q.first.distance) → Dec (q.first.distance < p.first.distance) → j ≡ k
      go (yes l) d =
          let i = q.first.held_between p.first.distance p.first.after_last l in
          absurd (tf p.runs (ap (λ (n : ℕ). (task_of y n).running) p.first.there ∙ i.1))
      go (no l) (yes g) =
          let i = p.first.held_between q.first.distance q.first.after_last g in
          absurd (tf q.runs (ap (λ (n : ℕ). (task_of y n).running) q.first.there ∙ i.1))
      go (no l) (no g) =
          let e : p.first.distance ≡ q.first.distance = omega arith in
          p.first.there ∙ rw e (sym q.first.there)

  -- ---- what a turn changes

  -- "If nothing runs it says idle and changes nothing."
  pub idle_turn_changes_nothing : (turn y).says ≡ Idle → (turn y).machine ≡ y
  idle_turn_changes_nothing = go (turn_outcome y)
    where
      go : {m : Turned} → TurnOutcome y m → m.says ≡ Idle → m.machine ≡ y
      go (spoilt s) e = refl
      go (nothing_runs s n) e = refl
      go (step_spoilt k s n f) e = refl
      go (goes k o z s n f x only) e = absurd (let q : ◌≡◌ {A = ℕ} 0 1 = cc in omega arith)

  -- any refusal but 7
  pub refused_turn_changes_nothing : (r : ℕ) → ¬ (r ≡ 0) → ¬ (r ≡ 7) → refusal_of (turn y).says ≡ r → (turn y).machine ≡ y
  refused_turn_changes_nothing r d d7 = go (turn_outcome y)
    where
      go : {m : Turned} → TurnOutcome y m → refusal_of m.says ≡ r → m.machine ≡ y
      go (spoilt s) e = refl
      go (nothing_runs s n) e = refl
      go (step_spoilt k s n f) e = refl
      go (goes k o z s n f x only) e =
          let t = refused_so k o r d e in
          absurd (d7 (sym t.2 ∙ ap refusal_number (only t.0 t.1)))

  -- "the last one chosen, kept in the state, moves and no other word does": to the task whose turn it was
  pub seven_moves_the_last_chosen : refusal_of (turn y).says ≡ 7
      → (k : ℕ) × Next y k × ((turn y).says ≡ Of k (Err NoRecord)) × ((turn y).machine ≡ with_chosen k y)
  unfolding refusal_of
  seven_moves_the_last_chosen = go (turn_outcome y)
    where
      go : {m : Turned} → TurnOutcome y m → refusal_of m.says ≡ 7 → (k : ℕ) × Next y k × (m.says ≡ Of k (Err NoRecord)) × (m.machine ≡ with_chosen k y)
      go (spoilt s) e = absurd (omega arith)
      go (nothing_runs s n) e = absurd (omega arith)
      go (step_spoilt k s n f) e = absurd (omega arith)
      go (goes k o z s n f x only) e =
          let seven = refused_by k o NoRecord e in
          (k, n, ap (Of k) seven, ap (with_chosen k) (sym x ∙ refused_step_changes_nothing y k NoRecord (f ∙ seven)))

  -- ---- when a turn is refused, and when it is idle

  -- idle: memory is sound, and no task runs
  pub turn_idle : ((turn y).says ≡ Idle) ↔ (SoundFacts y × ((k : ℕ) → k < task_count y → (task_of y k).running ≡ false))
  turn_idle = (to (turn_outcome y), λ h. from (turn_outcome y) h.0 h.1)
    where
      to : {m : Turned} → TurnOutcome y m → m.says ≡ Idle → SoundFacts y × ((k : ℕ) → k < task_count y → (task_of y k).running ≡ false)
      to (spoilt s) e = absurd (let q : ◌≡◌ {A = ℕ} 0 1 = cc in omega arith)
      to (nothing_runs s n) e = (sound_facts y s, λ k h. (n k h).1)
      to (step_spoilt k s n f) e = absurd (let q : ◌≡◌ {A = ℕ} 0 1 = cc in omega arith)
      to (goes k o z s n f x only) e = absurd (let q : ◌≡◌ {A = ℕ} 0 1 = cc in omega arith)

      from : {m : Turned} → TurnOutcome y m → SoundFacts y → ((k : ℕ) → k < task_count y → (task_of y k).running ≡ false) → m.says ≡ Idle
      from (spoilt s) g none = absurd (tf (facts_sound y g) s)
      from (nothing_runs s n) g none = refl
      from (step_spoilt k s n f) g none = absurd (tf n.runs (none k n.below))
      from (goes k o z s n f x only) g none = absurd (tf n.runs (none k n.below))

  -- the answer names a task: memory is sound, the task is next, and its step answers so, be it a refusal
  pub turn_names : (k : ℕ) (o : Output) → ((turn y).says ≡ Of k o) ↔ (SoundFacts y × Next y k × ((step y k).out ≡ o))
  turn_names k o = (to (turn_outcome y), λ h. from (turn_outcome y) h.0 h.1 h.2)
    where
      to : {m : Turned} → TurnOutcome y m → m.says ≡ Of k o → SoundFacts y × Next y k × ((step y k).out ≡ o)
      to (spoilt s) e = absurd (let q : ◌≡◌ {A = ℕ} 0 1 = cc in omega arith)
      to (nothing_runs s n) e = absurd (let q : ◌≡◌ {A = ℕ} 0 1 = cc in omega arith)
      to (step_spoilt j s n f) e =
          let same : j ≡ k = cc in
          let out : Err Spoilt ≡ o = cc in
          (sound_facts y s, rw same at n, (rw same at f) ∙ out)
      to (goes j p z s n f x only) e =
          let same : j ≡ k = cc in
          let out : p ≡ o = cc in
          (sound_facts y s, rw same at n, (rw same at f) ∙ out)

      from : {m : Turned} → TurnOutcome y m → SoundFacts y → Next y k → (step y k).out ≡ o → m.says ≡ Of k o
      from (spoilt s) g n e = absurd (tf (facts_sound y g) s)
      from (nothing_runs s i) g n e = absurd (tf n.runs (i k n.below).1)
      from (step_spoilt j s i f) g n e = let same = next_one j k i n in let p : (step y k).out ≡ Err Spoilt = rw same at f in rw (same, sym p ∙ e)
      from (goes j p z s i f x only) g n e = let same = next_one j k i n in let q : (step y k).out ≡ p = rw same at f in rw (same, sym q ∙ e)

  -- a number and no task: 8, in spoilt memory
  pub turn_names_none : (r : Refusal) → ((turn y).says ≡ Refused r) ↔ ((r ≡ Spoilt) × (¬ SoundFacts y))
  turn_names_none r = (to (turn_outcome y), λ h. from (turn_outcome y) h.0 h.1)
    where
      to : {m : Turned} → TurnOutcome y m → m.says ≡ Refused r → (r ≡ Spoilt) × (¬ SoundFacts y)
      to (spoilt s) e = let same : Spoilt ≡ r = cc in (sym same, λ g. tf (facts_sound y g) s)
      to (nothing_runs s n) e = absurd (let q : ◌≡◌ {A = ℕ} 0 1 = cc in omega arith)
      to (step_spoilt k s n f) e = absurd (let q : ◌≡◌ {A = ℕ} 0 1 = cc in omega arith)
      to (goes k o z s n f x only) e = absurd (let q : ◌≡◌ {A = ℕ} 0 1 = cc in omega arith)

      from : {m : Turned} → TurnOutcome y m → r ≡ Spoilt → ¬ SoundFacts y → m.says ≡ Refused r
      from (spoilt s) e g = ap Refused (sym e)
      from (nothing_runs s n) e g = absurd (g (sound_facts y s))
      from (step_spoilt k s n f) e g = absurd (g (sound_facts y s))
      from (goes k o z s n f x only) e g = absurd (g (sound_facts y s))

  -- a step of the task that is next answers so
  abbrev pub NextStep : Output → Type 0
  NextStep o = SoundFacts y × ((k : ℕ) × Next y k × ((step y k).out ≡ o))

  -- 7: the step of the task that is next is refused with 7
  pub refusal_7_turn : (refusal_of (turn y).says ≡ 7) ↔ NextStep (Err NoRecord)
  unfolding refusal_of
  refusal_7_turn = (to (turn_outcome y), λ h. ap refusal_of ((turn_names h.1.0 (Err NoRecord)).1 (h.0, h.1.1, h.1.2)))
    where
      to : {m : Turned} → TurnOutcome y m → refusal_of m.says ≡ 7 → NextStep (Err NoRecord)
      to (spoilt s) e = absurd (omega arith)
      to (nothing_runs s n) e = absurd (omega arith)
      to (step_spoilt k s n f) e = absurd (omega arith)
      to (goes k o z s n f x only) e = (sound_facts y s, (k, n, f ∙ refused_by k o NoRecord e))

  -- 8: memory is spoilt, or the step of the task that is next is refused with 8
  pub refusal_8_turn : (refusal_of (turn y).says ≡ 8) ↔ ((¬ SoundFacts y) ⊎ NextStep (Err Spoilt))
  unfolding refusal_of
  refusal_8_turn = (to (turn_outcome y), from)
    where
      to : {m : Turned} → TurnOutcome y m → refusal_of m.says ≡ 8 → (¬ SoundFacts y) ⊎ NextStep (Err Spoilt)
      to (spoilt s) e = inl (λ g. tf (facts_sound y g) s)
      to (nothing_runs s n) e = absurd (omega arith)
      to (step_spoilt k s n f) e = inr (sound_facts y s, (k, n, f))
      to (goes k o z s n f x only) e = absurd (let q = ap refusal_number (only Spoilt (refused_by k o Spoilt e)) in omega arith)

      from : (¬ SoundFacts y) ⊎ NextStep (Err Spoilt) → refusal_of (turn y).says ≡ 8
      from (inl g) = ap refusal_of ((turn_names_none Spoilt).1 (refl, g))
      from (inr h) = ap refusal_of ((turn_names h.1.0 (Err Spoilt)).1 (h.0, h.1.1, h.1.2))

  -- no other number
  pub turn_refusals : (r : ℕ) → refusal_of (turn y).says ≡ r → ¬ (r ≡ 0) → (r ≡ 7) ⊎ (r ≡ 8)
  unfolding refusal_of
  turn_refusals r = go (turn_outcome y)
    where
      go : {m : Turned} → TurnOutcome y m → refusal_of m.says ≡ r → ¬ (r ≡ 0) → (r ≡ 7) ⊎ (r ≡ 8)
      go (spoilt s) e d = inr (sym e)
      go (nothing_runs s n) e d = absurd (d (sym e))
      go (step_spoilt k s n f) e d = inr (sym e)
      go (goes k o z s n f x only) e d = let t = refused_so k o r d e in inl (sym t.2 ∙ ap refusal_number (only t.0 t.1))
