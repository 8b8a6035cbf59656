-- A whole schedule is simulated: by induction over its events, with the operations' types as they are at its end. Assumes nothing.
use Rattle.std.specs.Prelude.{suc, ℕ, List, [], ◌∷◌, ◌≡◌, refl}
use Rattle.std.proofs.Common.{◌∙◌, eq-eqb}
use Rattle.std.proofs.Math.Path.{ap, subst}
use Rattle.coop_spec.specs.declared.Refusal.TheVariants.{Spoilt}
use Rattle.coop_spec.specs.Atomic.{Operations}
use Rattle.coop_spec.specs.Entries.{opening}
use Rattle.coop_spec.specs.History.{History, extended, history, history_from, no_history, operations}
use Rattle.coop_spec.specs.Linearizable.{Never}
use Rattle.coop_spec.specs.Machine.{Machine}
use Rattle.coop_spec.specs.Schedule.{Event, Ran, event, run, run_opened, schedule}
use Rattle.coop_linear.specs.Events.{Before, event_next}
use Rattle.coop_linear.specs.Opening.{opening_before}
use Rattle.coop_laws.specs.Fixed.{Agrees, Fixed, agrees_before, agrees_itself, event_fixed, fixed_refl, fixed_trans}

pub run_types : (es : List Event) (y : Machine) → Fixed y (run y es).machine
unfolding run
run_types [] y = fixed_refl y
run_types (e ∷ es) y = fixed_trans (event_fixed y e) (run_types es (event y e).machine)

-- what is told and what is run end with the same machine
pub history_machine : (n : ℕ) (s : History) (es : List Event) → (history_from n s es).machine ≡ (run s.machine es).machine
unfolding history_from run extended
history_machine n s [] = refl
history_machine n s (e ∷ es) = history_machine (suc n) (extended n s e (event s.machine e)) es

pub run_simulated : (T : Operations) (n : ℕ) (s : History) → Before T n s → (es : List Event) → Agrees T (run s.machine es).machine
    → ((k : ℕ) × Before T k (history_from n s es)) × Never Spoilt (run s.machine es).outs
unfolding run history_from extended
run_simulated T n s b [] a = ((n, b), tt)
run_simulated T n s b (e ∷ es) a =
    let m = event_next b e
    (agrees_before T (event s.machine e).machine (run (event s.machine e).machine es).machine (run_types es (event s.machine e).machine) a) in
    let r = run_simulated T (suc n) (extended n s e (event s.machine e)) m.0 es a in
    (r.0, (m.1, r.1))

-- ---- from an accepted opening on

module _ (t : ℕ) (ws : List ℕ) (ok : (opening t ws).refusal ≡ 0) (es : List Event) where
  abbrev pub types_at_end : Operations
  types_at_end = operations (history t ws es).machine

  schedule_runs : schedule t ws es ≡ run (opening t ws).machine es
  unfolding schedule run_opened
  schedule_runs = rw (eq-eqb (opening t ws).refusal 0 ok)

  pub same_machine : (history t ws es).machine ≡ (schedule t ws es).machine
  unfolding history
  same_machine = rw schedule_runs (history_machine 0 (no_history (opening t ws).machine) es)

  pub schedule_simulated : ((k : ℕ) × Before types_at_end k (history t ws es)) × Never Spoilt (schedule t ws es).outs
  unfolding history
  schedule_simulated =
      rw schedule_runs (run_simulated types_at_end 0 (no_history (opening t ws).machine) (opening_before types_at_end t ws ok) es agrees)
    where
      agrees : Agrees types_at_end (run (opening t ws).machine es).machine
      agrees = subst (Agrees types_at_end) (same_machine ∙ ap (λ (r : Ran). r.machine) schedule_runs) (agrees_itself (history t ws es).machine)
