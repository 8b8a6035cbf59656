-- A machine with short chains of predecessors and enough records has one free wherever line 27 or 49 wants one, and so has what an event
-- leaves: T, H and B stay. So no schedule meets refusal 7. By induction over the events. Assumes nothing.
use Rattle.std.specs.Prelude.{◌≡◌, true, List, [], ◌∷◌, ℕ, ◌/◌, ◌≤◌, length, Err}
use Rattle.std.proofs.Common.{ap, le-div_iff_mul-le, arith}
use Rattle.spec.specs.declared.Refusal.TheVariants.{NoRecord}
use Rattle.spec.specs.declared.Config.{Config}
use Rattle.spec.specs.declared.Task.{Task}
use Rattle.spec.specs.Outputs.{Output}
use Rattle.spec.specs.declared.Progress.TheVariants as Outs
use Rattle.spec.specs.Machine.{Machine, idle, state_of, task_of}
use Rattle.spec.specs.Words.{pred}
use Rattle.spec.specs.Listed.{key}
use Rattle.spec.specs.StepRefusals.{all_held}
use Rattle.spec.specs.Entries.{fresh_machine, opening}
use Rattle.spec.specs.Schedule.{Event, event, run}
use Rattle.laws.specs.Tests.{tf}
use Rattle.laws.specs.LastChosen.{Fixed, event_same}
use Rattle.laws.specs.OpeningSound.{opened_machine}
use Rattle.model.specs.Runs.{Configuration, initial, Reachable}
use Rattle.linear.specs.Simulates.{Simulates}
use Rattle.linear.specs.StepSimulated.{went_on, call_ended, resize_ended}
use Rattle.linear.specs.EventOutcomes.{EventOutcome, start_refused, call_started, step_refused, none_free, stepped}
use Rattle.linear.proofs.EventOutcomes.{event_simulated}
use Rattle.linear.specs.Opening.{same_default, opening_simulates}
use Rattle.bounds.specs.EnoughRecords.{enough_nodes, enough_buckets, Enough, NoSeven}
use Rattle.bounds.specs.HeldChains.{ShortChains}
use Rattle.bounds.specs.HeldChainsKept.{event_chains}
use Rattle.bounds.proofs.FewBucketsHeld.{never_all_held}
use Rattle.bounds.specs.RecordsSuffice.{EnoughNow}

module _ (y : Machine) (s : EnoughNow y) where
  pub record_free : (p : ℕ) → (task_of y p).running ≡ true → all_held y (task_of y p) ≡ true → ⊥
  record_free = never_all_held y s.chains s.configuration s.reach s.sim s.nodes s.buckets

  not_7 : {e : Event} {o : Output} {v : Configuration} → EventOutcome y s.configuration e o v → ¬ (o ≡ Err NoRecord)
  not_7 (start_refused p call tag r other) q = other.0 (cc)
  not_7 (call_started p call tag n lt a) q = let z : ◌≡◌ {A = ℕ} 0 1 = cc in omega arith
  not_7 (step_refused p r a other) q = other.0 (cc)
  not_7 (none_free p a h) q = record_free p a h
  not_7 (stepped p lt r (went_on g l line) at) q = let z : ◌≡◌ {A = ℕ} 0 1 = cc in omega arith
  not_7 (stepped p lt r (call_ended g x) at) q = let z : ◌≡◌ {A = ℕ} 0 1 = cc in omega arith
  not_7 (stepped p lt r (resize_ended a g line moved) at) q = let z : ◌≡◌ {A = ℕ} 0 1 = cc in omega arith

  -- what an event leaves, at any configuration that the model then has
  unfoldable pub enough_after : (e : Event) (v : Configuration) → Reachable v → Simulates (event y e).machine v.heap v.position
      → EnoughNow (event y e).machine
  enough_after e v reach sim =
      let same = event_same y e in
      let tasks = ap (λ (p : Fixed). p.config.tasks) same in
      let nodes = ap (λ (p : Fixed). p.nodes) same in
      let buckets = ap (λ (p : Fixed). p.buckets) same in
      record {
        configuration = v;
        reach = reach;
        sim = sim;
        chains = event_chains y s.chains s.configuration s.reach s.sim e;
        nodes = rw (tasks, nodes) s.nodes;
        buckets = rw (tasks, buckets) s.buckets;
      }

  -- and at the one that it does have
  pub enough_next : (e : Event) → EnoughNow (event y e).machine
  enough_next e = let t = event_simulated y s.configuration s.reach s.sim e in enough_after e t.configuration t.reach t.sim

  pub event_not_7 : (e : Event) → ¬ ((event y e).out ≡ Err NoRecord)
  event_not_7 e = not_7 (event_simulated y s.configuration s.reach s.sim e).outcome

-- ---- all events

pub run_enough : (y : Machine) → EnoughNow y → (es : List Event) → EnoughNow (run y es).machine
unfolding run
run_enough y s [] = s
run_enough y s (e ∷ es) = run_enough (event y e).machine (enough_next y s e) es

pub run_no_seven : (y : Machine) → EnoughNow y → (es : List Event) → NoSeven (run y es).outs
unfolding run
run_no_seven y s [] = tt
run_no_seven y s (e ∷ es) = (event_not_7 y s e, run_no_seven (event y e).machine (enough_next y s e) es)

-- ---- the opening
pub fresh_chains : (g : Config) (h b : ℕ) → ShortChains (fresh_machine g h b)
unfolding fresh_machine state_of pred task_of idle
fresh_chains g h b =
    record {
      head_chain = λ a e. absurd (omega arith);
      each = λ j r. absurd (tf r (ap (λ (c : Task). c.running) (same_default 8 j idle)));
    }

-- it leaves the model's first configuration
unfoldable pub enough_at_opening : (g : Config) (ns bs : List ℕ) → (opening g ns bs).refusal ≡ 0 → Enough g ns bs → EnoughNow (opening g ns bs).machine
unfolding fresh_machine state_of
enough_at_opening g ns bs ok enough =
    let is = opened_machine g ns bs ok in
    let n = enough.nodes in
    let m = enough.buckets in
    let h : enough_nodes g.tasks ≤ length ns / 34 = (le-div_iff_mul-le {k = 34} (omega arith)).1 (omega arith) in
    let b : enough_buckets g.tasks ≤ length bs / 66 = (le-div_iff_mul-le {k = 66} (omega arith)).1 (omega arith) in
    record {
      configuration = initial (key g);
      reach = Reachable.initially (key g);
      sim = opening_simulates g ns bs ok;
      chains = rw is (fresh_chains g (length ns / 34) (length bs / 66));
      nodes = rw is h;
      buckets = rw is b;
    }
