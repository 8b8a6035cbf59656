-- What rests on statements of specs/Linearization.antt that a must-fail edit makes false: theorems moved from there as they stood. Assumes nothing.
use Rattle.std.specs.Prelude.{◌<◌, ◌≤◌, suc, ℕ, List, [], ◌≡◌}
use Rattle.std.proofs.Common.{inl, inr, ◌∙◌, ap, sym, arith}
use Rattle.laws.specs.Tests.{At, hit, miss}
use Rattle.coop_spec.specs.Atomic.{AtomicCall, Operations, changed, invoke}
use Rattle.coop_spec.specs.History.{Occurrence}
use Rattle.coop_model.proofs.CallEnds.{end_keeps}
use Rattle.coop_model.specs.Ends.{end_placed, freeze_ends_frozen}
use Rattle.coop_model.specs.Functions.{changed_at, changed_other, changed_same}
use Rattle.coop_model.specs.Heap.{Heap}
use Rattle.coop_model.specs.HeapInvariant.{nil_is_current}
use Rattle.coop_model.specs.Invariant.{EndedOrRuns, Invariant, each_task, not_running}
use Rattle.coop_model.proofs.Invariant.{line_keeps}
use Rattle.coop_model.specs.Orders.{begun_absent, begun_suc, bucket_after}
use Rattle.coop_model.specs.PositionFacts.{PositionFacts}
use Rattle.coop_model.specs.Positions.{Position, at123, call_at, running, runs}
use Rattle.coop_model.specs.Runs.{Configuration, First, Reachable, Transition, begin, claim, end_call, first_freeze}
use Rattle.coop_model.specs.Runs.{first_has, first_invoke, first_response, further, move, opened, refused, seal}
use Rattle.coop_model.specs.Steps.{first_facts}
use Rattle.coop_model.proofs.TakesEffect.{freeze_takes_effect, invoke_takes_effect}
use Rattle.coop_model.specs.Linearization.{first_keeps}

first_small : {h : Heap} {l : Position} (n : ℕ) → First h l → call_at l ≡ runs (invoke n) → n < 64
first_small n (first_invoke m s) e = let q : n ≡ m = cc in rw q s
first_small n first_freeze e = let z : ◌≡◌ {A = ℕ} 0 1 = cc in absurd (omega arith)
first_small n (first_has k) e = let z : ◌≡◌ {A = ℕ} 0 1 = cc in absurd (omega arith)
first_small n (first_response m s) e = let z : ◌≡◌ {A = ℕ} 0 1 = cc in absurd (omega arith)

module _ (T : Operations) (w : Configuration) (L : List Occurrence) (i : Invariant T w L) where
  transition_keeps : {v : Configuration} → Transition T w v → (M : List Occurrence) × Invariant T v M
  transition_keeps refused = (
    L,
    record {
      heap = i.heap;
      task = i.task;
      freeze_runs = i.freeze_runs;
      numbers_low = i.numbers_low;
      started_before = λ p. let b = i.started_before p in omega arith;
      answers = i.answers;
      timely = i.timely;
      all_begun = begun_suc w.clock L i.all_begun;
      once = i.once;
      ended = i.ended;
      ended_or_runs = i.ended_or_runs;
    },
  )
  transition_keeps (begin p l f e) = (
    L,
    record {
      heap = i.heap;
      task = each_task T w w.heap w.ended L (changed w.start p w.clock) p l
          (first_facts T w.heap w.ended L i.heap p (changed w.start p w.clock p) f
          (rw (changed_same w.start p w.clock) (begun_absent w.clock p L i.all_begun)))
          (λ q n. rw (changed_other w.start p w.clock q n) (i.task q));
      freeze_runs = λ fl n. let x = i.freeze_runs fl n in (x.0, other x.0 x.1);
      numbers_low =
          λ q n x. elim
          (changed_at w.position p l q) [ hit s z ↦ first_small n f (sym (ap call_at z) ∙ x) | miss d z ↦ i.numbers_low q n (sym (ap call_at z) ∙ x) ];
      started_before = λ q. since q (changed_at w.start p w.clock q);
      answers = i.answers;
      timely = i.timely;
      all_begun = begun_suc w.clock L i.all_begun;
      once = i.once;
      ended = i.ended;
      ended_or_runs = λ z x. alive z (i.ended_or_runs z x);
    },
  )
    where
      away : (q : ℕ) {c : AtomicCall} → call_at (w.position q) ≡ runs c → ¬ (q ≡ p)
      away q x s = not_running (sym (ap call_at (ap w.position s ∙ e)) ∙ x)

      other : (q : ℕ) {c : AtomicCall} → call_at (w.position q) ≡ runs c → call_at (changed w.position p l q) ≡ runs c
      other q x = ap call_at (changed_other w.position p l q (away q x)) ∙ x

      alive : (z : Occurrence) → EndedOrRuns w z
          → EndedOrRuns
          (record { heap = w.heap; position = changed w.position p l; start = changed w.start p w.clock; clock = suc w.clock; ended = w.ended }) z
      alive z (inl x) = inl x
      alive z (inr x) = inr (changed_other w.start p w.clock z.task (away z.task x.1) ∙ x.0, other z.task x.1)

      since : (q : ℕ) → At (q ≡ p) w.clock (w.start q) (changed w.start p w.clock q) → changed w.start p w.clock q ≤ suc w.clock
      since q (hit e f) = omega arith
      since q (miss n f) = let b = i.started_before q in omega arith
  transition_keeps (move p e t) = (L, line_keeps T w L i p e t)
  transition_keeps (claim p n o e x) = invoke_takes_effect T w L i p n o e x
  transition_keeps (seal p o j e x) =
      let k : PositionFacts T w.heap w.ended L p (w.start p) (running j (at123 o)) = rw e at (i.task p) in
      let q = nil_is_current T w.heap (bucket_after T L) i.heap o k.0.1 x in
      rw q (freeze_takes_effect T w L i p j (e ∙ ap (λ (v : ℕ). running j (at123 v)) q) (ap w.heap.op_at (sym q) ∙ x))
  transition_keeps (end_call p {l} {g} {c} {a} e t) =
      let o : PositionFacts T w.heap w.ended L p (w.start p) l = rw e at (i.task p) in
      end_keeps T w L i p (λ s. freeze_ends_frozen T w.heap w.ended L i.heap p (w.start p) t o (sym (ap call_at e) ∙ s))
      (end_placed T w.heap w.ended L i.heap p (w.start p) t o)

pub invariant : {T : Operations} {w : Configuration} → Reachable T w → (L : List Occurrence) × Invariant T w L
invariant {T = T} opened = ([], first_keeps T)
invariant {T = T} (further {v = v} r e) = let (L, i) = invariant r in transition_keeps T v L i e
