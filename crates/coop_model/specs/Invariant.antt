-- The invariant of every run: an order of calls that the atomic bucket follows, the heap as the atomic bucket stands after it, and what is
-- known of each task. And that a line which puts no call into the order keeps it. Assumes nothing.
use Rattle.std.specs.Prelude.{◌<◌, ◌≤◌, ℕ, Bool, true, List, [], ◌⊎◌, ◌≡◌}
use Rattle.std.proofs.Common.{inl, inr, ◌∙◌, ap, sym, arith}
use Rattle.laws.specs.Tests.{At, hit, miss}
use Rattle.coop_spec.specs.Atomic.{AtomicCall, Operations, changed, empty_bucket, freeze, invoke}
use Rattle.coop_spec.specs.History.{Ended, Occurrence}
use Rattle.coop_spec.specs.Linearizable.{Absent, Answers, EachOnce, In, Timely}
use Rattle.coop_model.specs.Functions.{changed_at}
use Rattle.coop_model.specs.Heap.{Heap, bottom}
use Rattle.coop_model.specs.HeapInvariant.{HeapInvariant, Rely}
use Rattle.coop_model.specs.Orders.{Begun, Witness, absent_in, bucket_after}
use Rattle.coop_model.specs.PositionFacts.{PositionFacts, facts_stay}
use Rattle.coop_model.specs.Positions.{Position, call_at, none_runs, runs}
use Rattle.coop_model.specs.Runs.{Configuration, moved}

-- a call of the order has ended with its answer, or still runs
abbrev pub EndedOrRuns : Configuration → Occurrence → Type 0
EndedOrRuns w e = ((d : Ended) × In d w.ended × (d.occurrence ≡ e)) ⊎ ((w.start e.task ≡ e.start) × (call_at (w.position e.task) ≡ runs e.call))

pub record Invariant (T : Operations) (w : Configuration) (L : List Occurrence) : Type 0 where
  pub heap : HeapInvariant T w.heap (bucket_after T L)
  pub task : (p : ℕ) → PositionFacts T w.heap w.ended L p (w.start p) (w.position p)
  -- while the flag is raised and the bucket not frozen, some task runs a freeze
  pub freeze_runs : w.heap.flag ≡ true → ¬ (w.heap.op_at w.heap.current ≡ bottom) → (q : ℕ) × (call_at (w.position q) ≡ runs freeze)
  -- operations are numbered below 64
  pub numbers_low : (p n : ℕ) → call_at (w.position p) ≡ runs (invoke n) → n < 64
  -- each task's call started before now
  pub started_before : (p : ℕ) → w.start p ≤ w.clock
  -- the order: the atomic bucket gives its answers, it respects real time, each call stands in it once, and all ended calls
  pub answers : Answers T empty_bucket L
  pub timely : Timely w.ended L
  pub all_begun : Begun w.clock L
  pub once : EachOnce L
  pub ended : (d : Ended) → In d w.ended → In d.occurrence L
  pub ended_or_runs : (e : Occurrence) → In e L → EndedOrRuns w e

-- ---- small facts

pub not_running : {c : AtomicCall} → none_runs ≡ runs c → ⊥
not_running e = let z : ◌≡◌ {A = ℕ} 0 1 = cc in omega arith

pub begun_in : {e : Occurrence} {L : List Occurrence} (n : ℕ) → Begun n L → In e L → e.start < n
begun_in n b In.here = b.0
begun_in n b (In.there x) = begun_in n b.1 x

pub nothing_in : {A : Type 0} {e : A} {L : List A} → In e L → L ≡ [] → ⊥
nothing_in In.here q = let z : ◌≡◌ {A = ℕ} 0 1 = cc in omega arith
nothing_in (In.there x) q = let z : ◌≡◌ {A = ℕ} 0 1 = cc in omega arith

-- what is known of task p at l, and of the other tasks where they stand
module _ (T : Operations) (w : Configuration) (g : Heap) (H : List Ended) (M : List Occurrence) (s : ℕ → ℕ) (p : ℕ) (l : Position)
    (own : PositionFacts T g H M p (s p) l)
    (others : (q : ℕ) → ¬ (q ≡ p) → PositionFacts T g H M q (s q) (w.position q)) where
  pub each_task : (q : ℕ) → PositionFacts T g H M q (s q) (changed w.position p l q)
  each_task q = go (changed_at w.position p l q)
    where
      go : At (q ≡ p) l (w.position q) (changed w.position p l q) → PositionFacts T g H M q (s q) (changed w.position p l q)
      go (hit e f) = rw (f, e) own
      go (miss n f) = rw f (others q n)

module _ (T : Operations) (w : Configuration) (L : List Occurrence) (i : Invariant T w L) where
  -- a call that is not in the order has not ended
  pub absent_unended : (p r : ℕ) → Absent p r L → (d : Ended) → In d w.ended → ¬ ((d.occurrence.task ≡ p) × (d.occurrence.start ≡ r))
  absent_unended p r f d x = absent_in p r f (i.ended d x)

  -- the other tasks, when the heap is g and the order M, with a call of task p put in
  pub others_stay : (g : Heap) (H : List Ended) (M : List Occurrence) → Rely T w.heap (bucket_after T L) g (bucket_after T M)
      → ((e : Occurrence) → In e L → In e M) → (q : ℕ)
      → (Absent q (w.start q) L → Absent q (w.start q) M)
      → ((k : ℕ) (v : Bool) → Witness T w.ended k (w.start q) v empty_bucket L → Witness T H k (w.start q) v empty_bucket M)
      → PositionFacts T g H M q (w.start q) (w.position q)
  others_stay g H M le keeps q fresh witnesses =
      facts_stay T w.heap w.ended L i.heap g H M le q (w.start q) keeps fresh witnesses (w.position q) (i.task q)

  -- the calls of the order, when task p goes on with the same call
  pub runs_on : (p : ℕ) (g : Heap) (l' : Position) → call_at l' ≡ call_at (w.position p) → (e : Occurrence) → EndedOrRuns w e → EndedOrRuns (moved w p g l') e
  runs_on p g l' c e (inl x) = inl x
  runs_on p g l' c e (inr x) = inr (x.0, go (changed_at w.position p l' e.task))
    where
      go : At (e.task ≡ p) l' (w.position e.task) (changed w.position p l' e.task) → call_at (changed w.position p l' e.task) ≡ runs e.call
      go (hit q f) = ap call_at f ∙ c ∙ ap (λ (t : ℕ). call_at (w.position t)) (sym q) ∙ x.1
      go (miss n f) = ap call_at f ∙ x.1

  -- a running freeze, when task p goes on with the same call
  unfoldable pub freeze_runs_on : (p : ℕ) (l' : Position) → call_at l' ≡ call_at (w.position p) → ((q : ℕ) × (call_at (w.position q) ≡ runs freeze))
      → (q : ℕ) × (call_at (changed w.position p l' q) ≡ runs freeze)
  freeze_runs_on p l' c (q, e) = (q, go (changed_at w.position p l' q))
    where
      go : At (q ≡ p) l' (w.position q) (changed w.position p l' q) → call_at (changed w.position p l' q) ≡ runs freeze
      go (hit x f) = ap call_at f ∙ c ∙ ap (λ (t : ℕ). call_at (w.position t)) (sym x) ∙ e
      go (miss n f) = ap call_at f ∙ e

  -- operations, when task p goes on with the same call
  pub numbers_stay : (p : ℕ) (l' : Position) → call_at l' ≡ call_at (w.position p) → (q n : ℕ)
      → call_at (changed w.position p l' q) ≡ runs (invoke n) → n < 64
  numbers_stay p l' c q n e = elim (changed_at w.position p l' q) [
    | hit s f ↦ i.numbers_low p n (sym c ∙ sym (ap call_at f) ∙ e)
    | miss d f ↦ i.numbers_low q n
        (sym (ap call_at f) ∙ e)
  ]
