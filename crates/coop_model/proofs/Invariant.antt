-- What rests on statements of specs/Invariant.antt that a must-fail edit makes false: theorems moved from there as they stood. Assumes nothing.
use Rattle.std.specs.Prelude.{ℕ, true, List, ◌⊎◌, ◌≡◌}
use Rattle.std.proofs.Common.{inl, inr, ◌∙◌, ap, sym, arith}
use Rattle.coop_spec.specs.Atomic.{Operations, changed, freeze}
use Rattle.coop_spec.specs.History.{Occurrence}
use Rattle.coop_model.specs.Functions.{changed_same}
use Rattle.coop_model.specs.Heap.{Heap, bottom}
use Rattle.coop_model.specs.Lines.{Line}
use Rattle.coop_model.specs.Orders.{begun_suc, bucket_after}
use Rattle.coop_model.specs.PositionFacts.{PositionFacts}
use Rattle.coop_model.specs.Positions.{Position, call_at, runs}
use Rattle.coop_model.specs.Runs.{Configuration, moved}
use Rattle.coop_model.specs.Steps.{LineKeeps, own_line}
use Rattle.coop_model.specs.Invariant.{Invariant, each_task, freeze_runs_on, numbers_stay, others_stay, runs_on}

module _ (T : Operations) (w : Configuration) (L : List Occurrence) (i : Invariant T w L) where
  -- a line that puts no call into the order
  pub line_keeps : (p : ℕ) {l l' : Position} {g : Heap} → w.position p ≡ l → Line T w.heap l g l' → Invariant T (moved w p g l') L
  line_keeps p {l} {l'} {g} e t =
      let o : PositionFacts T w.heap w.ended L p (w.start p) l = rw e at (i.task p) in
      let u = own_line T w.heap w.ended L i.heap p (w.start p) t o in
      let c : call_at l' ≡ call_at (w.position p) = u.0.call≡ ∙ ap call_at (sym e) in
      record {
        heap = u.0.kept;
        task = each_task T w g w.ended L w.start p l' u.1 (λ q n. (others_stay T w L i) g w.ended L u.0.rely (λ e x. x) q (λ x. x) (λ k v x. x));
        freeze_runs = λ f n. go c u.0 n (u.0.raised f);
        numbers_low = numbers_stay T w L i p l' c;
        started_before = λ q. let b = i.started_before q in omega arith;
        answers = i.answers;
        timely = i.timely;
        all_begun = begun_suc w.clock L i.all_begun;
        once = i.once;
        ended = i.ended;
        ended_or_runs = λ e x. (runs_on T w L i) p g l' c e (i.ended_or_runs e x);
      }
    where
      go : {l l' : Position} {g : Heap} → call_at l' ≡ call_at (w.position p) → LineKeeps T w.heap (bucket_after T L) g l l'
          → ¬ (g.op_at g.current ≡ bottom)
          → (w.heap.flag ≡ true) ⊎ (call_at l' ≡ runs freeze)
          → (q : ℕ) × (call_at (changed w.position p l' q) ≡ runs freeze)
      go {l' = l'} c u n (inl f) = freeze_runs_on T w L i p l' c (i.freeze_runs f (λ x. n (u.rely.bottom_stays x).0))
      go {l' = l'} c u n (inr f) = (p, ap call_at (changed_same w.position p l') ∙ f)
