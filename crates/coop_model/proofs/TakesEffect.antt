-- The two steps in which a call takes effect: line 102 puts an invoke last into the order, line 123 a running freeze. Assumes nothing.
use Rattle.std.specs.Prelude.{suc, ℕ, Bool, false, true, List, ◌≡◌, refl}
use Rattle.std.proofs.Math.Logic.{inl, inr}
use Rattle.std.proofs.Common.{◌∙◌, ap, sym, arith}
use Rattle.std.proofs.Math.Decide.{ℕ_discrete}
use Rattle.coop_spec.specs.Atomic.{FSet, Operations, boolean, changed, empty_bucket, freeze, invoke, next, performed, tag_set}
use Rattle.coop_spec.specs.History.{Occurrence}
use Rattle.coop_spec.specs.Linearizable.{Absent, NotEndedBefore}
use Rattle.coop_model.specs.Functions.{changed_same}
use Rattle.coop_model.specs.Heap.{Heap, bottom, nil, op, put_op}
use Rattle.coop_model.specs.HeapInvariant.{Rely, invoked_new, nil_is_current, nil_not_bottom}
use Rattle.coop_model.specs.Invariant.{EndedOrRuns, Invariant, absent_unended, each_task, freeze_runs_on, numbers_stay, others_stay, runs_on}
use Rattle.coop_model.specs.Orders.{Was, absent_into, after_snoc, answers_snoc, begun_into, begun_suc, bucket_after, in_new, in_old, in_was}
use Rattle.coop_model.specs.Orders.{into_snoc, new, old, once_into, snoc, timely_snoc, witness_snoc}
use Rattle.coop_model.specs.PositionFacts.{InOrder, PositionFacts, occurrence, op_put, point_stays}
use Rattle.coop_model.specs.Positions.{Point, Position, Role, at102, at123, at127, at129, call_at, freezer, invoker, member_112, member_113}
use Rattle.coop_model.specs.Positions.{no_call, response_117, running, runs, to103}
use Rattle.coop_model.specs.Runs.{Configuration, moved}
use Rattle.coop_model.specs.Writes.{claim_keeps, claim_rely, freeze_keeps, freeze_rely, ok_now, set_then}

freezer_at : (l : Position) → call_at l ≡ runs freeze → (x : Point) × (l ≡ running freezer x)
freezer_at no_call e = let z : ◌≡◌ {A = ℕ} 0 1 = cc in absurd (omega arith)
freezer_at (running (invoker n) l) e = let z : ◌≡◌ {A = ℕ} 0 1 = cc in absurd (omega arith)
freezer_at (running freezer l) e = (l, refl)
freezer_at (member_112 k) e = let z : ◌≡◌ {A = ℕ} 0 1 = cc in absurd (omega arith)
freezer_at (member_113 k o) e = let z : ◌≡◌ {A = ℕ} 0 1 = cc in absurd (omega arith)
freezer_at (response_117 n) e = let z : ◌≡◌ {A = ℕ} 0 1 = cc in absurd (omega arith)

same_role : {x : Position} {j k : Role} {l m : Point} → x ≡ running j l → x ≡ running k m → j ≡ k
same_role e f = cc

module _ (T : Operations) (w : Configuration) (L : List Occurrence) (i : Invariant T w L) where
  -- ---- line 102
  pub invoke_takes_effect : (p n o : ℕ) → w.position p ≡ running (invoker n) (at102 n o) → w.heap.op_at o ≡ nil
      → (M : List Occurrence) × Invariant T (moved w p (put_op o (op n) w.heap) (running (invoker n) (at129 (to103 n)))) M
  invoke_takes_effect p n o e nil≡ =
      let k : PositionFacts T w.heap w.ended L p (w.start p) (running (invoker n) (at102 n o)) = rw e at (i.task p) in
      let q = nil_is_current T w.heap (bucket_after T L) i.heap o k.0.0 nil≡ in
      rw q (go k (ap w.heap.op_at (sym q) ∙ nil≡) (k.0.1 nil≡))
    where
      go : PositionFacts T w.heap w.ended L p (w.start p) (running (invoker n) (at102 n o)) → w.heap.op_at w.heap.current ≡ nil
          → (bucket_after T L).done n ≡ false
          → (M : List Occurrence) × Invariant T (moved w p (put_op w.heap.current (op n) w.heap) (running (invoker n) (at129 (to103 n)))) M
      go k x d =
          let a = occurrence p (w.start p) (invoke n) (boolean true) in
          let M = snoc L a in
          let y = invoked_new T n (bucket_after T L) (ok_now T w.heap (bucket_after T L) i.heap n (i.numbers_low p n (ap call_at e)) x d) d in
          let f : bucket_after T M ≡ performed T n (bucket_after T L) = after_snoc T empty_bucket L a ∙ y in
          let le : Rely T w.heap (bucket_after T L) (put_op w.heap.current (op n) w.heap) (bucket_after T M) = rw f
          (claim_rely T w.heap (bucket_after T L) i.heap n (i.numbers_low p n (ap call_at e)) x d) in
          let c : call_at (w.position p) ≡ runs (invoke n) = ap call_at e in
          let u = absent_unended T w L i p (w.start p) k.1 in
          let opens : (r : ℕ) → NotEndedBefore w.ended r a = λ r d x s. absurd (u d x s) in
          let b = i.started_before p in (
            M,
            record {
              heap = rw f (claim_keeps T w.heap (bucket_after T L) i.heap n (i.numbers_low p n (ap call_at e)) x d);
              task = each_task T w (put_op w.heap.current (op n) w.heap) w.ended M w.start p (running (invoker n) (at129 (to103 n)))
                  (ap (λ (B : FSet). B.done n) f ∙ changed_same (bucket_after T L).done n true, in_new (into_snoc L a))
                  (λ q ne. others_stay T w L i (put_op w.heap.current (op n) w.heap) w.ended M le (λ e x. in_old (into_snoc L a) x) q
                  (λ z. absent_into q (w.start q) (into_snoc L a) (λ s. ne (sym s.0)) z) (λ j v z. witness_snoc T a (opens (w.start q)) z));
              freeze_runs = λ fl ni. freeze_runs_on T w L i p (running (invoker n) (at129 (to103 n))) (sym c) (i.freeze_runs fl (λ z. nil_not_bottom x z));
              numbers_low = numbers_stay T w L i p (running (invoker n) (at129 (to103 n))) (sym c);
              started_before = λ q. let b = i.started_before q in omega arith;
              answers =
                  answers_snoc T empty_bucket L a i.answers
                  (ap (λ (B : FSet). boolean (B.done n)) y ∙ ap boolean (changed_same (bucket_after T L).done n true));
              timely = timely_snoc T L a (λ z zz. opens z.start) i.timely;
              all_begun = begun_into (suc w.clock) (into_snoc L a) (omega arith) (begun_suc w.clock L i.all_begun);
              once = once_into (into_snoc L a) k.1 i.once;
              ended = λ d z. in_old (into_snoc L a) (i.ended d z);
              ended_or_runs = λ z zz. alive c z (in_was (into_snoc L a) zz);
            },
          )
        where
          alive : call_at (w.position p) ≡ runs (invoke n) → (z : Occurrence) → Was z (occurrence p (w.start p) (invoke n) (boolean true)) L
              → EndedOrRuns (moved w p (put_op w.heap.current (op n) w.heap) (running (invoker n) (at129 (to103 n)))) z
          alive c z (new s) = rw s (inr (refl, ap call_at (changed_same w.position p (running (invoker n) (at129 (to103 n))))))
          alive c z (old zz) =
              runs_on T w L i p (put_op w.heap.current (op n) w.heap) (running (invoker n) (at129 (to103 n))) (sym c) z (i.ended_or_runs z zz)

  -- ---- line 123: a running freeze t is put in
  pub freeze_takes_effect : (p : ℕ) (j : Role) → w.position p ≡ running j (at123 w.heap.current) → w.heap.op_at w.heap.current ≡ nil
      → (M : List Occurrence) × Invariant T (moved w p (put_op w.heap.current bottom w.heap) (running j at127)) M
  unfolding freeze_runs_on
  freeze_takes_effect p j e x =
      let k : PositionFacts T w.heap w.ended L p (w.start p) (running j (at123 w.heap.current)) = rw e at (i.task p) in
      let q = i.freeze_runs k.0.0 (λ z. nil_not_bottom x z) in
      let l = freezer_at (w.position q.0) q.1 in
      let kt : PositionFacts T w.heap w.ended L q.0 (w.start q.0) (running freezer l.0) = rw l.1 at (i.task q.0) in
      go q.0 l.0 l.1 (elim kt.1 [ inl f ↦ f | inr f ↦ absurd (nil_not_bottom x f.0) ])
    where
      g : Heap
      g = put_op w.heap.current bottom w.heap

      go : (t : ℕ) (l : Point) → w.position t ≡ running freezer l → Absent t (w.start t) L
          → (M : List Occurrence) × Invariant T (moved w p (put_op w.heap.current bottom w.heap) (running j at127)) M
      go t l et fresh =
          let a = occurrence t (w.start t) freeze (tag_set (w.heap.set w.heap.current)) in
          let M = snoc L a in
          let f : bucket_after T M ≡ next T freeze (bucket_after T L) = after_snoc T empty_bucket L a in
          let le : Rely T w.heap (bucket_after T L) (put_op w.heap.current bottom w.heap) (bucket_after T M) = rw f
          (freeze_rely T w.heap (bucket_after T L) i.heap x) in
          let u = absent_unended T w L i t (w.start t) fresh in
          let opens : (r : ℕ) → NotEndedBefore w.ended r a = λ r d x s. absurd (u d x s) in
          let b = i.started_before t in
          let c : call_at (running j at127) ≡ call_at (w.position p) = same_call j ∙ ap call_at (sym e) in (
            M,
            record {
              heap = rw f (freeze_keeps T w.heap (bucket_after T L) i.heap x);
              task = each_task T w (put_op w.heap.current bottom w.heap) w.ended M w.start p (running j at127)
                  (hard, placed p j (at123 w.heap.current) e (ℕ_discrete p t)) (λ q ne. each le opens q (ℕ_discrete q t));
              freeze_runs = λ fl ni. absurd (ni hard);
              numbers_low = numbers_stay T w L i p (running j at127) c;
              started_before = λ q. let b = i.started_before q in omega arith;
              answers = answers_snoc T empty_bucket L a i.answers (ap tag_set (set_then T w.heap (bucket_after T L) i.heap x));
              timely = timely_snoc T L a (λ z zz. opens z.start) i.timely;
              all_begun = begun_into (suc w.clock) (into_snoc L a) (omega arith) (begun_suc w.clock L i.all_begun);
              once = once_into (into_snoc L a) fresh i.once;
              ended = λ d z. in_old (into_snoc L a) (i.ended d z);
              ended_or_runs = λ z zz. alive c z (in_was (into_snoc L a) zz);
            },
          )
        where
          A : Occurrence
          A = occurrence t (w.start t) freeze (tag_set (w.heap.set w.heap.current))

          hard : changed w.heap.op_at w.heap.current bottom w.heap.current ≡ bottom
          hard = changed_same w.heap.op_at w.heap.current bottom

          same_call : (j : Role) → call_at (running j at127) ≡ call_at (running j (at123 w.heap.current))
          same_call (invoker n) = refl
          same_call freezer = refl

          -- where task q's call stands now
          placed : (q : ℕ) (k : Role) (m : Point) → w.position q ≡ running k m → Dec (q ≡ t)
              → InOrder (changed w.heap.op_at w.heap.current bottom w.heap.current) (w.heap.set w.heap.current)
              (snoc L (occurrence t (w.start t) freeze (tag_set (w.heap.set w.heap.current)))) q (w.start q) k (op_put m)
          placed q k m eq (yes s) =
              let jk : k ≡ freezer = same_role eq (ap w.position s ∙ et) in
              rw (jk, s) (inr (hard, in_new (into_snoc L A)))
          placed q k m eq (no d) =
              let o : PositionFacts T w.heap w.ended L q (w.start q) (running k m) = rw eq at (i.task q) in
              away k (op_put m) o.1
            where
              apart : ¬ ((A.task ≡ q) × (A.start ≡ w.start q))
              apart s = d (sym s.0)

              away : (k : Role) (b : Bool) → InOrder (w.heap.op_at w.heap.current) (w.heap.set w.heap.current) L q (w.start q) k b
                  → InOrder (changed w.heap.op_at w.heap.current bottom w.heap.current) (w.heap.set w.heap.current)
                  (snoc L (occurrence t (w.start t) freeze (tag_set (w.heap.set w.heap.current)))) q (w.start q) k b
              away (invoker n) true z = in_old (into_snoc L A) z
              away (invoker n) false z = absent_into q (w.start q) (into_snoc L A) apart z
              away freezer b (inl z) = inl (absent_into q (w.start q) (into_snoc L A) apart z)
              away freezer b (inr z) = inr (hard, in_old (into_snoc L A) z.1)

          each : Rely T w.heap (bucket_after T L) (put_op w.heap.current bottom w.heap) (bucket_after T (snoc L A))
              → ((r : ℕ) → NotEndedBefore w.ended r A) → (q : ℕ)
              → Dec (q ≡ t)
              → PositionFacts T (put_op w.heap.current bottom w.heap) w.ended
              (snoc L (occurrence t (w.start t) freeze (tag_set (w.heap.set w.heap.current)))) q
              (w.start q) (w.position q)
          each le opens q (yes s) =
              let eq : w.position q ≡ running freezer l = ap w.position s ∙ et in
              let o : PositionFacts T w.heap w.ended L q (w.start q) (running freezer l) = rw eq at (i.task q) in
              rw eq (
                point_stays T w.heap (bucket_after T L) i.heap (put_op w.heap.current bottom w.heap) (bucket_after T (snoc L A)) le l
                    o.0,
                placed q freezer l eq (yes s),
              )
          each le opens q (no d) =
              others_stay T w L i (put_op w.heap.current bottom w.heap) w.ended (snoc L A) le (λ e x. in_old (into_snoc L A) x) q
              (λ z. absent_into q (w.start q) (into_snoc L A) (λ s. d (sym s.0)) z) (λ j v z. witness_snoc T A (opens (w.start q)) z)

          alive : call_at (running j at127) ≡ call_at (w.position p) → (z : Occurrence) → Was z A L
              → EndedOrRuns (moved w p (put_op w.heap.current bottom w.heap) (running j at127)) z
          alive c z (new s) = rw s (inr (refl, (freeze_runs_on T w L i p (running j at127) c (t, ap call_at et)).1))
          alive c z (old zz) = runs_on T w L i p (put_op w.heap.current bottom w.heap) (running j at127) c z (i.ended_or_runs z zz)
