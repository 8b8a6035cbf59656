-- A call that ends is put into the order, unless it stands there: the invariant is kept. Assumes nothing.
use Rattle.std.specs.Prelude.{◌≤◌, suc, ℕ, Bool, List, ◌∷◌, ◌≡◌, refl}
use Rattle.std.proofs.Common.{inl, inr, ◌∙◌, ap, sym, arith}
use Rattle.laws.specs.Tests.{At, hit, miss}
use Rattle.coop_spec.specs.Atomic.{AtomicCall, Operations, Result, boolean, changed, empty_bucket, freeze, has_member}
use Rattle.coop_spec.specs.History.{Ended, Occurrence}
use Rattle.coop_spec.specs.Linearizable.{Absent, Answers, EachOnce, In, NotEndedBefore, Timely}
use Rattle.coop_model.specs.Ends.{EndPlaced, between, last, there}
use Rattle.coop_model.specs.Functions.{changed_at}
use Rattle.coop_model.specs.Heap.{Heap, bottom}
use Rattle.coop_model.specs.HeapInvariant.{HeapInvariant, Rely, rely_refl}
use Rattle.coop_model.specs.Invariant.{EndedOrRuns, Invariant, absent_unended, begun_in, each_task, not_running, others_stay}
use Rattle.coop_model.specs.Orders.{Begun, Was, Witness, absent_into, after_put_in, after_snoc, answers_put_in, answers_snoc, begun_into}
use Rattle.coop_model.specs.Orders.{begun_suc, bucket_after, in_new, in_old, in_was, into_put_in, into_snoc, new, old, once_into, only, put_in}
use Rattle.coop_model.specs.Orders.{snoc, timely_more, timely_put_in, timely_snoc, witness_more, witness_put_in, witness_snoc}
use Rattle.coop_model.specs.PositionFacts.{occurrence}
use Rattle.coop_model.specs.Positions.{call_at, no_call, runs}
use Rattle.coop_model.specs.Runs.{Configuration}

module _ (T : Operations) (w : Configuration) (L : List Occurrence) (i : Invariant T w L) where
  -- ---- a call ends
  module _ (p : ℕ) (c : AtomicCall) (a : Result) (shut : call_at (w.position p) ≡ runs freeze → w.heap.op_at w.heap.current ≡ bottom) where
    abbrev ending : Ended
    ending = record { occurrence = occurrence p (w.start p) c a; end = w.clock }

    abbrev after : Heap → Configuration
    after g = record {
      heap = g;
      position = changed w.position p no_call;
      start = w.start;
      clock = suc w.clock;
      ended = record { occurrence = occurrence p (w.start p) c a; end = w.clock } ∷ w.ended;
    }

    more_open : (r : ℕ) (e : Occurrence) → r ≤ w.clock → NotEndedBefore w.ended r e → NotEndedBefore (ending ∷ w.ended) r e
    more_open r e le o d In.here s = le
    more_open r e le o d (In.there x) s = o d x s

    own_open : Absent p (w.start p) L → (r : ℕ) → r ≤ w.clock → NotEndedBefore (ending ∷ w.ended) r (occurrence p (w.start p) c a)
    own_open f r le = more_open r (occurrence p (w.start p) c a) le (λ d x s. absurd (absent_unended T w L i p (w.start p) f d x s))

    timely_now : Timely (ending ∷ w.ended) L
    timely_now = timely_more T w.clock L (λ r e le o. more_open r e le o) i.all_begun i.timely

    wit_now : (k q : ℕ) (v : Bool) → Witness T w.ended k (w.start q) v empty_bucket L → Witness T (ending ∷ w.ended) k (w.start q) v empty_bucket L
    wit_now k q v x = witness_more T (λ e o. more_open (w.start q) e (i.started_before q) o) x

    -- when M is L, or L with the call put in
    module _ (g : Heap) (M : List Occurrence) (kept : HeapInvariant T g (bucket_after T M)) (le : Rely T w.heap (bucket_after T L) g (bucket_after T M))
        (flag≡ : g.flag ≡ w.heap.flag) (keeps : (e : Occurrence) → In e L → In e M)
        (fresh : (q : ℕ) → ¬ (q ≡ p) → Absent q (w.start q) L → Absent q (w.start q) M)
        (witnesses : (q k : ℕ) (v : Bool) → Witness T w.ended k (w.start q) v empty_bucket L
        → Witness T (ending ∷ w.ended) k (w.start q) v empty_bucket M)
        (there : In (occurrence p (w.start p) c a) M) (was : (e : Occurrence) → In e M → Was e (occurrence p (w.start p) c a) L)
        (legal : Answers T empty_bucket M) (timely : Timely (ending ∷ w.ended) M) (begun : Begun (suc w.clock) M) (once : EachOnce M) where
      gone : (q : ℕ) → call_at (w.position q) ≡ runs freeze → ¬ (g.op_at g.current ≡ bottom) → call_at (changed w.position p no_call q) ≡ runs freeze
      gone q e n = go (changed_at w.position p no_call q)
        where
          go : At (q ≡ p) no_call (w.position q) (changed w.position p no_call q) → call_at (changed w.position p no_call q) ≡ runs freeze
          go (hit s f) = absurd (n (le.bottom_stays (shut (ap (λ (t : ℕ). call_at (w.position t)) (sym s) ∙ e))).0)
          go (miss d f) = ap call_at f ∙ e

      alive : (e : Occurrence) → In e M → Was e (occurrence p (w.start p) c a) L → EndedOrRuns (after g) e
      alive e y (new s) = inl (ending, In.here, sym s)
      alive e y (old x) = go (i.ended_or_runs e x)
        where
          go : EndedOrRuns w e → EndedOrRuns (after g) e
          go (inl z) = inl (z.0, In.there z.1, z.2)
          go (inr z) = at (changed_at w.position p no_call e.task)
            where
              at : At (e.task ≡ p) no_call (w.position e.task) (changed w.position p no_call e.task) → EndedOrRuns (after g) e
              at (hit s f) = inl (ending, In.here, only once there y (sym s, ap w.start (sym s) ∙ z.0))
              at (miss d f) = inr (z.0, ap call_at f ∙ z.1)

      ended_keeps : Invariant T (after g) M
      ended_keeps = record {
        heap = kept;
        task =
            each_task T w g (ending ∷ w.ended) M w.start p no_call tt
            (λ q n. others_stay T w L i g (ending ∷ w.ended) M le keeps q (fresh q n) (witnesses q));
        freeze_runs = λ f n. let x = i.freeze_runs (sym flag≡ ∙ f) (λ z. n (le.bottom_stays z).0) in (x.0, gone x.0 x.1 n);
        numbers_low = λ q n e. elim (changed_at w.position p no_call q) [
          | hit s f ↦ absurd (not_running (sym (ap call_at f) ∙ e))
          | miss d f ↦ i.numbers_low q n
              (sym (ap call_at f) ∙ e)
        ];
        started_before = λ q. let b = i.started_before q in omega arith;
        answers = legal;
        timely = timely;
        all_begun = begun;
        once = once;
        ended = told;
        ended_or_runs = λ e x. alive e x (was e x);
      }
        where
          told : (d : Ended) → In d (ending ∷ w.ended) → In d.occurrence M
          told d In.here = there
          told d (In.there x) = keeps d.occurrence (i.ended d x)

    apart : (q : ℕ) → ¬ (q ≡ p) → ¬ ((p ≡ q) × (w.start p ≡ w.start q))
    apart q n s = n (sym s.0)

  pub end_keeps : (p : ℕ) {g : Heap} {c : AtomicCall} {a : Result} (shut : call_at (w.position p) ≡ runs freeze → w.heap.op_at w.heap.current ≡ bottom)
      → EndPlaced T w.heap w.ended L i.heap p (w.start p) g c a
      → (M : List Occurrence) × Invariant T (record {
        heap = g;
        position = changed w.position p no_call;
        start = w.start;
        clock = suc w.clock;
        ended = record { occurrence = occurrence p (w.start p) c a; end = w.clock } ∷ w.ended;
      }) M
  end_keeps p shut (there {g = g} {c = c} {a = a} ok le fl x) = (
    L,
    ended_keeps p c a shut g L ok le fl (λ e y. y) (λ q n y. y) (λ q k v y. wit_now p c a shut k q v y) x (λ e y. old y)
        i.answers (timely_now p c a shut) (begun_suc w.clock L i.all_begun) i.once,
  )
  end_keeps p shut (last {g = g} {c = c} {a = a} ok le fl f same said) =
      let d = occurrence p (w.start p) c a in
      let b = i.started_before p in
      let e : bucket_after T (snoc L d) ≡ bucket_after T L = after_snoc T empty_bucket L d ∙ same in (
        snoc L d,
        ended_keeps p c a shut g (snoc L d) (rw e ok) (rw e le) fl (λ e y. in_old (into_snoc L d) y)
            (λ q n y. absent_into q (w.start q) (into_snoc L d) (apart p c a shut q n) y)
            (λ q k v y. witness_snoc T d (own_open p c a shut f (w.start q) (i.started_before q)) (wit_now p c a shut k q v y))
            (in_new (into_snoc L d)) (λ e y. in_was (into_snoc L d) y)
            (answers_snoc T empty_bucket L d i.answers said)
            (timely_snoc T L d (λ z zz. own_open p c a shut f z.start (let y = begun_in w.clock i.all_begun zz in omega arith))
            (timely_now p c a shut))
            (begun_into (suc w.clock) (into_snoc L d) (omega arith) (begun_suc w.clock L i.all_begun))
            (once_into (into_snoc L d) f i.once),
      )
  end_keeps p shut (between {k = k} {v = v} f x) =
      let c = has_member k in
      let a = boolean v in
      let d = occurrence p (w.start p) c a in
      let b = i.started_before p in
      let x' = wit_now p c a shut k p v x in
      let M = put_in T x' d in
      let into = into_put_in T x' d in
      let e : bucket_after T M ≡ bucket_after T L = after_put_in T d k refl x' in (
        M,
        ended_keeps p c a shut w.heap M (rw e i.heap) (rw e (rely_refl T w.heap (bucket_after T L))) refl (λ e y. in_old into y)
            (λ q n y. absent_into q (w.start q) into (apart p c a shut q n) y)
            (λ q j u y. witness_put_in T d k refl x' (own_open p c a shut f (w.start q) (i.started_before q)) (wit_now p c a shut j q u y))
            (in_new into) (λ e y. in_was into y)
            (answers_put_in T d k refl x' refl i.answers)
            (timely_put_in T d k refl x' (λ z zz. own_open p c a shut f z.start (let y = begun_in w.clock i.all_begun zz in omega arith))
            (timely_now p c a shut))
            (begun_into (suc w.clock) into (omega arith) (begun_suc w.clock L i.all_begun))
            (once_into into f i.once),
      )
