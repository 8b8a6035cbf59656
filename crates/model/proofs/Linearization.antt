-- Every reachable configuration has an order of its ended calls that keeps real time, in which the plain set gives every answer and
-- ends with the listed tags: by induction on the run, each transition extends the order or leaves it. Assumes nothing.
use Rattle.std.specs.Prelude.{◌≡◌, refl, Bool, List, [], ℕ, suc, ◌≤◌}
use Rattle.std.proofs.Common.{sym, ap, ◌∙◌, arith}
use Rattle.model.specs.Functions.{upd, upd_at, upd_other}
use Rattle.model.specs.PlaceState.{of_changeable, not_both}
use Rattle.model.specs.Heap.{Heap}
use Rattle.model.specs.HeapInvariant.{Rely}
use Rattle.model.specs.Writes.{rely_refl}
use Rattle.spec.specs.declared.Answer.{Answer}
use Rattle.spec.specs.declared.Call.{Call}
use Rattle.spec.specs.declared.Call.TheVariants.{Contains}
use Rattle.spec.specs.Lists.{member}
use Rattle.spec.specs.Plain.{found_answer}
use Rattle.spec.specs.History.{Ended}
use Rattle.spec.specs.Linearizable.{none, more, after}
use Rattle.laws.specs.Tests.{At, hit, miss, tf}
use Rattle.laws.specs.SameTags.{part_length}
use Rattle.model.specs.Orders.{Witness, snoc, into_snoc, after_snoc, answers_snoc, begun_into, begun_suc, timely_snoc, witness_snoc, put_in}
use Rattle.model.specs.Orders.{into_put_in, after_put_in, answers_put_in, timely_put_in, witness_put_in, after_rising, after_few}
use Rattle.model.specs.Positions.{Position, no_call}
use Rattle.model.specs.Runs.{Configuration, Transition, refused, begins, steps_on, ends_set_call, initial, Reachable, initially, further, after_end}
use Rattle.model.specs.Runs.{ended_call}
use Rattle.model.specs.PositionFacts.{PositionFacts, facts_stay}
use Rattle.model.specs.Filling.{ListedFew}
use Rattle.model.specs.FillSteps.{sources_few_next}
use Rattle.model.proofs.Steps.{own_step, first_facts}
use Rattle.model.specs.Ends.{EndPlace, at_end, at_witness, ended_step}
use Rattle.model.specs.Linearization.{Invariant, ModelLinearizable}

-- task p's place, and the other tasks'
module _ (w : Configuration) (g : Heap) (M : List Ended) (s : ℕ → ℕ) (p : ℕ) (l : Position) (own : PositionFacts g M
    (s p) l) (others : (q : ℕ) → ¬ (q ≡ p) → PositionFacts g M (s q) (w.position q)) where
  tasks : (q : ℕ) → PositionFacts g M (s q) (upd w.position p l q)
  tasks q = go (upd_at w.position p l q)
    where
      go : At (q ≡ p) l (w.position q) (upd w.position p l q) → PositionFacts g M (s q) (upd w.position p l q)
      go (hit e f) = rw (f, e) own
      go (miss n f) = rw f (others q n)

module _ (w : Configuration) (L : List Ended) (i : Invariant w L) where
  -- no more than 64 tags are listed
  pub listed_few : ListedFew w.heap
  listed_few l d f =
      let a = part_length l (after [] L) d (after_rising [] L tt) (λ k m. i.same k ∙ f k m) in let b = after_few [] L i.answers in omega arith

  -- the other tasks, when the heap is g and the order M
  stay : (g : Heap) (M : List Ended) → Rely w.heap g → ((q k : ℕ) (b : Bool) → Witness k (w.start q) b [] L → Witness k (w.start q) b [] M) → (q : ℕ)
      → PositionFacts g M (w.start q) (w.position q)
  stay g M le grows q = facts_stay w.heap g i.heap le L M i.same (w.start q) (grows q) (w.position q) (i.task q)

  ended : (p : ℕ) {c : Call} {k : ℕ} {g : Heap} {a : Answer} → EndPlace w.heap L (w.start p) c k g a
      → (M : List Ended) × Invariant (after_end w p c k g a) M
  ended p (at_end {c = c} {k = k} {g = g} {a = a} inv le says same news) =
      let d = ended_call w p c k a in
      let b = i.began p in
      let f = after_snoc [] L d in (
        snoc L d,
        record {
          heap = inv;
          task = tasks w g (snoc L d) w.start p no_call tt (λ q n. stay g (snoc L d) le (λ q k b x. witness_snoc d (i.began q) x) q);
          began = λ q. let b = i.began q in omega arith;
          order = more i.order (into_snoc L d);
          answers = answers_snoc [] L d i.answers says;
          timely = timely_snoc L d i.begun i.timely;
          begun = begun_into (suc w.clock) (into_snoc L d) (omega arith) (begun_suc w.clock L i.begun);
          same = λ k. ap (member k) f ∙ same k;
          sources_few = sources_few_next w.heap i.heap g le news i.sources_few;
        },
      )
  ended p (at_witness {k = k} {v = v} x) =
      let d = ended_call w p Contains k (found_answer v) in
      let b = i.began p in
      let f = after_put_in d refl x in (
        put_in x d,
        record {
          heap = i.heap;
          task =
              tasks w w.heap (put_in x d) w.start p no_call tt
              (λ q n. stay w.heap (put_in x d) (rely_refl w.heap) (λ q k b y. witness_put_in d refl x (i.began q) y) q);
          began = λ q. let b = i.began q in omega arith;
          order = more i.order (into_put_in x d);
          answers = answers_put_in d refl x refl i.answers;
          timely = timely_put_in d refl x i.begun i.timely;
          begun = begun_into (suc w.clock) (into_put_in x d) (omega arith) (begun_suc w.clock L i.begun);
          same = λ k. ap (member k) f ∙ i.same k;
          sources_few = i.sources_few;
        },
      )

  next_event : {v : Configuration} → Transition w v → (M : List Ended) × Invariant v M
  next_event refused = (
    L,
    record {
      heap = i.heap;
      task = i.task;
      began = λ p. let b = i.began p in omega arith;
      order = i.order;
      answers = i.answers;
      timely = i.timely;
      begun = begun_suc w.clock L i.begun;
      same = i.same;
      sources_few = i.sources_few;
    },
  )
  next_event (begins p l f e) = (
    L,
    record {
      heap = i.heap;
      task =
          tasks w w.heap L (upd w.start p w.clock) p l (first_facts w.heap i.heap L i.same listed_few i.sources_few _ f)
          (λ q n. rw (upd_other w.start p w.clock q n) (i.task q));
      began = λ q. since q (upd_at w.start p w.clock q);
      order = i.order;
      answers = i.answers;
      timely = i.timely;
      begun = begun_suc w.clock L i.begun;
      same = i.same;
      sources_few = i.sources_few;
    },
  )
    where
      since : (q : ℕ) → At (q ≡ p) w.clock (w.start q) (upd w.start p w.clock q) → upd w.start p w.clock q ≤ suc w.clock
      since q (hit e f) = omega arith
      since q (miss n f) = let b = i.began q in omega arith
  next_event (steps_on p {l} {l'} {g} e t) =
      let o : PositionFacts w.heap L (w.start p) l = rw e at (i.task p) in
      let u = own_step w.heap i.heap L i.same listed_few i.sources_few (w.start p) t o in (
        L,
        record {
          heap = u.0.inv;
          task = tasks w g L w.start p l' u.1 (λ q n. stay g L u.0.le (λ q k b x. x) q);
          began = λ q. let b = i.began q in omega arith;
          order = i.order;
          answers = i.answers;
          timely = i.timely;
          begun = begun_suc w.clock L i.begun;
          same = λ k. i.same k ∙ sym (u.0.abs≡ k);
          sources_few = sources_few_next w.heap i.heap g u.0.le u.0.sources i.sources_few;
        },
      )
  next_event (ends_set_call p {l} e t) =
      let o : PositionFacts w.heap L (w.start p) l = rw e at (i.task p) in
      ended p (ended_step w.heap i.heap L i.same (w.start p) t o)

pub opened_inv : (key : ℕ → ℕ) → Invariant (initial key) []
unfolding member
opened_inv key = record {
  heap = record {
    sizes_positive = λ x le. omega arith;
    past_filled = λ x i lt b. of_changeable;
    unlinked_filled = λ l i b. of_changeable;
    head_changeable = λ i b e. not_both refl e;
    older_frozen = λ x i lt b. absurd (omega arith);
    unlinked_frozen = λ l x i lt b. absurd (omega arith);
    linked_ratio = λ l. absurd (tf l refl);
    copied_frozen = λ l. absurd (tf l refl);
  };
  task = λ p. tt;
  began = λ p. omega arith;
  order = none;
  answers = omega arith;
  timely = tt;
  begun = tt;
  same = λ k. refl;
  sources_few = λ s i a b f. absurd (omega arith);
}

pub invariant : {w : Configuration} → Reachable w → (L : List Ended) × Invariant w L
invariant (initially key) = ([], opened_inv key)
invariant (further {v = v} r e) = let (L, i) = invariant r in next_event v L i e

-- what is promised, of every run
pub model_linearizable : {w : Configuration} → Reachable w → (L : List Ended) × ModelLinearizable w L
model_linearizable r = let (L, i) = invariant r in (L, record { order = i.order; answers = i.answers; timely = i.timely; listed = i.same })
