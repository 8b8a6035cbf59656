-- What rests on statements of specs/StepSimulated.antt that a must-fail edit makes false: theorems moved from there as they stood. Assumes nothing.
use Rattle.std.specs.Prelude.{◌≡◌, ◌⊎◌, List}
use Rattle.std.proofs.Math.Path.{refl, sym, ap}
use Rattle.std.proofs.Common.{◌∙◌, inl, inr}
use Rattle.std.proofs.Math.Bool.{true}
use Prim.Native.Nat.{ℕ, suc, ◌+◌, ◌≤◌, ◌<◌, min}
use native.Mathlib.Omega.{arith}
use Rattle.spec.specs.declared.Task.{Task}
use Rattle.spec.specs.Machine.{Machine, idle, with_own, set_task, task_of}
use Rattle.spec.specs.Words.{link, apply, set_place, new_node, new_bucket}
use Rattle.spec.specs.Sound.{node_count, sound}
use Rattle.spec.specs.Lists.{member}
use Rattle.spec.specs.Lines.{Effect}
use Rattle.spec.specs.Entries.{finish, accept}
use Rattle.laws.specs.SoundFacts.{SoundFacts}
use Rattle.laws.specs.Soundness.{run_of}
use Rattle.laws.specs.Sizes.{size_most}
use Rattle.laws.specs.Held.{HeldNode, HeldBucket}
use Rattle.laws.specs.AfterWrites.{SameState, after_head, after_place, after_pred, after_node, after_freeze, after_put, after_bucket}
use Rattle.laws.specs.Tests.{At, hit, miss, tf, at_hit}
use Rattle.model.specs.Functions.{upd, upd_at}
use Rattle.model.specs.PlaceState.{empty, filled_changeable}
use Rattle.model.specs.Heap.{Heap, fill, freeze, put, unlink, advance, slot_in}
use Rattle.model.specs.HeapInvariant.{Rely, place<}
use Rattle.model.specs.Writes.{rely_refl, put_rely}
use Rattle.spec.specs.declared.Answer.TheVariants.{Done}
use Rattle.spec.specs.History.{Ended}
use Rattle.model.specs.Positions.{Position, no_call, resize, at_28}
use Rattle.model.specs.Lines.{Step, step_28_done}
use Rattle.model.specs.Runs.{Configuration, after_step, after_end}
use Rattle.model.specs.PositionFacts.{PositionFacts}
use Rattle.model.proofs.Steps.{own_step}
use Rattle.model.specs.Linearization.{Invariant}
use Rattle.model.proofs.Linearization.{listed_few}
use Rattle.linear.specs.Represents.{Records, with_node, with_bucket, Represents, AwayBucket, AwayNode, NewBucket, NewNode, represents_fewer}
use Rattle.linear.specs.Represents.{bucket_in_pool, size_bound}
use Rattle.linear.specs.BucketWrites.{represents_49, represents_44, represents_36, represents_50}
use Rattle.linear.specs.NodeWrites.{represents_24, represents_24_past, represents_27, represents_28}
use Rattle.linear.specs.EffectOf.{EffectOf, moves_to, ends_call, ends_writing, ends_resize, sets_head, freezes, fills, clears_pred, clears_no_pred}
use Rattle.linear.specs.EffectOf.{takes_node, takes_bucket}
use Rattle.linear.specs.Simulates.{Simulates, new_bucket_task, new_node_task, simulates_next}
use Rattle.linear.specs.WritesSeen.{None, unchanged_seen, freeze_seen, put_seen, new_bucket_seen, new_node_seen, unlink_seen, unlink_past_seen}
use Rattle.linear.specs.WritesSeen.{fill_seen, advance_seen}
use Rattle.linear.specs.KnownNodes.{Names, Known, takes_at, IsBucket, IsNode, no_bucket, no_node, nothing, head, behind, named}
use Rattle.linear.specs.Matches.{Matches, matches_own}
use Rattle.linear.specs.Taken.{Taken, taker_runs, known_held}
use Rattle.linear.proofs.Taken.{placed_held}
use Rattle.linear.specs.OthersSee.{OthersSee}
use Rattle.linear.specs.StepSimulated.{StepSimulated, known_less, same_state, call_ended, resize_ended, went_on}

-- what is known when the head has moved
known_more : (h : Heap) (position : ℕ → Position) (p n x : ℕ) → Known (advance n h) (upd position p no_call) x → Known h position x ⊎ (x ≡ suc h.head)
known_more h position p n x (head e) = inr e
known_more h position p n x (behind a e) = inl (head (omega arith))
known_more h position p n x (named q u) = go (upd_at position p no_call q)
  where
    go : At (q ≡ p) no_call (position q) (upd position p no_call q) → Known h position x ⊎ (x ≡ suc h.head)
    go (hit a b) = absurd (bad (rw b at u))
      where
        bad : Names no_call x → ⊥
        bad z = z
    go (miss a b) = inl (named q (rw b at u))

rests : (h : Heap) (R : Records) → Matches h R no_call idle
unfolding idle
rests h R = refl

module _ {y : Machine} {w : Configuration} {L : List Ended} (sim : Simulates y w.heap w.position) (f : SoundFacts y) (i : Invariant w L) (p : ℕ)
    (p< : p < 8) where
  abbrev K : ℕ → Type 0
  K = Known w.heap w.position

  good : {l : Position} {g : Heap} → Step w.heap (w.position p) g l → Rely w.heap g
  good t = (own_step w.heap i.heap L i.same (listed_few w L i) i.sources_few (w.start p) t (i.task p)).0.le

  -- the words change by a write that takes nothing
  on_writing : {z : Machine} {g : Heap} → SameState y z → Rely w.heap g → (l : Position) (d : Task) → Represents z g K sim.records
      → g.head ≡ w.heap.head → (g.linked ≡ true → w.heap.linked ≡ true) → ((x : ℕ) → Names l x → K x)
      → (((x : ℕ) → Known g (upd w.position p l) x → K x) → OthersSee y z w.heap g K (Known g (upd w.position p l)) sim.records
      sim.records None None)
      → Matches g sim.records l d → takes_at l ≡ nothing → sound (set_task p d z) ≡ true → Simulates (set_task p d z) g (upd w.position p l)
  on_writing {z} {g} same le l d rep e u names sh m none so =
      let sub = known_less w.heap g w.position p l e u names in
      simulates_next sim f i p p< same l d le (represents_fewer rep (Known g (upd w.position p l)) sub (head refl) (λ a s q. behind a q)) (sh sub) m
      (rw none tt) (λ q n t r e b. b) (λ q n t r e b. b) (λ t. absurd (no_bucket none t)) (λ t. absurd (no_node none t)) so

  -- nothing is written
  pub on_still : (l : Position) (d : Task) → ((x : ℕ) → Names l x → K x) → Matches w.heap sim.records l d → takes_at l ≡ nothing
      → sound (set_task p d y) ≡ true → Simulates (set_task p d y) w.heap (upd w.position p l)
  on_still l d names m none so = on_writing (same_state y) (rely_refl w.heap) l d sim.rep refl (λ a. a) names (unchanged_seen f) m none so

  -- a record that another task has taken is held
  held_bucket : (q r : ℕ) → IsBucket (takes_at (w.position q)) → (task_of y q).new_bucket ≡ link r → HeldBucket y r
  held_bucket q r t e = HeldBucket.as_new q (taker_runs w.heap sim.records (task_of y q) (w.position q) (sim.matches q) (λ none. no_bucket none t)) e

  held_node : (q r : ℕ) → IsNode (takes_at (w.position q)) → (task_of y q).new_node ≡ link r → HeldNode y r
  held_node q r t e = HeldNode.as_new q (taker_runs w.heap sim.records (task_of y q) (w.position q) (sim.matches q) (λ none. no_node none t)) e

  module _ (own : ℕ) where
    abbrev counted : Task → Task
    counted c = with_own (min (own + 1) 65535) c

    pub simulate : {e : Effect} → EffectOf sim.rep (task_of y p) (w.position p) e → sound (accept y p own e).machine ≡ true
        → StepSimulated w p own (accept y p own e)
    unfolding accept finish apply with_own
    simulate (moves_to {c' = c'} l line names m none) so = record {
      configuration = after_step w p w.heap l;
      outcome = went_on w.heap l line;
      sim = on_still l (counted c') names (matches_own w.heap sim.records c' (min (own + 1) 65535) l m) none so;
    }
    simulate (ends_call {call = call'} {k = k} {a = a} e) so = record {
      configuration = after_end w p call' k w.heap a;
      outcome = call_ended w.heap e;
      sim = on_still no_call idle (λ x q. absurd q) (rests w.heap sim.records) refl so;
    }
    simulate (ends_resize a line) so = record {
      configuration = after_step w p w.heap no_call;
      outcome = resize_ended a w.heap line (inl refl);
      sim = on_still no_call idle (λ x q. absurd q) (rests w.heap sim.records) refl so;
    }
    simulate (ends_writing {call = call'} {k = k} {a = a} x v ks kx o few oth this e) so =
        let bd = sim.rep.known_bound x kx in
        let bx = place< w.heap i.heap x (w.heap.key k) bd in
        let px = filled_changeable o in
        let B = sim.records.bucket x (slot_in w.heap x k) in
        let af = after_put y f.buckets_length B (bucket_in_pool f sim.rep x (slot_in w.heap x k) kx bx px) ks few in
        let g = put x k v w.heap in
        record {
          configuration = after_end w p call' k g a;
          outcome = call_ended g e;
          sim =
              on_writing af.same (put_rely w.heap i.heap x k v bd o) no_call idle (represents_36 f sim.rep x k v ks kx bx o oth this af) refl
              (λ a. a) (λ x q. absurd q)
              (λ sub. put_seen f sub x k v ks kx bx px af) (rests g sim.records) refl so;
        }
    simulate (freezes {c' = c'} l x j kx bx px line names m none) so =
        let af = after_freeze y f.buckets_length (sim.records.bucket x j) (bucket_in_pool f sim.rep x j kx bx px) in
        let g = freeze x j w.heap in
        record {
          configuration = after_step w p g l;
          outcome = went_on g l line;
          sim = on_writing af.same (good line) l (counted c') (represents_44 f sim.rep x j kx bx px af) refl (λ a. a) names
              (λ sub. freeze_seen f sub x j kx bx px af) (matches_own g sim.records c' (min (own + 1) 65535) l m) none so;
        }
    simulate (clears_pred {c' = c'} l line names m none) so =
        let af = after_pred y f.nodes_length (sim.records.node w.heap.head) (sim.rep.node_in_pool w.heap.head sim.rep.head_known) in
        let g = unlink w.heap in
        record {
          configuration = after_step w p g l;
          outcome = went_on g l line;
          sim = on_writing af.same (good line) l (counted c') (represents_24 f sim.rep af) refl (λ a. absurd (tf a refl)) names
              (λ sub. unlink_seen f sub w.heap.head sim.rep.head_known af) (matches_own g sim.records c' (min (own + 1) 65535) l m) none so;
        }
    simulate (clears_no_pred {c' = c'} l t kt d line names m none) so =
        let af = after_pred y f.nodes_length (sim.records.node t) (sim.rep.node_in_pool t kt) in
        record {
          configuration = after_step w p w.heap l;
          outcome = went_on w.heap l line;
          sim = on_writing af.same (good line) l (counted c') (represents_24_past f sim.rep t kt d af) refl (λ a. a) names
              (λ sub. unlink_past_seen f sub t kt af) (matches_own w.heap sim.records c' (min (own + 1) 65535) l m) none so;
        }
    -- 28: the new node becomes head and is known
    simulate (sets_head b n r q nn new) so =
        let g = advance n w.heap in
        let af = after_head y r in
        let o : PositionFacts w.heap L (w.start p) (resize b (at_28 w.heap.head n)) = rw q at (i.task p) in
        let line : Step w.heap (w.position p) g no_call = rw q (step_28_done refl) in
        let job : Matches w.heap sim.records (resize b (at_28 w.heap.head n)) (task_of y p) = rw q at (sim.matches p) in
        let rf = (run_of y f p job.0.runs).new_node.within in
        let r< : r < node_count y = omega arith in
        let n≤ : n ≤ 32 = rw new.size≡ at (size_most (f.node r r<).size_ok) in
        let J = Known g (upd w.position p no_call) in
        let more = known_more w.heap w.position p n in
        let tk : IsNode (takes_at (w.position p)) = rw q tt in
        let R' = with_node (suc w.heap.head) r sim.records in
        record {
          configuration = after_step w p g no_call;
          outcome = resize_ended Done g line (inr refl);
          sim = simulates_next sim f i p p< af.same no_call idle (good line)
              (represents_fewer (represents_28 f sim.rep r n (o.1 refl) n≤ r< new af) J more (head refl) (λ a s q. behind a q))
              (advance_seen f n r sim.rep.known_bound more af) (rests g R') tt
              (λ q n t r e b. b) (λ q' d t r' e u. sim.nodes_apart q' p d t tk (e ∙ ap link u ∙ sym nn)) (λ t. absurd t) (λ t. absurd t) so;
        }
    -- 50: the new bucket gets its place and is known
    simulate (fills {c' = c'} l t s j r q q' bj v tk nb new line names m none) so =
        let bj' : j < w.heap.size w.heap.head = rw q at bj in
        let v' : w.heap.place w.heap.head j ≡ empty = rw q at v in
        let new' : NewBucket y w.heap K sim.records s w.heap.head j r = rw q at new in
        let line' : Step w.heap (w.position p) (fill s w.heap.head j w.heap) l = rw q at line in
        let m' : Matches (fill s w.heap.head j w.heap) (with_bucket w.heap.head j r sim.records) l c' = rw q at m in
        let hs : w.heap.head ≡ suc s = sym q ∙ q' in
        let z = apply (set_place (sim.records.node w.heap.head) j (link r)) y in
        let sm = size_bound f sim.rep w.heap.head sim.rep.head_known in
        let af = after_place y f.nodes_length (sim.records.node w.heap.head) (sim.rep.node_in_pool w.heap.head sim.rep.head_known) j
        (link r) (omega arith) in
        let g = fill s w.heap.head j w.heap in
        let R' = with_bucket w.heap.head j r sim.records in
        let J = Known g (upd w.position p l) in
        let sub = known_less w.heap g w.position p l refl (λ a. a) names in
        let so' : sound (set_task p (counted c') z) ≡ true = rw q at so in
        rw q
        (record {
          configuration = after_step w p g l;
          outcome = went_on g l line';
          sim = simulates_next sim f i p p< af.same l (counted c') (good line')
              (represents_fewer (represents_50 f sim.rep s j r bj' hs v' new' af) J sub (head refl) (λ a s q. behind a q))
              (fill_seen f sub s j r sim.rep.head_known v' af) (matches_own g R' c' (min (own + 1) 65535) l m') (rw none tt)
              (λ o d t r' e u. sim.buckets_apart o p d t (rw tk tt) (e ∙ ap link u ∙ sym nb)) (λ q n t r e b. b) (λ t. absurd (no_bucket none t))
              (λ t. absurd (no_node none t)) so';
        })
    -- 27: a node that nobody holds is away from all that is known
    simulate (takes_node {c' = c'} b t n r kt line m e lt free) so =
        let af = after_node y f.nodes_length r lt n (link (sim.records.node t)) in
        let l = resize b (at_28 t n) in
        let sub = known_less w.heap w.heap w.position p l refl (λ a. a) (λ x u. rw u kt) in
        let J = Known w.heap (upd w.position p l) in
        let away : AwayNode K sim.records r = λ x k u. free (rw u (known_held f sim.rep sim.matches x k)) in
        let new : NewNode (apply (new_node r n (link (sim.records.node t))) y) J sim.records t n r = record {
          size≡ = at_hit refl (af.size_at r);
          from = at_hit refl (af.pred_at r);
          places = λ j b. at_hit refl (af.place_at r j b);
          away = λ x k. away x (sub x k);
        } in
        record {
          configuration = after_step w p w.heap l;
          outcome = went_on w.heap l line;
          sim = simulates_next sim f i p p< af.same l (counted c') (good line)
              (represents_fewer (represents_27 f sim.rep r n (link (sim.records.node t)) away af) J sub (head refl) (λ a s q. behind a q))
              (new_node_seen f sub r n (link (sim.records.node t)) af) (matches_own w.heap sim.records c' (min (own + 1) 65535) l m)
              (r, e, new_node_task p (counted c') new)
              (λ q n t r e b. b) (λ q d t r' e u. free (held_node q r t (e ∙ ap link u))) (λ t. absurd t) (λ tk q d t u. free (held_node q r t (sym u ∙ e))) so;
        }
    -- 49: likewise a bucket
    simulate (takes_bucket {c' = c'} l s t j r ks line names m e lt free few own' foreign tk) so =
        let z = apply (new_bucket r ks) y in
        let af = after_bucket y f.buckets_length r lt ks few in
        let sub = known_less w.heap w.heap w.position p l refl (λ a. a) names in
        let J = Known w.heap (upd w.position p l) in
        let away : AwayBucket w.heap K sim.records r = λ x j k b q u. free (rw u (placed_held f sim.rep sim.matches x j k b q)) in
        let new : NewBucket z w.heap J sim.records s t j r = record {
          opened = at_hit refl (af.changeable_at r);
          inside = λ k q. ap (member k) af.tags_same ∙ own' k q;
          outside = λ k q. ap (member k) af.tags_same ∙ foreign k q;
          away = λ x j k. away x j (sub x k);
        } in
        let taken : Taken (set_task p (counted c') z) w.heap J sim.records (takes_at l) (counted c') = rw tk (r, e, new_bucket_task p (counted c') new) in
        record {
          configuration = after_step w p w.heap l;
          outcome = went_on w.heap l line;
          sim = simulates_next sim f i p p< af.same l (counted c') (good line)
              (represents_fewer (represents_49 f sim.rep r ks af away) J sub (head refl) (λ a s q. behind a q))
              (new_bucket_seen f sub r ks af) (matches_own w.heap sim.records c' (min (own + 1) 65535) l m) taken
              (λ q d t r' e u. free (held_bucket q r t (e ∙ ap link u))) (λ q n t r e b. b) (λ tk q d t u. free (held_bucket q r t (sym u ∙ e)))
              (λ t. absurd (rw tk at t)) so;
        }
