-- The short chains of predecessors stay short in every step: a task's record is written (all lines), a predecessor is cleared
-- (24), a node that is not held is taken with t for its predecessor (27), and the head moves to a node whose predecessor is the
-- old head, which has none by then (28). So they are short in every schedule. Assumes nothing.
use Rattle.std.specs.Prelude.{◌≡◌, ◌⊎◌, Bool, true, false, ℕ, ◌+◌, min, ◌<◌, length}
use Rattle.std.proofs.Math.Path.{refl, ap}
use Rattle.std.proofs.Common.{sym, ◌∙◌, subst, inl, inr, arith, eq-eqb, ne_eqb}
use mathlib.Core.List.{List}
use Rattle.std.proofs.Math.Decide.{ℕ_discrete}
use Rattle.std.proofs.Math.ListN.{get_or}
use Rattle.spec.specs.declared.Task.{Task}
use Rattle.spec.specs.declared.State.{State}
use Rattle.spec.specs.declared.Answer.TheVariants.{Done, Lost}
use Rattle.spec.specs.declared.Call.{Call}
use Rattle.spec.specs.declared.Call.TheVariants.{Insert, Remove, Contains, Grow, Shrink}
use Rattle.spec.specs.Lists.{member}
use Rattle.spec.specs.Machine.{Machine, idle, fresh_task, with_line, with_own, with_new_node, with_state, with_head, state_head, task_of, set_task}
use Rattle.spec.specs.Sound.{node_count}
use Rattle.spec.specs.Words.{link, number, pred, set_head, set_place, clear_pred, new_node, apply}
use Rattle.spec.specs.Held.{free_node}
use Rattle.spec.specs.Listed.{size_of, head_of}
use Rattle.spec.specs.Lines.{Next, on, ends, Effect, answers, resized, line_24, line_27, line_28, effect}
use Rattle.spec.specs.StepRefusals.{unsound_step, all_held}
use Rattle.spec.specs.Entries.{Reply, refuse, started, finish, accept}
use Rattle.spec.specs.Schedule.{Event, starts, steps, event}
use Rattle.laws.specs.Tests.{At, hit, miss, tf, at_hit, at_miss}
use Rattle.laws.specs.Sizes.{size_most}
use Rattle.laws.specs.SoundFacts.{SoundFacts}
use Rattle.laws.specs.Soundness.{sound_facts, run_of}
use Rattle.laws.specs.AfterWrites.{after_task, after_place, after_pred, after_node, apply_task}
use Rattle.laws.specs.Held.{HeldNode, the_head, as_t, as_s, before}
use Rattle.laws.proofs.Taking.{some_node}
use Rattle.laws.specs.StepRefusals.{StepSound, step_sound_facts, not_all_held}
use Rattle.laws.specs.EntriesKeep.{StartOutcome, StepOutcome, start_no_task, start_running, start_withdrawn, start_accepted, start_outcome, step_no_task}
use Rattle.laws.specs.EntriesKeep.{step_idle}
use Rattle.laws.specs.EntriesKeep.{step_unsound, step_all_held, step_accepted, step_outcome}
use Rattle.model.specs.Positions.{Fill, at_39, at_40, at_43, at_44, at_46, at_47, at_48, at_52, at_49, at_50, at_51, at_12, at_13, at_15, at_16}
use Rattle.model.specs.Positions.{at_17, at_18, Update, at_32, at_33, at_36, Resize, at_20, at_24, at_27, at_28, Position, no_call, lookup, update}
use Rattle.model.specs.Positions.{resize}
use Rattle.model.specs.Runs.{Configuration, Reachable}
use Rattle.model.specs.PositionFacts.{PositionFacts}
use Rattle.model.proofs.Linearization.{invariant}
use Rattle.linear.specs.KnownNodes.{named}
use Rattle.linear.specs.Matches.{Matches, fill_line}
use Rattle.laws.specs.StepAt.{through_t, step_table, effect_at, does_at}
use Rattle.linear.specs.Simulates.{Simulates}
use Rattle.bounds.specs.HeldChains.{is_24, is_27, ShortChain, TaskLinks, TaskLinksOf, ShortChains, NextLinks, SameLinks, KeepsLinks, links_none}
use Rattle.bounds.specs.HeldChains.{nothing_written, keeps_12, keeps_13, keeps_15, keeps_16, keeps_17, keeps_18, keeps_20, keeps_32, keeps_33}
use Rattle.bounds.specs.HeldChains.{keeps_36, keeps_39, keeps_40, keeps_43, keeps_44, keeps_46, keeps_47, keeps_48, keeps_52, keeps_49}
use Rattle.bounds.specs.HeldChains.{keeps_50, keeps_51}

-- ---- task p's record is written; z is the machine with the line's write done
module _ (y z : Machine) (p own : ℕ) (tasks : z.state.task ≡ y.state.task) (lt : p < length y.state.task) where
  other_task : (d : Task) (j : ℕ) → ¬ (j ≡ p) → task_of (set_task p d z) j ≡ task_of y j
  unfolding task_of
  other_task d j n = at_miss (λ e. n e.0) ((after_task z p d).task_at j) ∙ ap (λ (l : List Task). get_or l j idle) tasks

  own_task : (d : Task) → task_of (set_task p d z) p ≡ d
  own_task d = at_hit (refl, rw tasks lt) ((after_task z p d).task_at p)

  module _ (head_chain : (a : ℕ) → pred z.nodes z.state.head ≡ link a → pred z.nodes a ≡ 0)
      (others : (j : ℕ) → ¬ (j ≡ p) → (task_of y j).running ≡ true → TaskLinksOf z (task_of y j)) where
    pub set_task_chains : (d : Task) → (d.running ≡ true → TaskLinksOf z d) → ShortChains (set_task p d z)
    set_task_chains d o = record { head_chain = top'; each = λ j r. go j r (ℕ_discrete j p) }
      where
        top' : (a : ℕ) → pred (set_task p d z).nodes (set_task p d z).state.head ≡ link a → pred (set_task p d z).nodes a ≡ 0
        top' = rw ((after_task z p d).nodes≡, (after_task z p d).head≡) head_chain

        go : (j : ℕ) → (task_of (set_task p d z) j).running ≡ true → Dec (j ≡ p)
            → TaskLinksOf (set_task p d z) (task_of (set_task p d z) j)
        go j r (yes e) = rw (e, own_task d, (after_task z p d).nodes≡, (after_task z p d).head≡) (o (rw (e, own_task d) at r))
        go j r (no n) =
            rw (other_task d j n, (after_task z p d).nodes≡, (after_task z p d).head≡) (others j n (rw (other_task d j n) at r))

    finish_chains : (n : Next) → NextLinks z n → ShortChains (finish z p own n).machine
    unfolding finish with_own idle
    finish_chains (on c) o = set_task_chains (with_own own c) (λ r. o)
    finish_chains (ends a l) o = set_task_chains idle (λ r. absurd (tf r refl))

module _ (y : Machine) (chains : ShortChains y) (p : ℕ) (lt : p < length y.state.task) (own : ℕ) where
  same_short : (z : Machine) → z.state.head ≡ y.state.head → ((k : ℕ) → pred z.nodes k ≡ pred y.nodes k) → (l : ℕ)
      → ShortChain (pred y.nodes) y.state.head l → ShortChain (pred z.nodes) z.state.head l
  same_short z h q l f a e = elim (f a e) [ inl x ↦ inl (x ∙ sym h) | inr x ↦ inr (q a ∙ x) ]

  next_same : (z : Machine) → z.state.head ≡ y.state.head → ((k : ℕ) → pred z.nodes k ≡ pred y.nodes k) → (n : Next)
      → NextLinks y n → NextLinks z n
  next_same z h q (on c) o =
      record {
        t_ok = same_short z h q c.t o.t_ok;
        s_ok = same_short z h q c.s o.s_ok;
        new_ok = λ a e. elim (o.new_ok a e) [ inl x ↦ inl (q a ∙ x) | inr x ↦ inr (q a ∙ x) ];
        no_new = o.no_new;
        no_s = o.no_s;
      }
  next_same z h q (ends a l) o = tt

  keeps_chains : (e : Effect) → KeepsLinks y e → ShortChains (accept y p own e).machine
  unfolding accept
  keeps_chains e m =
      let z = apply e.write y in
      let h = m.0.0 in
      let q = m.0.1 in
      finish_chains y z p (min (own + 1) 65535) (apply_task e.write y) lt
      (λ a x. q a ∙ chains.head_chain a (sym (q y.state.head) ∙ ap (pred z.nodes) (sym h) ∙ x))
      (λ j n r. next_same z h q (on (task_of y j)) (chains.each j r)) e.next (next_same z h q e.next m.1)

-- ---- an accepted step
module _ (y : Machine) (chains : ShortChains y) (w : Configuration) (reach : Reachable w)
    (sim : Simulates y w.heap w.position) (p : ℕ) (lt : p < length y.state.task) (r : (task_of y p).running ≡ true)
    (fine : unsound_step y (task_of y p) ≡ false)
    (free : all_held y (task_of y p) ≡ false) where
  abbrev c : Task
  c = task_of y p

  f : SoundFacts y
  f = sound_facts y sim.sound_now

  o : TaskLinksOf y c
  o = chains.each p r

  u : StepSound y c
  u = step_sound_facts y c fine

  abbrev after : Machine
  after = (accept y p c.own (effect y c)).machine

  -- by a line that changes no predecessor and not the head
  done_by : (n : ℕ) → c.line ≡ n → ShortChains (accept y p c.own (effect_at n y c)).machine → ShortChains after
  done_by n e s = subst (λ (x : Effect). ShortChains (accept y p c.own x).machine) (sym (does_at y c n e)) s

  kept_by : (n : ℕ) → c.line ≡ n → KeepsLinks y (effect_at n y c) → ShortChains after
  kept_by n e k = done_by n e (keeps_chains y chains p lt c.own (effect_at n y c) k)

  has_t : (n : ℕ) → member n through_t ≡ true → c.line ≡ n → ¬ (c.t ≡ 0)
  has_t n m e = u.t (rw e m)

  t_below : ¬ (c.t ≡ 0) → number c.t < node_count y
  t_below d = let b = (run_of y f p r).t.within in omega arith

  place_same : c.line ≡ 50 → SameLinks y (set_place (number c.t) c.i c.new_bucket)
  unfolding size_of member
  place_same e =
      let b = t_below (has_t 50 refl e) in
      let i = u.i_t (rw e refl) in
      let sz = size_most (f.node (number c.t) b).size_ok in
      let af = after_place y f.nodes_length (number c.t) b c.i c.new_bucket (omega arith) in
      (ap (λ (s : State). s.head) af.state≡, af.pred≡)

  fill_chains : (l : Fill) → c.line ≡ fill_line l
      → ShortChains after
  unfolding step_table
  fill_chains at_39 e = kept_by 39 e (keeps_39 y c chains o e)
  fill_chains (at_40 b) e = kept_by 40 e (keeps_40 y c chains o e (has_t 40 refl e))
  fill_chains (at_43 s) e = kept_by 43 e (keeps_43 y c chains o e)
  fill_chains (at_44 s) e = kept_by 44 e (keeps_44 y c chains o e)
  fill_chains (at_46 s) e = kept_by 46 e (keeps_46 y c chains o e)
  fill_chains (at_47 s) e = kept_by 47 e (keeps_47 y c chains o e)
  fill_chains (at_48 s) e = kept_by 48 e (keeps_48 y c chains o e)
  fill_chains (at_52 s) e = kept_by 52 e (keeps_52 y c chains o e)
  fill_chains (at_49 s) e = kept_by 49 e (keeps_49 y c chains o e)
  fill_chains (at_50 s) e = kept_by 50 e (keeps_50 y c chains o e (place_same e))
  fill_chains at_51 e = kept_by 51 e (keeps_51 y c chains o e)

  -- line 24: t's predecessor becomes none
  chains_24 : c.line ≡ 24 → ShortChains after
  unfolding accept step_table line_24 with_line
  chains_24 e =
      let k = number c.t in
      let z = apply (clear_pred k) y in
      let mine = keeps c o in
      done_by 24 e
      (finish_chains y z p (min (c.own + 1) 65535) (apply_task (clear_pred k) y) lt
      (λ a x. head_chain a (pred_at y.state.head) (sym (ap (pred z.nodes) hd) ∙ x))
      (λ j n r. keeps (task_of y j) (chains.each j r)) (on (with_line 27 c))
      (record {
        t_ok = mine.t_ok;
        s_ok = mine.s_ok;
        new_ok = mine.new_ok;
        no_new = λ d. o.no_new (λ q. omega arith);
        no_s = λ d. o.no_s (is_24 e);
      }))
    where
      pred_at : (j : ℕ) → At (j ≡ number c.t) 0 (pred y.nodes j) (pred (apply (clear_pred (number c.t)) y).nodes j)
      pred_at = (after_pred y f.nodes_length (number c.t) (t_below (has_t 24 refl e))).pred_at

      hd : (apply (clear_pred (number c.t)) y).state.head ≡ y.state.head
      hd = ap (λ (s : State). s.head) (after_pred y f.nodes_length (number c.t) (t_below (has_t 24 refl e))).state≡

      gone : (a v : ℕ) → At (a ≡ number c.t) 0 (pred y.nodes a) v → pred y.nodes a ≡ 0 → v ≡ 0
      gone a v (hit x q) e = q
      gone a v (miss x q) e = q ∙ e

      head_chain : (a : ℕ) {v : ℕ} → At (y.state.head ≡ number c.t) 0 (pred y.nodes y.state.head) v → v ≡ link a
          → pred (apply (clear_pred (number c.t)) y).nodes a ≡ 0
      head_chain a (hit x q) e = absurd (omega arith)
      head_chain a (miss x q) e = gone a _ (pred_at a) (chains.head_chain a (sym q ∙ e))

      still_short : (l : ℕ) → ShortChain (pred y.nodes) y.state.head l
          → ShortChain (pred (apply (clear_pred (number c.t)) y).nodes) (apply (clear_pred (number c.t)) y).state.head l
      still_short l g a e = elim (g a e) [ inl x ↦ inl (x ∙ sym hd) | inr x ↦ inr (gone a _ (pred_at a) x) ]

      new : (t a v : ℕ) → At (a ≡ number c.t) 0 (pred y.nodes a) v → (pred y.nodes a ≡ t) ⊎ (pred y.nodes a ≡ 0)
          → (v ≡ t) ⊎ (v ≡ 0)
      new t a v (hit x q) e = inr q
      new t a v (miss x q) (inl e) = inl (q ∙ e)
      new t a v (miss x q) (inr e) = inr (q ∙ e)

      keeps : (d : Task) → TaskLinksOf y d → TaskLinksOf (apply (clear_pred (number c.t)) y) d
      keeps d l =
          record {
            t_ok = still_short d.t l.t_ok;
            s_ok = still_short d.s l.s_ok;
            new_ok = λ a e. new d.t a _ (pred_at a) (l.new_ok a e);
            no_new = l.no_new;
            no_s = l.no_s;
          }

  -- line 27: a node that is not held gets t for its predecessor
  module _ (k sz : ℕ) (k< : k < node_count y) (not_held : ¬ HeldNode y k) where
    abbrev z27 : Machine
    z27 = apply (new_node k sz c.t) y

    kept : (a : ℕ) → HeldNode y a → pred z27.nodes a ≡ pred y.nodes a
    kept a h = at_miss (λ e. not_held (rw e at h)) ((after_node y f.nodes_length k k< sz c.t).pred_at a)

    short_27 : (l : ℕ) → ((a : ℕ) → l ≡ link a → HeldNode y a) → ShortChain (pred y.nodes) y.state.head l
        → ShortChain (pred z27.nodes) z27.state.head l
    short_27 l h g a e =
        let hd = (after_node y f.nodes_length k k< sz c.t).head≡ in
        elim (g a e) [ inl x ↦ inl (x ∙ sym hd) | inr x ↦ inr (kept a (h a e) ∙ x) ]

    others_27 : (j : ℕ) → (task_of y j).running ≡ true → TaskLinksOf z27 (task_of y j)
    others_27 j r =
        let o = chains.each j r in
        record {
          t_ok = short_27 (task_of y j).t (λ a e. as_t j r e) o.t_ok;
          s_ok = short_27 (task_of y j).s (λ a e. as_s j r e) o.s_ok;
          new_ok = λ a e.
              let same = kept a (HeldNode.as_new j r e) in
              elim (o.new_ok a e) [ inl x ↦ inl (same ∙ x) | inr x ↦ inr (same ∙ x) ];
          no_new = o.no_new;
          no_s = o.no_s;
        }

    top_27 : (a : ℕ) → pred z27.nodes z27.state.head ≡ link a → pred z27.nodes a ≡ 0
    top_27 a e =
        let hd = (after_node y f.nodes_length k k< sz c.t).head≡ in
        let q : pred y.nodes y.state.head ≡ link a =
        sym (kept y.state.head (the_head refl)) ∙ ap (pred z27.nodes) (sym hd) ∙ e in
        kept a (before y.state.head (the_head refl) q) ∙ chains.head_chain a q

    next_27 : c.line ≡ 27 → (l : ℕ) → l ≡ link k → TaskLinks (pred z27.nodes) z27.state.head 28 c.t c.s l
    next_27 e l q = record {
      t_ok = short_27 c.t (λ a e. as_t p r e) o.t_ok;
      s_ok = short_27 c.s (λ a e. as_s p r e) o.s_ok;
      new_ok = λ a x. inl (at_hit (omega arith) ((after_node y f.nodes_length k k< sz c.t).pred_at a));
      no_new = λ d. absurd (d refl);
      no_s = λ d. o.no_s (is_27 e);
    }

  chains_27 : c.line ≡ 27 → ShortChains after
  unfolding accept step_table line_27 with_line with_new_node
  chains_27 e =
      let n = some_node y f ((not_all_held y c free).0 e) in
      let k = n.0 in
      let is : number (free_node y) ≡ k = (let q = n.1 in omega arith) in
      let sz = resized c.call (size_of y c.t) in
      let lt-k = n.2 in
      let out = n.3.not_held in
      done_by 27 e (rw is
      (finish_chains y (z27 k sz lt-k out) p (min (c.own + 1) 65535) (apply_task (new_node k sz c.t) y) lt
      (top_27 k sz lt-k out) (λ j d r. others_27 k sz lt-k out j r)
      (on (with_line 28 (with_new_node (free_node y) c))) (next_27 k sz lt-k out e (free_node y) n.1)))

  -- line 28: the new node becomes the head
  chains_28 : (b : Bool) (t n : ℕ) → w.position p ≡ resize b (at_28 t n)
      → ShortChains after
  unfolding accept step_table line_28 apply with_head with_state state_head head_of
  chains_28 b t n q = done_by 28 m.0.line≡ (go (ℕ_discrete (head_of y) c.t))
    where
      m : Matches w.heap sim.records (resize b (at_28 t n)) c
      m = rw q at (sim.matches p)

      ok : PositionFacts w.heap (invariant reach).0 (w.start p) (resize b (at_28 t n))
      ok = rw q at ((invariant reach).1.task p)

      head_no_pred : head_of y ≡ c.t → pred y.nodes y.state.head ≡ 0
      head_no_pred h =
          let a = m.1 in
          let e : y.state.head ≡ sim.records.node t = omega arith in
          rw e (sim.rep.pred_none t (named p (rw q refl)) ok.1)

      head_chain : head_of y ≡ c.t → (a : ℕ) → pred y.nodes (number c.new_node) ≡ link a → pred y.nodes a ≡ 0
      head_chain h a x = via (o.new_ok (number c.new_node) (let z = u.new_node (rw m.0.line≡ refl) in omega arith))
        where
          via : (pred y.nodes (number c.new_node) ≡ c.t) ⊎ (pred y.nodes (number c.new_node) ≡ 0)
              → pred y.nodes a ≡ 0
          via (inl v) = let e : a ≡ y.state.head = omega arith in rw e (head_no_pred h)
          via (inr v) = absurd (omega arith)

      still_short : head_of y ≡ c.t → (l : ℕ) → ShortChain (pred y.nodes) y.state.head l
          → ShortChain (pred y.nodes) (number c.new_node) l
      still_short h l g a e = elim (g a e) [ inl x ↦ inr (ap (pred y.nodes) x ∙ head_no_pred h) | inr x ↦ inr x ]

      others : head_of y ≡ c.t → (j : ℕ) → (task_of y j).running ≡ true
          → TaskLinksOf (apply (set_head (number c.new_node)) y) (task_of y j)
      others h j r =
          let o = chains.each j r in
          record {
            t_ok = still_short h (task_of y j).t o.t_ok;
            s_ok = still_short h (task_of y j).s o.s_ok;
            new_ok = o.new_ok;
            no_new = o.no_new;
            no_s = o.no_s;
          }

      go : Dec (head_of y ≡ c.t) → ShortChains (accept y p c.own (line_28 y c)).machine
      go (yes h) =
          rw (eq-eqb (head_of y) c.t h)
          (finish_chains y (apply (set_head (number c.new_node)) y) p (min (c.own + 1) 65535) refl lt (head_chain h)
          (λ j d r. others h j r) (ends Done 0) tt)
      go (no d) =
          rw (ne_eqb (head_of y) c.t d)
          (keeps_chains y chains p lt c.own (answers Lost) (nothing_written y c chains o, tt))

  pub step_chains : ShortChains after
  unfolding step_table
  step_chains = go (w.position p) refl (sim.matches p)
    where
      go : (l : Position) → w.position p ≡ l → Matches w.heap sim.records l c
          → ShortChains after
      go no_call q m = absurd (tf r m)
      go (lookup k at_12) q m = kept_by 12 m.line≡ (keeps_12 y c chains o m.line≡)
      go (lookup k (at_13 t)) q m = kept_by 13 m.0.line≡ (keeps_13 y c chains o m.0.line≡)
      go (lookup k (at_15 t)) q m =
          let e = m.0.line≡ in
          kept_by 15 e (keeps_15 y c chains o e (has_t 15 refl e))
      go (lookup k (at_16 t)) q m = kept_by 16 m.0.line≡ (keeps_16 y c chains o m.0.line≡)
      go (lookup k (at_17 t)) q m = kept_by 17 m.0.line≡ (keeps_17 y c chains o m.0.line≡)
      go (lookup k (at_18 t)) q m = kept_by 18 m.0.line≡ (keeps_18 y c chains o)
      go (update b k at_32) q m = kept_by 32 m.0.line≡ (keeps_32 y c chains o m.0.line≡)
      go (update b k (at_33 t)) q m = kept_by 33 m.0.line≡ (keeps_33 y c chains o m.0.line≡)
      go (update b k (at_36 t)) q m = kept_by 36 m.0.line≡ (keeps_36 y c chains o)
      go (update b k (Update.filling t i l)) q m = fill_chains l m.call_fields.line≡
      go (resize b at_20) q m = kept_by 20 m.0.line≡ (keeps_20 y c chains o m.0.line≡)
      go (resize b (at_24 t)) q m = chains_24 m.0.line≡
      go (resize b (at_27 t)) q m = chains_27 m.0.line≡
      go (resize b (at_28 t n)) q m = chains_28 b t n q
      go (resize b (Resize.filling t i l)) q m = fill_chains l m.0.call_fields.line≡

-- ---- a start; an event
start_chains : (y : Machine) → ShortChains y → (p : ℕ) → p < length y.state.task → (call : Call) (tag : ℕ)
    → ShortChains (set_task p (started call tag) y)
unfolding started fresh_task
start_chains y chains p lt call tag =
    set_task_chains y y p 0 refl lt chains.head_chain (λ j d r. chains.each j r) (started call tag) (λ r. go call)
  where
    go : (call : Call) → TaskLinksOf y (started call tag)
    go Insert = links_none (pred y.nodes) y.state.head 32
    go Remove = links_none (pred y.nodes) y.state.head 32
    go Contains = links_none (pred y.nodes) y.state.head 12
    go Grow = links_none (pred y.nodes) y.state.head 20
    go Shrink = links_none (pred y.nodes) y.state.head 20

module _ (y : Machine) (chains : ShortChains y) (w : Configuration) (reach : Reachable w)
    (sim : Simulates y w.heap w.position) where
  high : (p : ℕ) → p < y.state.config.tasks → p < length y.state.task
  high p a = let b = (sound_facts y sim.sound_now).config.T_high in rw sim.eight_tasks (omega arith)

  stepped_chains : (p : ℕ) {m : Reply} → StepOutcome y p m → ShortChains m.machine
  unfolding refuse
  stepped_chains p (step_no_task a) = chains
  stepped_chains p (step_idle a b) = chains
  stepped_chains p (step_unsound a b d) = chains
  stepped_chains p (step_all_held a b d e) = chains
  stepped_chains p (step_accepted a b d e) = step_chains y chains w reach sim p (high p a) b d e

  started_chains : (p : ℕ) (call : Call) (tag : ℕ) {m : Reply} → StartOutcome y p call tag m → ShortChains m.machine
  unfolding refuse
  started_chains p call tag (start_no_task a) = chains
  started_chains p call tag (start_running a b) = chains
  started_chains p call tag (start_withdrawn a b c) = chains
  started_chains p call tag (start_accepted a b c) = start_chains y chains p (high p a) call tag

  pub event_chains : (e : Event) → ShortChains (event y e).machine
  unfolding event
  event_chains (starts p call tag) = started_chains p call tag (start_outcome y p call tag sim.sound_now)
  event_chains (steps p) = stepped_chains p (step_outcome y p sim.sound_now)
