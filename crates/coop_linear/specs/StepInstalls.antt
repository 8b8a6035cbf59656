-- Line 140 takes a version that nobody names and makes it the bucket's: in the model, the next in order. Assumes nothing.
use Prim.Native.Nat.{◌+◌, ◌<◌, ◌≤◌, suc, ℕ}
use Rattle.std.specs.Prelude.{List, ◌⊎◌, ◌≡◌, length, Ok}
use Rattle.std.proofs.Common.{inl, ◌∙◌, subst, sym, le_refl, arith}
use Rattle.std.proofs.Math.Path.{ap, refl}
use Rattle.spec.specs.Words.{number}
use Rattle.laws.specs.Ascending.{Rising}
use Rattle.laws.specs.Tests.{at_miss}
use Rattle.coop_spec.specs.Atomic.{AtomicCall, Operations, change, changed}
use Rattle.coop_spec.specs.Held.{free_version}
use Rattle.coop_spec.specs.History.{Occurrence}
use Rattle.coop_spec.specs.Machine.{Machine, operation_of, set_task, with_node, with_own, with_state, with_task, with_versions}
use Rattle.coop_spec.specs.Words.{apply, current, install, op_word}
use Rattle.coop_spec.specs.declared.Task.{Task}
use Rattle.coop_linear.specs.Effects.{Effects, an_install, claims_none, installs_one, no_claim}
use Rattle.coop_laws.specs.FactsKept.{install_kept}
use Rattle.coop_model.specs.Functions.{changed_other}
use Rattle.coop_model.specs.Heap.{Heap, advance, nil, op}
use Rattle.coop_laws.specs.Held.{HeldVersion}
use Rattle.coop_model.specs.Invariant.{Invariant}
use Rattle.coop_model.specs.Lines.{Line}
use Rattle.coop_linear.specs.Named.{KnownIn}
use Rattle.coop_model.specs.Orders.{bucket_after}
use Rattle.coop_model.specs.Positions.{Position, call_at, runs}
use Rattle.coop_linear.specs.Represents.{Represents, field_word}
use Rattle.coop_model.specs.Room.{room}
use Rattle.coop_model.specs.Runs.{Configuration}
use Rattle.coop_linear.specs.Simulates.{Simulates}
use Rattle.coop_laws.specs.SoundFacts.{MemoryFacts}
use Rattle.coop_linear.specs.StepOutcome.{Stepped, known_held, line_on, next_unknown, one_more}
use Rattle.coop_linear.specs.StepPuts.{word_now}
use Rattle.coop_model.specs.Tags.{after_rises}
use Rattle.coop_laws.specs.Taken.{taken_number}
use Rattle.coop_linear.specs.TaskImages.{task_image}
use Rattle.coop_laws.specs.VersionWords.{new_first}
use Rattle.coop_linear.specs.WritesRepresented.{install_represented}
use Rattle.coop_spec.specs.declared.Progress.TheVariants as Outs

module _ {T : Operations} {y : Machine} {w : Configuration} (sim : Simulates T y w.heap w.position) {L : List Occurrence} (i : Invariant T w L) where
  module _ (p : ℕ) (c : AtomicCall) (r : call_at (w.position p) ≡ runs c) (own steps : ℕ) where
    -- ---- line 140: the next version is installed

    module _ (o m : ℕ) (now : o ≡ w.heap.current) (op≡ : w.heap.op_at o ≡ op m) (free : ¬ (free_version y ≡ 0)) where
      abbrev pub place : ℕ → ℕ
      place = changed sim.slot (suc w.heap.current) (number (free_version y))

      now_op : w.heap.op_at w.heap.current ≡ op m
      now_op = ap w.heap.op_at (sym now) ∙ op≡

      pub new_below : number (free_version y) < y.state.versions
      new_below = (taken_number y sim.memory.versions_low sim.memory.last_below free).0

      pub away : (v : ℕ) → KnownIn w v → ¬ (sim.slot v ≡ number (free_version y))
      away v k e = (taken_number y sim.memory.versions_low sim.memory.last_below free).1 (subst (HeldVersion y) e (known_held sim i v k))

      pub few : length (change T m (w.heap.set o)) ≤ 64
      few = rw now (room T w.heap (bucket_after T L) i.heap m now_op)

      rises : Rising (change T m (w.heap.set o))
      rises = after_rises (T.inserts m) (T.tag m) (w.heap.set o) (i.heap.rising o)

      pub bare : w.heap.op_at (suc w.heap.current) ≡ nil
      bare = i.heap.ahead_nil (suc w.heap.current) (le_refl _)

      pub place_same : (v : ℕ) → KnownIn w v → place v ≡ sim.slot v
      place_same v k = changed_other sim.slot (suc w.heap.current) (number (free_version y)) v (λ q. next_unknown sim i (subst (KnownIn w) q k))

      abbrev pub installed : Machine
      installed = apply (install (number (free_version y)) (change T m (w.heap.set o))) y

      pub install_rep : Represents T installed (advance (change T m (w.heap.set o)) w.heap) (λ v. (v ≡ suc w.heap.current) ⊎ KnownIn w v) place
      install_rep =
          install_represented sim.rep (number (free_version y)) new_below away (next_unknown sim i) bare (change T m (w.heap.set o)) few

      pub install_memory : MemoryFacts installed
      install_memory =
          install_kept sim.memory sim.rep.length_right (number (free_version y)) new_below (change T m (w.heap.set o)) few rises

      -- the old version keeps its first word
      pub old_word : op_word installed (current y) ≡ op_word y (current y)
      unfolding apply with_node with_versions with_state op_word
      old_word =
          at_miss (λ e. away w.heap.current (inl refl) (sym sim.rep.same_node ∙ e))
          (new_first y.versions y.state.versions sim.rep.length_right (number (free_version y)) new_below (change T m (w.heap.set o)) few
          (current y))

      -- its operation makes the new one
      pub install_effects : (g : Heap) (z : Machine) (d : Task) → ((v k : ℕ) → w.heap.op_at v ≡ op k → g.op_at v ≡ op k) → w.heap.current < g.current
          → z.state.node ≡ number (free_version y) → op_word z (current y) ≡ op_word y (current y)
          → Effects y (set_task p d z) w.heap g
      unfolding set_task with_task with_state op_word
      install_effects g z d s b e f =
          let word : op_word y (current y) ≡ m + 2 = word_now sim i p c r own steps ∙ ap field_word now_op in
          record {
            op_stays = s;
            grows = omega arith;
            claimed = no_claim (claims_none y (set_task p d z) (λ q. q.1 f));
            installed =
                an_install m (installs_one y (set_task p d z) m (λ q. away w.heap.current (inl refl) (sym sim.rep.same_node ∙ q ∙ e)) word) now_op b;
          }

      pub case_advances : {l l' : Position} → w.position p ≡ l → Line T w.heap l (advance (change T m (w.heap.set o)) w.heap) l'
          → Stepped T y w p (record {
            out = Ok (Outs.At (task_image T sim.slot own l').line);
            machine = set_task p (with_own (one_more steps) (task_image T sim.slot own l')) installed;
          })
      unfolding apply with_node with_versions with_state operation_of
      case_advances {l' = l'} e t =
          line_on sim i p c r own steps e t installed place (λ v. (v ≡ suc w.heap.current) ⊎ KnownIn w v) install_rep (λ v k. k)
          install_memory refl refl place_same (λ n d. d) (λ n x. x)
          (install_effects (advance (change T m (w.heap.set o)) w.heap) installed
          (with_own (one_more steps) (task_image T sim.slot own l')) (λ v k x. x) (omega arith) refl old_word)
