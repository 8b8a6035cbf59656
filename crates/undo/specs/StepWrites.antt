-- A step changes no word but those of the two records that Undo names for its line: a write changes words of the record that it names
-- alone, and a line's write names one of these two. Assumes nothing.
use Rattle.std.specs.Prelude.{ℕ, ◌+◌, ◌*◌, ◌≤◌, ◌<◌, ◌≡◌, List, [], ◌∷◌, Bool, true, false, eqb, length, if◌then◌else◌}
use Rattle.std.proofs.Math.Path.{refl, ap}
use Rattle.std.proofs.Common.{sym, arith}
use Rattle.spec.specs.declared.Task.{Task}
use Rattle.spec.specs.declared.Answer.{Answer}
use Rattle.spec.specs.declared.Answer.TheVariants.{Yes, No, Full, Done, Lost, Limit}
use Rattle.spec.specs.Lists.{member}
use Rattle.spec.specs.Machine.{Machine, with_state, with_nodes, with_buckets, with_head, with_last_node, with_last_bucket, task_of, set_task, with_own, idle}
use Rattle.spec.specs.Words.{number, filled, overwrite, node_of, bucket_of}
use Rattle.spec.specs.Words.{Write, nothing, set_head, set_place, clear_pred, freeze, put_tags, new_node, new_bucket, apply}
use Rattle.spec.specs.Sound.{node_count, bucket_count, resizes, sound}
use Rattle.spec.specs.Held.{free_node, free_bucket}
use Rattle.spec.specs.Listed.{size_of, place_of, place_for, tags_of, head_of}
use Rattle.spec.specs.Lines.{Next, on, ends, Effect, at_limit, frozen, insert_write, answer_36}
use Rattle.spec.specs.Lines.{line_12, line_13, line_15, line_16, line_17, line_18, line_20, line_24, line_27, line_28, line_32, line_33}
use Rattle.spec.specs.Lines.{insert_36, remove_36, line_36, line_39, line_40, line_43, line_44, line_46, line_47, line_48, line_52, line_49}
use Rattle.spec.specs.Lines.{line_50, line_51, all_lines, find_line, effect}
use Rattle.spec.specs.Entries.{Reply, refuse, finish, accept, step}
use Rattle.laws.specs.SoundFacts.{SoundFacts}
use Rattle.laws.specs.Sizes.{size_most}
use Rattle.laws.specs.Soundness.{sound_facts, run_of}
use Rattle.laws.specs.NodeWords.{nn_long, nn_fits}
use Rattle.laws.specs.BucketWords.{bk_long, bk_fits}
use Rattle.laws.specs.WritesKeep.{WriteSound, sound_place, sound_put, sound_new_node, sound_new_bucket}
use Rattle.laws.specs.StepRefusals.{step_sound_facts}
use Rattle.laws.specs.AfterWrites.{after_task}
use Rattle.laws.specs.CallLines.{All, every_line, pick_one, one_of_all}
use Rattle.laws.proofs.LinesKeep.{effect_sound}
use Rattle.laws.specs.EntriesKeep.{StepOutcome, step_no_task, step_idle, step_unsound, step_all_held, step_accepted, step_outcome}
use Rattle.held.specs.Held.{node_to_take, bucket_to_take}
use Rattle.held.proofs.Taking.{node_in, bucket_sound}
use Rattle.undo.specs.Undo.{node_of_line, bucket_of_line, written_node, written_bucket}
use Rattle.undo.specs.SameBut.{SameBut, same_all, set_but, over_but}

-- ---- a write names at most one record

-- the write names no record, or node k, or bucket d
abbrev pub WritesTo : ℕ → ℕ → Write → Type 0
WritesTo k d nothing = Unit {0}
WritesTo k d (set_head j) = Unit {0}
WritesTo k d (set_place j i l) = j ≡ k
WritesTo k d (clear_pred j) = j ≡ k
WritesTo k d (new_node j sz p) = j ≡ k
WritesTo k d (freeze j) = j ≡ d
WritesTo k d (put_tags j ks) = j ≡ d
WritesTo k d (new_bucket j ks) = j ≡ d

-- machine z has machine y's words but for node k and bucket d
pub record Beside (k d : ℕ) (y z : Machine) : Type 0 where
  pub nodes : SameBut (34 * k) 34 y.nodes z.nodes
  pub buckets : SameBut (66 * d) 66 y.buckets z.buckets

module _ (k d : ℕ) (y : Machine) where
  unchanged : Beside k d y y
  unchanged = record { nodes = same_all _ _ _; buckets = same_all _ _ _ }

  -- the node's words change, and the bucket's
  in_node : {z : Machine} → z.buckets ≡ y.buckets → SameBut (34 * k) 34 y.nodes z.nodes → Beside k d y z
  in_node e b = record { nodes = b; buckets = rw e (same_all _ _ _) }

  in_bucket : {z : Machine} → z.nodes ≡ y.nodes → SameBut (66 * d) 66 y.buckets z.buckets → Beside k d y z
  in_bucket e b = record { nodes = rw e (same_all _ _ _); buckets = b }

  module _ (f : SoundFacts y) where
    bucket_over : (j : ℕ) (ks : List ℕ) → j < bucket_count y → length ks ≤ 64 → j ≡ d
        → SameBut (66 * d) 66 y.buckets (overwrite y.buckets (66 * j) (bucket_of 1 ks))
    bucket_over j ks h few to =
        rw to (over_but (66 * d) 66 (bucket_of 1 ks) y.buckets
        (bk_long y.buckets (bucket_count y) f.buckets_length d (rw (← to) h) ks few)
        (bk_fits y.buckets (bucket_count y) f.buckets_length d (rw (← to) h) ks few))

    write_beside : (w : Write) → WriteSound y w → WritesTo k d w → Beside k d y (apply w y)
    unfolding apply with_state with_nodes with_buckets with_head with_last_node with_last_bucket
    write_beside nothing s to = unchanged
    write_beside (set_head j) s to = record { nodes = same_all _ _ _; buckets = same_all _ _ _ }
    write_beside (set_place j i l) (sound_place h g b) to =
        let m = size_most (f.node j h).size_ok in
        in_node refl (set_but (34 * k) 34 (34 * j + 2 + i) l y.nodes (omega arith) (omega arith))
    write_beside (clear_pred j) s to = in_node refl (set_but (34 * k) 34 (34 * j + 1) 0 y.nodes (omega arith) (omega arith))
    write_beside (freeze j) s to = in_bucket refl (set_but (66 * d) 66 (66 * j) 0 y.buckets (omega arith) (omega arith))
    write_beside (new_node j sz p) (sound_new_node h l q) to =
        in_node refl (rw to (over_but (34 * k) 34 (node_of sz p) y.nodes
        (nn_long y.nodes (node_count y) f.nodes_length k (rw (← to) h) sz p)
        (nn_fits y.nodes (node_count y) f.nodes_length k (rw (← to) h) sz p)))
    write_beside (put_tags j ks) (sound_put h few up) to = in_bucket refl (bucket_over j ks h few to)
    write_beside (new_bucket j ks) (sound_new_bucket h few up) to = in_bucket refl (bucket_over j ks h few to)

-- ---- the record taken, in sound memory

node_taken : (y : Machine) → sound y ≡ true → node_to_take y ≡ free_node y
node_taken y e = let f = sound_facts y e in let h = f.head in let g = f.H_high in node_in y (omega arith, g, f.last_node)

bucket_taken : (y : Machine) → sound y ≡ true → bucket_to_take y ≡ free_bucket y
bucket_taken y e = bucket_sound y e

-- ---- a fact of each line

infixr 4 ◌also◌
data Each (P : ℕ → Type 0) : List ℕ → Type 0 where
  done : Each P []
  ◌also◌ : {n : ℕ} {ns : List ℕ} → P n → Each P ns → Each P (n ∷ ns)

each_all : {P : ℕ → Type 0} {ns : List ℕ} → Each P ns → All P ns
each_all done = tt
each_all (p also e) = (p, each_all e)

-- ---- a line's write names the records of that line

module _ (y : Machine) (e : sound y ≡ true) (c : Task) where
  abbrev LineWrites : ℕ → Type 0
  LineWrites n = WritesTo (node_of_line n y c) (bucket_of_line n y c) (find_line n all_lines y c).write

  -- of one of two effects
  either : (k d : ℕ) (b : Bool) (g h : Effect) → WritesTo k d g.write → WritesTo k d h.write → WritesTo k d (if b then g else h).write
  either k d true g h p q = p
  either k d false g h p q = q

  in_20 : LineWrites 20
  unfolding find_line all_lines line_20
  in_20 = either _ _ (at_limit c.call (size_of y (head_of y))) _ _ tt tt

  in_27 : LineWrites 27
  unfolding find_line all_lines line_27 node_of_line
  in_27 = ap (λ (l : ℕ). number l) (sym (node_taken y e))

  in_28 : LineWrites 28
  unfolding find_line all_lines line_28
  in_28 = either _ _ (eqb (head_of y) c.t) _ _ tt tt

  in_33 : LineWrites 33
  unfolding find_line all_lines line_33
  in_33 = either _ _ (filled (place_for y c.t c.tag)) _ _ tt tt

  insert_in : (a : Answer) → WritesTo (node_of_line 36 y c) (bucket_of_line 36 y c) (insert_write y c a)
  unfolding insert_write bucket_of_line
  insert_in Yes = refl
  insert_in No = tt
  insert_in Full = tt
  insert_in Done = tt
  insert_in Lost = tt
  insert_in Limit = tt

  in_36 : LineWrites 36
  unfolding find_line all_lines line_36 insert_36 remove_36 bucket_of_line
  in_36 =
      either _ _ (frozen y c.b) _ _ tt
      (either _ _ (eqb c.call 1) _ _ (insert_in (answer_36 y c)) (either _ _ (member c.tag (tags_of y c.b)) _ _ refl tt))

  in_49 : LineWrites 49
  unfolding find_line all_lines line_49 bucket_of_line
  in_49 = ap (λ (l : ℕ). number l) (sym (bucket_taken y e))

  in_50 : LineWrites 50
  unfolding find_line all_lines line_50 node_of_line
  in_50 = either _ _ (filled (place_of y c.t c.i)) _ _ tt refl

  in_51 : LineWrites 51
  unfolding find_line all_lines line_51
  in_51 = either _ _ (resizes c.call) _ _ tt tt

  -- 12 to 18, then 20 to 28, 32 to 36, 39 to 51
  lines_in : Each LineWrites every_line
  unfolding every_line find_line all_lines node_of_line bucket_of_line line_12 line_13 line_15 line_16 line_17 line_18 line_24 line_32
      line_39 line_40 line_43 line_44 line_46 line_47 line_48 line_52
  lines_in =
      tt also tt also tt also tt also tt also tt
      also in_20 also refl also in_27 also in_28
      also tt also in_33 also in_36
      also tt also tt also tt also refl also tt also tt also refl also refl also in_49 also in_50 also in_51 also done

-- ---- a step

module _ (k d : ℕ) (y : Machine) where
  -- a task's record is no word of a pool
  task_beside : (z : Machine) (j : ℕ) (c : Task) → Beside k d y z → Beside k d y (set_task j c z)
  task_beside z j c b = let a = after_task z j c in record { nodes = rw a.nodes≡ b.nodes; buckets = rw a.buckets≡ b.buckets }

  finish_beside : (z : Machine) (j own : ℕ) (n : Next) → Beside k d y z → Beside k d y (finish z j own n).machine
  unfolding finish
  finish_beside z j own (on c) b = task_beside z j (with_own own c) b
  finish_beside z j own (ends x l) b = task_beside z j idle b

-- a step of sound memory changes no word but those of the records that its line may write
pub step_beside : (y : Machine) (k : ℕ) → sound y ≡ true
    → Beside (written_node y (task_of y k)) (written_bucket y (task_of y k)) y (step y k).machine
unfolding refuse accept effect written_node written_bucket
step_beside y k e = go (step_outcome y k e)
  where
    c : Task
    c = task_of y k

    go : {m : Reply} → StepOutcome y k m → Beside (written_node y c) (written_bucket y c) y m.machine
    go (step_no_task a) = unchanged _ _ y
    go (step_idle a b) = unchanged _ _ y
    go (step_unsound a b u) = unchanged _ _ y
    go (step_all_held a b u x) = unchanged _ _ y
    go (step_accepted a b u x) =
        let f = sound_facts y e in
        let r = run_of y f k b in
        let s = (effect_sound y f k c b r (step_sound_facts y c u) x).write_sound in
        let to = pick_one (LineWrites y e c) every_line (each_all (lines_in y e c)) c.line (one_of_all c.line c.call r.line) in
        finish_beside _ _ y _ k _ (effect y c).next (write_beside _ _ y f (effect y c).write s to)
