-- Each line of a step that is not refused leaves sound memory: its write is in order, and so is the task's next record.
-- Assumes nothing.
use Rattle.std.specs.Prelude.{ℕ, ◌+◌, ◌*◌, ◌%◌, ◌≤◌, ◌<◌, ◌≡◌, List, [], ◌∷◌, Bool, true, false, ◌||◌, ltb, ◌⊎◌, if◌then◌else◌}
use Rattle.std.proofs.Math.Path.{refl}
use Rattle.std.proofs.Common.{sym, ap, ◌∙◌, eqb-true, inr, inl}
use Rattle.std.proofs.Math.Bool.{not}
use native.Mathlib.Omega.{arith}
use Rattle.std.proofs.Math.Dec.{eqb}
use Rattle.std.proofs.Math.ListN.{length}
use Rattle.spec.specs.declared.Task.{Task}
use Rattle.spec.specs.declared.Answer.{Answer}
use Rattle.spec.specs.Lists.{member, filter, union, add_tag, remove_tag}
use Rattle.spec.specs.Machine.{Machine, with_line, with_i, with_t, with_s, with_b, with_m, with_n, with_new_node, with_new_bucket, without_places}
use Rattle.spec.specs.Words.{number, filled, Write, put_tags, new_node, apply}
use Rattle.spec.specs.Sound.{node_count, bucket_count, lines_of, resizes}
use Rattle.spec.specs.Held.{free_node, free_bucket}
use Rattle.spec.specs.Listed.{size_of, pred_of, place_of, slot, place_for, tags_of, head_of}
use Rattle.spec.specs.Lines.{answer_36, insert_write, on, writes, answers_of, frozen, at_limit, resized, gathered, line_12, line_13, line_15, line_16}
use Rattle.spec.specs.Lines.{line_17, line_18, line_32, line_33, insert_36, remove_36, line_36, line_20, line_24, line_27, line_28, line_39, after_40}
use Rattle.spec.specs.Lines.{line_40, line_43, line_44, line_46, line_47, line_48, line_52, line_49, line_50, line_51, all_lines, find_line, effect}
use Rattle.spec.specs.StepRefusals.{all_held, gains}
use Rattle.laws.specs.Tests.{At as Seen, hit, miss, bool?}
use Rattle.laws.specs.SoundFacts.{NodeLink, RunFacts, SoundFacts}
use Rattle.laws.specs.Sizes.{ListedSize, listed_is, listed_low}
use Rattle.laws.specs.Soundness.{named}
use Rattle.laws.specs.Links.{filled_true}
use Rattle.laws.specs.AfterWrites.{after_node}
use Rattle.laws.proofs.Taking.{some_node, some_bucket}
use Rattle.laws.specs.Ascending.{Rising, rising_add, rising_remove, rising_filter, rising_union, length_add, length_remove}
use Rattle.laws.specs.Listing.{head_link, slot_low, size_high, size_low}
use Rattle.spec.specs.declared.Answer.TheVariants.{Yes}
use Rattle.laws.specs.Answers.{insert_writes_nothing, gains_yes, insert_writes_tag}
use Rattle.laws.specs.StepAt.{through_t, through_s}
use Rattle.laws.specs.StepRefusals.{StepSound, not_all_held}
use Rattle.laws.specs.WritesKeep.{WriteSound, sound_put, sound_pred, sound_head, sound_freeze, sound_new_bucket, write_keeps, sound_new_node, sound_place}
use Rattle.laws.specs.CallLines.{follows, every_line, pick_one, update_lines, next_of_call, one_of_all, lookup_lines, resize_lines, lines_24}
use Rattle.laws.specs.CallLines.{lines_36, All}
use Rattle.laws.specs.TaskKeeps.{run_to, run_b, run_new_bucket, run_t, run_s, run_i, run_m, run_n, run_emptied, no_link, run_new_node}
use Rattle.laws.specs.KeptFacts.{run_kept}
use Rattle.laws.specs.EffectSound.{NextSound, EffectSound, tags_rising, place_low, sound_moves, sound_ends, place_for_low, sound_if, goes, either}
use Rattle.laws.specs.EffectSound.{pred_of_link}
use Rattle.std.proofs.Math.Nat.{mod-lt}

-- one name for all that a line's record is computed with
line_definitions : ℕ
unfolding follows update_lines lookup_lines resize_lines member with_line with_i with_t with_s with_b with_m with_n with_new_node with_new_bucket without_places
line_definitions = 0

module _ (y : Machine) (f : SoundFacts y) (k : ℕ) (c : Task) (going : c.running ≡ true) (r : RunFacts y k c) (u : StepSound y c)
    (x : all_held y c ≡ false) where
  pub at : (ls : List ℕ) (n : ℕ) → member n ls ≡ true → c.line ≡ n → member c.line ls ≡ true
  at ls n h e = ap (λ (m : ℕ). member m ls) e ∙ h

  mine_at : (n : ℕ) → c.line ≡ n → member n (lines_of c.call) ≡ true
  mine_at n e = ap (λ (m : ℕ). member m (lines_of c.call)) (sym e) ∙ r.line

  next_line : (n m : ℕ) → follows n m ≡ true → c.line ≡ n → member m (lines_of c.call) ≡ true
  next_line n m h e = next_of_call n m c.call h (mine_at n e)

  sound_writes : (w : Write) (d : Task) → WriteSound y w → NextSound y k (on d) → EffectSound y k (writes w d)
  sound_writes w d a g = let z = write_keeps y f w a in record { write_sound = a; next = (g.0, run_kept y (apply w y) z.same z.sized k d g.1) }

  t_filled : (n : ℕ) → member n through_t ≡ true → c.line ≡ n → ¬ (c.t ≡ 0)
  t_filled n h e = u.t (at through_t n h e)

  s_filled : (n : ℕ) → member n through_s ≡ true → c.line ≡ n → ¬ (c.s ≡ 0)
  s_filled n h e = u.s (at through_s n h e)

  sound_line_12 : c.line ≡ 12 → EffectSound y k (line_12 y c)
  unfolding line_12 line_definitions
  sound_line_12 e = sound_moves y k _ (goes going (run_to y k (with_t (head_of y) c) (run_t y k c r (head_of y) (head_link y f)) 13 (next_line 12 13 refl e)))

  sound_line_13 : c.line ≡ 13 → EffectSound y k (line_13 y c)
  unfolding line_13 line_definitions
  sound_line_13 e =
      let b = place_for y c.t c.tag in
      sound_moves y k _ (goes going (run_to y k (with_b b c) (run_b y k c r b (place_for_low y f c.t r.t (t_filled 13 refl e) c.tag))
      (if filled b then 18 else 15)
      (either (filled b) 18 15 (lines_of c.call) (next_line 13 18 refl e) (next_line 13 15 refl e))))

  sound_line_15 : c.line ≡ 15 → EffectSound y k (line_15 y c)
  unfolding line_15 line_definitions
  sound_line_15 e =
      let s = pred_of y c.t in
      sound_moves y k _ (goes going (run_to y k (with_s s c) (run_s y k c r s (pred_of_link y f c.t r.t (t_filled 15 refl e)))
      (if filled s then 16 else 17)
      (either (filled s) 16 17 (lines_of c.call) (next_line 15 16 refl e) (next_line 15 17 refl e))))

  sound_line_16 : c.line ≡ 16 → EffectSound y k (line_16 y c)
  unfolding line_16 line_definitions
  sound_line_16 e =
      let b = place_for y c.s c.tag in
      sound_moves y k _ (goes going (run_to y k (with_b b c) (run_b y k c r b (place_for_low y f c.s r.s (s_filled 16 refl e) c.tag)) 18
      (next_line 16 18 refl e)))

  sound_line_17 : c.line ≡ 17 → EffectSound y k (line_17 y c)
  unfolding line_17 line_definitions
  sound_line_17 e =
      let b = place_for y c.t c.tag in
      sound_moves y k _ (goes going (run_to y k (with_b b c) (run_b y k c r b (place_for_low y f c.t r.t (t_filled 17 refl e) c.tag)) 18
      (next_line 17 18 refl e)))

  sound_line_18 : c.line ≡ 18 → EffectSound y k (line_18 y c)
  unfolding line_18
  sound_line_18 e = sound_ends y k _ _

  sound_line_32 : c.line ≡ 32 → EffectSound y k (line_32 y c)
  unfolding line_32 line_definitions
  sound_line_32 e = sound_moves y k _ (goes going (run_to y k (with_t (head_of y) c) (run_t y k c r (head_of y) (head_link y f)) 33 (next_line 32 33 refl e)))

  sound_line_33 : c.line ≡ 33 → EffectSound y k (line_33 y c)
  unfolding line_33 line_definitions
  sound_line_33 e =
      let b = place_for y c.t c.tag in
      let i = slot y.state.config c.tag (size_of y c.t) in
      let d = t_filled 33 refl e in
      let i-low = slot_low y f c.t r.t d c.tag in
      let sz = size_high y f c.t r.t d in
      let rb = run_b y k c r b (place_for_low y f c.t r.t d c.tag) in
      sound_if y k (filled b) _ _
      (λ q. sound_moves y k _ (goes going (run_to y k (with_b b c) rb 36 (next_line 33 36 refl e))))
      (λ q. sound_moves y k _ (goes going (run_to y k (with_i i (with_b b c)) (run_i y k (with_b b c) rb i (omega arith)) 39 (next_line 33 39 refl e))))

  b_rising : c.line ≡ 36 → Rising (tags_of y c.b)
  unfolding member
  b_rising e = tags_rising y f c.b r.b (u.b (at (18 ∷ 36 ∷ []) 36 refl e))

  b_long : c.line ≡ 36 → length (tags_of y c.b) ≤ 64
  unfolding member tags_of
  b_long e =
      let d = u.b (at (18 ∷ 36 ∷ []) 36 refl e) in
      let h = r.b in
      let g = f.bucket (number c.b) (omega arith) in
      rw g.long g.few

  b_below : c.line ≡ 36 → number c.b < bucket_count y
  unfolding member
  b_below e = let d = u.b (at (18 ∷ 36 ∷ []) 36 refl e) in let h = r.b in omega arith

  sound_put_36 : (ks : List ℕ) (a : Answer) → c.line ≡ 36 → length ks ≤ 64 → Rising ks → EffectSound y k (answers_of c.b (put_tags (number c.b) ks) a)
  sound_put_36 ks a e few up = record { write_sound = sound_put (b_below e) few up; next = tt }

  sound_insert : c.line ≡ 36 → frozen y c.b ≡ false → c.call ≡ 1 → EffectSound y k (insert_36 y c)
  unfolding insert_36
  sound_insert e z q = go (answer_36 y c) (u.room e z q) (bool? _)
    where
      go : (a : Answer) → (a ≡ Yes → length (tags_of y c.b) < 64) → (gains a ≡ true) ⊎ (gains a ≡ false)
          → EffectSound y k (answers_of c.b (insert_write y c a) a)
      go a room (inr g) = rw (insert_writes_nothing y c a g) (sound_ends y k a _)
      go a room (inl g) =
          let h = room (gains_yes a g) in
          let long = length_add c.tag (tags_of y c.b) in
          rw (insert_writes_tag y c a (gains_yes a g))
          (sound_put_36 (add_tag c.tag (tags_of y c.b)) a e (omega arith) (rising_add c.tag (tags_of y c.b) (b_rising e)))

  sound_remove : c.line ≡ 36 → EffectSound y k (remove_36 y c)
  unfolding remove_36
  sound_remove e = sound_if y k (member c.tag (tags_of y c.b)) _ _
      (λ t.
      let long = length_remove c.tag (tags_of y c.b) in
      let was = b_long e in
      sound_put_36 (remove_tag c.tag (tags_of y c.b)) _ e (omega arith) (rising_remove c.tag (tags_of y c.b) (b_rising e)))
      (λ t. sound_ends y k _ _)

  sound_line_36 : c.line ≡ 36 → EffectSound y k (line_36 y c)
  unfolding line_36 line_definitions
  sound_line_36 e = sound_if y k (frozen y c.b) _ _
      (λ z. sound_moves y k _
      (goes going (run_to y k (with_i 0 (without_places c)) (run_i y k (without_places c) (run_emptied y k c r) 0 (omega arith)) 32 (next_line 36 32 refl e))))
      (λ z. sound_if y k (eqb c.call 1) _ _ (λ q. sound_insert e z (eqb-true c.call 1 q)) (λ q. sound_remove e))

  sound_line_20 : c.line ≡ 20 → EffectSound y k (line_20 y c)
  unfolding line_20 line_definitions
  sound_line_20 e = sound_if y k (at_limit c.call (size_of y (head_of y))) _ _ (λ q. sound_ends y k _ _)
      (λ q. sound_moves y k _
      (goes going (run_to y k (with_i 0 (with_t (head_of y) c))
      (run_i y k (with_t (head_of y) c) (run_t y k c r (head_of y) (head_link y f)) 0 (omega arith)) 39
      (next_line 20 39 refl e))))

  sound_line_24 : c.line ≡ 24 → EffectSound y k (line_24 y c)
  unfolding line_24 line_definitions
  sound_line_24 e =
      sound_writes _ _ (sound_pred (named y f c.t r.t (t_filled 24 refl e)).below) (goes going (run_to y k c r 27 (next_line 24 27 refl e)))

  sound_line_27 : c.line ≡ 27 → EffectSound y k (line_27 y c)
  unfolding line_27 line_definitions
  sound_line_27 e =
      let n = free_node y in
      let sz = resized c.call (size_of y c.t) in
      let taken = some_node y f ((not_all_held y c x).0 e) in
      let is = taken.1 in
      let below : number n < node_count y = (let q = taken.2 in omega arith) in
      let listed = listed_is sz (u.size e) in
      let fair : WriteSound y (new_node (number n) sz c.t) = sound_new_node below listed r.t in
      let z = write_keeps y f (new_node (number n) sz c.t) fair in
      let w = apply (new_node (number n) sz c.t) y in
      let kept = run_kept y w z.same z.sized k c r in
      let linked : NodeLink w n = record {
        within = rw z.same.H≡ (omega arith);
        sized = λ d. new_sized sz listed
            ((after_node y f.nodes_length (number n) below sz c.t).size_at (number n));
      } in
      record { write_sound = fair; next = goes going (run_to w k (with_new_node n c) (run_new_node w k c kept n linked) 28 (next_line 27 28 refl e)) }
    where
      new_sized : (sz : ℕ) → ListedSize sz → {j v u : ℕ} → Seen (j ≡ j) sz v u → ¬ (u ≡ 0)
      new_sized sz l (hit p q) o = let h = listed_low l in omega arith
      new_sized sz l (miss p q) o = absurd (p refl)

  sound_line_28 : c.line ≡ 28 → EffectSound y k (line_28 y c)
  unfolding line_28 line_definitions
  sound_line_28 e =
      let d = u.new_node (at (28 ∷ []) 28 refl e) in
      sound_if y k (eqb (head_of y) c.t) _ _
      (λ q. record { write_sound = sound_head (named y f c.new_node r.new_node d).below (r.new_node.sized d); next = tt })
      (λ q. sound_ends y k _ _)

  i_place : (n : ℕ) → member n (39 ∷ 50 ∷ 51 ∷ []) ≡ true → member n through_t ≡ true → c.line ≡ n → place_of y c.t c.i ≤ bucket_count y
  i_place n h g e =
      let d = t_filled n g e in
      let i = u.i_t (at (39 ∷ 50 ∷ 51 ∷ []) n h e) in
      let sz = size_high y f c.t r.t d in
      place_low y f c.t r.t d c.i (omega arith)

  sound_line_39 : c.line ≡ 39 → EffectSound y k (line_39 y c)
  unfolding line_39 line_definitions
  sound_line_39 e =
      let b = place_of y c.t c.i in
      sound_moves y k _ (goes going (run_to y k (with_b b c) (run_b y k c r b (i_place 39 refl refl e)) 40 (next_line 39 40 refl e)))

  sound_line_40 : c.line ≡ 40 → EffectSound y k (line_40 y c)
  unfolding line_40 line_definitions after_40
  sound_line_40 e =
      let s = pred_of y c.t in
      sound_moves y k _ (goes going (run_to y k (with_s s c) (run_s y k c r s (pred_of_link y f c.t r.t (t_filled 40 refl e))) (after_40 y c s)
      (either (filled c.b || not (filled s)) 51 (if eqb (size_of y c.t) (2 * size_of y s) then 43 else 46) (lines_of c.call) (next_line 40 51 refl e)
      (either (eqb (size_of y c.t) (2 * size_of y s)) 43 46 (lines_of c.call) (next_line 40 43 refl e) (next_line 40 46 refl e)))))

  sound_line_43 : c.line ≡ 43 → EffectSound y k (line_43 y c)
  unfolding line_43 line_definitions
  sound_line_43 e =
      let d = s_filled 43 refl e in
      let i : c.i % size_of y c.s < size_of y c.s = mod-lt c.i (size_low y f c.s r.s d) in
      let sz = size_high y f c.s r.s d in
      let m = place_of y c.s (c.i % size_of y c.s) in
      sound_moves y k _ (goes going (run_to y k (with_m m c) (run_m y k c r m (place_low y f c.s r.s d (c.i % size_of y c.s) (omega arith))) 44
      (next_line 43 44 refl e)))

  m_below : (n : ℕ) → member n (44 ∷ 48 ∷ 49 ∷ []) ≡ true → c.line ≡ n → number c.m < bucket_count y
  m_below n h e = let d = u.m (at (44 ∷ 48 ∷ 49 ∷ []) n h e) in let b = r.m in omega arith

  sound_line_44 : c.line ≡ 44 → EffectSound y k (line_44 y c)
  unfolding line_44 line_definitions
  sound_line_44 e = sound_writes _ _ (sound_freeze (m_below 44 refl e)) (goes going (run_to y k c r 49 (next_line 44 49 refl e)))

  sound_line_46 : c.line ≡ 46 → EffectSound y k (line_46 y c)
  unfolding line_46 line_definitions
  sound_line_46 e =
      let d = s_filled 46 refl e in
      let i = u.i_s (at (46 ∷ []) 46 refl e) in
      let sz = size_high y f c.s r.s d in
      let m = place_of y c.s c.i in
      sound_moves y k _ (goes going (run_to y k (with_m m c) (run_m y k c r m (place_low y f c.s r.s d c.i (omega arith))) 47
      (next_line 46 47 refl e)))

  sound_line_47 : c.line ≡ 47 → EffectSound y k (line_47 y c)
  unfolding line_47 line_definitions
  sound_line_47 e =
      let d = s_filled 47 refl e in
      let i = u.i_st (at (47 ∷ []) 47 refl e) in
      let sz = size_high y f c.s r.s d in
      let n = place_of y c.s (c.i + size_of y c.t) in
      sound_moves y k _ (goes going (run_to y k (with_n n c) (run_n y k c r n (place_low y f c.s r.s d (c.i + size_of y c.t) (omega arith))) 48
      (next_line 47 48 refl e)))

  sound_line_48 : c.line ≡ 48 → EffectSound y k (line_48 y c)
  unfolding line_48 line_definitions
  sound_line_48 e = sound_writes _ _ (sound_freeze (m_below 48 refl e)) (goes going (run_to y k c r 52 (next_line 48 52 refl e)))

  sound_line_52 : c.line ≡ 52 → EffectSound y k (line_52 y c)
  unfolding line_52 line_definitions
  sound_line_52 e =
      let d = u.n (at (52 ∷ []) 52 refl e) in
      let b = r.n in
      sound_writes _ _ (sound_freeze (omega arith)) (goes going (run_to y k c r 49 (next_line 52 49 refl e)))

  rising_gathered : c.line ≡ 49 → Rising (gathered y c)
  unfolding gathered member
  rising_gathered e = go (filled c.n) refl
    where
      up : Rising (tags_of y c.m)
      up = tags_rising y f c.m r.m (u.m (at (44 ∷ 48 ∷ 49 ∷ []) 49 refl e))

      go : (b : Bool) → filled c.n ≡ b
          → Rising (if b then union (tags_of y c.m) (tags_of y c.n)
          else filter (λ k. eqb (slot y.state.config k (size_of y c.t)) c.i) (tags_of y c.m))
      go true q = rising_union (tags_of y c.m) (tags_of y c.n) (tags_rising y f c.n r.n (filled_true c.n q))
      go false q = rising_filter _ (tags_of y c.m) up

  sound_line_49 : c.line ≡ 49 → EffectSound y k (line_49 y c)
  unfolding line_49 line_definitions
  sound_line_49 e =
      let n = free_bucket y in
      let taken = some_bucket y f ((not_all_held y c x).1 e) in
      let is = taken.1 in
      let q = taken.2 in
      sound_writes _ _ (sound_new_bucket (omega arith) (u.few e) (rising_gathered e))
      (goes going (run_to y k (with_new_bucket n c) (run_new_bucket y k c r n (omega arith)) 50 (next_line 49 50 refl e)))

  sound_line_50 : c.line ≡ 50 → EffectSound y k (line_50 y c)
  unfolding line_50 line_definitions size_of
  sound_line_50 e =
      let g = goes going (run_to y k c r 51 (next_line 50 51 refl e)) in
      let d = t_filled 50 refl e in
      let i = u.i_t (at (39 ∷ 50 ∷ 51 ∷ []) 50 refl e) in
      sound_if y k (filled (place_of y c.t c.i)) _ _ (λ q. sound_moves y k _ g)
      (λ q. sound_writes _ _ (sound_place (named y f c.t r.t d).below i r.new_bucket) g)

  sound_line_51 : c.line ≡ 51 → EffectSound y k (line_51 y c)
  unfolding line_51 line_definitions
  sound_line_51 e =
      let d = t_filled 51 refl e in
      let i = u.i_t (at (39 ∷ 50 ∷ 51 ∷ []) 51 refl e) in
      let sz = size_high y f c.t r.t d in
      let c₁ = with_new_bucket 0 c in
      let r₁ = run_new_bucket y k c r 0 (omega arith) in
      let c₂ = with_n 0 c₁ in
      let r₂ = run_n y k c₁ r₁ 0 (omega arith) in
      let c₃ = with_m 0 c₂ in
      let r₃ = run_m y k c₂ r₂ 0 (omega arith) in
      let c₄ = with_s 0 c₃ in
      let r₄ = run_s y k c₃ r₃ 0 (no_link y) in
      let c₅ = with_b 0 c₄ in
      let r₅ = run_b y k c₄ r₄ 0 (omega arith) in
      sound_if y k (resizes c.call) _ _
      (λ q. sound_moves y k _ (goes going (run_to y k (with_i (c.i + 1) c₅) (run_i y k c₅ r₅ (c.i + 1) (omega arith)) _
      (either (ltb (c.i + 1) (size_of y c.t)) 39 24 (lines_of c.call) (next_line 51 39 refl e) (lines_24 c.call q)))))
      (λ q. sound_moves y k _ (goes going (run_to y k (with_b (place_of y c.t c.i) c₅)
      (run_b y k c₅ r₅ (place_of y c.t c.i) (i_place 51 refl refl e)) 36
      (lines_36 c.call (mine_at 51 e) q))))

  abbrev LineSound : ℕ → Type 0
  LineSound n = c.line ≡ n → EffectSound y k (find_line n all_lines y c)

  lines_sound : All LineSound every_line
  unfolding every_line find_line all_lines
  lines_sound = (
    sound_line_12,
    (
      sound_line_13,
      (
        sound_line_15,
        (
          sound_line_16,
          (
            sound_line_17,
            (
              sound_line_18,
              (
                sound_line_20,
                (
                  sound_line_24,
                  (
                    sound_line_27,
                    (
                      sound_line_28,
                      (
                        sound_line_32,
                        (
                          sound_line_33,
                          (
                            sound_line_36,
                            (
                              sound_line_39,
                              (
                                sound_line_40,
                                (
                                  sound_line_43,
                                  (
                                    sound_line_44,
                                    (
                                      sound_line_46,
                                      (sound_line_47, (sound_line_48, (sound_line_52, (sound_line_49, (sound_line_50, (sound_line_51, tt)))))),
                                    ),
                                  ),
                                ),
                              ),
                            ),
                          ),
                        ),
                      ),
                    ),
                  ),
                ),
              ),
            ),
          ),
        ),
      ),
    ),
  )

  pub effect_sound : EffectSound y k (effect y c)
  unfolding effect
  effect_sound = pick_one LineSound every_line lines_sound c.line (one_of_all c.line c.call r.line) refl
