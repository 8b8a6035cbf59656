-- Refusal 8 of a step, readable: the step is not refused with 8 exactly if the facts of one record hold. Each is a row of the table in
-- StepAt. And refusal 7. Assumes nothing.
use Rattle.std.specs.Prelude.{◌+◌, ◌≤◌, ◌<◌, ◌≡◌, ◌↔◌, ◌⊎◌, [], ◌∷◌, leb, eqb, length}
use Rattle.std.proofs.Common.{inl, inr, arith}
use Rattle.std.proofs.Math.Bool.{true, false, not}
use borrow.Author.Tests.{eqb-true, eq-eqb, leb-true, leb-false, not-true}
use Rattle.spec.specs.declared.Task.{Task}
use Rattle.spec.specs.declared.Answer.TheVariants.{Yes}
use Rattle.spec.specs.Lists.{member}
use Rattle.spec.specs.Machine.{Machine}
use Rattle.spec.specs.Sound.{listed_size}
use Rattle.spec.specs.Listed.{size_of, tags_of}
use Rattle.spec.specs.Held.{free_node, free_bucket}
use Rattle.spec.specs.Lines.{answer_36, frozen, resized, gathered}
use Rattle.spec.specs.StepRefusals.{gains, overfull_36, unsound_step, all_held}
use Rattle.laws.specs.Tests.{bool?, tf, and4, and4_i}
use Rattle.laws.specs.Answers.{gains_yes}
use Rattle.laws.specs.StepAt.{through_t, through_s, no_more, ◌also◌, row_of, refusals, step_sound_row, rows_step_sound, step_table, taken_at}

pub record StepSound (y : Machine) (c : Task) : Type 0 where
  -- the places that the line goes through are filled
  pub t : member c.line through_t ≡ true → ¬ (c.t ≡ 0)
  pub s : member c.line through_s ≡ true → ¬ (c.s ≡ 0)
  pub b : member c.line (18 ∷ 36 ∷ []) ≡ true → ¬ (c.b ≡ 0)
  pub m : member c.line (44 ∷ 48 ∷ 49 ∷ []) ≡ true → ¬ (c.m ≡ 0)
  pub n : member c.line (52 ∷ []) ≡ true → ¬ (c.n ≡ 0)
  pub new_node : member c.line (28 ∷ []) ≡ true → ¬ (c.new_node ≡ 0)
  pub new_bucket : member c.line (50 ∷ []) ≡ true → ¬ (c.new_bucket ≡ 0)
  -- the places that it uses are below their node's size
  pub i_t : member c.line (39 ∷ 50 ∷ 51 ∷ []) ≡ true → c.i < size_of y c.t
  pub i_s : member c.line (46 ∷ []) ≡ true → c.i < size_of y c.s
  pub i_st : member c.line (47 ∷ []) ≡ true → c.i + size_of y c.t < size_of y c.s
  -- an insert that line 36 answers with yes finds room in a bucket that may change, and line 49 makes a bucket of at most 64 tags
  pub room : c.line ≡ 36 → frozen y c.b ≡ false → c.call ≡ 1 → answer_36 y c ≡ Yes → length (tags_of y c.b) < 64
  pub few : c.line ≡ 49 → length (gathered y c) ≤ 64
  -- line 27 makes a node of a listed size
  pub size : c.line ≡ 27 → listed_size (resized c.call (size_of y c.t)) ≡ true

module _ (y : Machine) (c : Task) where
  -- ---- the room of line 36

  pub room_36 : overfull_36 y c ≡ false → frozen y c.b ≡ false → c.call ≡ 1 → answer_36 y c ≡ Yes → length (tags_of y c.b) < 64
  unfolding overfull_36
  room_36 e z q a = go (bool? (leb 64 (length (tags_of y c.b))))
    where
      may_change : not (frozen y c.b) ≡ true
      may_change = rw z

      gaining : gains (answer_36 y c) ≡ true
      gaining = rw a

      go : (leb 64 (length (tags_of y c.b)) ≡ true) ⊎ (leb 64 (length (tags_of y c.b)) ≡ false) → length (tags_of y c.b) < 64
      go (inl t) = absurd (tf (and4_i _ _ _ _ may_change (eq-eqb c.call 1 q) t gaining) e)
      go (inr t) = leb-false 64 (length (tags_of y c.b)) t

  pub has_room_36 : (frozen y c.b ≡ false → c.call ≡ 1 → answer_36 y c ≡ Yes → length (tags_of y c.b) < 64) → overfull_36 y c ≡ false
  unfolding overfull_36
  has_room_36 h = go (bool? (overfull_36 y c))
    where
      go : (overfull_36 y c ≡ true) ⊎ (overfull_36 y c ≡ false) → overfull_36 y c ≡ false
      go (inr t) = t
      go (inl t) =
          let p = and4 (not (frozen y c.b)) (eqb c.call 1) (leb 64 (length (tags_of y c.b))) (gains (answer_36 y c)) t in
          let l = h (not-true (frozen y c.b) p.0) (eqb-true c.call 1 p.1) (gains_yes (answer_36 y c) p.3) in
          let g = leb-true 64 (length (tags_of y c.b)) p.2 in
          absurd (omega arith)

  -- ---- the rows of the table, by name

  pub step_sound_facts : unsound_step y c ≡ false → StepSound y c
  unfolding row_of refusals
  step_sound_facts e =
      let row = step_sound_row y c e in
      record {
        t = row 0;
        s = row 1;
        b = row 2;
        m = row 3;
        n = row 4;
        new_node = row 5;
        new_bucket = row 6;
        i_t = row 7;
        i_s = row 8;
        i_st = row 9;
        room = λ h. room_36 (row 10 (eq-eqb c.line 36 h));
        few = λ h. row 11 (eq-eqb c.line 49 h);
        size = λ h. row 12 (eq-eqb c.line 27 h);
      }

  pub facts_step_sound : StepSound y c → unsound_step y c ≡ false
  unfolding row_of refusals
  facts_step_sound u = rows_step_sound y c
      (u.t also u.s also u.b also u.m also u.n also u.new_node also u.new_bucket also u.i_t also u.i_s also u.i_st
      also (λ h. has_room_36 (u.room (eqb-true c.line 36 h))) also (λ h. u.few (eqb-true c.line 49 h))
      also (λ h. u.size (eqb-true c.line 27 h)) also no_more)

  pub step_sound_iff : (unsound_step y c ≡ false) ↔ StepSound y c
  step_sound_iff = (step_sound_facts, facts_step_sound)

  -- ---- refusal 7

  pub not_all_held : all_held y c ≡ false → ((c.line ≡ 27) → ¬ (free_node y ≡ 0)) × ((c.line ≡ 49) → ¬ (free_bucket y ≡ 0))
  unfolding step_table
  not_all_held e = ((λ at. taken_at y c 27 at e), (λ at. taken_at y c 49 at e))
