-- Laws of line 36 and of what a bucket that is not frozen answers.
-- Assumes nothing.
use Rattle.std.specs.Prelude.{if◌then◌else◌}
use mathlib.Core.Path.{◌≡◌, refl, ◌∙◌}
use mathlib.Core.List.{List}
use mathlib.Core.Bool.{Bool, true, false, not, ◌&&◌, and-false}
use Prim.Native.Nat.{ℕ, ◌+◌, ◌*◌, ◌<◌, ◌≤◌}
use native.Mathlib.Omega.{arith}
use borrow.Author.Tests.{eq-eqb, ne_eqb}
use lib.Dec.{leb, eqb}
use lib.ListN.{length}
use Rattle.spec.specs.declared.Refusal.TheVariants.{Spoilt}
use Rattle.spec.specs.Lists.{member, add_tag, remove_tag}
use Rattle.spec.specs.Machine.{Machine, with_line, with_i, without_places}
use Rattle.spec.specs.declared.Task.{Task}
use Rattle.spec.specs.declared.Answer.TheVariants as ans
use Rattle.spec.specs.Words.{number, changeable, tags, overwrite, bucket_of, nothing, put_tags}
use Rattle.spec.specs.Listed.{tags_of, listed}
use Rattle.laws.specs.Answers.{insert_full, insert_no, insert_yes}
use Rattle.laws.specs.StepAt.{step_table, here, next, accepted, refused_8}
use Rattle.spec.specs.Lines.{answer_36, insert_write, moves, answers_of, insert_36, remove_36, line_36, frozen}
use Rattle.spec.specs.StepRefusals.{overfull_36}
use Rattle.spec.specs.Entries.{refuse, accept, step_running}
use Rattle.bucket.specs.declared.Response.{Response}
use Rattle.bucket.specs.declared.Response.TheVariants.{Yes, No}
use Rattle.pool.specs.Pool.{add_words, remove_answer, remove_words}
use Rattle.lines_apply.specs.Invokes.{Invokes}

-- ---- the task's bucket

module _ {k : ℕ} {c : Task} {bs : List ℕ} (v : Invokes k c bs) where
  pub filled : c.b ≡ 0 → ⊥
  filled z = omega (arith, v.there)

  pub fits : 66 * number c.b + 66 ≤ length bs
  fits = omega (arith, v.there, v.fits)

-- ---- what a bucket that is not frozen answers, and what it leaves

-- the pool in which bucket k has gained a tag
abbrev pub gained : List ℕ → ℕ → ℕ → List ℕ
gained w k x = overwrite w (66 * k) (bucket_of 1 (add_tag x (tags w k)))

module _ (w : List ℕ) (k x : ℕ) (nf : changeable w k ≡ 0 → ⊥) where
  -- an absent tag is added where there is room
  pub adds : member x (tags w k) ≡ false → leb 64 (length (tags w k)) ≡ false → add_words w k x ≡ gained w k x
  unfolding add_words
  adds m l = rw (ne_eqb _ _ nf, m, l)

  pub data Removes : Response → List ℕ → Type 0 where
    loses : member x (tags w k) ≡ true → Removes Yes (overwrite w (66 * k) (bucket_of 1 (remove_tag x (tags w k))))
    lacks : member x (tags w k) ≡ false → Removes No w

  pub removes : Removes (remove_answer w k x) (remove_words w k x)
  unfolding remove_answer remove_words
  removes = rw (ne_eqb _ _ nf) (go (member x (tags w k)) refl)
    where
      go : (b : Bool) → member x (tags w k) ≡ b
          → Removes (if b then Yes else No) (if b then overwrite w (66 * k) (bucket_of 1 (remove_tag x (tags w k))) else w)
      go true e = loses e
      go false e = lacks e

-- ---- line 36

module _ (y : Machine) (k : ℕ) (c : Task) (h : c.line ≡ 36) (nb : c.b ≡ 0 → ⊥) where
  passes : overfull_36 y c ≡ false → step_running y k c ≡ accept y k c.own (line_36 y c)
  unfolding step_table
  passes o = accepted y c 36 h k (nb, o) tt

  pub frozen_36 : changeable y.buckets (number c.b) ≡ 0 → step_running y k c ≡ accept y k c.own (moves (with_line 32 (with_i 0 (without_places c))))
  unfolding overfull_36 line_36
  frozen_36 e =
      let o : overfull_36 y c ≡ false = rw (eq-eqb _ _ e) in
      passes o ∙ rw (eq-eqb _ _ e)

  -- the tags that b holds
  abbrev held : List ℕ
  held = tags y.buckets (number c.b)

  abbrev has : ℕ → Bool
  has x = member x held

  abbrev is_full : Bool
  is_full = leb 64 (length held)

  module _ (nf : changeable y.buckets (number c.b) ≡ 0 → ⊥) where
    module _ (call : c.call ≡ 1) where
      pub no_36 : has c.tag ≡ true → step_running y k c ≡ accept y k c.own (answers_of c.b nothing ans.No)
      unfolding overfull_36 line_36 insert_36 answer_36 insert_write tags_of
      no_36 m =
          let a : answer_36 y c ≡ ans.No = insert_no _ _ m in
          let o : overfull_36 y c ≡ false = rw a (and-false (not (frozen y c.b) && eqb c.call 1 && is_full)) in
          passes o ∙ rw (ne_eqb _ _ nf, eq-eqb _ _ call, a)

      module _ (absent : has c.tag ≡ false) where
        pub full_36 : 64 ≤ length (listed y) → step_running y k c ≡ accept y k c.own (answers_of c.b nothing ans.Full)
        unfolding overfull_36 line_36 insert_36 answer_36 insert_write tags_of
        full_36 e =
            let a : answer_36 y c ≡ ans.Full = insert_full _ _ absent e in
            let o : overfull_36 y c ≡ false = rw a (and-false (not (frozen y c.b) && eqb c.call 1 && is_full)) in
            passes o ∙ rw (ne_eqb _ _ nf, eq-eqb _ _ call, a)

        module _ (room : length (listed y) < 64) where
          a_36 : answer_36 y c ≡ ans.Yes
          unfolding answer_36 tags_of
          a_36 = insert_yes _ _ room absent

          pub yes_36 : is_full ≡ false
              → step_running y k c ≡ accept y k c.own (answers_of c.b (put_tags (number c.b) (add_tag c.tag held)) ans.Yes)
          unfolding overfull_36 line_36 insert_36 insert_write tags_of
          yes_36 l =
              let o : overfull_36 y c ≡ false = rw (ne_eqb _ _ nf, eq-eqb _ _ call, l) in
              passes o ∙ rw (ne_eqb _ _ nf, eq-eqb _ _ call, a_36)

          pub over_36 : is_full ≡ true → step_running y k c ≡ refuse Spoilt y
          unfolding step_table overfull_36 tags_of
          over_36 l =
              let o : overfull_36 y c ≡ true = rw (ne_eqb _ _ nf, eq-eqb _ _ call, l, a_36) in
              refused_8 y c 36 h k (next (here o))

    module _ (call : c.call ≡ 1 → ⊥) where
      o : overfull_36 y c ≡ false
      unfolding overfull_36
      o = rw (ne_eqb _ _ nf, ne_eqb _ _ call)

      pub gone_36 : has c.tag ≡ true
          → step_running y k c ≡ accept y k c.own (answers_of c.b (put_tags (number c.b) (remove_tag c.tag held)) ans.Yes)
      unfolding line_36 remove_36 tags_of
      gone_36 m = passes o ∙ rw (ne_eqb _ _ nf, ne_eqb _ _ call, m)

      pub absent_36 : has c.tag ≡ false → step_running y k c ≡ accept y k c.own (answers_of c.b nothing ans.No)
      unfolding line_36 remove_36 tags_of
      absent_36 m = passes o ∙ rw (ne_eqb _ _ nf, ne_eqb _ _ call, m)
