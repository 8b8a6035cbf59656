-- What a step of a task gives by its line: 8 through an empty place, or the line's own effect. Assumes nothing.
use Rattle.std.specs.Prelude.{if◌then◌else◌}
use mathlib.Core.Path.{◌≡◌, refl, sym, ap, ◌∙◌}
use mathlib.Core.List.{List, [], ◌∷◌}
use mathlib.Core.Bool.{Bool, true, false, not, ◌&&◌, ◌||◌}
use Prim.Native.Nat.{ℕ, ◌<◌}
use native.Mathlib.Omega.{arith}
use borrow.Author.Tests.{eq-eqb, ne_eqb, eqb-true, eqb-false, not-true}
use lib.Dec.{ltb, eqb}
use lib.ListN.{length}
use Rattle.laws.specs.Tests.{tf, or_none, or_none3, and_left, and_right}
use Rattle.coop_spec.specs.declared.Refusal.TheVariants.{NoVersion, Spoilt}
use Rattle.spec.specs.Lists.{member}
use Rattle.spec.specs.Words.{number, filled}
use Rattle.coop_spec.specs.declared.Task.{Task}
use Rattle.coop_spec.specs.Machine.{Machine}
use Rattle.coop_spec.specs.Words.{applied, install}
use Rattle.coop_spec.specs.Held.{free_version}
use Rattle.coop_spec.specs.Lines.{effect, find_line, all_lines, helped_op, old_set, still_current, returns, line_140}
use Rattle.coop_spec.specs.StepRefusals.{through_empty, needs_65th_tag, unsound_step, all_held}
use Rattle.coop_spec.specs.Entries.{Reply, refuse, accept, step_running}
use Rattle.coop_lines.specs.Reply.{through_o, through_both}

-- the lines that go through o, and those that go through the helped operation
abbrev pub o_lines : List ℕ
o_lines = 100 ∷ 102 ∷ 113 ∷ 122 ∷ 123 ∷ 130 ∷ 138 ∷ 140 ∷ []

abbrev pub helped_lines : List ℕ
helped_lines = 138 ∷ 139 ∷ 140 ∷ []

module _ (y : Machine) (k : ℕ) (c : Task) where
  -- a step at line n
  unfoldable step_at : ℕ → Reply
  step_at n =
      if (member n o_lines && not (filled c.o)) || (member n helped_lines && not (filled c.helped))
      || (eqb n 140 && still_current y c && ltb 64 (length (applied (helped_op y c) (old_set y c))))
      then refuse Spoilt y
      else if eqb n 140 && still_current y c && not (filled (free_version y)) then refuse NoVersion y
      else accept y k c.own (find_line n all_lines y c)

  at_line : (n : ℕ) → c.line ≡ n → step_running y k c ≡ step_at n
  unfolding step_running unsound_step through_empty needs_65th_tag all_held effect step_at
  at_line n e = ap step_at e

  -- ---- a line that goes through no place

  pub plain : (n : ℕ) → c.line ≡ n → (member n o_lines || member n helped_lines || eqb n 140) ≡ false
      → step_running y k c ≡ accept y k c.own (find_line n all_lines y c)
  unfolding step_at
  plain n e f = let q = or_none3 (member n o_lines) (member n helped_lines) (eqb n 140) f in at_line n e ∙ rw (q.0, q.1, q.2)

  -- ---- one that goes through o

  pub through : (n : ℕ) → c.line ≡ n → member n o_lines ≡ true → (member n helped_lines || eqb n 140) ≡ false
      → step_running y k c ≡ through_o y c (accept y k c.own (find_line n all_lines y c))
  unfolding step_at through_o
  through n e t f = go (eqb c.o 0) refl
    where
      go : (b : Bool) → eqb c.o 0 ≡ b → step_running y k c ≡ through_o y c (accept y k c.own (find_line n all_lines y c))
      go true p = let q = or_none (member n helped_lines) (eqb n 140) f in at_line n e ∙ rw (t, q.0, q.1, p)
      go false p = let q = or_none (member n helped_lines) (eqb n 140) f in at_line n e ∙ rw (t, q.0, q.1, p)

  pub empty_o : (r : Reply) → c.o ≡ 0 → through_o y c r ≡ refuse Spoilt y
  unfolding through_o
  empty_o r z = rw (eq-eqb c.o 0 z)

  pub filled_o : (r : Reply) → (c.o ≡ 0 → ⊥) → through_o y c r ≡ r
  unfolding through_o
  filled_o r z = rw (ne_eqb c.o 0 z)

  -- ---- one that goes through o and the helped operation

  pub helping : (n : ℕ) → c.line ≡ n → (member n o_lines && member n helped_lines) ≡ true → eqb n 140 ≡ false
      → step_running y k c ≡ through_both y c (accept y k c.own (find_line n all_lines y c))
  unfolding step_at through_both
  helping n e t f = go (eqb c.o 0) (eqb c.helped 0) refl refl
    where
      l : member n o_lines ≡ true
      l = and_left (member n o_lines) (member n helped_lines) t

      r : member n helped_lines ≡ true
      r = and_right (member n o_lines) (member n helped_lines) t

      go : (a b : Bool) → eqb c.o 0 ≡ a → eqb c.helped 0 ≡ b
          → step_running y k c ≡ through_both y c (accept y k c.own (find_line n all_lines y c))
      go true b p q = at_line n e ∙ rw (l, f, p)
      go false true p q = at_line n e ∙ rw (l, r, f, p, q)
      go false false p q = at_line n e ∙ rw (l, r, f, p, q)

  pub empty_both : (r : Reply) → (filled c.o && filled c.helped) ≡ false → through_both y c r ≡ refuse Spoilt y
  unfolding through_both
  empty_both r z = rw z

  pub filled_both : (r : Reply) → (filled c.o && filled c.helped) ≡ true → through_both y c r ≡ r
  unfolding through_both
  filled_both r z = rw z

  -- ---- one that goes through the helped operation alone

  module _ (n : ℕ) (e : c.line ≡ n) (o : (member n o_lines || eqb n 140) ≡ false) (t : member n helped_lines ≡ true) where
    pub empty_helped : c.helped ≡ 0 → step_running y k c ≡ refuse Spoilt y
    unfolding step_at
    empty_helped z = let q = or_none (member n o_lines) (eqb n 140) o in at_line n e ∙ rw (q.0, q.1, t, eq-eqb c.helped 0 z)

    pub filled_helped : (c.helped ≡ 0 → ⊥) → step_running y k c ≡ accept y k c.own (find_line n all_lines y c)
    unfolding step_at
    filled_helped z = let q = or_none (member n o_lines) (eqb n 140) o in at_line n e ∙ rw (q.0, q.1, t, ne_eqb c.helped 0 z)

  -- ---- line 140

  module _ (e : c.line ≡ 140) where
    abbrev Both : Bool → Type 0
    Both b = (filled c.o && filled c.helped) ≡ b

    pub empty_140 : Both false → step_running y k c ≡ refuse Spoilt y
    unfolding step_at member
    empty_140 z = go (eqb c.o 0) (eqb c.helped 0) refl refl z
      where
        go : (a b : Bool) → eqb c.o 0 ≡ a → eqb c.helped 0 ≡ b → (not a && not b) ≡ false → step_running y k c ≡ refuse Spoilt y
        go true b p q r = at_line 140 e ∙ rw p
        go false true p q r = at_line 140 e ∙ rw (p, q)
        go false false p q r = absurd (tf refl r)

    module _ (z : Both true) where
      o_there : eqb c.o 0 ≡ false
      o_there = not-true (eqb c.o 0) (and_left (filled c.o) (filled c.helped) z)

      helped_there : eqb c.helped 0 ≡ false
      helped_there = not-true (eqb c.helped 0) (and_right (filled c.o) (filled c.helped) z)

      pub passed_140 : still_current y c ≡ false → step_running y k c ≡ accept y k c.own (returns c [])
      unfolding step_at member find_line all_lines line_140
      passed_140 n = at_line 140 e ∙ rw (o_there, helped_there, n)

      module _ (n : still_current y c ≡ true) where
        pub full_140 : ltb 64 (length (applied (helped_op y c) (old_set y c))) ≡ true → step_running y k c ≡ refuse Spoilt y
        unfolding step_at member
        full_140 f = at_line 140 e ∙ rw (o_there, helped_there, n, f)

        module _ (f : ltb 64 (length (applied (helped_op y c) (old_set y c))) ≡ false) where
          pub held_140 : free_version y ≡ 0 → step_running y k c ≡ refuse NoVersion y
          unfolding step_at member
          held_140 g = at_line 140 e ∙ rw (o_there, helped_there, n, f, eq-eqb (free_version y) 0 g)

          pub taken_140 : (free_version y ≡ 0 → ⊥) → step_running y k c
              ≡ accept y k c.own (returns c (install (number (free_version y)) (applied (helped_op y c) (old_set y c)) ∷ []))
          unfolding step_at member find_line all_lines line_140
          taken_140 g = at_line 140 e ∙ rw (o_there, helped_there, n, f, ne_eqb (free_version y) 0 g)

-- a filled link is above 0
pub above : (l : ℕ) (b : Bool) → (filled l && b) ≡ true → 0 < l
above l b e = let n = eqb-false l 0 (not-true (eqb l 0) (and_left (filled l) b e)) in omega arith

-- ---- which line is left after some tests

or_false : (a : Bool) → (a || false) ≡ a
or_false true = refl
or_false false = refl

pub last_line : (l n : ℕ) → member l (n ∷ []) ≡ true → l ≡ n
unfolding member
last_line l n e = eqb-true l n (sym (or_false (eqb l n)) ∙ e)

pub not_first : (l n : ℕ) (ns : List ℕ) → member l (n ∷ ns) ≡ true → (l ≡ n → ⊥) → member l ns ≡ true
unfolding member
not_first l n ns e h = rw (ne_eqb l n h) at e
