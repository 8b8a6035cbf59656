-- A step keeps its task's call and tag until the call ends: `effect_keeps`, one line of the figure after the other. Assumes nothing.
use Rattle.std.specs.Prelude.{ℕ, ◌≡◌, eqb}
use Rattle.std.proofs.Math.Path.{refl}
use mathlib.Core.List.{List, [], ◌∷◌}
use Rattle.spec.specs.declared.Answer.{Answer}
use Rattle.spec.specs.declared.Task.{Task}
use Rattle.spec.specs.Lists.{member}
use Rattle.spec.specs.Machine.{Machine}
use Rattle.spec.specs.Words.{filled, Write}
use Rattle.spec.specs.Sound.{resizes}
use Rattle.spec.specs.Listed.{size_of, place_of, place_for, tags_of, head_of}
use Rattle.spec.specs.Lines.{Effect, writes, answers_of, Line, at_limit, frozen, line_20, line_28, line_33, line_36, line_50, line_51}
use Rattle.spec.specs.Lines.{all_lines, find_line, effect}
use Rattle.spec.specs.Everything.{everything}
use Rattle.laws.specs.Tests.{choose}

pub data Keeps (c : Task) : Effect → Type 0 where
  goes_on : {d : Task} {w : Write} → d.call ≡ c.call → d.tag ≡ c.tag → Keeps c (writes w d)
  call_ends : {a : Answer} {l : ℕ} {w : Write} → Keeps c (answers_of l w a)

module _ (y : Machine) (c : Task) where
  infixr 4 ◌also◌
  data AllKeep : List Line → Type 0 where
    no_more : AllKeep []
    ◌also◌ : {l : Line} {ls : List Line} → Keeps c (l.does y c) → AllKeep ls → AllKeep (l ∷ ls)

  found_keeps : (n : ℕ) (ls : List Line) → AllKeep ls → Keeps c (find_line n ls y c)
  unfolding find_line
  found_keeps n [] no_more = goes_on refl refl
  found_keeps n (l ∷ ls) (k also ks) = choose (Keeps c) (eqb n l.at) _ _ (λ p. k) (λ p. found_keeps n ls ks)

  -- ---- the lines that go on in two ways

  keeps_20 : Keeps c (line_20 y c)
  unfolding everything
  keeps_20 = choose (Keeps c) (at_limit c.call (size_of y (head_of y))) _ _ (λ p. call_ends) (λ p. goes_on refl refl)

  keeps_28 : Keeps c (line_28 y c)
  unfolding everything
  keeps_28 = choose (Keeps c) (eqb (head_of y) c.t) _ _ (λ p. call_ends) (λ p. call_ends)

  keeps_33 : Keeps c (line_33 y c)
  unfolding everything
  keeps_33 = choose (Keeps c) (filled (place_for y c.t c.tag)) _ _ (λ p. goes_on refl refl) (λ p. goes_on refl refl)

  keeps_36 : Keeps c (line_36 y c)
  unfolding everything
  keeps_36 =
      choose (Keeps c) (frozen y c.b) _ _ (λ p. goes_on refl refl) (λ p.
      choose (Keeps c) (eqb c.call 1) _ _ (λ q. call_ends) (λ q.
      choose (Keeps c) (member c.tag (tags_of y c.b)) _ _ (λ r. call_ends) (λ r. call_ends)))

  keeps_50 : Keeps c (line_50 y c)
  unfolding everything
  keeps_50 = choose (Keeps c) (filled (place_of y c.t c.i)) _ _ (λ p. goes_on refl refl) (λ p. goes_on refl refl)

  keeps_51 : Keeps c (line_51 y c)
  unfolding everything
  keeps_51 = choose (Keeps c) (resizes c.call) _ _ (λ p. goes_on refl refl) (λ p. goes_on refl refl)

  -- ---- all lines, in their order

  pub effect_keeps : Keeps c (effect y c)
  unfolding everything
  effect_keeps =
      found_keeps c.line all_lines
      (goes_on refl refl also goes_on refl refl also goes_on refl refl also goes_on refl refl also goes_on refl refl also call_ends
      also keeps_20 also goes_on refl refl also goes_on refl refl also keeps_28
      also goes_on refl refl also keeps_33 also keeps_36
      also goes_on refl refl also goes_on refl refl also goes_on refl refl also goes_on refl refl also goes_on refl refl also goes_on refl refl
      also goes_on refl refl also goes_on refl refl also goes_on refl refl also keeps_50 also keeps_51 also no_more)
