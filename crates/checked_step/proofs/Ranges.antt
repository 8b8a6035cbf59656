-- Which procedure's line a running task stands at, by the number of the line alone: a test of each line of the figure, computed.
-- Assumes nothing.
use mathlib.Core.Path.{◌≡◌, refl}
use mathlib.Core.List.{List, [], ◌∷◌, ◌++◌}
use mathlib.Core.Bool.{Bool, true, false, not, ◌&&◌, ◌||◌, false≢true}
use Prim.Native.Nat.{ℕ, zero, suc, ◌<◌, ◌≤◌}
use borrow.Author.Tests.{le-leb, lt-ltb, eqb-true}
use lib.Dec.{leb, ltb, eqb}
use Rattle.laws.specs.Tests.{and_left, and_right}
use Rattle.spec.specs.Lists.{member, every}
use Rattle.spec.specs.Sound.{lines_of, fill_lines}
use Rattle.lines.specs.Running.{contains_lines, resize_lines, apply_lines, init_bucket_lines}

-- a test that every element passes is passed by each
member_every : (p : ℕ → Bool) (l : ℕ) (xs : List ℕ) → every p xs ≡ true → member l xs ≡ true → p l ≡ true
unfolding every member
member_every p l [] e h = absurd (false≢true h)
member_every p l (x ∷ xs) e h = go (eqb l x) refl (member_every p l xs (and_right (p x) (every p xs) e)) h
  where
    go : (b : Bool) → eqb l x ≡ b → (member l xs ≡ true → p l ≡ true) → (b || member l xs) ≡ true → p l ≡ true
    go true q next g = rw (eqb-true l x q) (and_left (p x) (every p xs) e)
    go false q next g = next g

abbrev figure_lines : List ℕ
figure_lines = contains_lines ++ (resize_lines ++ (apply_lines ++ init_bucket_lines))

-- the lines of every call are in the figure
calls_in_figure : (call : ℕ) → every (λ (n : ℕ). member n figure_lines) (lines_of call) ≡ true
unfolding every member lines_of fill_lines
calls_in_figure zero = refl
calls_in_figure (suc zero) = refl
calls_in_figure (suc (suc zero)) = refl
calls_in_figure (suc (suc (suc zero))) = refl
calls_in_figure (suc (suc (suc (suc zero)))) = refl
calls_in_figure (suc (suc (suc (suc (suc zero))))) = refl
calls_in_figure (suc (suc (suc (suc (suc (suc n)))))) = refl

-- a line of the figure that passes the test is one of these
unfoldable passing : (ℕ → Bool) → List ℕ → ℕ → Bool
passing test ls n = not (test n) || member n ls

in_range : (test : ℕ → Bool) (ls : List ℕ) → every (passing test ls) figure_lines ≡ true → (call l : ℕ) → member l (lines_of call) ≡ true → test l ≡ true
    → member l ls ≡ true
unfolding passing
in_range test ls e call l h g =
    let known = member_every (λ (n : ℕ). member n figure_lines) l (lines_of call) (calls_in_figure call) h in
    rw g at (member_every (passing test ls) l figure_lines e known)

module _ (call l : ℕ) (h : member l (lines_of call) ≡ true) where
  pub at_contains : l < 20 → member l contains_lines ≡ true
  unfolding every member passing
  at_contains g = in_range (λ (n : ℕ). ltb n 20) contains_lines refl call l h (lt-ltb _ _ g)

  pub at_resize : 20 ≤ l → l < 32 → member l resize_lines ≡ true
  unfolding every member passing
  at_resize f g = in_range (λ (n : ℕ). leb 20 n && ltb n 32) resize_lines refl call l h (rw (le-leb _ _ f) (lt-ltb _ _ g))

  pub at_apply : 32 ≤ l → l < 39 → member l apply_lines ≡ true
  unfolding every member passing
  at_apply f g = in_range (λ (n : ℕ). leb 32 n && ltb n 39) apply_lines refl call l h (rw (le-leb _ _ f) (lt-ltb _ _ g))

  pub at_init_bucket : 39 ≤ l → member l init_bucket_lines ≡ true
  unfolding every member passing
  at_init_bucket f = in_range (λ (n : ℕ). leb 39 n) init_bucket_lines refl call l h (le-leb _ _ f)
