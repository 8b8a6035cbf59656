-- Which lines stand between two numbers. Assumes nothing.
use mathlib.Core.Path.{◌≡◌, refl, ap, ◌∙◌}
use mathlib.Core.List.{List, [], ◌∷◌}
use mathlib.Core.Bool.{Bool, true, ◌||◌}
use Prim.Native.Nat.{ℕ, zero, suc, ◌<◌, ◌≤◌}
use native.Mathlib.Omega.{arith}
use borrow.Author.Tests.{eqb-true, le-ltb, lt-leb}
use lib.Dec.{leb, ltb, eqb}
use Rattle.laws.specs.Tests.{tf, and_left, and_right, or_case}
use Rattle.spec.specs.Lists.{member, every}
use Rattle.coop_spec.specs.Sound.{invoke_lines, member_lines, help_lines, freeze_lines, lines_of}
use Rattle.coop_sound.proofs.Laws as calls

-- of the lines xs, those from lo to below hi are among ys
module _ (lo hi l : ℕ) (ys : List ℕ) (from : lo ≤ l) (below : l < hi) where
  abbrev allows : ℕ → Bool
  allows x = member x ys || (ltb x lo || leb hi x)

  here : allows l ≡ true → member l ys ≡ true
  here e =
      or_case (member l ys) (ltb l lo || leb hi l) e (λ m. m)
      (λ n. absurd (tf n (rw (le-ltb l lo from, lt-leb hi l below))))

  pub narrow : (xs : List ℕ) → every allows xs ≡ true → member l xs ≡ true → member l ys ≡ true
  unfolding member every
  narrow [] t e = absurd (tf e refl)
  narrow (x ∷ xs) t e =
      or_case (eqb l x) (member l xs) e
      (λ q. here (ap allows (eqb-true l x q) ∙ and_left (allows x) (every allows xs) t))
      (λ q. narrow xs (and_right (allows x) (every allows xs) t) q)

-- all lines, in the figure's order
abbrev pub every_line : List ℕ
every_line =
    95 ∷ 96 ∷ 99 ∷ 100 ∷ 101 ∷ 102 ∷ 107 ∷ 109 ∷ 112 ∷ 113 ∷ 117 ∷ 120 ∷ 121 ∷ 122 ∷ 123 ∷ 127 ∷ 129 ∷ 130 ∷ 138 ∷ 139 ∷ 140 ∷ []

-- every call's lines are among them
pub known : (call l : ℕ) → member l (lines_of call) ≡ true → member l every_line ≡ true
unfolding lines_of invoke_lines member_lines help_lines freeze_lines member every
known zero l e = absurd (tf e refl)
known (suc zero) l e = narrow 0 (suc l) l every_line (omega arith) (omega arith) calls.invoke_call refl e
known (suc (suc zero)) l e = narrow 0 (suc l) l every_line (omega arith) (omega arith) calls.invoke_call refl e
known (suc (suc (suc zero))) l e = narrow 0 (suc l) l every_line (omega arith) (omega arith) calls.freeze_call refl e
known (suc (suc (suc (suc zero)))) l e = narrow 0 (suc l) l every_line (omega arith) (omega arith) calls.member_call refl e
known (suc (suc (suc (suc (suc zero))))) l e = narrow 0 (suc l) l every_line (omega arith) (omega arith) calls.response_call refl e
known (suc (suc (suc (suc (suc (suc n)))))) l e = absurd (tf e refl)
