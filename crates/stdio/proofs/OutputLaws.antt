-- Laws of what is printed: where the last line of a text begins, the number in a refusal. Assumes nothing.
use mathlib.Core.Path.{◌≡◌, refl, subst}
use mathlib.Core.List.{List}
use Prim.Native.Nat.{ℕ, zero, suc, ◌+◌, ◌-◌, ◌*◌, ◌≤◌, ◌<◌}
use native.Mathlib.Omega.{arith}
use borrow.Author.Tests.{eq-eqb, ne_eqb, lt-ltb, le-ltb}
use lib.ListN.{get_or}
use Rattle.stdio.specs.Outcomes.{line_start, digit, refusal_number}

-- ---- the last line

suc_less : (k : ℕ) → suc k - 1 ≡ k
suc_less k = omega arith

module _ (text : List ℕ) where
  pub starts_here : (i : ℕ) → 0 < i → get_or text (i - 1) 0 ≡ 10 → line_start text i ≡ i
  unfolding line_start
  starts_here zero l e = absurd (omega arith)
  starts_here (suc k) l e =
      let e' : get_or text k 0 ≡ 10 = subst (λ (j : ℕ). get_or text j 0 ≡ 10) (suc_less k) e in rw (eq-eqb (get_or text k 0) 10 e')

  pub starts_before : (i : ℕ) → 0 < i → (get_or text (i - 1) 0 ≡ 10 → ⊥) → line_start text i ≡ line_start text (i - 1)
  unfolding line_start
  starts_before zero l e = absurd (omega arith)
  starts_before (suc k) l e =
      let e' : get_or text k 0 ≡ 10 → ⊥ = subst (λ (j : ℕ). get_or text j 0 ≡ 10 → ⊥) (suc_less k) e in
      rw (suc_less k, ne_eqb (get_or text k 0) 10 e')

  pub starts_first : (i : ℕ) → i ≤ 0 → line_start text i ≡ 0
  unfolding line_start
  starts_first zero l = refl
  starts_first (suc k) l = absurd (omega arith)

pub one_digit : (line : List ℕ) → get_or line 8 0 < 48 → refusal_number line ≡ digit line 7
unfolding refusal_number
one_digit line l = rw (lt-ltb (get_or line 8 0) 48 l)

pub two_digits : (line : List ℕ) → 48 ≤ get_or line 8 0 → refusal_number line ≡ digit line 7 * 10 + digit line 8
unfolding refusal_number
two_digits line l = rw (le-ltb (get_or line 8 0) 48 l)
