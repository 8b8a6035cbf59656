-- The comparison of two lists of ended calls is their equality: `same_calls_true`, `same_calls_refl`. Assumes nothing.
use Rattle.std.specs.Prelude.{◌≡◌, refl, List, [], ◌∷◌, true, eqb}
use Rattle.std.proofs.Common.{eqb-true, eq-eqb}
use Rattle.laws.specs.Tests.{tf, and2, and4, and4_i}
use Rattle.mattered.specs.EndedCalls.{EndedCall, same_call, same_calls}

same_call_true : (a b : EndedCall) → same_call a b ≡ true → a ≡ b
unfolding same_call
same_call_true a b e =
    let q = and4 (eqb a.task b.task) (eqb a.call b.call) (eqb a.tag b.tag) (eqb a.answer b.answer) e in
    let t : a.task ≡ b.task = eqb-true _ _ q.0 in
    let c : a.call ≡ b.call = eqb-true _ _ q.1 in
    let g : a.tag ≡ b.tag = eqb-true _ _ q.2 in
    let w : a.answer ≡ b.answer = eqb-true _ _ q.3 in
    λ i. record { task = t i; call = c i; tag = g i; answer = w i }

same_call_refl : (a : EndedCall) → same_call a a ≡ true
unfolding same_call
same_call_refl a = and4_i _ _ _ _ (eq-eqb a.task _ refl) (eq-eqb a.call _ refl) (eq-eqb a.tag _ refl) (eq-eqb a.answer _ refl)

pub same_calls_true : (xs ys : List EndedCall) → same_calls xs ys ≡ true → xs ≡ ys
unfolding same_calls
same_calls_true [] [] e = refl
same_calls_true [] (b ∷ ys) e = absurd (tf e refl)
same_calls_true (a ∷ xs) [] e = absurd (tf e refl)
same_calls_true (a ∷ xs) (b ∷ ys) e =
    let q = and2 (same_call a b) (same_calls xs ys) e in
    let h = same_call_true a b q.0 in
    let t = same_calls_true xs ys q.1 in
    λ i. h i ∷ t i

pub same_calls_refl : (xs : List EndedCall) → same_calls xs xs ≡ true
unfolding same_calls
same_calls_refl [] = refl
same_calls_refl (a ∷ xs) = rw (same_call_refl a) (same_calls_refl xs)
