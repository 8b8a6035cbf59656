-- Two lists of ended calls are the same exactly if their words are: `words_compared`. Assumes nothing.
use Rattle.std.specs.Prelude.{nat_eq}
use Rattle.std.specs.Cmp.Lexicographic.{pointwise}
use Prim.Native.Nat.{ℕ, suc, ◌*◌}
use mathlib.Core.Path.{◌≡◌, refl, sym, ap, ◌∙◌}
use mathlib.Core.List.{List, [], ◌∷◌}
use mathlib.Core.Bool.{Bool, true, false, ◌&&◌}
use native.Mathlib.Decide.{ℕ_discrete}
use native.Mathlib.Omega.{arith}
use borrow.Author.Tests.{eq-eqb, ne_eqb}
use lib.Dec.{eqb, eqb-suc-suc, eqb-suc-zero, eqb-zero-suc}
use lib.ListN.{length}
use Rattle.spec.specs.Lists.{concat_map}
use Rattle.session.specs.Grammar.{starts_with, equals}
use Rattle.mattered.specs.EndedCalls.{EndedCall, same_call, same_calls}
use Rattle.mattered_replay.specs.Replay.{all_words}
use Rattle.mattered_replay.proofs.Replayed.{words_length}

regrouped : (a b c d e : Bool) → (a && (b && (c && (d && e)))) ≡ (a && b && c && d && e)
regrouped true true true true e = refl
regrouped true true true false e = refl
regrouped true true false d e = refl
regrouped true false c d e = refl
regrouped false b c d e = refl

starts_same : (xs ys : List EndedCall) → length xs ≡ length ys → starts_with (all_words ys) (all_words xs) ≡ same_calls xs ys
unfolding concat_map starts_with same_calls same_call
starts_same [] [] e = refl
starts_same [] (b ∷ ys) e = absurd (omega arith)
starts_same (a ∷ xs) [] e = absurd (omega arith)
starts_same (a ∷ xs) (b ∷ ys) e =
    regrouped (eqb a.task b.task) (eqb a.call b.call) (eqb a.tag b.tag) (eqb a.answer b.answer)
    (starts_with (all_words ys) (all_words xs))
    ∙ ap (λ (r : Bool). same_call a b && r) (starts_same xs ys (omega arith))

not_as_long : (xs ys : List EndedCall) → ¬ (length xs ≡ length ys) → same_calls xs ys ≡ false
unfolding same_calls
not_as_long [] [] d = absurd (d refl)
not_as_long [] (b ∷ ys) d = refl
not_as_long (a ∷ xs) [] d = refl
not_as_long (a ∷ xs) (b ∷ ys) d = go (same_call a b) (not_as_long xs ys (λ e. d (ap suc e)))
  where
    go : (s : Bool) → same_calls xs ys ≡ false → (s && same_calls xs ys) ≡ false
    go true e = e
    go false e = refl

pub words_compared : (xs ys : List EndedCall) → equals (all_words ys) (all_words xs) ≡ same_calls xs ys
unfolding equals
words_compared xs ys = go (ℕ_discrete (length xs) (length ys))
  where
    a : length (all_words xs) ≡ 4 * length xs
    a = words_length xs

    b : length (all_words ys) ≡ 4 * length ys
    b = words_length ys

    go : Dec (length xs ≡ length ys) → (eqb (length (all_words xs)) (length (all_words ys)) && starts_with (all_words ys) (all_words xs)) ≡ same_calls xs ys
    go (yes e) =
        let l : length (all_words xs) ≡ length (all_words ys) = omega (arith, a, b, e) in
        rw (eq-eqb _ _ l) (starts_same xs ys e)
    go (no d) =
        let l : ¬ (length (all_words xs) ≡ length (all_words ys)) = λ e. d (omega (arith, a, b, e)) in
        rw (ne_eqb _ _ l) (sym (not_as_long xs ys d))

-- what `==` says of two slices of words
pub words_equal : (xs ys : List ℕ) → pointwise nat_eq xs ys ≡ equals ys xs
unfolding equals starts_with
words_equal [] [] = refl
words_equal [] (y ∷ ys) = rw (eqb-zero-suc (length ys))
words_equal (x ∷ xs) [] = rw (eqb-suc-zero (length xs))
words_equal (x ∷ xs) (y ∷ ys) =
    ap (λ (b : Bool). eqb x y && b) (words_equal xs ys)
    ∙ swap (eqb x y) (eqb (length xs) (length ys)) (starts_with ys xs)
    ∙ ap (λ (b : Bool). b && (eqb x y && starts_with ys xs)) (sym (eqb-suc-suc (length xs) (length ys)))
  where
    swap : (a l s : Bool) → (a && (l && s)) ≡ (l && (a && s))
    swap true l s = refl
    swap false true s = refl
    swap false false s = refl
