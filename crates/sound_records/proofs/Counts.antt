-- Counting neighbours that do not ascend, with no exit on the way: there is none exactly where all ascend. One law for a turn of the
-- loop that counts, whichever way the test goes. Assumes nothing.
use Rattle.std.specs.Prelude.{if◌then◌else◌}
use mathlib.Core.Path.{◌≡◌, refl, sym, ap, ◌∙◌}
use mathlib.Core.List.{List, [], ◌∷◌}
use mathlib.Core.Bool.{Bool, true, false, ◌&&◌}
use Prim.Native.Nat.{ℕ, suc, ◌+◌, ◌-◌, ◌<◌, ◌≤◌}
use native.Mathlib.Numerals.{add-one}
use native.Mathlib.Omega.{arith}
use borrow.Author.Tests.{le-ltb, lt-ltb, ne_eqb}
use lib.Dec.{ltb, eqb}
use lib.ListN.{length, get_or, drop, length-drop}
use lib.Seq.{drop-cons}
use Rattle.spec.specs.Lists.{ascending}

unfoldable pub falls : List ℕ → ℕ
falls [] = 0
falls (x ∷ []) = 0
falls (x ∷ (y ∷ ys)) = if ltb x y then falls (y ∷ ys) else suc (falls (y ∷ ys))

pub ascending_falls : (xs : List ℕ) → ascending xs ≡ eqb (falls xs) 0
unfolding ascending falls
ascending_falls [] = refl
ascending_falls (x ∷ []) = refl
ascending_falls (x ∷ (y ∷ ys)) = go (ltb x y) (ascending_falls (y ∷ ys))
  where
    go : (b : Bool) → ascending (y ∷ ys) ≡ eqb (falls (y ∷ ys)) 0
        → (b && ascending (y ∷ ys)) ≡ eqb (if b then falls (y ∷ ys) else suc (falls (y ∷ ys))) 0
    go true ih = ih
    go false ih = sym (ne_eqb (suc (falls (y ∷ ys))) 0 (λ e. omega arith))

module _ (s : List ℕ) (i : ℕ) (z : 0 < i) (h : i < length s) where
  -- the elements before and at i, and what follows
  two : drop (i - 1) s ≡ get_or s (i - 1) 0 ∷ get_or s i 0 ∷ drop (i + 1) s
  two =
      let l : i - 1 < length s = omega arith in
      let e : suc (i - 1) ≡ i = omega arith in
      drop-cons s (i - 1) 0 l ∙ ap (λ (n : ℕ). get_or s (i - 1) 0 ∷ drop n s) e ∙ ap (λ (r : List ℕ). get_or s (i - 1) 0 ∷ r) one
    where
      one : drop i s ≡ get_or s i 0 ∷ drop (i + 1) s
      one = rw add-one (drop-cons s i 0 h)

  next : get_or s i 0 ∷ drop (i + 1) s ≡ drop (i + 1 - 1) s
  next = let e : i + 1 - 1 ≡ i = omega arith in rw (e, add-one) (sym (drop-cons s i 0 h))

  pub falls_pass : get_or s (i - 1) 0 < get_or s i 0 → falls (drop (i - 1) s) ≡ falls (drop (i + 1 - 1) s)
  unfolding falls
  falls_pass l =
      let t : falls (drop (i - 1) s) ≡ falls (get_or s i 0 ∷ drop (i + 1) s) = rw (two, lt-ltb _ _ l) in
      t ∙ ap falls next

  pub falls_fail : get_or s i 0 ≤ get_or s (i - 1) 0 → falls (drop (i - 1) s) ≡ suc (falls (drop (i + 1 - 1) s))
  unfolding falls
  falls_fail l =
      let t : falls (drop (i - 1) s) ≡ suc (falls (get_or s i 0 ∷ drop (i + 1) s)) = rw (two, le-ltb _ _ l) in
      t ∙ ap (λ (r : List ℕ). suc (falls r)) next

short : (s : List ℕ) → length s ≤ 1 → falls s ≡ 0
unfolding falls
short [] h = refl
short (x ∷ []) h = refl
short (x ∷ (y ∷ ys)) h = absurd (omega arith)

pub falls_end : (s : List ℕ) (i : ℕ) → length s ≤ i → falls (drop (i - 1) s) ≡ 0
falls_end s i h = short (drop (i - 1) s) (rw (length-drop (i - 1) s) (omega arith))
