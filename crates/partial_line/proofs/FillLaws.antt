-- Laws that the proof of `fill` cites, a byte at a time: it closes the line, or the line is one byte longer. Assumes nothing.
use mathlib.Core.Path.{◌≡◌, sym, ap, ◌∙◌}
use mathlib.Core.List.{List, [], ◌∷◌, ◌++◌}
use mathlib.Core.Bool.{Bool, true, false}
use Prim.Native.Nat.{ℕ, ◌+◌, ◌<◌}
use native.Mathlib.Numerals.{add-one}
use native.Mathlib.Omega.{arith}
use borrow.Author.Tests.{lt-ltb}
use lib.Dec.{eqb}
use lib.ListN.{length, take, drop, set, get_or}
use lib.Seq.{drop-cons, take-suc-set}
use Rattle.session.specs.Keys.{newline}
use Rattle.session.specs.Grammar.{closed_line, split_lines}
use Rattle.partial_line.specs.declared.PartialLine.{PartialLine}
use Rattle.partial_line.specs.PartialLines.{line_bytes, pushed}
use Rattle.partial_line.specs.Filling.{lines_after}

-- the line's bytes and one more
pub pushed_bytes : (h : PartialLine) (x : ℕ) → length h.bytes ≡ 41 → h.len < 41 → line_bytes (pushed h x) ≡ line_bytes h ++ (x ∷ [])
unfolding pushed
pushed_bytes h x room l =
    rw (lt-ltb _ _ l)
    (ap (λ (n : ℕ). take n (set h.bytes h.len x)) (add-one h.len) ∙ take-suc-set h.bytes h.len x (omega (arith, room)))

line_closes : (b : List ℕ) (x : ℕ) (xs : List ℕ) → eqb x newline ≡ true → split_lines b (x ∷ xs) ≡ closed_line b ∷ split_lines [] xs
unfolding split_lines
line_closes b x xs e = rw e

line_longer : (b : List ℕ) (x : ℕ) (xs : List ℕ) → eqb x newline ≡ false → split_lines b (x ∷ xs) ≡ split_lines (b ++ (x ∷ [])) xs
unfolding split_lines
line_longer b x xs e = rw e

module _ (xs : List ℕ) (i : ℕ) (l : i < length xs) (more : List ℕ) where
  next_byte : drop i xs ++ more ≡ get_or xs i 0 ∷ (drop (i + 1) xs ++ more)
  next_byte =
      ap (λ (w : List ℕ). w ++ more) (drop-cons xs i 0 l)
      ∙ ap (λ (n : ℕ). get_or xs i 0 ∷ (drop n xs ++ more)) (sym (add-one i))

  pub closed_at : (b : List ℕ) → eqb (get_or xs i 0) newline ≡ true
      → split_lines b (drop i xs ++ more) ≡ closed_line b ∷ split_lines [] (drop (i + 1) xs ++ more)
  closed_at b e = ap (split_lines b) next_byte ∙ line_closes b (get_or xs i 0) (drop (i + 1) xs ++ more) e

  pub longer_at : (h : PartialLine) (q : PartialLine) → length h.bytes ≡ 41 → h.len < 41 → eqb (get_or xs i 0) newline ≡ false
      → q ≡ pushed h (get_or xs i 0) → lines_after h (drop i xs ++ more) ≡ lines_after q (drop (i + 1) xs ++ more)
  longer_at h q room short e p =
      ap (split_lines (line_bytes h)) next_byte
      ∙ line_longer (line_bytes h) (get_or xs i 0) (drop (i + 1) xs ++ more) e
      ∙ ap (λ (w : List ℕ). split_lines w (drop (i + 1) xs ++ more)) (sym (pushed_bytes h (get_or xs i 0) room short))
      ∙ ap (λ (g : PartialLine). lines_after g (drop (i + 1) xs ++ more)) (sym p)

pub not_both : {X : Type 0} → ◌≡◌ {A = Bool} false true → X
not_both e = let z : ◌≡◌ {A = ℕ} 0 1 = cc in absurd (omega arith)
