-- Laws that the proofs of the functions cite: a line with the byte that closes it. Assumes nothing.
use mathlib.Core.Path.{◌≡◌, sym, ap, ◌∙◌}
use mathlib.Core.List.{List, [], ◌∷◌}
use mathlib.Core.Bool.{Bool, false, ◌&&◌, and-false}
use Prim.Native.Nat.{ℕ, ◌+◌}
use native.Mathlib.Omega.{arith}
use borrow.Author.Tests.{eq-eqb, ne_eqb}
use lib.Dec.{eqb}
use lib.ListN.{length, get_or, take, length-append}
use lib.Seq.{length-take-le}
use Rattle.session.specs.Keys.{newline}
use Rattle.session.specs.Grammar.{starts_with, equals}
use Rattle.recording.specs.Recording.{close}

-- ---- a line with the byte that closes it

closes_as : (p l : List ℕ) → length p ≡ length l + 1 → get_or p (length l) 0 ≡ newline → starts_with p (close l) ≡ starts_with (take (length l) p) l
unfolding starts_with
closes_as [] l h e = absurd (omega arith)
closes_as (k ∷ []) [] h e = rw (eq-eqb newline k (sym e))
closes_as (k ∷ x ∷ p) [] h e = absurd (omega arith)
closes_as (k ∷ p) (x ∷ l) h e = ap (λ (b : Bool). eqb x k && b) (closes_as p l (omega arith) e)

closes_not : (p l : List ℕ) → length p ≡ length l + 1 → (get_or p (length l) 0 ≡ newline → ⊥) → starts_with p (close l) ≡ false
unfolding starts_with
closes_not [] l h e = absurd (omega arith)
closes_not (k ∷ []) [] h e = rw (ne_eqb newline k (λ q. e (sym q)))
closes_not (k ∷ x ∷ p) [] h e = absurd (omega arith)
closes_not (k ∷ p) (x ∷ l) h e = ap (λ (b : Bool). eqb x k && b) (closes_not p l (omega arith) e) ∙ and-false (eqb x k)

module _ (p l : List ℕ) where
  longer : length (close l) ≡ length l + 1
  longer = length-append l (newline ∷ [])

  pub other_length : (length p ≡ length l + 1 → ⊥) → equals p (close l) ≡ false
  unfolding equals
  other_length n = rw (ne_eqb (length (close l)) (length p) (λ q. n (sym q ∙ longer)))

  pub other_last : length p ≡ length l + 1 → (get_or p (length l) 0 ≡ newline → ⊥) → equals p (close l) ≡ false
  unfolding equals
  other_last h n = ap (λ (b : Bool). eqb (length (close l)) (length p) && b) (closes_not p l h n) ∙ and-false (eqb (length (close l)) (length p))

  pub same_last : length p ≡ length l + 1 → get_or p (length l) 0 ≡ newline → equals (take (length l) p) l ≡ equals p (close l)
  unfolding equals
  same_last h e =
      let short : length (take (length l) p) ≡ length l = length-take-le (length l) p (omega arith) in
      rw (closes_as p l h e, eq-eqb (length (close l)) (length p) (longer ∙ sym h), eq-eqb (length l) (length (take (length l) p)) (sym short))
