-- Loops over records that stand one after the other: their words written, their words tested. Assumes nothing.
use Prim.Native.Nat.{ℕ, suc, ◌+◌, ◌-◌, ◌≤◌, ◌<◌}
use mathlib.Core.Path.{◌≡◌, refl, sym, ap, ◌∙◌}
use mathlib.Core.Bool.{Bool, true, ◌&&◌, and_assoc, and-true}
use mathlib.Core.List.{List, [], ◌∷◌, ◌++◌}
use native.Mathlib.Omega.{arith}
use lib.ListN.{length}
use Rattle.spec.specs.Lists.{concat_map, every, range}
use Rattle.spec.specs.Words.{overwrite}
use Rattle.yard_words.proofs.Over.{over_none, over_then}

-- the numbers from k on, while there is one
left_on : (k n : ℕ) → k < n → range k (n - k) ≡ k ∷ range (k + 1) (n - (k + 1))
unfolding range
left_on k n h = let e : n - k ≡ suc (n - (k + 1)) = omega arith in let j : k + 1 ≡ suc k = omega arith in rw (e, j)

left_none : (k n : ℕ) → n ≤ k → range k (n - k) ≡ []
unfolding range
left_none k n h = let e : n - k ≡ 0 = omega arith in rw e

left_all : (n : ℕ) → range 0 (n - 0) ≡ range 0 n
left_all n = let e : n - 0 ≡ n = omega arith in rw e

-- ---- words written: of n records those before k are written, and what the others then leave is what all leave

module _ (f : ℕ → List ℕ) (place : ℕ → ℕ) (n : ℕ) where
  pub record Rest (w₀ w : List ℕ) (k : ℕ) : Type 0 where
    pub few : k ≤ n
    pub long : length w ≡ length w₀
    pub words : overwrite w (place k) (concat_map f (range k (n - k))) ≡ overwrite w₀ (place 0) (concat_map f (range 0 n))

  pub rest_all : (w : List ℕ) → Rest w w 0
  rest_all w = record { few = omega arith; long = refl; words = rw (left_all n) refl }

  pub rest_on : (w₀ w v : List ℕ) (k : ℕ) → Rest w₀ w k → k < n → place (k + 1) ≡ place k + length (f k) → place k + length (f k) ≤ length w
      → v ≡ overwrite w (place k) (f k) → length v ≡ length w → Rest w₀ v (k + 1)
  unfolding concat_map
  rest_on w₀ w v k r h next room e g =
      let later = concat_map f (range (k + 1) (n - (k + 1))) in
      let all : concat_map f (range k (n - k)) ≡ f k ++ later = ap (λ (ks : List ℕ). concat_map f ks) (left_on k n h) in
      let one_then = sym (over_then w (place k) (f k) later room) in
      record {
        few = omega arith;
        long = g ∙ r.long;
        words = rw (e, next) (one_then ∙ ap (λ (u : List ℕ). overwrite w (place k) u) (sym all) ∙ r.words);
      }

  pub rest_none : (w₀ w : List ℕ) (k : ℕ) → Rest w₀ w k → n ≤ k → w ≡ overwrite w₀ (place 0) (concat_map f (range 0 n))
  unfolding concat_map
  rest_none w₀ w k r h =
      let none : overwrite w (place k) (concat_map f (range k (n - k))) ≡ w = rw (left_none k n h) (over_none w (place k)) in
      sym none ∙ r.words

-- ---- words tested, of all records: the first test and those of the records before k gave b

module _ (f : ℕ → Bool) (n : ℕ) (first : Bool) where
  abbrev pub Tested : Bool → ℕ → Type 0
  Tested b k = (b && every f (range k (n - k))) ≡ (first && every f (range 0 n))

  pub tested_none : Tested first 0
  tested_none = rw (left_all n) refl

  pub tested_on : (b : Bool) (k : ℕ) → Tested b k → k < n → Tested (b && f k) (k + 1)
  unfolding every
  tested_on b k t h =
      let rest = every f (range (k + 1) (n - (k + 1))) in
      let one : every f (range k (n - k)) ≡ f k && rest = rw (left_on k n h) in
      and_assoc b (f k) rest ∙ ap (λ (x : Bool). b && x) (sym one) ∙ t

  pub tested_all : (b : Bool) (k : ℕ) → Tested b k → n ≤ k → b ≡ (first && every f (range 0 n))
  unfolding every
  tested_all b k t h =
      let none : every f (range k (n - k)) ≡ true = rw (left_none k n h) in
      sym (and-true b) ∙ ap (λ (x : Bool). b && x) (sym none) ∙ t
