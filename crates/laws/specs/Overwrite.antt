-- A part of a list written over: what stands there, before it and after it. Records of 34 and of 66 words do not overlap.
-- Assumes nothing.
use Rattle.std.specs.Prelude.{ℕ, ◌+◌, ◌*◌, ◌-◌, ◌≤◌, ◌<◌, ◌≡◌, ◌⊎◌, List, ◌++◌, take}
use Rattle.std.proofs.Common.{sym, ◌∙◌, inl, inr, length-append, length-take, length-drop, ext_get_or}
use Rattle.std.proofs.Math.Path.{ap}
use native.Mathlib.Omega.{arith}
use Rattle.std.proofs.Math.Decide.{dec_lt}
use Rattle.std.proofs.Math.ListN.{length, get_or, drop, get_or-append}
use Rattle.std.proofs.Math.Seq.{get_or-append-add, get_or-drop, get_or-take}
use Rattle.spec.specs.Words.{overwrite}

-- ---- lists: a part written over

module _ (w : List ℕ) (i : ℕ) (v : List ℕ) (fits : i + length v ≤ length w) where
  front : length (take i w) ≡ i
  front = rw length-take (omega arith)

  middle : length (take i w ++ v) ≡ i + length v
  middle = rw (length-append, front)

  pub over_length : length (overwrite w i v) ≡ length w
  unfolding overwrite
  over_length = rw (length-append, middle, length-drop) (omega arith)

  pub over_before : (j : ℕ) → j < i → get_or (overwrite w i v) j 0 ≡ get_or w j 0
  unfolding overwrite
  over_before j h =
      get_or-append (take i w ++ v) (drop (i + length v) w) 0 j (rw middle (omega arith))
      ∙ get_or-append (take i w) v 0 j (rw front h)
      ∙ get_or-take i w j 0 h

  pub over_in : (j : ℕ) → j < length v → get_or (overwrite w i v) (i + j) 0 ≡ get_or v j 0
  unfolding overwrite
  over_in j h =
      get_or-append (take i w ++ v) (drop (i + length v) w) 0 (i + j) (rw middle (omega arith))
      ∙ ap (λ (n : ℕ). get_or (take i w ++ v) (n + j) 0) (sym front)
      ∙ get_or-append-add (take i w) v j 0

  pub over_after : (j : ℕ) → i + length v ≤ j → get_or (overwrite w i v) j 0 ≡ get_or w j 0
  unfolding overwrite
  over_after j h =
      let e : j ≡ length (take i w ++ v) + (j - (i + length v)) = rw middle (omega arith) in
      let f : (i + length v) + (j - (i + length v)) ≡ j = omega arith in
      ap (λ (n : ℕ). get_or (take i w ++ v ++ drop (i + length v) w) n 0) e
      ∙ get_or-append-add (take i w ++ v) (drop (i + length v) w) (j - (i + length v)) 0
      ∙ get_or-drop (i + length v) w (j - (i + length v)) 0
      ∙ ap (λ (n : ℕ). get_or w n 0) f

  pub over_out : (j : ℕ) → (j < i) ⊎ (i + length v ≤ j) → get_or (overwrite w i v) j 0 ≡ get_or w j 0
  over_out j (inl h) = over_before j h
  over_out j (inr h) = over_after j h

-- two parts with the same words
pub same_part : (v w : List ℕ) (a n : ℕ) → length v ≡ length w → ((j : ℕ) → j < n → get_or v (a + j) 0 ≡ get_or w (a + j) 0) → take n (drop a v) ≡ take n (drop a w)
same_part v w a n e h = ext_get_or 0 (take n (drop a v)) (take n (drop a w)) lengths words
  where
    lengths : length (take n (drop a v)) ≡ length (take n (drop a w))
    lengths = rw (length-take, length-drop, e, length-take, length-drop)

    words : (j : ℕ) → j < length (take n (drop a v)) → get_or (take n (drop a v)) j 0 ≡ get_or (take n (drop a w)) j 0
    words j p =
        let q : j < n = omega (arith, rw length-take at p) in
        get_or-take n (drop a v) j 0 q ∙ get_or-drop a v j 0 ∙ h j q ∙ sym (get_or-drop a w j 0) ∙ sym (get_or-take n (drop a w) j 0 q)

-- ---- records do not overlap

pub apart_34 : (j k b : ℕ) → ¬ (j ≡ k) → b < 34 → (34 * j + b < 34 * k) ⊎ (34 * k + 34 ≤ 34 * j + b)
apart_34 j k b d h = go (dec_lt j k)
  where
    go : Dec (j < k) → (34 * j + b < 34 * k) ⊎ (34 * k + 34 ≤ 34 * j + b)
    go (yes p) = inl (omega arith)
    go (no n) = inr (omega arith)

pub apart_66 : (j k b : ℕ) → ¬ (j ≡ k) → b < 66 → (66 * j + b < 66 * k) ⊎ (66 * k + 66 ≤ 66 * j + b)
apart_66 j k b d h = go (dec_lt j k)
  where
    go : Dec (j < k) → (66 * j + b < 66 * k) ⊎ (66 * k + 66 ≤ 66 * j + b)
    go (yes p) = inl (omega arith)
    go (no n) = inr (omega arith)
