-- A list kept in an array, as far as it has places, with a count that stops one past them: `KeptIn`. One more element keeps it, `keeps_one` and
-- `keeps_past`; and the list is kept whole, or the count says that it is longer: `kept_as`. Assumes nothing.
use Rattle.std.specs.Prelude.{◌≡◌, refl, List, [], ◌∷◌, ◌++◌, Bool, true, false, ℕ, suc, ◌+◌, ◌<◌, ◌≤◌, min, ltb, length, take, set}
use Rattle.std.proofs.Common.{sym, ap, ◌∙◌, add-one, arith, ltb-true, ltb-false, length-append, length-set, take_all, take-suc-set}
use Rattle.std.proofs.lemmas.List.{take-append-le}

pub record KeptIn {A : Type 0} (most n : ℕ) (w xs : List A) : Type 0 where
  pub room : length w ≡ most
  pub counted : n ≡ min (suc most) (length xs)
  pub same : take n w ≡ take most xs

pub data KeptAs {A : Type 0} (most n : ℕ) (w xs : List A) : Type 0 where
  past : most < n → most < length xs → KeptAs most n w xs
  whole : n ≤ most → take n w ≡ xs → KeptAs most n w xs

module _ {A : Type 0} {most n : ℕ} {w xs : List A} (o : KeptIn most n w xs) where
  pub kept_as : KeptAs most n w xs
  kept_as = go (ltb most (length xs)) refl
    where
      go : (b : Bool) → ltb most (length xs) ≡ b → KeptAs most n w xs
      go true e = let h : most < length xs = ltb-true _ _ e in past (omega (arith, o.counted)) h
      go false e = let h : length xs ≤ most = ltb-false _ _ e in whole (omega (arith, o.counted)) (o.same ∙ take_all most xs h)

  module _ (x : A) where
    abbrev more : List A
    more = xs ++ (x ∷ [])

    longer : length more ≡ length xs + 1
    longer = length-append xs (x ∷ [])

    pub keeps_one : n < most → KeptIn most (n + 1) (set w n x) more
    keeps_one f =
        let g : length xs < most = omega (arith, o.counted) in
        record {
          room = length-set w n x ∙ o.room;
          counted = omega (arith, o.counted, longer);
          same =
              ap (λ (k : ℕ). take k (set w n x)) (add-one n)
              ∙ take-suc-set w n x (omega (arith, o.room))
              ∙ ap (λ (v : List A). v ++ (x ∷ [])) (o.same ∙ take_all most xs (omega arith))
              ∙ sym (take_all most more (omega (arith, longer)));
        }

    pub keeps_past : most ≤ n → KeptIn most (suc most) w more
    keeps_past f =
        let g : most ≤ length xs = omega (arith, o.counted) in
        record {
          room = o.room;
          counted = omega (arith, longer);
          same =
              take_all (suc most) w (omega (arith, o.room))
              ∙ sym (take_all n w (omega (arith, o.room)))
              ∙ o.same
              ∙ sym (take-append-le most xs (x ∷ []) g);
        }
