-- What a bucket's first word, count and tags read after a write to the bucket pool. Assumes nothing.
use Prim.Native.Nat.{ℕ, suc, ◌+◌, ◌*◌, ◌-◌, ◌≤◌, ◌<◌}
use Rattle.std.specs.Prelude.{◌≡◌, set, take, drop}
use Rattle.std.proofs.Math.Path.{refl, sym, ap}
use Rattle.std.proofs.Common.{◌∙◌, length-set, length-append, length-take, length-drop, get_or-drop, get_or-take, ext_get_or}
use mathlib.Core.List.{List, ◌++◌}
use native.Mathlib.Omega.{arith}
use Rattle.std.proofs.Math.Decide.{ℕ_discrete, dec_lt}
use Rattle.std.proofs.Math.ListN.{length, get_or, replicate, get_or-replicate, get_or-append, get_or-eq_default}
use Rattle.std.proofs.lemmas.List.{length-replicate}
use Rattle.std.proofs.Math.Seq.{get_or-set_same, get_or-set_other, get_or-append-add}
use Rattle.spec.specs.Words.{changeable, count, tags, overwrite, bucket_of}
use Rattle.laws.specs.Tests.{At, hit, miss, at_hit, at_miss}
use Rattle.laws.specs.Overwrite.{same_part, over_length, over_in, over_out, apart_66}

module _ (w : List ℕ) (B : ℕ) (fits : length w ≡ 66 * B) (k : ℕ) (below : k < B) where
  pub fr_changeable : (j : ℕ) → At (j ≡ k) 0 (changeable w j) (changeable (set w (66 * k) 0) j)
  unfolding changeable
  fr_changeable j = go (ℕ_discrete j k)
    where
      go : Dec (j ≡ k) → At (j ≡ k) 0 (get_or w (66 * j) 0) (get_or (set w (66 * k) 0) (66 * j) 0)
      go (yes p) = hit p (ap (λ (n : ℕ). get_or (set w (66 * k) 0) (66 * n) 0) p ∙ get_or-set_same w (66 * k) 0 0 (omega arith))
      go (no n) = miss n (get_or-set_other w (66 * k) (66 * j) 0 0 (omega arith))

  pub fr_count : (j : ℕ) → count (set w (66 * k) 0) j ≡ count w j
  unfolding count
  fr_count j = get_or-set_other w (66 * k) (66 * j + 1) 0 0 (omega arith)

  pub fr_word : (j a : ℕ) → a < 64 → get_or (set w (66 * k) 0) (66 * j + 2 + a) 0 ≡ get_or w (66 * j + 2 + a) 0
  fr_word j a h = get_or-set_other w (66 * k) (66 * j + 2 + a) 0 0 (omega arith)

  pub fr_tags : (j : ℕ) → count w j ≤ 64 → tags (set w (66 * k) 0) j ≡ tags w j
  unfolding tags
  fr_tags j h = rw (fr_count j) (same_part (set w (66 * k) 0) w (66 * j + 2) (count w j) (length-set w (66 * k) 0) (λ a p. fr_word j a (omega arith)))

  module _ (ks : List ℕ) (few : length ks ≤ 64) where
    pub bk_long : length (bucket_of 1 ks) ≡ 66
    unfolding bucket_of
    bk_long = rw (length-append, length-replicate) (omega arith)

    pub bk_fits : 66 * k + length (bucket_of 1 ks) ≤ length w
    bk_fits = rw bk_long (omega arith)

    pub bk_length : length (overwrite w (66 * k) (bucket_of 1 ks)) ≡ length w
    bk_length = over_length w (66 * k) (bucket_of 1 ks) bk_fits

    -- word b of bucket j
    pub bk_word : (j b : ℕ) → b < 66 → At (j ≡ k) (get_or (bucket_of 1 ks) b 0) (get_or w (66 * j + b) 0)
        (get_or (overwrite w (66 * k) (bucket_of 1 ks)) (66 * j + b) 0)
    bk_word j b h = go (ℕ_discrete j k)
      where
        go : Dec (j ≡ k) → At (j ≡ k) (get_or (bucket_of 1 ks) b 0) (get_or w (66 * j + b) 0) (get_or (overwrite w (66 * k) (bucket_of 1 ks)) (66 * j + b) 0)
        go (yes q) =
            hit q (ap (λ (n : ℕ). get_or (overwrite w (66 * k) (bucket_of 1 ks)) (66 * n + b) 0) q ∙ over_in w (66 * k) (bucket_of 1 ks) bk_fits b (rw bk_long h))
        go (no n) = miss n (over_out w (66 * k) (bucket_of 1 ks) bk_fits (66 * j + b) (rw bk_long (apart_66 j k b n h)))

    pub bk_changeable : (j : ℕ) → At (j ≡ k) 1 (changeable w j) (changeable (overwrite w (66 * k) (bucket_of 1 ks)) j)
    unfolding changeable bucket_of
    bk_changeable j = let e : 66 * j + 0 ≡ 66 * j = omega arith in rw e at (bk_word j 0 (omega arith))

    pub bk_count : (j : ℕ) → At (j ≡ k) (length ks) (count w j) (count (overwrite w (66 * k) (bucket_of 1 ks)) j)
    unfolding count bucket_of
    bk_count j = bk_word j 1 (omega arith)

    -- past the tags there are zeros, and past a list's end get_or gives 0 too
    pub bk_tag : (a : ℕ) → a < 64 → get_or (bucket_of 1 ks) (2 + a) 0 ≡ get_or ks a 0
    unfolding bucket_of
    bk_tag a h =
        let e : 2 + a ≡ suc (suc a) = omega arith in
        rw e (go (dec_lt a (length ks)))
      where
        go : Dec (a < length ks) → get_or (ks ++ replicate (64 - length ks) 0) a 0 ≡ get_or ks a 0
        go (yes p) = get_or-append ks (replicate (64 - length ks) 0) 0 a p
        go (no n) =
            let q : length ks + (a - length ks) ≡ a = omega arith in
            ap (λ (n : ℕ). get_or (ks ++ replicate (64 - length ks) 0) n 0) (sym q)
            ∙ get_or-append-add ks (replicate (64 - length ks) 0) (a - length ks) 0
            ∙ get_or-replicate (64 - length ks) (a - length ks) 0 0 (omega arith)
            ∙ sym (get_or-eq_default ks 0 (omega arith))

    pub bk_words : (j a : ℕ) → a < 64 → At (j ≡ k) (get_or ks a 0) (get_or w (66 * j + 2 + a) 0) (get_or (overwrite w (66 * k) (bucket_of 1 ks)) (66 * j + 2 + a) 0)
    bk_words j a h =
        let e : 66 * j + (2 + a) ≡ 66 * j + 2 + a = omega arith in
        rw (bk_tag a h) at (rw e at (bk_word j (2 + a) (omega arith)))

    pub bk_same : tags (overwrite w (66 * k) (bucket_of 1 ks)) k ≡ ks
    unfolding tags
    bk_same = rw (at_hit refl (bk_count k)) (ext_get_or 0 _ ks lengths words)
      where
        v : List ℕ
        v = overwrite w (66 * k) (bucket_of 1 ks)

        lengths : length (take (length ks) (drop (66 * k + 2) v)) ≡ length ks
        lengths = rw (length-take, length-drop, bk_length) (omega arith)

        words : (j : ℕ) → j < length (take (length ks) (drop (66 * k + 2) v)) → get_or (take (length ks) (drop (66 * k + 2) v)) j 0 ≡ get_or ks j 0
        words j p =
            let q : j < length ks = rw lengths at p in
            get_or-take (length ks) (drop (66 * k + 2) v) j 0 q ∙ get_or-drop (66 * k + 2) v j 0 ∙ at_hit refl (bk_words k j (omega arith))

    pub bk_tags : (j : ℕ) → count w j ≤ 64 → At (j ≡ k) ks (tags w j) (tags (overwrite w (66 * k) (bucket_of 1 ks)) j)
    unfolding tags
    bk_tags j h = go (ℕ_discrete j k)
      where
        v : List ℕ
        v = overwrite w (66 * k) (bucket_of 1 ks)

        other : ¬ (j ≡ k) → tags v j ≡ tags w j
        other n = rw (at_miss n (bk_count j)) (same_part v w (66 * j + 2) (count w j) bk_length (λ a p. at_miss n (bk_words j a (omega arith))))

        go : Dec (j ≡ k) → At (j ≡ k) ks (tags w j) (tags v j)
        go (yes p) = hit p (ap (tags v) p ∙ bk_same)
        go (no n) = miss n (other n)
