-- Laws of a bucket's words that are a list with zeros after it.
use mathlib.Core.Path.{◌≡◌, refl, sym, ap, ◌∙◌}
use mathlib.Core.List.{List, [], ◌∷◌}
use Prim.Native.Nat.{ℕ, ◌-◌, ◌≤◌}
use native.Mathlib.Omega.{arith}
use lib.ListN.{length, get_or, drop, set, replicate, length-take}
use lib.Seq.{paste, take_at}
use Rattle.spec.specs.Words.{bucket_of}
use Rattle.bucket_words.proofs.Pad.{words_of, pad_paste}
use Rattle.bucket.specs.Bucket.{tags_in}
unfoldable pub use Rattle.bucket_words.proofs.Pad.{padded}
pub use Rattle.bucket_words.proofs.Pad.{words_bucket, pad_push, drop_take, tags_words}

-- the tags in a bucket with the flag f
pub fresh_words : (f : ℕ) (ws o : List ℕ) → length ws ≡ 66 → o ≡ paste (set (set (replicate 66 0) 0 f) 1 (length (tags_in ws))) 2 (drop 2 ws)
    (length (tags_in ws))
    → o ≡ words_of f (tags_in ws)
unfolding padded
fresh_words f ws o len e =
    let n : ℕ = length (tags_in ws) in
    let lD : n ≤ length (drop 2 ws) = rw (length-take (get_or ws 1 0) (drop 2 ws)) (omega arith) in
    e ∙ pad_paste (f ∷ n ∷ []) (drop 2 ws) 2 n refl lD ∙ ap (λ (l : List ℕ). padded (f ∷ n ∷ l)) (sym (tags_words ws))

-- reading the tags back
pub tags_of_words : (f : ℕ) (ts : List ℕ) → tags_in (words_of f ts) ≡ ts
unfolding padded
tags_of_words f ts = take_at ts (replicate (66 - length (f ∷ length ts ∷ ts)) 0) (length ts) refl

pub tags_of_bucket : (f : ℕ) (ts : List ℕ) → tags_in (bucket_of f ts) ≡ ts
unfolding bucket_of
tags_of_bucket f ts = take_at ts (replicate (64 - length ts) 0) (length ts) refl
