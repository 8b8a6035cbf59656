-- Laws of a list of words with zeros after it, which is how a fresh bucket is filled from the front.
use mathlib.Core.Path.{◌≡◌, refl, sym, ap, ◌∙◌}
use mathlib.Core.List.{List, [], ◌∷◌, ◌++◌}
use mathlib.Core.Bool.{true, false}
use Prim.Native.Nat.{ℕ, zero, suc, ◌+◌, ◌-◌, ◌<◌, ◌≤◌}
use native.Mathlib.Omega.{arith}
use lib.ListN.{length, get_or, take, drop, set, replicate, length-take, length-drop, length-append}
use lib.Seq.{paste, take_at, drop-append-add, set_at, append_snoc, take-take, drop-drop, length-take-le, take-nil}
use Rattle.spec.specs.Lists.{add_tag, remove_tag}
use Rattle.spec.specs.Words.{bucket_of}
use Rattle.bucket_search.specs.Tags.{tags_in, rank, found}
use Rattle.bucket_words.proofs.Laws.{add_rank, remove_rank}

-- a list of words, then zeros up to 66 words
unfoldable pub padded : List ℕ → List ℕ
padded xs = xs ++ replicate (66 - length xs) 0

abbrev pub words_of : ℕ → List ℕ → List ℕ
words_of flag ts = padded (flag ∷ length ts ∷ ts)

abbrev put_at : ℕ → ℕ → List ℕ → List ℕ
put_at p x ts = take p ts ++ (x ∷ drop p ts)

abbrev cut_at : ℕ → List ℕ → List ℕ
cut_at p ts = take p ts ++ drop (suc p) ts

pub words_bucket : (f : ℕ) (ts : List ℕ) → words_of f ts ≡ bucket_of f ts
unfolding padded bucket_of
words_bucket f ts = let e : 66 - suc (suc (length ts)) ≡ 64 - length ts = omega arith in rw e

drop_zeros : (j k : ℕ) → drop {A = ℕ} j (replicate k 0) ≡ replicate (k - j) 0
drop_zeros zero k = let e : k - 0 ≡ k = omega arith in rw e
drop_zeros (suc j) zero = let e : 0 - suc j ≡ 0 = omega arith in rw e
drop_zeros (suc j) (suc k) = let e : suc k - suc j ≡ k - j = omega arith in rw e (drop_zeros j k)

-- one word more
pub pad_push : (xs : List ℕ) (x m : ℕ) → length xs ≡ m → m < 66 → set (padded xs) m x ≡ padded (xs ++ (x ∷ []))
unfolding padded
pad_push xs x m e h =
    let k : 66 - length xs ≡ suc (65 - m) = omega arith in
    let k' : 66 - length (xs ++ (x ∷ [])) ≡ 65 - m = simp length-append (omega arith) in
    rw (k, k') (set_at xs 0 (replicate (65 - m) 0) x m e ∙ sym (append_snoc xs x (replicate (65 - m) 0)))

-- j words more
pub pad_paste : (xs s : List ℕ) (m j : ℕ) → length xs ≡ m → j ≤ length s → paste (padded xs) m s j ≡ padded (xs ++ take j s)
unfolding padded
pad_paste xs s m j e h =
    let z : List ℕ = replicate (66 - length xs) 0 in
    let k : 66 - length xs - j ≡ 66 - length (xs ++ take j s) = rw (length-append, length-take-le j s h) (omega arith) in
    ap (λ (l : List ℕ). l ++ take j s ++ drop (m + j) (xs ++ z)) (take_at xs z m e)
    ∙ ap (λ (l : List ℕ). xs ++ take j s ++ l)
    (ap (λ (n : ℕ). drop (n + j) (xs ++ z)) (sym e) ∙ drop-append-add xs z j ∙ drop_zeros j (66 - length xs) ∙ ap (λ (n : ℕ). replicate n 0) k)

take_len : (k : ℕ) (l : List ℕ) → take k l ≡ take (length (take k l)) l
take_len zero l = refl
take_len (suc k) [] = refl
take_len (suc k) (x ∷ l) = ap (λ (r : List ℕ). x ∷ r) (take_len k l)

pub drop_take : (p n : ℕ) (l : List ℕ) → drop p (take n l) ≡ take (n - p) (drop p l)
drop_take zero n l = let e : n - 0 ≡ n = omega arith in rw e
drop_take (suc p) zero l = let e : 0 - suc p ≡ 0 = omega arith in rw e
drop_take (suc p) (suc n) [] = rw (take-nil (suc n - suc p))
drop_take (suc p) (suc n) (x ∷ l) = let e : suc n - suc p ≡ n - p = omega arith in rw e (drop_take p n l)

-- the tags as the words from the third on
module _ (ws : List ℕ) where
  pub tags_words : tags_in ws ≡ take (length (tags_in ws)) (drop 2 ws)
  tags_words = take_len (get_or ws 1 0) (drop 2 ws)

  pub tags_front : (p : ℕ) → p ≤ length (tags_in ws) → take p (tags_in ws) ≡ take p (drop 2 ws)
  tags_front p h = ap (λ (l : List ℕ). take p l) tags_words ∙ take-take p (length (tags_in ws)) (drop 2 ws) h

  pub tags_back : (p : ℕ) → drop p (tags_in ws) ≡ take (length (tags_in ws) - p) (drop (2 + p) ws)
  tags_back p = ap (λ (l : List ℕ). drop p l) tags_words ∙ drop_take p (length (tags_in ws)) (drop 2 ws)
      ∙ ap (λ (l : List ℕ). take (length (tags_in ws) - p) l) (drop-drop p 2 ws)

-- two copies with a word between
module _ (f n p : ℕ) (ws : List ℕ) (len : length ws ≡ 66) (en : n ≡ length (tags_in ws)) (o₁ o₂ : List ℕ) where
  head : (k : ℕ) → set (set (replicate 66 0) 0 f) 1 k ≡ padded (f ∷ k ∷ [])
  unfolding padded
  head k = refl

  size : length (tags_in ws) ≤ 64
  size = rw (length-take (get_or ws 1 0) (drop 2 ws), length-drop 2 ws) (omega arith)

  pub put_words : (x : ℕ) → n < 64 → p ≤ n
      → o₁ ≡ paste (set (set (replicate 66 0) 0 f) 1 (n + 1)) 2 (drop 2 ws) p
      → o₂ ≡ paste (set o₁ (2 + p) x) (3 + p) (drop (2 + p) ws) (n - p)
      → o₂ ≡ words_of f (put_at p x (tags_in ws))
  put_words x hn hp e₁ e₂ =
      let D : List ℕ = drop 2 ws in
      let E : List ℕ = drop (2 + p) ws in
      let h : List ℕ = f ∷ (n + 1) ∷ [] in
      let lD : p ≤ length D = rw (length-drop 2 ws) (omega arith) in
      let lE : n - p ≤ length E = rw (length-drop (2 + p) ws) (omega (arith, size)) in
      let lA : length (take p D) ≡ p = length-take-le p D lD in
      let x₁ : o₁ ≡ padded (h ++ take p D) = e₁ ∙ ap (λ (l : List ℕ). paste l 2 D p) (head (n + 1)) ∙ pad_paste h D 2 p refl lD in
      let x₂ : set o₁ (2 + p) x ≡ padded (h ++ take p D ++ (x ∷ [])) =
      ap (λ (l : List ℕ). set l (2 + p) x) x₁ ∙ pad_push (h ++ take p D) x (2 + p) (omega arith) (omega arith) in
      let l₂ : length (h ++ take p D ++ (x ∷ [])) ≡ 3 + p = rw (length-append (h ++ take p D) (x ∷ [])) (omega arith) in
      let x₃ : o₂ ≡ padded (h ++ take p D ++ (x ∷ []) ++ take (n - p) E) =
      e₂ ∙ ap (λ (l : List ℕ). paste l (3 + p) E (n - p)) x₂ ∙ pad_paste (h ++ take p D ++ (x ∷ [])) E (3 + p) (n - p) l₂ lE in
      let t : take p (tags_in ws) ≡ take p D = tags_front ws p (omega arith) in
      let d : drop p (tags_in ws) ≡ take (n - p) E = rw en (tags_back ws p) in
      let q : h ++ take p D ++ (x ∷ []) ++ take (n - p) E ≡ f ∷ (n + 1) ∷ put_at p x (tags_in ws) =
      rw (t, d) (ap (λ (l : List ℕ). f ∷ (n + 1) ∷ l) (append_snoc (take p D) x (take (n - p) E))) in
      let c : n + 1 ≡ length (put_at p x (tags_in ws)) =
      rw (length-append (take p (tags_in ws)) (x ∷ drop p (tags_in ws)), length-take p (tags_in ws), length-drop p (tags_in ws)) (omega arith) in
      x₃ ∙ ap padded (q ∙ ap (λ (k : ℕ). f ∷ k ∷ put_at p x (tags_in ws)) c)

  pub cut_words : n ≤ 64 → p < n
      → o₁ ≡ paste (set (set (replicate 66 0) 0 f) 1 (n - 1)) 2 (drop 2 ws) p
      → o₂ ≡ paste o₁ (2 + p) (drop (3 + p) ws) (n - 1 - p)
      → o₂ ≡ words_of f (cut_at p (tags_in ws))
  cut_words hn hp e₁ e₂ =
      let D : List ℕ = drop 2 ws in
      let E : List ℕ = drop (3 + p) ws in
      let h : List ℕ = f ∷ (n - 1) ∷ [] in
      let lD : p ≤ length D = rw (length-drop 2 ws) (omega arith) in
      let lE : n - 1 - p ≤ length E = rw (length-drop (3 + p) ws) (omega (arith, size)) in
      let lA : length (take p D) ≡ p = length-take-le p D lD in
      let x₁ : o₁ ≡ padded (h ++ take p D) = e₁ ∙ ap (λ (l : List ℕ). paste l 2 D p) (head (n - 1)) ∙ pad_paste h D 2 p refl lD in
      let x₂ : o₂ ≡ padded (h ++ take p D ++ take (n - 1 - p) E) =
      e₂ ∙ ap (λ (l : List ℕ). paste l (2 + p) E (n - 1 - p)) x₁ ∙ pad_paste (h ++ take p D) E (2 + p) (n - 1 - p) (omega arith) lE in
      let t : take p (tags_in ws) ≡ take p D = tags_front ws p (omega arith) in
      let i : 2 + suc p ≡ 3 + p = omega arith in
      let j : length (tags_in ws) - suc p ≡ n - 1 - p = omega arith in
      let d : drop (suc p) (tags_in ws) ≡ take (n - 1 - p) E = tags_back ws (suc p) ∙ rw (i, j) in
      let c : n - 1 ≡ length (cut_at p (tags_in ws)) =
      rw (length-append (take p (tags_in ws)) (drop (suc p) (tags_in ws)), length-take p (tags_in ws), length-drop (suc p) (tags_in ws)) (omega arith) in
      x₂ ∙ ap padded (ap (λ (k : ℕ). f ∷ k ∷ (take p D ++ take (n - 1 - p) E)) c ∙ rw (t, d))

  pub put_bucket : (x : ℕ) → n < 64 → p ≤ n → p ≡ rank x (tags_in ws) → found x (tags_in ws) ≡ false
      → o₁ ≡ paste (set (set (replicate 66 0) 0 f) 1 (n + 1)) 2 (drop 2 ws) p
      → o₂ ≡ paste (set o₁ (2 + p) x) (3 + p) (drop (2 + p) ws) (n - p)
      → o₂ ≡ bucket_of f (add_tag x (tags_in ws))
  put_bucket x hn hp ep m e₁ e₂ =
      put_words x hn hp e₁ e₂ ∙ words_bucket f (put_at p x (tags_in ws)) ∙ rw (ep, add_rank x (tags_in ws) m)

  pub cut_bucket : (x : ℕ) → n ≤ 64 → p < n → p ≡ rank x (tags_in ws) → found x (tags_in ws) ≡ true
      → o₁ ≡ paste (set (set (replicate 66 0) 0 f) 1 (n - 1)) 2 (drop 2 ws) p
      → o₂ ≡ paste o₁ (2 + p) (drop (3 + p) ws) (n - 1 - p)
      → o₂ ≡ bucket_of f (remove_tag x (tags_in ws))
  cut_bucket x hn hp ep m e₁ e₂ =
      cut_words hn hp e₁ e₂ ∙ words_bucket f (cut_at p (tags_in ws)) ∙ rw (ep, remove_rank x (tags_in ws) m)
