-- What adding a tag makes of a changeable bucket, and of how many tags it has.
-- Assumes nothing.
use Rattle.std.specs.Prelude.{if◌then◌else◌}
use mathlib.Core.Path.{◌≡◌, refl, sym, ap, subst}
use mathlib.Core.List.{List, [], ◌∷◌}
use mathlib.Core.Bool.{Bool, true, false}
use mathlib.Core.Logic.{⊎_elim}
use Prim.Native.Nat.{ℕ, suc, ◌+◌, ◌<◌, ◌≤◌}
use native.Mathlib.Omega.{arith}
use borrow.Author.Tests.{leb-true, leb-false}
use lib.Dec.{leb, ltb, eqb}
use lib.ListN.{length, take, drop, length-take, length-drop, length-append}
use denote.Enum.Declared.{tag_of}
use types.Run.{OneOf}
use Rattle.spec.specs.Lists.{add_tag}
use Rattle.spec.specs.Words.{bucket_of}
use Rattle.bucket.specs.declared.Bucket.{Bucket}
use Rattle.bucket.specs.declared.Changed.{Changed}
use Rattle.bucket.specs.declared.Response.{Response}
use Rattle.bucket.specs.declared.Response.TheVariants.{Yes, No, Full}
use Rattle.bucket.specs.Bucket.{rank, found, added, changed}
use Rattle.bucket.specs.contracts.Response.{the_type}
use Rattle.bucket_words.proofs.Laws.{add_rank}
use Rattle.bucket.proofs.Laws.{add_present}
use Rattle.bucket.proofs.Pad.{tags_of_bucket}

pub length_add : (x : ℕ) (ts : List ℕ) → length ts ≤ length (add_tag x ts)
unfolding add_tag
length_add x [] = omega arith
length_add x (y ∷ ys) = go (ltb x y) (eqb x y) (length_add x ys)
  where
    go : (a b : Bool) → length ys ≤ length (add_tag x ys) → suc (length ys) ≤ length (if a then (x ∷ y ∷ ys) else if b then (y ∷ ys) else (y ∷ add_tag x ys))
    go true b h = omega arith
    go false true h = omega arith
    go false false h = omega arith

pub length_put : (x : ℕ) (ts : List ℕ) → found x ts ≡ false → length (add_tag x ts) ≡ length ts + 1
length_put x ts m =
    rw (add_rank x ts m, length-append (take (rank x ts) ts) (x ∷ drop (rank x ts) ts), length-take (rank x ts) ts, length-drop (rank x ts) ts) (omega arith)

-- what `added` makes of a changeable bucket with the tags ts
pub record Adds (a : Changed) (ts : List ℕ) (x : ℕ) : Type 0 where
  pub full : a.answer ≡ Full → 64 < length (add_tag x ts)
  pub more : (a.answer ≡ Full → ⊥) → (length (add_tag x ts) ≤ 64) × (a.bucket.words ≡ bucket_of 1 (add_tag x ts))

module _ (ts : List ℕ) (x : ℕ) (h : length ts ≤ 64) where
  abbrev adding : List ℕ → Changed
  adding l =
      if found x l then changed (bucket_of 1 ts) No
      else if leb 64 (length l) then changed (bucket_of 1 ts) Full else changed (bucket_of 1 (add_tag x l)) Yes

  cases : (m f : Bool) → found x ts ≡ m → leb 64 (length ts) ≡ f
      → Adds (if m then changed (bucket_of 1 ts) No else if f then changed (bucket_of 1 ts) Full else changed (bucket_of 1 (add_tag x ts)) Yes) ts x
  cases true f em ef =
      record { full = λ q. let z : ◌≡◌ {A = ℕ} 0 1 = cc in omega arith; more = λ q. rw (add_present x ts em) (h, refl) }
  cases false true em ef =
      let l = leb-true 64 (length ts) ef in
      record { full = λ q. omega (arith, length_put x ts em); more = λ q. absurd (q refl) }
  cases false false em ef =
      let l = leb-false 64 (length ts) ef in
      record { full = λ q. let z : ◌≡◌ {A = ℕ} 0 1 = cc in omega arith; more = λ q. (omega (arith, length_put x ts em), refl) }

  at_words : added (record { words = bucket_of 1 ts }) x ≡ adding ts
  unfolding added bucket_of
  at_words = ap adding (tags_of_bucket 1 ts)

  pub adds : (b : Bucket) → b.words ≡ bucket_of 1 ts → Adds (added b x) ts x
  adds b e =
      subst (λ (w : List ℕ). Adds (added (record { words = w }) x) ts x) (sym e)
      (subst (λ (a : Changed). Adds a ts x) (sym at_words) (cases (found x ts) (leb 64 (length ts)) refl refl))

-- the answer is not Full
pub not_full : (d : Response) → OneOf (0 ∷ 1 ∷ 2 ∷ []) (tag_of the_type d) → d ≡ Full → ⊥
not_full d k e =
    let k' : OneOf (0 ∷ 1 ∷ 2 ∷ []) 3 = subst (λ (y : Response). OneOf (0 ∷ 1 ∷ 2 ∷ []) (tag_of the_type y)) e k in
    ⊎_elim (λ z. omega arith) (⊎_elim (λ z. omega arith) (λ z. omega arith)) k'
