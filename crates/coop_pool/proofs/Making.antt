-- The version that an operation makes, from what adding and removing make of a changeable bucket with the same tags. Assumes nothing.
use Rattle.std.specs.Prelude.{if◌then◌else◌}
use mathlib.Core.Path.{◌≡◌, refl, sym, ap, ◌∙◌}
use mathlib.Core.List.{List, [], ◌∷◌}
use mathlib.Core.Bool.{Bool, true, false}
use Prim.Native.Nat.{ℕ, ◌≤◌, ◌<◌}
use native.Mathlib.Omega.{arith}
use borrow.Author.Tests.{leb-true, leb-false, lt-ltb, le-ltb}
use lib.Dec.{leb, ltb, eqb}
use lib.ListN.{length}
use Rattle.laws.specs.Tests.{or_none}
use Rattle.laws.specs.Ascending.{length_remove}
use Rattle.spec.specs.Lists.{member, ascending, add_tag, remove_tag}
use Rattle.spec.specs.Words.{bucket_of}
use Rattle.bucket.specs.declared.Bucket.{Bucket}
use Rattle.bucket.specs.declared.Changed.{Changed}
use Rattle.bucket.specs.declared.Response.TheVariants.{Yes, No, Full}
use Rattle.bucket.specs.Bucket.{found, changed, added, removed, frozen_of}
use Rattle.bucket.proofs.Laws.{add_present, found_member}
use Rattle.bucket.proofs.Fill.{length_put}
use Rattle.bucket.proofs.Pad.{tags_of_bucket}
use Rattle.coop_spec.specs.declared.Operation.{Operation}
use Rattle.coop_spec.specs.Words.{applied}
use Rattle.coop_pool.specs.Versions.{has_room, made}

pub remove_absent : (x : ℕ) (ts : List ℕ) → member x ts ≡ false → remove_tag x ts ≡ ts
unfolding member remove_tag
remove_absent x [] e = refl
remove_absent x (y ∷ ys) e =
    let n = or_none (eqb x y) (member x ys) e in
    rw n.0 (ap (λ (l : List ℕ). y ∷ l) (remove_absent x ys n.1))

-- what is kept of a changed bucket
abbrev pub made_from : Changed → Bucket
made_from d = frozen_of d.bucket

-- the version made where the operation leaves these tags
abbrev leaving : List ℕ → List ℕ → Bucket
leaving ts us = record { words = bucket_of 0 (if ltb 64 (length us) then ts else us) }

module _ (ts : List ℕ) (x : ℕ) (h : length ts ≤ 64) where
  abbrev adding : List ℕ → Changed
  adding l =
      if found x l then changed (bucket_of 1 ts) No
      else if leb 64 (length l) then changed (bucket_of 1 ts) Full else changed (bucket_of 1 (add_tag x l)) Yes

  abbrev removing : List ℕ → Changed
  removing l = if found x l then changed (bucket_of 1 (remove_tag x l)) Yes else changed (bucket_of 1 ts) No

  abbrev Adds : Bool → Bool → Type 0
  Adds m f =
      made_from (if m then changed (bucket_of 1 ts) No else if f then changed (bucket_of 1 ts) Full else changed (bucket_of 1 (add_tag x ts)) Yes)
      ≡ leaving ts (add_tag x ts)

  adds : (m f : Bool) → found x ts ≡ m → leb 64 (length ts) ≡ f → Adds m f
  unfolding bucket_of
  adds true f em ef = rw (add_present x ts em, le-ltb 64 (length ts) h)
  adds false true em ef =
      let l = leb-true 64 (length ts) ef in
      rw (lt-ltb 64 (length (add_tag x ts)) (omega (arith, length_put x ts em)))
  adds false false em ef =
      let l = leb-false 64 (length ts) ef in
      rw (le-ltb 64 (length (add_tag x ts)) (omega (arith, length_put x ts em)))

  removes : (m : Bool) → found x ts ≡ m → ascending ts ≡ true
      → made_from (if m then changed (bucket_of 1 (remove_tag x ts)) Yes else changed (bucket_of 1 ts) No) ≡ leaving ts (remove_tag x ts)
  unfolding bucket_of
  removes true em u = rw (le-ltb 64 (length (remove_tag x ts)) (omega (arith, length_remove x ts)))
  removes false em u = rw (remove_absent x ts (sym (found_member x ts u) ∙ em), le-ltb 64 (length ts) h)

  added_words : added (record { words = bucket_of 1 ts }) x ≡ adding ts
  unfolding added bucket_of
  added_words = ap adding (tags_of_bucket 1 ts)

  removed_words : removed (record { words = bucket_of 1 ts }) x ≡ removing ts
  unfolding removed bucket_of
  removed_words = ap removing (tags_of_bucket 1 ts)

module _ (q : Operation) (ts : List ℕ) (h : length ts ≤ 64) (u : ascending ts ≡ true) where
  abbrev by : Bucket → Changed
  by p = if eqb q.kind 1 then added p q.tag else removed p q.tag

  at_words : made_from (by (record { words = bucket_of 1 ts })) ≡ made q ts
  unfolding made applied
  at_words = go (eqb q.kind 1)
    where
      go : (b : Bool)
          → made_from (if b then added (record { words = bucket_of 1 ts }) q.tag else removed (record { words = bucket_of 1 ts }) q.tag)
          ≡ leaving ts (if b then add_tag q.tag ts else remove_tag q.tag ts)
      go true = ap made_from (added_words ts q.tag h) ∙ adds ts q.tag h (found q.tag ts) (leb 64 (length ts)) refl refl
      go false = ap made_from (removed_words ts q.tag h) ∙ removes ts q.tag h (found q.tag ts) refl u

  pub makes : (p : Bucket) → p.words ≡ bucket_of 1 ts → made_from (by p) ≡ made q ts
  makes p e = ap (λ (w : List ℕ). made_from (by (record { words = w }))) e ∙ at_words

-- ---- whether it has room

module _ (q : Operation) (ts : List ℕ) (h : length ts ≤ 64) where
  pub removing_fits : eqb q.kind 1 ≡ false → true ≡ has_room q ts
  unfolding has_room applied
  removing_fits e = rw (e, le-ltb 64 (length (remove_tag q.tag ts)) (omega (arith, length_remove q.tag ts)))

  present_fits : eqb q.kind 1 ≡ true → found q.tag ts ≡ true → true ≡ has_room q ts
  unfolding has_room applied
  present_fits e em = rw (e, add_present q.tag ts em, le-ltb 64 (length ts) h)

  -- an absent tag makes one more
  few_fit : eqb q.kind 1 ≡ true → found q.tag ts ≡ false → length ts < 64 → true ≡ has_room q ts
  unfolding has_room applied
  few_fit e em l = rw (e, le-ltb 64 (length (add_tag q.tag ts)) (omega (arith, length_put q.tag ts em)))

  full_has_none : eqb q.kind 1 ≡ true → found q.tag ts ≡ false → 64 ≤ length ts → false ≡ has_room q ts
  unfolding has_room applied
  full_has_none e em n = rw (e, lt-ltb 64 (length (add_tag q.tag ts)) (omega (arith, n, length_put q.tag ts em)))

  pub adding_fits : eqb q.kind 1 ≡ true → length ts < 64 → true ≡ has_room q ts
  adding_fits e l = go (found q.tag ts) refl
    where
      go : (m : Bool) → found q.tag ts ≡ m → true ≡ has_room q ts
      go true em = present_fits e em
      go false em = few_fit e em l

  -- a full set has room for a tag that is there
  pub full_fits : eqb q.kind 1 ≡ true → 64 ≤ length ts → found q.tag ts ≡ has_room q ts
  full_fits e n = go (found q.tag ts) refl
    where
      go : (m : Bool) → found q.tag ts ≡ m → found q.tag ts ≡ has_room q ts
      go true em = em ∙ present_fits e em
      go false em = em ∙ full_has_none e em n
