-- A bucket of the pool by its number: what reading it, storing it, freezing it, adding to it and removing from it come to for a number
-- in the pool, and where its words are sound. Assumes nothing.
use Rattle.std.specs.Prelude.{if◌then◌else◌}
use Rattle.pool_writes.specs.Writes.{record_at}
use mathlib.Core.Path.{◌≡◌, refl, sym, ap, ◌∙◌}
use mathlib.Core.List.{List, [], ◌∷◌, ◌++◌, append_assoc}
use mathlib.Core.Bool.{Bool, true, false, ◌&&◌}
use Prim.Native.Nat.{ℕ, suc, ◌+◌, ◌-◌, ◌*◌, ◌/◌, ◌<◌, ◌≤◌}
use native.Mathlib.Omega.{arith}
use borrow.Author.Tests.{leb-true, lt-ltb}
use lib.Dec.{leb, ltb, eqb}
use lib.ListN.{length, get_or, take, drop, set, replicate, length-drop, take-append-drop}
use lib.Seq.{take-take, drop-drop, get_or-take, get_or-drop, get_or-append-add, length-take-le}
use Rattle.laws.specs.Tests.{and_left, and_right}
use Rattle.spec.specs.Lists.{member, ascending, add_tag, remove_tag}
use Rattle.spec.specs.Words.{changeable, count, tags, overwrite, bucket_of}
use Rattle.spec.specs.Sound.{count_in_bounds, tags_ascend, sound_bucket, zeros}
use Rattle.bucket.specs.declared.Bucket.{Bucket}
use Rattle.bucket.specs.declared.Response.{Response}
use Rattle.bucket.specs.declared.Response.TheVariants.{Yes, No, Frozen, Full}
use Rattle.bucket.specs.Bucket.{tags_in, found, added, removed, frozen_of}
use Rattle.bucket.proofs.Laws.{found_member}
use Rattle.bucket.proofs.Pad.{drop_take, tags_of_bucket}
use Rattle.pool.specs.declared.buckets.Answered.{Answered}
use Rattle.pool.specs.Pool.{front_of, bucket_at, store_bucket, answer_of, add_answer, add_words, remove_answer, remove_words}
use Rattle.pool.proofs.Part.{rest, back, back_set}
pub use Rattle.pool_writes.proofs.Part.{node_here}

abbrev says : Response → ℕ → Answered
says r n = record { response = r; count = n }

-- the words of a record of 66 words are a bucket's
pub bucket_record : (p : List ℕ) (k : ℕ) → ◌≡◌ {A = Bucket} (record { words = record_at 66 p k }) (bucket_at p k)
unfolding record_at bucket_at
bucket_record p k = go (ltb k (length p / 66))
  where
    go : (b : Bool) → ◌≡◌ {A = Bucket} (record { words = if b then take 66 (drop (66 * k) p) else replicate 66 0 })
        (if b then front_of (drop (66 * k) p) else record { words = replicate 66 0 })
    go true = refl
    go false = refl

-- words written over themselves
pub over_same : (w : List ℕ) (i n : ℕ) → i + n ≤ length w → overwrite w i (take n (drop i w)) ≡ w
unfolding overwrite
over_same w i n h =
    let l : length (take n (drop i w)) ≡ n = length-take-le n (drop i w) (rw (length-drop i w) (omega arith)) in
    rw (l, ← drop-drop n i w) (append_assoc (take i w) (take n (drop i w)) (drop n (drop i w))
    ∙ ap (λ (v : List ℕ). take i w ++ v) (take-append-drop n (drop i w)) ∙ take-append-drop i w)

-- the first word of a part set
pub over_first : (p : List ℕ) (v : ℕ) → 66 ≤ length p → overwrite p 0 (set (take 66 p) 0 v) ≡ set p 0 v
unfolding overwrite
over_first [] v h = absurd (omega arith)
over_first (x ∷ p) v h =
    let l : length (take 65 p) ≡ 65 = length-take-le 65 p (omega arith) in
    let z : 0 + suc (length (take 65 p)) ≡ suc 65 = omega arith in
    rw (z) (ap (λ (q : List ℕ). v ∷ q) (take-append-drop 65 p))

-- what a sound bucket's words are
pub record Fine (v : List ℕ) : Type 0 where
  pub flag : leb (get_or v 0 0) 1 ≡ true
  pub few : leb (get_or v 1 0) 64 ≡ true
  pub up : ascending (take (get_or v 1 0) (drop 2 v)) ≡ true
  pub blank : zeros (64 - get_or v 1 0) (drop (2 + get_or v 1 0) v) ≡ true

pub fine : (v : List ℕ) → sound_bucket v ≡ true → Fine v
unfolding sound_bucket
fine v s =
    let a : Bool = leb (get_or v 0 0) 1 in
    let b : Bool = leb (get_or v 1 0) 64 in
    let u : Bool = ascending (take (get_or v 1 0) (drop 2 v)) in
    let z : Bool = zeros (64 - get_or v 1 0) (drop (2 + get_or v 1 0) v) in
    let r : (a && b && u) ≡ true = and_left (a && b && u) z s in
    let q : (a && b) ≡ true = and_left (a && b) u r in
    record { flag = and_left a b q; few = and_right a b q; up = and_right (a && b) u r; blank = and_right (a && b && u) z s }

-- the second word of a bucket is how many tags it has
second : (f : ℕ) (ts rest : List ℕ) → get_or (bucket_of f ts ++ rest) 1 0 ≡ length ts
unfolding bucket_of
second f ts rest = refl

-- a bucket number in the pool
module _ (w : List ℕ) (k : ℕ) (h : 66 * k + 66 ≤ length w) where
  here : ltb k (length w / 66) ≡ true
  here = let i : k < length w / 66 = omega arith in lt-ltb _ _ i

  pub bucket_here : bucket_at w k ≡ front_of (drop (66 * k) w)
  unfolding bucket_at
  bucket_here = rw here

  pub store_here : (b : Bucket) → store_bucket w k b ≡ overwrite w (66 * k) b.words
  unfolding store_bucket
  store_here b = rw here

  pub freeze_here : store_bucket w k (frozen_of (bucket_at w k)) ≡ set w (66 * k) 0
  freeze_here =
      let d : List ℕ = drop (66 * k) w in
      let l : 66 ≤ length d = rw (length-drop (66 * k) w) (omega arith) in
      let v : List ℕ = set (take 66 d) 0 0 in
      store_here (frozen_of (bucket_at w k)) ∙ ap (λ (b : Bucket). overwrite w (66 * k) (frozen_of b).words) bucket_here
      ∙ sym (back w (66 * k) v (overwrite d 0 v) refl) ∙ back_set w (66 * k) 0 (overwrite d 0 v) (omega arith) (over_first d 0 l)

  -- a bucket of these tags written there has as many as its second word says
  pub count_over : (ts : List ℕ) → length (tags_in (bucket_of 1 ts)) ≡ count (overwrite w (66 * k) (bucket_of 1 ts)) k
  unfolding count overwrite
  count_over ts =
      let before = take (66 * k) w in
      let l : length before ≡ 66 * k = length-take-le (66 * k) w (omega arith) in
      let after = drop (66 * k + length (bucket_of 1 ts)) w in
      let at : 66 * k + 1 ≡ length before + 1 = omega arith in
      let there : get_or (before ++ (bucket_of 1 ts ++ after)) (66 * k + 1) 0 ≡ length ts = rw at (get_or-append-add before _ 1 0 ∙ second 1 ts after) in
      ap (λ (v : List ℕ). length v) (tags_of_bucket 1 ts) ∙ sym (rw (append_assoc before (bucket_of 1 ts) after) there)

-- the tags of a bucket that has at most 64, whatever its first word
module _ (w : List ℕ) (k : ℕ) (f : count_in_bounds (drop (66 * k) w) ≡ true) where
  part : List ℕ
  part = drop (66 * k) w

  first : get_or part 1 0 ≡ count w k
  unfolding part count
  first = get_or-drop (66 * k) w 1 0

  pub few_tags : count w k ≤ 64
  unfolding part
  few_tags = rw (← first) (leb-true _ _ f)

  tags_front : tags_in (take 66 (drop (66 * k) w)) ≡ tags w k
  unfolding tags part
  tags_front =
      let f = few_tags in
      let e : get_or (take 66 part) 1 0 ≡ count w k = get_or-take 66 part 1 0 (omega arith) ∙ first in
      let d : drop 2 (take 66 part) ≡ take 64 (drop 2 part) = drop_take 2 66 part in
      rw (e, d, take-take (count w k) 64 (drop 2 part) f, drop-drop 2 (66 * k) w)

  pub ascending_tags : tags_ascend (drop (66 * k) w) ≡ true → ascending (tags w k) ≡ true
  unfolding part tags
  ascending_tags u =
      let e : take (get_or part 1 0) (drop 2 part) ≡ tags w k = rw (first, drop-drop 2 (66 * k) w) in
      rw (← e) u

  module _ (h : 66 * k + 66 ≤ length w) where
    pub tags_at : tags_in (bucket_at w k).words ≡ tags w k
    tags_at = ap (λ (b : Bucket). tags_in b.words) (bucket_here w k h) ∙ tags_front

    pub found_at : (x : ℕ) → tags_ascend (drop (66 * k) w) ≡ true → found x (tags_in (bucket_at w k).words) ≡ member x (tags w k)
    found_at x u = ap (found x) tags_at ∙ found_member x (tags w k) (ascending_tags u)

-- a bucket that is sound, by its own words
module _ (w : List ℕ) (k : ℕ) (s : sound_bucket (drop (66 * k) w) ≡ true) where
  words_fine : Fine (drop (66 * k) w)
  words_fine = fine (drop (66 * k) w) s

  pub few : count w k ≤ 64
  few = few_tags w k words_fine.few

  flag_front : get_or (take 66 (drop (66 * k) w)) 0 0 ≡ changeable w k
  unfolding changeable
  flag_front =
      let z : 66 * k + 0 ≡ 66 * k = omega arith in
      get_or-take 66 (drop (66 * k) w) 0 0 (omega arith) ∙ get_or-drop (66 * k) w 0 0 ∙ ap (λ (n : ℕ). get_or w n 0) z

  pub ascends : ascending (tags w k) ≡ true
  ascends = ascending_tags w k words_fine.few words_fine.up

  module _ (h : 66 * k + 66 ≤ length w) where
    pub tags_here : tags_in (bucket_at w k).words ≡ tags w k
    tags_here = tags_at w k words_fine.few h

    -- the number of its tags is its second word
    pub tags_count : length (tags w k) ≡ count w k
    unfolding tags
    tags_count =
        let f = few in
        let l : count w k ≤ length (drop (66 * k + 2) w) = rw (length-drop (66 * k + 2) w) (omega arith) in
        length-take-le (count w k) (drop (66 * k + 2) w) l

    count_here : length (tags_in (bucket_at w k).words) ≡ count w k
    count_here = ap (λ (ts : List ℕ). length ts) tags_here ∙ tags_count

    flag_here : get_or (bucket_at w k).words 0 0 ≡ changeable w k
    flag_here = ap (λ (b : Bucket). get_or b.words 0 0) (bucket_here w k h) ∙ flag_front

    module _ (x : ℕ) where
      pub found_here : found x (tags_in (bucket_at w k).words) ≡ member x (tags w k)
      found_here = found_at w k words_fine.few h x words_fine.up

      same : store_bucket w k (bucket_at w k) ≡ w
      same = store_here w k h (bucket_at w k) ∙ ap (λ (b : Bucket). overwrite w (66 * k) b.words) (bucket_here w k h) ∙ over_same w (66 * k) 66 h

      -- adding, and removing: the answer, how many tags the record then has, and the words
      abbrev Added : Type 0
      Added =
          (answer_of (added (bucket_at w k) x) ≡ record { response = add_answer w k x; count = count (add_words w k x) k })
          × (store_bucket w k (added (bucket_at w k) x).bucket ≡ add_words w k x)

      pub add_here : Added
      unfolding added add_answer add_words
      add_here = go (eqb (changeable w k) 0) (member x (tags w k)) (leb 64 (length (tags w k))) refl refl refl
        where
          go : (a b d : Bool) → eqb (changeable w k) 0 ≡ a → member x (tags w k) ≡ b → leb 64 (length (tags w k)) ≡ d → Added
          go true b d p q r = rw (flag_here, p) (ap (says Frozen) count_here, same)
          go false true d p q r = rw (flag_here, p, found_here, q) (ap (says No) count_here, same)
          go false false true p q r = rw (flag_here, p, found_here, q, tags_here, r) (ap (says Full) tags_count, same)
          go false false false p q r =
              rw (flag_here, p, found_here, q, tags_here, r) (ap (says Yes) (count_over w k h (add_tag x (tags w k))), store_here w k h _)

      abbrev Removed : Type 0
      Removed =
          (answer_of (removed (bucket_at w k) x) ≡ record { response = remove_answer w k x; count = count (remove_words w k x) k })
          × (store_bucket w k (removed (bucket_at w k) x).bucket ≡ remove_words w k x)

      pub remove_here : Removed
      unfolding removed remove_answer remove_words
      remove_here = go (eqb (changeable w k) 0) (member x (tags w k)) refl refl
        where
          go : (a b : Bool) → eqb (changeable w k) 0 ≡ a → member x (tags w k) ≡ b → Removed
          go true b p q = rw (flag_here, p) (ap (says Frozen) count_here, same)
          go false true p q =
              rw (flag_here, p, found_here, q, tags_here) (ap (says Yes) (count_over w k h (remove_tag x (tags w k))), store_here w k h _)
          go false false p q = rw (flag_here, p, found_here, q) (ap (says No) count_here, same)
