-- Sets of tags as lists: each once, put in one after the other; a set gathered in a bucket. Assumes nothing.
use mathlib.Core.Path.{◌≡◌, refl, sym, ap, ◌∙◌}
use mathlib.Core.Logic.{inl, inr}
use mathlib.Core.List.{List, [], ◌∷◌, ◌++◌}
use mathlib.Core.Bool.{Bool, true, false, ◌||◌, or_assoc}
use Prim.Native.Nat.{ℕ, ◌+◌, ◌<◌, ◌≤◌}
use native.Mathlib.Omega.{arith}
use borrow.Author.Tests.{eqb-true}
use lib.Dec.{eqb}
use lib.ListN.{length}
use Rattle.spec.specs.Lists.{member, ascending, add_tag}
use Rattle.spec.specs.Words.{bucket_of}
use Rattle.laws.specs.Tests.{bool?, tf, or_e, or_swap, same_test}
use Rattle.laws.specs.Lists.{member_cons, member_here, member_there, member_append, no_member}
use Rattle.laws.specs.Ascending.{Above, Rising, rising_ascending, rising_add, member_add, ascending_add}
use Rattle.bucket.specs.declared.Response.{Response}
use Rattle.bucket.specs.declared.Response.TheVariants.{Yes, No, Frozen, Full}
use Rattle.bucket.specs.Bucket.{added}
use Rattle.bucket.proofs.Laws.{found_member}
use Rattle.bucket.proofs.Fill.{Adds, adds as adds-fill, length_add, length_put}
use Rattle.std.specs.Prelude.{Result, Ok, Err, if◌then◌else◌, set, replicate}
use Rattle.bucket.specs.declared.Bucket.{Bucket}
use Rattle.bucket.specs.declared.Changed.{Changed}
use Rattle.listing.specs.Listing.{is_full, add_to, adds, nothing}

-- ---- each once

abbrev pub Distinct : List ℕ → Type 0
Distinct [] = Unit {0}
Distinct (x ∷ xs) = (member x xs ≡ false) × Distinct xs

absent : (x : ℕ) (xs : List ℕ) → (member x xs ≡ true → ⊥) → member x xs ≡ false
absent x xs n = elim (bool? (member x xs)) [ inl h ↦ absurd (n h) | inr h ↦ h ]

pub rising_distinct : (xs : List ℕ) → Rising xs → Distinct xs
rising_distinct [] r = tt
rising_distinct (x ∷ xs) r = (absent x xs (λ h. let l = r.0 x h in omega arith), rising_distinct xs r.1)

pub append_distinct : (xs ys : List ℕ) → Distinct xs → Distinct ys → ((n : ℕ) → member n xs ≡ true → member n ys ≡ true → ⊥) → Distinct (xs ++ ys)
append_distinct [] ys a b d = b
append_distinct (x ∷ xs) ys a b d =
    let out : member x (xs ++ ys) ≡ true → ⊥ =
    λ h. elim (or_e (member x xs) (member x ys) (sym (member_append x xs ys) ∙ h)) [ inl p ↦ tf p a.0 | inr p ↦ d x (member_here x x xs refl) p ] in
    (absent x (xs ++ ys) out, append_distinct xs ys a.1 b (λ n p q. d n (member_there n x xs p) q))

-- two ascending lists with the same members
pub rising_same : (xs ys : List ℕ) → Rising xs → Rising ys → ((n : ℕ) → member n xs ≡ member n ys) → xs ≡ ys
rising_same [] [] r q e = refl
rising_same [] (y ∷ ys) r q e = absurd (no_member y (e y ∙ member_here y y ys refl))
rising_same (x ∷ xs) [] r q e = absurd (no_member x (sym (e x) ∙ member_here x x xs refl))
rising_same (x ∷ xs) (y ∷ ys) r q e = go (rising_same xs ys r.1 q.1)
  where
    not_above : (a b : ℕ) (l m : List ℕ) → Above a l → Above b m → member a (b ∷ m) ≡ true → member b (a ∷ l) ≡ true → a ≡ b
    not_above a b l m p o h g = elim (member_cons a b m h) [
      | inl e ↦ e
      | inr e ↦ (elim (member_cons b a l g) [ inl f ↦ sym f | inr f ↦ (let u = o a e in let v = p b f in absurd (omega arith)) ])
    ]

    first : x ≡ y
    first = not_above x y xs ys r.0 q.0 (sym (e x) ∙ member_here x x xs refl) (e y ∙ member_here y y ys refl)

    inside : (a b : ℕ) (l m : List ℕ) → a ≡ b → Above a l → ((n : ℕ) → member n (a ∷ l) ≡ true → member n (b ∷ m) ≡ true) → (n : ℕ) → member n l ≡ true
        → member n m ≡ true
    inside a b l m f o s n h = elim (member_cons n b m (s n (member_there n a l h))) [ inl g ↦ (let u = o n h in absurd (omega arith)) | inr g ↦ g ]

    rest : (n : ℕ) → member n xs ≡ member n ys
    rest n = same_test _ _ (inside x y xs ys first r.0 (λ n h. sym (e n) ∙ h) n) (inside y x ys xs (sym first) q.0 (λ n h. e n ∙ h) n)

    go : (((n : ℕ) → member n xs ≡ member n ys) → xs ≡ ys) → x ∷ xs ≡ y ∷ ys
    go ih = ap (λ (a : ℕ). a ∷ xs) first ∙ ap (λ (l : List ℕ). y ∷ l) (ih rest)

-- ---- put in one after the other

unfoldable pub add_all : List ℕ → List ℕ → List ℕ
add_all ts [] = ts
add_all ts (x ∷ xs) = add_all (add_tag x ts) xs

pub rising_add_all : (ts xs : List ℕ) → Rising ts → Rising (add_all ts xs)
unfolding add_all
rising_add_all ts [] r = r
rising_add_all ts (x ∷ xs) r = rising_add_all (add_tag x ts) xs (rising_add x ts r)

pub member_add_all : (n : ℕ) (ts xs : List ℕ) → member n (add_all ts xs) ≡ (member n ts || member n xs)
unfolding add_all member
member_add_all n ts [] = sym (or_false (member n ts))
  where
    or_false : (a : Bool) → (a || false) ≡ a
    or_false true = refl
    or_false false = refl
member_add_all n ts (x ∷ xs) =
    member_add_all n (add_tag x ts) xs ∙ rw (member_add n x ts) (or_assoc (eqb n x) (member n ts) (member n xs) ∙ or_swap (eqb n x) (member n ts) (member n xs))

pub length_add_all : (ts xs : List ℕ) → Rising ts → Distinct xs → ((n : ℕ) → member n xs ≡ true → member n ts ≡ false)
    → length (add_all ts xs) ≡ length ts + length xs
unfolding add_all
length_add_all ts [] r d n = omega arith
length_add_all ts (x ∷ xs) r d n =
    let a = found_member x ts (rising_ascending ts r) ∙ n x (member_here x x xs refl) in
    let l = length_put x ts a in
    let out : (m : ℕ) → member m xs ≡ true → member m (add_tag x ts) ≡ false =
    λ m h. absent m (add_tag x ts) (λ g. elim (or_e (eqb m x) (member m ts) (sym (member_add m x ts) ∙ g)) [
      | inl p ↦ tf (ap (λ (z : ℕ). member z xs) (sym (eqb-true m x p)) ∙ h) d.0
      | inr p ↦ tf p (n m (member_there m x xs h))
    ]) in
    let ih = length_add_all (add_tag x ts) xs (rising_add x ts r) d.1 out in
    omega arith

-- ---- gathered in a bucket

-- the set is the list ts: too many, or those in the bucket
pub record Holds (g : Result Bucket Bucket) (ts : List ℕ) : Type 0 where
  pub up : ascending ts ≡ true
  pub over : (b : Bucket) → g ≡ Err b → 64 < length ts
  pub fine : (b : Bucket) → g ≡ Ok b → (length ts ≤ 64) × (b.words ≡ bucket_of 1 ts)

ok_err : (b c : Bucket) → ◌≡◌ {A = Result Bucket Bucket} (Ok b) (Err c) → ⊥
ok_err b c e = let z : ◌≡◌ {A = ℕ} 0 1 = cc in omega arith

holds_one : (g : Result Bucket Bucket) (x : ℕ) (ts : List ℕ) → Holds g ts → Holds (add_to g x) (add_tag x ts)
unfolding add_to
holds_one (Err b) x ts h =
    record { up = ascending_add x ts h.up; over = λ c e. omega (arith, h.over b refl, length_add x ts); fine = λ c e. absurd (ok_err c b (sym e)) }
holds_one (Ok b) x ts h = go d.answer refl
  where
    d : Changed
    d = added b x

    a : Adds d ts x
    a = adds-fill ts x (h.fine b refl).0 b (h.fine b refl).1

    taken : (d.answer ≡ Full → ⊥) → Holds (Ok d.bucket) (add_tag x ts)
    taken n = record {
      up = ascending_add x ts h.up;
      over = λ c e. absurd (ok_err d.bucket c e);
      fine = λ c e. let q : d.bucket ≡ c = cc in rw (← q) (a.more n);
    }

    go : (r : Response) → d.answer ≡ r → Holds (if is_full r then Err d.bucket else Ok d.bucket) (add_tag x ts)
    go Full q = record { up = ascending_add x ts h.up; over = λ c e. a.full q; fine = λ c e. absurd (ok_err c d.bucket (sym e)) }
    go Yes q = taken (λ e. let z : ◌≡◌ {A = ℕ} 0 1 = cc in omega arith)
    go No q = taken (λ e. let z : ◌≡◌ {A = ℕ} 0 1 = cc in omega arith)
    go Frozen q = taken (λ e. let z : ◌≡◌ {A = ℕ} 0 1 = cc in omega arith)

pub holds_all : (g : Result Bucket Bucket) (xs ts : List ℕ) → Holds g ts → Holds (adds g xs) (add_all ts xs)
unfolding adds add_all
holds_all g [] ts h = h
holds_all g (x ∷ xs) ts h = holds_all (add_to g x) xs (add_tag x ts) (holds_one g x ts h)

pub holds_none : Holds nothing []
unfolding ascending bucket_of
holds_none = record {
  up = refl;
  over = λ b e. absurd (ok_err _ b e);
  fine = λ b e. let q : record { words = set (replicate 66 0) 0 1 } ≡ b = cc in rw (← q) (omega arith, refl);
}
