-- A node's size in sound memory: 0, or one of the six listed sizes. Assumes nothing.
use Rattle.std.specs.Prelude.{ℕ, ◌≤◌, ◌≡◌, refl, ◌⊎◌, [], ◌∷◌, true}
use Rattle.std.proofs.Common.{inl, inr, arith}
use Rattle.spec.specs.Lists.{member}
use Rattle.spec.specs.Sound.{listed_size}
use Rattle.laws.specs.Tests.{tf}
use Rattle.laws.specs.Lists.{member_cons}

pub data Size (n : ℕ) : Type 0 where
  unused : n ≡ 0 → Size n
  used : listed_size n ≡ true → Size n

-- ---- a listed size is one of six
pub data ListedSize (n : ℕ) : Type 0 where
  size_1 : n ≡ 1 → ListedSize n
  size_2 : n ≡ 2 → ListedSize n
  size_4 : n ≡ 4 → ListedSize n
  size_8 : n ≡ 8 → ListedSize n
  size_16 : n ≡ 16 → ListedSize n
  size_32 : n ≡ 32 → ListedSize n

pub listed_is : (n : ℕ) → listed_size n ≡ true → ListedSize n
unfolding listed_size member
listed_is n e = a (member_cons n 1 (2 ∷ 4 ∷ 8 ∷ 16 ∷ 32 ∷ []) e)
  where
    g : (n ≡ 32) ⊎ (member n [] ≡ true) → ListedSize n
    g (inl p) = size_32 p
    g (inr q) = absurd (tf q refl)

    f : (n ≡ 16) ⊎ (member n (32 ∷ []) ≡ true) → ListedSize n
    f (inl p) = size_16 p
    f (inr q) = g (member_cons n 32 [] q)

    d : (n ≡ 8) ⊎ (member n (16 ∷ 32 ∷ []) ≡ true) → ListedSize n
    d (inl p) = size_8 p
    d (inr q) = f (member_cons n 16 (32 ∷ []) q)

    c : (n ≡ 4) ⊎ (member n (8 ∷ 16 ∷ 32 ∷ []) ≡ true) → ListedSize n
    c (inl p) = size_4 p
    c (inr q) = d (member_cons n 8 (16 ∷ 32 ∷ []) q)

    b : (n ≡ 2) ⊎ (member n (4 ∷ 8 ∷ 16 ∷ 32 ∷ []) ≡ true) → ListedSize n
    b (inl p) = size_2 p
    b (inr q) = c (member_cons n 4 (8 ∷ 16 ∷ 32 ∷ []) q)

    a : (n ≡ 1) ⊎ (member n (2 ∷ 4 ∷ 8 ∷ 16 ∷ 32 ∷ []) ≡ true) → ListedSize n
    a (inl p) = size_1 p
    a (inr q) = b (member_cons n 2 (4 ∷ 8 ∷ 16 ∷ 32 ∷ []) q)

pub is_listed : {n : ℕ} → ListedSize n → listed_size n ≡ true
unfolding listed_size member
is_listed (size_1 p) = rw p
is_listed (size_2 p) = rw p
is_listed (size_4 p) = rw p
is_listed (size_8 p) = rw p
is_listed (size_16 p) = rw p
is_listed (size_32 p) = rw p

pub listed_low : {n : ℕ} → ListedSize n → 1 ≤ n
listed_low (size_1 p) = omega arith
listed_low (size_2 p) = omega arith
listed_low (size_4 p) = omega arith
listed_low (size_8 p) = omega arith
listed_low (size_16 p) = omega arith
listed_low (size_32 p) = omega arith

pub listed_high : {n : ℕ} → ListedSize n → n ≤ 32
listed_high (size_1 p) = omega arith
listed_high (size_2 p) = omega arith
listed_high (size_4 p) = omega arith
listed_high (size_8 p) = omega arith
listed_high (size_16 p) = omega arith
listed_high (size_32 p) = omega arith

pub size_most : {n : ℕ} → Size n → n ≤ 32
size_most (unused p) = omega arith
size_most {n} (used p) = listed_high (listed_is n p)

pub size_listed : {n : ℕ} → Size n → ¬ (n ≡ 0) → ListedSize n
size_listed (unused p) d = absurd (d p)
size_listed {n} (used p) d = listed_is n p
