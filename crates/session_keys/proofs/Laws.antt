-- Laws of keys that the proofs of the functions cite, in the form in which loops and branches use them. Assumes nothing.
use mathlib.Core.Path.{◌≡◌, refl, sym, ap}
use mathlib.Core.List.{List, [], ◌∷◌}
use mathlib.Core.Bool.{Bool, true, false, ◌&&◌}
use Prim.Native.Nat.{ℕ, suc, ◌+◌, ◌-◌, ◌<◌, ◌≤◌}
use native.Mathlib.Numerals.{add-one}
use native.Mathlib.Omega.{arith}
use borrow.Author.Tests.{eq-eqb, ne_eqb}
use lib.Dec.{eqb}
use lib.ListN.{length, get_or, take, drop, length-drop, drop_of_length-le}
use lib.Pointwise.{pointwise}
use lib.Seq.{drop-cons, take_all}
use Rattle.std.proofs.Math.Dec.{eqb-suc-zero, eqb-zero-suc, eqb-suc-suc}
use Rattle.std.proofs.lemmas.Bool.Decides.{Decides-eqb, same_from_decides}
use Rattle.session.specs.Keys.{insert_key, remove_key, contains_key}
use Rattle.session.specs.Grammar.{starts_with, equals}

module _ (key s : List ℕ) (i : ℕ) where
  pub starts_end : length key ≤ i → starts_with (drop i key) (drop i s) ≡ true
  unfolding starts_with
  starts_end h = rw (drop_of_length-le key h)

  pub starts_other : i < length key → i < length s → (get_or s i 0 ≡ get_or key i 0 → ⊥) → starts_with (drop i key) (drop i s) ≡ false
  unfolding starts_with
  starts_other h l n = rw (drop-cons key i 0 h, drop-cons s i 0 l, ne_eqb _ _ n)

  pub starts_on : i < length key → i < length s → get_or s i 0 ≡ get_or key i 0
      → starts_with (drop i key) (drop i s) ≡ starts_with (drop (i + 1) key) (drop (i + 1) s)
  unfolding starts_with
  starts_on h l e = rw (add-one, drop-cons key i 0 h, drop-cons s i 0 l, eq-eqb _ _ e)

-- what starts with the key is as long
pub starts_long : (key s : List ℕ) → starts_with key s ≡ true → length key ≤ length s
unfolding starts_with
starts_long [] s e = omega arith
starts_long (k ∷ ks) [] e = let z : ◌≡◌ {A = ℕ} 0 1 = cc in omega arith
starts_long (k ∷ ks) (x ∷ xs) e = go (starts_long ks xs) (eqb x k) e
  where
    go : (starts_with ks xs ≡ true → length ks ≤ length xs) → (b : Bool) → (b && starts_with ks xs) ≡ true → suc (length ks) ≤ suc (length xs)
    go ih true q = omega (arith, ih q)
    go ih false q = let z : ◌≡◌ {A = ℕ} 0 1 = cc in omega arith

-- what is left of a line after its first bytes
pub rest : (d : List ℕ) (a : ℕ) → take (length d - a) (drop a d) ≡ drop a d
rest d a = take_all (length d - a) (drop a d) (rw (length-drop a d) (omega arith))

-- ---- what the library's `starts_with`, `strip_prefix` and `==` say of bytes, in the grammar's words

eqb_swap : (a b : ℕ) → eqb a b ≡ eqb b a
eqb_swap a b = same_from_decides (eqb a b) (eqb b a) (Decides-eqb a b) (let d = Decides-eqb b a in (λ e. sym (d.0 e), λ e. d.1 (sym e)))

pub starts_library : (key s : List ℕ) → pointwise eqb key (take (length key) s) ≡ starts_with key s
unfolding starts_with
starts_library [] s = refl
starts_library (k ∷ ks) [] = refl
starts_library (k ∷ ks) (x ∷ xs) = rw (eqb_swap k x, starts_library ks xs)

pub starts_stripped : (key s : List ℕ) → pointwise eqb (take (length key) s) key ≡ starts_with key s
unfolding starts_with
starts_stripped [] s = refl
starts_stripped (k ∷ ks) [] = refl
starts_stripped (k ∷ ks) (x ∷ xs) = ap (λ b. eqb x k && b) (starts_stripped ks xs)

pub insert_stripped : (s : List ℕ) → pointwise eqb (take 7 s) insert_key ≡ starts_with insert_key s
insert_stripped s = starts_stripped insert_key s

pub remove_stripped : (s : List ℕ) → pointwise eqb (take 7 s) remove_key ≡ starts_with remove_key s
remove_stripped s = starts_stripped remove_key s

pub contains_stripped : (s : List ℕ) → pointwise eqb (take 9 s) contains_key ≡ starts_with contains_key s
contains_stripped s = starts_stripped contains_key s

pub ruleset call_keys = (insert_stripped, remove_stripped, contains_stripped)

pub equals_library : (word s : List ℕ) → pointwise eqb s word ≡ equals word s
unfolding equals starts_with
equals_library [] [] = refl
equals_library [] (x ∷ xs) = rw eqb-suc-zero
equals_library (k ∷ ks) [] = rw eqb-zero-suc
equals_library (k ∷ ks) (x ∷ xs) = rw (eqb-suc-suc, equals_library ks xs) (swap (eqb x k) (eqb (length xs) (length ks)) (starts_with ks xs))
  where
    swap : (a b c : Bool) → (a && (b && c)) ≡ (b && (a && c))
    swap true b c = refl
    swap false true c = refl
    swap false false c = refl
