-- A choice between two values, and lists of numbers: tests, and sets of tags as strictly ascending lists.
-- Tests are joined by `if`, `&&` and `||`, which are calls, and not by `elim`: rewriting sees a call's arguments.
-- Assumes nothing.
use Rattle.std.specs.Prelude.{ℕ, zero, suc, Bool, true, false, ◌&&◌, ◌||◌, ltb, eqb, if◌then◌else◌}
use mathlib.Core.List.{List, [], ◌∷◌, ◌++◌, foldr}

-- the number n stands in the list
unfoldable pub member : ℕ → List ℕ → Bool
member n [] = false
member n (x ∷ xs) = eqb n x || member n xs

-- each of the tests passes
unfoldable pub all_true : List Bool → Bool
all_true [] = true
all_true (b ∷ bs) = b && all_true bs

module _ {A : Type 0} where
  -- the test passes at each element
  unfoldable pub every : (A → Bool) → List A → Bool
  every f [] = true
  every f (x ∷ xs) = f x && every f xs

  -- the elements at which the test passes, in order
  unfoldable pub filter : (A → Bool) → List A → List A
  filter f [] = []
  filter f (x ∷ xs) = if f x then (x ∷ filter f xs) else (filter f xs)

  -- the lists of f at each element, one after the other
  unfoldable pub concat_map : (A → List ℕ) → List A → List ℕ
  concat_map f [] = []
  concat_map f (x ∷ xs) = f x ++ concat_map f xs

-- i, i + 1, .., n numbers in all
unfoldable pub range : ℕ → ℕ → List ℕ
range i zero = []
range i (suc n) = i ∷ range (suc i) n

-- each element is below the next
unfoldable pub ascending : List ℕ → Bool
ascending [] = true
ascending (x ∷ []) = true
ascending (x ∷ (y ∷ ys)) = ltb x y && ascending (y ∷ ys)

-- an ascending list with k in it, at its place and once
unfoldable pub add_tag : ℕ → List ℕ → List ℕ
add_tag k [] = k ∷ []
add_tag k (x ∷ xs) = if ltb k x then (k ∷ x ∷ xs) else if eqb k x then (x ∷ xs) else (x ∷ add_tag k xs)

-- an ascending list with k out of it
unfoldable pub remove_tag : ℕ → List ℕ → List ℕ
remove_tag k [] = []
remove_tag k (x ∷ xs) = if eqb k x then xs else (x ∷ remove_tag k xs)

-- the elements of any list put into an ascending list, each once
unfoldable pub union : List ℕ → List ℕ → List ℕ
union xs ys = foldr add_tag ys xs
