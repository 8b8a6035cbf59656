-- What a search from some calls on is given, and what it gives. Assumes nothing.
use Rattle.std.specs.Prelude.{ℕ, suc, ◌+◌, ◌-◌, ◌≤◌, ◌<◌, ◌≡◌, List, [], ◌∷◌, Bool, true, false, length, take, drop, set, replicate, Option, Some, None}
use Rattle.notes.specs.declared.Note.{Note}
use Rattle.notes.specs.declared.Lane.{Lane as LaneTaken}
use Rattle.notes.specs.Orders.{Lane}
use Rattle.notes.specs.Merge.{Found, order, none, gives, lane_of}
use Rattle.merge.specs.Inside.{Stands}

-- how many calls are left in both lists
abbrev pub left : List Note → List Note → ℕ → ℕ → ℕ
left a b i j = (length a - i) + (length b - j)

-- the list has a next call, and the set S gives its answer
unfoldable pub head_given : List ℕ → List Note → Bool
head_given S [] = false
head_given S (x ∷ xs) = gives S x

-- r says whether the list l has a k-th call and the set, after the calls xs and ys, gives its answer
pub record RightNext (l : List Note) (k : ℕ) (xs ys : List Note) (r : Bool) : Type 0 where
  pub has : r ≡ true → k < length l
  pub given : (S : List ℕ) → Stands xs ys S → r ≡ head_given S (drop k l)

-- i calls of one list and j of the other were taken, of six at most
pub record Standing (a b : List Note) (i j : ℕ) : Type 0 where
  pub short_a : length a ≤ 6
  pub short_b : length b ≤ 6
  pub in_a : i ≤ length a
  pub in_b : j ≤ length b

-- S is a set that these first calls of a and b may have left
abbrev pub StandsAt : List Note → List Note → ℕ → ℕ → List ℕ → Type 0
StandsAt a b i j S = Stands (take i a) (take j b) S

-- the lanes of an order from place k on, and none
unfoldable pub placed : ℕ → List Lane → List (Option LaneTaken)
placed k [] = replicate 12 None
placed k (l ∷ L) = set (placed (suc k) L) k (lane_of l)

-- what a search of the calls from place k on gives
unfoldable pub tried : ℕ → Found → Option (List (Option LaneTaken))
tried k (order L) = Some (placed k L)
tried k none = None
