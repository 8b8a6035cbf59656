-- Marks: a Bool for each link from 1 on. The link of a record that is taken.
-- Assumes nothing.
use Rattle.std.specs.Prelude.{ℕ, ◌-◌, ◌<◌, ◌≤◌, ◌≡◌, List, Bool, false, ◌||◌, length, get_or, Option, Some, None}
use Rattle.spec.specs.Lists.{member}
use Rattle.spec.specs.Words.{link}

abbrev pub marked : List Bool → ℕ → Bool
marked m l = get_or m (l - 1) false

-- the marks r are the marks m with those of the links ls
pub record Marks (m r : List Bool) (ls : List ℕ) : Type 0 where
  pub long : length r ≡ length m
  pub each : (k : ℕ) → 0 < k → k ≤ length m → marked r k ≡ (marked m k || member k ls)

-- the marks are the links ls
pub record Exactly (m : List Bool) (ls : List ℕ) : Type 0 where
  pub each : (k : ℕ) → 0 < k → k ≤ length m → marked m k ≡ member k ls

-- the link of the record with this number, if there is one
abbrev pub link_of : Option ℕ → ℕ
link_of None = 0
link_of (Some k) = link k
