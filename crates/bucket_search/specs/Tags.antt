-- A bucket's 66 words: the tags that they have, and what the search makes of them, for any words.
-- Assumes nothing.
use Rattle.std.specs.Prelude.{List, [], ◌∷◌, Bool, ◌&&◌, ℕ, suc, length, get_or, take, drop, ltb, eqb, if◌then◌else◌}

-- the tags of a bucket's own 66 words: `tags ws 0` of the pool that they are by themselves
abbrev pub tags_in : List ℕ → List ℕ
tags_in ws = take (get_or ws 1 0) (drop 2 ws)

-- how many tags at the front are below x: the position at which the search ends
unfoldable pub rank : ℕ → List ℕ → ℕ
rank x [] = 0
rank x (y ∷ ys) = if ltb y x then suc (rank x ys) else 0

-- the tag stands at position p
unfoldable pub stands_at : ℕ → ℕ → List ℕ → Bool
stands_at p x ts = ltb p (length ts) && eqb (get_or ts p 0) x

-- the search finds x: of an ascending list this is `member x ts`
unfoldable pub found : ℕ → List ℕ → Bool
found x ts = stands_at (rank x ts) x ts
