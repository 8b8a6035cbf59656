-- One walk through two ascending lists of tags: the tag that is next in both, and whether it stands first in each of them. Assumes nothing.
use Rattle.std.specs.Prelude.{ℕ, List, [], ◌∷◌, ltb, eqb, if◌then◌else◌}
use Rattle.bucket_copies.specs.declared.Taken.{Taken}

abbrev pub taken : ℕ → ℕ → ℕ → Taken
taken tag first second = record { tag = tag; first = first; second = second }

unfoldable pub next_of : List ℕ → List ℕ → Taken
next_of [] [] = taken 0 0 0
next_of [] (y ∷ ys) = taken y 0 1
next_of (x ∷ xs) [] = taken x 1 0
next_of (x ∷ xs) (y ∷ ys) = if ltb x y then taken x 1 0 else if eqb x y then taken y 1 1 else taken y 0 1
