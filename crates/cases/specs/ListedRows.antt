-- Rows of which tags are in the set: the head's place decides, the predecessor's where it is empty, nothing beyond. Assumes nothing.
use Rattle.std.specs.Prelude.{ℕ, ◌≡◌, refl, [], ◌∷◌, map}
use Rattle.spec.specs.Machine.{Machine}
use Rattle.spec.specs.Listed.{listed}
use Rattle.spec.specs.Everything.{everything}
use Rattle.spec.specs.WholeRows.{node, bucket, yard, whole_rows}

-- the head, and node 1's predecessor; node 0 has one place, with bucket 0; node 1 has two, the second with bucket 1; node 2 has one, which is empty
unfoldable pub three_sizes : ℕ → ℕ → Machine
three_sizes k p =
    yard k 0 0 (node 1 0 (1 ∷ []) ∷ node 2 p (0 ∷ 2 ∷ []) ∷ node 1 2 [] ∷ []) (bucket 0 (4 ∷ 5 ∷ 6 ∷ 7 ∷ []) ∷ bucket 1 (5 ∷ 8 ∷ 9 ∷ []) ∷ []) []

-- node 0 is head; node 1, with node 0 behind it: 7 has left its place, and 8 stands in a place that is not its own; node 1, with none behind
-- it; node 2, with node 1 behind it, where node 0 decides nothing
pub listed_rows :
    map listed (three_sizes 0 0 ∷ three_sizes 1 1 ∷ three_sizes 1 0 ∷ three_sizes 2 1 ∷ [])
    ≡ (4 ∷ 5 ∷ 6 ∷ 7 ∷ []) ∷ (4 ∷ 5 ∷ 6 ∷ 9 ∷ []) ∷ (5 ∷ 9 ∷ []) ∷ (5 ∷ 9 ∷ []) ∷ []
unfolding everything whole_rows three_sizes
listed_rows = refl
