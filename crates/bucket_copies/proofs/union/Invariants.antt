use Rattle.std.proofs.Common.{◌≡◌, ◌≤◌, ◌+◌, ◌++◌, ◌∷◌, List, ℕ, length}
use Rattle.laws.specs.Ascending.{Rising}
use Rattle.spec.specs.Lists.{union}
use Rattle.bucket.specs.Bucket.{tags_in}
use Rattle.bucket.proofs.Pad.{padded}
use Rattle.bucket_copies.proofs.union.Given as goal

-- the tags so far, and after them the union of those that are left, are the whole union; the count goes in last
abbrev pub invariant-loop-xs : goal.invariant-loop-xs
invariant-loop-xs l =
    (acc : List ℕ) × (l.len ≤ 64) × (l.words ≡ padded (1 ∷ 0 ∷ acc)) × (length acc ≡ l.len) × Rising l.xs × Rising l.ys ×
    (acc ++ union l.xs l.ys ≡ union (tags_in l.fn.a.words) (tags_in l.fn.b.words)) ×
    (length l.xs ≤ 64) × (length l.ys ≤ 64)

abbrev pub decreases-loop-xs : goal.decreases-loop-xs
decreases-loop-xs l = length l.xs + length l.ys
