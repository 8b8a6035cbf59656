use Rattle.std.proofs.Common.{◌≡◌, ◌≤◌, ◌++◌, ◌∷◌, List, ℕ, length, drop}
use lib.Dec.{eqb}
use Rattle.spec.specs.Lists.{filter}
use Rattle.spec.specs.Listed.{slot}
use Rattle.bucket.proofs.Pad.{padded}
use Rattle.bucket_copies.proofs.split.Given as goal

-- the words so far are the tags passed that belong to the place, then zeros; the count goes in last
abbrev pub invariant-loop-t : goal.invariant-loop-t
invariant-loop-t l =
    (acc : List ℕ) × (l.len ≤ l.t-index) × (l.words ≡ padded (1 ∷ 0 ∷ acc)) × (length acc ≡ l.len) ×
    (acc ++ filter (λ k. eqb (slot l.g k l.size) l.i) (drop l.t-index l.t-items) ≡ filter (λ k. eqb (slot l.g k l.size) l.i) l.t-items)
