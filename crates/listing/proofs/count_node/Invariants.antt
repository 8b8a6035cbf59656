use Rattle.std.proofs.Common.{◌≡◌, ◌≤◌, ◌+◌, ◌-◌, ◌*◌, length}
use Rattle.listing.specs.Listing.{tags_from}
use Rattle.listing.proofs.count_node.Given as goal

-- the tags of the places passed, with those of the places to come, are all
abbrev pub invariant-loop-j : goal.invariant-loop-j
invariant-loop-j l =
    (l.found ≤ 64 * l.j) ×
    (l.found + length (tags_from l.n l.j (32 - l.j)) ≡ length (tags_from l.n 0 32))
