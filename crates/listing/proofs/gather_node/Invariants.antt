use Rattle.std.proofs.Common.{◌≡◌, ◌-◌}
use Rattle.std.specs.Prelude.{Ok}
use Rattle.listing.specs.Listing.{tags_from, adds}
use Rattle.listing.proofs.gather_node.Given as goal

-- the set so far, with the tags of the places to come, is the whole
abbrev pub invariant-loop-j : goal.invariant-loop-j
invariant-loop-j l =
    adds (Ok l.out) (tags_from l.n l.j (32 - l.j)) ≡ adds (Ok l.fn.had) (tags_from l.n 0 32)
