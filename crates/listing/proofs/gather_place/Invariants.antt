use Rattle.std.proofs.Common.{◌≡◌, drop}
use Rattle.std.specs.Prelude.{Ok}
use Rattle.spec.specs.Lists.{filter}
use Rattle.looked_up.specs.LookedUp.{looks_up}
use Rattle.listing.specs.Listing.{adds}
use Rattle.listing.proofs.gather_place.Given as goal

-- the set so far, with the tags to come that pass, is the whole
abbrev pub invariant-loop-t : goal.invariant-loop-t
invariant-loop-t l =
    adds (Ok l.out) (filter (looks_up l.n l.j) (drop l.t-index l.t-items))
    ≡ adds (Ok l.fn.had) (filter (looks_up l.n l.j) l.t-items)
