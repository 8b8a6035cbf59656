-- What is counted, with those of the tags to come that pass, is all that pass.
use Rattle.std.proofs.Common.{◌≡◌, ◌+◌, ◌≤◌, length, drop}
use Rattle.spec.specs.Lists.{filter}
use Rattle.looked_up.specs.LookedUp.{looks_up}
use Rattle.listing_place.proofs.count_place.Given as goal

abbrev pub invariant-loop-t : goal.invariant-loop-t
invariant-loop-t l = record {
  few : l.found ≤ l.t-index;
  counts : l.found + length (filter (looks_up l.n l.j) (drop l.t-index l.t-items)) ≡ length (filter (looks_up l.n l.j) l.t-items);
}
