-- `planner::Standing::resize` meets its contract. Assumes nothing.
use Rattle.std.proofs.Common.{◌≡◌, length, rules, ap}
use Rattle.bucket.specs.Bucket.{tags_in}
use Rattle.plan_heads.specs.declared.Head.{Head}
use Rattle.planner.specs.Standing.{standing}
use Rattle.planner.proofs.Places.{places_shape}
use Rattle.planner.proofs.Standing.resize.Goals as goal

pub returns : goal.returns
returns c =
    let s = c.args.self in
    let room : length s.head.filled ≡ 32 = search rules in
    let empty = c.empty_places-empty.ensures.0 in
    let own = places_shape s.head (tags_in s.set.words) room c.requires _ _ empty c.fill_steps-steps.ensures.0 in
    record { figures = rw (own, empty); next = ap (λ (h : Head). standing h s.set) c.resized-head.ensures }
