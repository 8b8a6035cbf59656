use Rattle.std.proofs.Common.{◌≡◌, ◌+◌, drop}
use Rattle.bucket_search.specs.Tags.{tags_in, rank}
use Rattle.bucket_search.proofs.position.Given as goal

-- the tags passed are below the tag, so the rank is their number and the rank in the rest
abbrev pub invariant-loop-p : goal.invariant-loop-p
invariant-loop-p l = l.p + rank l.tag (drop l.p (tags_in l.w)) ≡ rank l.tag (tags_in l.w)
