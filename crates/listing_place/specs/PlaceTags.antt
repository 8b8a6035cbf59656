-- The tags in the set at one place, for any words.
-- Assumes nothing.
use Rattle.std.specs.Prelude.{ℕ, List, [], Bool, if◌then◌else◌}
use Rattle.spec.specs.declared.Config.{Config}
use Rattle.spec.specs.Lists.{filter}
use Rattle.spec.specs.Words.{number, filled, place}
use Rattle.bucket.specs.Bucket.{tags_in}
use Rattle.pool.specs.Pool.{bucket_at}
use Rattle.looked_up.specs.declared.NodeLookedAt.{NodeLookedAt}
use Rattle.looked_up.specs.LookedUp.{looked_up}

-- the tags of the bucket that a link names, none for none
unfoldable pub linked_tags : List ℕ → ℕ → List ℕ
linked_tags bs l = if filled l then tags_in (bucket_at bs (number l)).words else []

-- the tags that are looked up at place j of node k and are there
unfoldable pub place_tags : Config → List ℕ → List ℕ → ℕ → ℕ → Bool → ℕ → List ℕ
place_tags g ns bs head k old j = filter (looked_up g ns head k old j) (linked_tags bs (place ns k j))

-- those of place j of the node that is looked at
abbrev pub tags_at : NodeLookedAt → ℕ → List ℕ
tags_at n = place_tags n.config n.nodes.now n.buckets.now n.head n.node n.old
