-- The tags in the set as the code meets them, for any words. In a sound machine they are `listed`, each once (proofs/Sound).
-- Assumes nothing.
use Rattle.std.specs.Prelude.{ℕ, zero, suc, List, [], ◌∷◌, ◌++◌, Bool, true, false, replicate, set, if◌then◌else◌, Result, Ok, Err}
use Rattle.spec.specs.declared.Config.{Config}
use Rattle.spec.specs.Words.{number, filled, pred}
use Rattle.bucket.specs.declared.Changed.{Changed}
use Rattle.bucket.specs.declared.Response.{Response}
use Rattle.bucket.specs.declared.Response.TheVariants.{Yes, No, Frozen, Full}
use Rattle.bucket.specs.Bucket.{added}
use Rattle.looked_up.specs.declared.NodeLookedAt.{NodeLookedAt}
use Rattle.listing_place.specs.PlaceTags.{place_tags}
use Rattle.bucket.specs.declared.Bucket.{Bucket}

-- ---- the tags looked up at the places of a node, in a set opened so

-- those of n places from j on
unfoldable pub places_tags : Config → List ℕ → List ℕ → ℕ → ℕ → Bool → ℕ → ℕ → List ℕ
places_tags g ns bs head k old j zero = []
places_tags g ns bs head k old j (suc n) = place_tags g ns bs head k old j ++ places_tags g ns bs head k old (suc j) n

-- those of n places from j on of the node that is looked at
abbrev pub tags_from : NodeLookedAt → ℕ → ℕ → List ℕ
tags_from d = places_tags d.config d.nodes.now d.buckets.now d.head d.node d.old

-- those of the head and of its predecessor
unfoldable pub set_tags : Config → List ℕ → List ℕ → ℕ → List ℕ
set_tags g ns bs head =
    places_tags g ns bs head head false 0 32
    ++ (if filled (pred ns head) then places_tags g ns bs head (number (pred ns head)) true 0 32 else [])

-- ---- gathered in a bucket

abbrev pub is_full : Response → Bool
is_full Yes = false
is_full No = false
is_full Frozen = false
is_full Full = true

abbrev pub after : Changed → Result Bucket Bucket
after d = if is_full d.answer then Err d.bucket else Ok d.bucket

-- the bucket with a tag more; once a tag found no room, Err with the bucket as it was then, and it stays so
unfoldable pub add_to : Result Bucket Bucket → ℕ → Result Bucket Bucket
add_to (Err b) x = Err b
add_to (Ok b) x = after (added b x)

unfoldable pub adds : Result Bucket Bucket → List ℕ → Result Bucket Bucket
adds g [] = g
adds g (x ∷ xs) = adds (add_to g x) xs

abbrev pub nothing : Result Bucket Bucket
nothing = Ok (record { words = set (replicate 66 0) 0 1 })
