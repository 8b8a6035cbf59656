-- "Listed tags": the tags in the set. Assumes nothing.
use Rattle.std.specs.Prelude.{ℕ, ◌%◌, ◌/◌, List, [], Bool, ◌&&◌, eqb, if◌then◌else◌}
use Rattle.spec.specs.Lists.{member, filter, concat_map, union}
use Rattle.spec.specs.declared.Config.{Config}
use Rattle.spec.specs.Machine.{Machine}
use Rattle.spec.specs.Words.{link, number, filled, size, pred, place, places, tags}

-- ---- reading through links

unfoldable pub size_of : Machine → ℕ → ℕ
size_of y l = size y.nodes (number l)

unfoldable pub pred_of : Machine → ℕ → ℕ
pred_of y l = pred y.nodes (number l)

unfoldable pub place_of : Machine → ℕ → ℕ → ℕ
place_of y l i = place y.nodes (number l) i

-- what of a tag is taken mod a node's size, in a set opened so: the tag itself, and in paper 02, U3: "Version 2 uses tag div 10 wherever
-- version 1 uses the tag before a mod". Only tags go through it; a place's number, as line 43 takes it, does not.
unfoldable pub key : Config → ℕ → ℕ
key g k = if eqb g.version 2 then (k / 10) else k

-- the number of a tag's place in a node of a size: the one definition that says "k mod size"
unfoldable pub slot : Config → ℕ → ℕ → ℕ
slot g k sz = key g k % sz

-- the node's place for a tag
unfoldable pub place_for : Machine → ℕ → ℕ → ℕ
place_for y l k = place_of y l (slot y.state.config k (size_of y l))

unfoldable pub tags_of : Machine → ℕ → List ℕ
tags_of y l = tags y.buckets (number l)

unfoldable pub head_of : Machine → ℕ
head_of y = link y.state.head

-- ---- the set

-- a link names "a bucket with k"; none has none
unfoldable pub in_bucket : Machine → ℕ → ℕ → Bool
in_bucket y l k = filled l && member k (tags_of y l)

-- "Tag k is in the set if the head's place k mod size names a bucket with k; where that place is empty, the predecessor's place
-- k mod (its size) decides; with no bucket there either, k is not in the set."
unfoldable pub in_set : Machine → ℕ → Bool
in_set y k =
    let p = place_for y (head_of y) k in
    let s = pred_of y (head_of y) in
    if filled p then in_bucket y p k else (filled s && in_bucket y (place_for y s k) k)

-- all tags of the buckets that a node places, with repeats; a place or a node that is none gives none
unfoldable pub placed_tags : Machine → ℕ → List ℕ
placed_tags y l = if filled l then tags_of y l else []

unfoldable pub node_tags : Machine → ℕ → List ℕ
node_tags y l = if filled l then concat_map (placed_tags y) (places y.nodes (number l)) else []

-- the tags in the set, ascending: only the head's buckets and its predecessor's can hold one
unfoldable pub listed : Machine → List ℕ
listed y = filter (in_set y) (union (node_tags y (head_of y)) (union (node_tags y (pred_of y (head_of y))) []))
