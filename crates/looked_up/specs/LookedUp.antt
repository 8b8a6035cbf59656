-- Where a tag is looked up, in a set opened so, for any words.
-- Assumes nothing.
use Rattle.std.specs.Prelude.{ℕ, List, Bool, not, ◌&&◌, ◌||◌, eqb}
use Rattle.spec.specs.declared.Config.{Config}
use Rattle.spec.specs.Words.{size, place}
use Rattle.spec.specs.Listed.{slot}
use Rattle.looked_up.specs.declared.NodeLookedAt.{NodeLookedAt}

-- the head does not decide, its place for the tag being empty; asked of its predecessor's tags alone
unfoldable pub left_over : Config → List ℕ → ℕ → Bool → ℕ → Bool
left_over g ns head old t = not old || eqb (place ns head (slot g t (size ns head))) 0

-- place j of node k is where the tag t is looked up
unfoldable pub looked_up : Config → List ℕ → ℕ → ℕ → Bool → ℕ → ℕ → Bool
looked_up g ns head k old j t = eqb (slot g t (size ns k)) j && left_over g ns head old t

-- place j of the node that is looked at is where the tag t is looked up
abbrev pub looks_up : NodeLookedAt → ℕ → ℕ → Bool
looks_up n = looked_up n.config n.nodes.now n.head n.node n.old
