-- What a version's words say, and the writes that a line makes. "A version is 66 words like a bucket's": its count and its tags stand
-- where a bucket's do, and are read by the definitions of spec. Assumes nothing.
use Rattle.std.specs.Prelude.{ℕ, ◌*◌, List, [], ◌∷◌, Bool, true, not, eqb, get_or, set, if◌then◌else◌}
use Rattle.spec.specs.Lists.{member, add_tag, remove_tag}
use Rattle.spec.specs.Words.{tags, overwrite, bucket_of}
use Rattle.coop_spec.specs.declared.Operation.{Operation}
use Rattle.coop_spec.specs.Machine.{Machine, with_versions, with_node, with_flag, operation_of, set_operation, with_resp, as_done, as_returned}

-- the version that the bucket has: b.node
abbrev pub current : Machine → ℕ
current y = y.state.node

-- version k's op: "its first 0 for no operation, 1 for frozen, else an operation's number plus 2"
unfoldable pub op_word : Machine → ℕ → ℕ
op_word y k = get_or y.versions (66 * k) 0

-- version k's set
unfoldable pub tags_of : Machine → ℕ → List ℕ
tags_of y k = tags y.versions k

-- ---- lines 132 to 137: an operation's response to a set, and the set after it

-- "132 if op.type = INS then 133 resp ← op.key ∉ o.set .. 135 else if op.type = REM then 136 resp ← op.key ∈ o.set"
unfoldable pub response : Operation → List ℕ → Bool
response op ks = if eqb op.kind 1 then not (member op.tag ks) else member op.tag ks

-- "134 set ← o.set ∪ {op.key} .. 137 set ← o.set \ {op.key}"
unfoldable pub applied : Operation → List ℕ → List ℕ
applied op ks = if eqb op.kind 1 then add_tag op.tag ks else remove_tag op.tag ks

-- ---- writes: what a line may do to the shared words, one constructor a kind

pub data Write : Type 0 where
  -- b.flag ← true
  raise_flag : Write
  -- version k's first word
  set_op : ℕ → ℕ → Write
  -- operation n's response; its prio, to infinity; that an invoke of it has ended with yes
  set_resp : ℕ → Bool → Write
  set_done : ℕ → Write
  set_returned : ℕ → Write
  -- version k is taken, with no operation and these tags, and the bucket has it
  install : ℕ → List ℕ → Write

-- the one place where memory changes; a version that is taken "becomes the last taken"
unfoldable pub apply : Write → Machine → Machine
apply raise_flag y = with_flag true y
apply (set_op k m) y = with_versions (set y.versions (66 * k) m) y
apply (set_resp n b) y = set_operation n (with_resp b (operation_of y n)) y
apply (set_done n) y = set_operation n (as_done (operation_of y n)) y
apply (set_returned n) y = set_operation n (as_returned (operation_of y n)) y
apply (install k ks) y = with_node k (with_versions (overwrite y.versions (66 * k) (bucket_of 0 ks)) y)

-- one after the other
unfoldable pub apply_all : List Write → Machine → Machine
apply_all [] y = y
apply_all (w ∷ ws) y = apply_all ws (apply w y)
