-- Which versions are named: the bucket's, and the o of a running task. A line names no other but the bucket's. Assumes nothing.
use Rattle.std.specs.Prelude.{ℕ, ◌⊎◌, ◌≡◌}
use Rattle.std.proofs.Common.{inl, inr}
use Rattle.coop_spec.specs.Atomic.{Operations}
use Rattle.coop_model.specs.Heap.{Heap}
use Rattle.coop_model.specs.Lines.{Line, l100_nil, l100_op, l101_done, l101_on, l102_lost, l109, l112, l120_frozen, l120_on, l121, l122_nil, l122_op}
use Rattle.coop_model.specs.Lines.{l123_lost, l127, l129, l130_106, l130_126, l130_op, l138, l139, l140_106, l140_106_lost, l140_126, l140_126_lost}
use Rattle.coop_model.specs.Lines.{l95_done, l95_frozen, l95_on, l96_down, l96_up, l99}
use Rattle.coop_model.specs.Positions.{Has, Point, Position, member_112, member_113, no_call, parts, response_117, running}
use Rattle.coop_model.specs.Runs.{Configuration}

-- the version that a point names: its o
abbrev pub Named : Point → ℕ → Type 0
Named l v = Has (parts l).o v

abbrev pub Names : Position → ℕ → Type 0
Names no_call v = ⊥
Names (running j l) v = Named l v
Names (member_112 k) v = ⊥
Names (member_113 k o) v = v ≡ o
Names (response_117 n) v = ⊥

-- the versions that the bucket, with that version, or a task names
abbrev pub Known : ℕ → (ℕ → Position) → ℕ → Type 0
Known current positions v = (v ≡ current) ⊎ ((p : ℕ) × Names (positions p) v)

-- in a configuration
abbrev pub KnownIn : Configuration → ℕ → Type 0
KnownIn w v = Known w.heap.current w.position v

-- ---- what is named at a line's next position was named at its own, or is the bucket's version

pub names_next : {T : Operations} {h g : Heap} {l l' : Position} (v : ℕ) → Line T h l g l' → Names l' v → (v ≡ h.current) ⊎ Names l v
names_next v (l95_on x d) n = absurd n
names_next v (l95_done d) n = absurd n
names_next v (l95_frozen e) n = absurd n
names_next v (l96_up f) n = absurd n
names_next v (l96_down f) n = absurd n
names_next v l99 n = inl n
names_next v (l100_nil e) n = inr n
names_next v (l100_op e) n = absurd n
names_next v (l101_on d) n = inr n
names_next v (l101_done d) n = absurd n
names_next v (l102_lost e) n = absurd n
names_next v l109 n = absurd n
names_next v l112 n = inl n
names_next v (l120_frozen e) n = absurd n
names_next v (l120_on e) n = absurd n
names_next v l121 n = inl n
names_next v (l122_nil e) n = inr n
names_next v (l122_op e) n = absurd n
names_next v (l123_lost e) n = absurd n
names_next v l127 n = absurd n
names_next v l129 n = inl n
names_next v (l130_op e) n = inr n
names_next v (l130_106 x) n = absurd n
names_next v (l130_126 x) n = absurd n
names_next v l138 n = inr n
names_next v l139 n = inr n
names_next v (l140_106 q) n = absurd n
names_next v (l140_126 q) n = absurd n
names_next v (l140_106_lost q) n = absurd n
names_next v (l140_126_lost q) n = absurd n
