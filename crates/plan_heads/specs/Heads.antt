-- The head that a resize makes. Assumes nothing.
use Rattle.std.specs.Prelude.{ℕ, false, replicate, Some}
use Rattle.plan_heads.specs.declared.Head.{Head}

-- to this size, from the head h
abbrev pub resized : Head → ℕ → Head
resized h n = record { pred = Some h.size; size = n; filled = replicate 32 false }
