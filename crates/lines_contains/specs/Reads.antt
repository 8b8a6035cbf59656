-- What the lines that read the head or a bucket's place have in common: 12 and 32; 13, 16, 17 and 33. Assumes nothing.
use Rattle.std.specs.Prelude.{ℕ, if◌then◌else◌}
use Rattle.spec.specs.declared.Task.{Task}
use Rattle.spec.specs.Machine.{Machine, with_line, with_i, with_t, with_b}
use Rattle.spec.specs.Words.{filled}
use Rattle.spec.specs.Listed.{head_of, place_for}
use Rattle.spec.specs.Lines.{Effect, moves}

-- t is head, to line l
abbrev pub reads_head : Machine → Task → ℕ → Effect
reads_head y c l = moves (with_line l (with_t (head_of y) c))

-- b is the node's place for the tag; filled to one line, empty to another, with i set
unfoldable pub reads_bucket : Machine → Task → ℕ → ℕ → ℕ → ℕ → Effect
reads_bucket y c node found i missing =
    let b = place_for y node c.tag in
    if filled b then moves (with_line found (with_b b c)) else moves (with_line missing (with_i i (with_b b c)))
