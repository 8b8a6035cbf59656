-- Laws that the proofs of the functions cite: the bytes that are kept, and one byte more. Assumes nothing.
use Rattle.std.specs.Prelude.{if◌then◌else◌}
use mathlib.Core.Path.{◌≡◌, sym, ap, ◌∙◌}
use mathlib.Core.Bool.{Bool, true, false}
use mathlib.Core.List.{List}
use Prim.Native.Nat.{ℕ, ◌+◌, ◌<◌, ◌≤◌}
use native.Mathlib.Omega.{arith}
use borrow.Author.Tests.{lt-ltb, le-ltb}
use lib.Dec.{ltb}
use lib.ListN.{length, take, set, length-set}
use lib.Seq.{take_all}
use Rattle.partial_line.specs.declared.PartialLine.{PartialLine}
use Rattle.partial_line.specs.PartialLines.{partial, pushed}

pub all_kept : (b : List ℕ) (n : ℕ) → length b ≡ 41 → 41 ≤ n → take 41 b ≡ take n b
all_kept b n e h = take_all 41 b (omega arith) ∙ sym (take_all n b (omega arith))

pub push_in : (h : PartialLine) (x : ℕ) → h.len < 41 → partial (set h.bytes h.len x) (h.len + 1) ≡ pushed h x
unfolding pushed
push_in h x l = rw (lt-ltb _ _ l)

pub push_full : (h : PartialLine) (x : ℕ) → 41 ≤ h.len → h ≡ pushed h x
unfolding pushed
push_full h x l = rw (le-ltb _ _ l)

pub pushed_room : (h : PartialLine) (x : ℕ) (q : PartialLine) → q ≡ pushed h x → length h.bytes ≡ 41 → length q.bytes ≡ 41
unfolding pushed
pushed_room h x q e l = ap (λ (p : PartialLine). length p.bytes) e ∙ go (ltb h.len 41)
  where
    go : (b : Bool) → length (if b then partial (set h.bytes h.len x) (h.len + 1) else h).bytes ≡ 41
    go true = length-set h.bytes h.len x ∙ l
    go false = l
