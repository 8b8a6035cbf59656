-- The lines of all the bytes are those of the bytes not passed yet, after the line as it stands.
use Rattle.std.proofs.Common.{◌≡◌, ℕ, List, ◌++◌, length, drop}
use Rattle.partial_line.specs.Filling.{lines_after}
use Rattle.partial_line.proofs.fill.Given as goal

abbrev pub invariant-loop-i : goal.invariant-loop-i
invariant-loop-i l = record {
  room : length l.line.bytes ≡ 41;
  lines : (more : List ℕ) → lines_after l.fn.h (l.input ++ more) ≡ lines_after l.line (drop l.i l.input ++ more);
  begun : l.i ≡ 0 → l.line.len ≡ l.fn.h.len;
}
