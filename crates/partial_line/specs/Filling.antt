-- What some bytes of an input make of a line: they are taken up to the byte that closes it, or to its 41st byte, which makes it too long
-- however it goes on. Stated by the paper's lines (`split_lines`), whatever follows. Assumes nothing.
use Rattle.std.specs.Prelude.{ℕ, ◌<◌, ◌≤◌, ◌≡◌, List, [], ◌∷◌, ◌++◌, true, false, length, drop}
use Rattle.session.specs.Grammar.{InputLine, closed_line, split_lines}
use Rattle.partial_line.specs.declared.PartialLine.{PartialLine}
use Rattle.partial_line.specs.declared.Filled.{Filled}
use Rattle.partial_line.specs.PartialLines.{line_bytes}

-- the lines of `xs` and of what follows it, of which the first one's bytes so far are those of h
abbrev pub lines_after : PartialLine → List ℕ → List InputLine
lines_after h xs = split_lines (line_bytes h) xs

pub record Fills (h : PartialLine) (xs : List ℕ) (r : Filled) : Type 0 where
  pub within : r.used ≤ length xs
  pub closes : r.closed ≡ true → (more : List ℕ)
      → lines_after h (xs ++ more) ≡ closed_line (line_bytes r.line) ∷ split_lines [] (drop r.used xs ++ more)
  pub goes_on : r.closed ≡ false → (more : List ℕ) → lines_after h (xs ++ more) ≡ lines_after r.line (drop r.used xs ++ more)
  pub whole : r.closed ≡ false → r.line.len < 41 → r.used ≡ length xs
  pub short : r.closed ≡ true → r.line.len < 41
  pub uses : r.closed ≡ true → 0 < r.used
  pub some_used : 0 < length xs → h.len < 41 → 0 < r.used
  pub room : length r.line.bytes ≡ 41
