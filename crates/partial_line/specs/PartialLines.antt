-- A line that is not closed yet, of which at most 41 bytes are kept. Assumes nothing.
use Rattle.std.specs.Prelude.{ℕ, ◌+◌, List, ltb, take, set, replicate, if◌then◌else◌}
use Rattle.partial_line.specs.declared.PartialLine.{PartialLine}

abbrev pub partial : List ℕ → ℕ → PartialLine
partial bytes len = record { bytes = bytes; len = len }

unfoldable pub empty_line : PartialLine
empty_line = partial (replicate 41 0) 0

-- the line's bytes so far
abbrev pub line_bytes : PartialLine → List ℕ
line_bytes h = take h.len h.bytes

-- one byte more. A line of 41 bytes is too long however it goes on
unfoldable pub pushed : PartialLine → ℕ → PartialLine
pushed h x = if ltb h.len 41 then partial (set h.bytes h.len x) (h.len + 1) else h
