-- The last comma is that of the bytes from the index on, or the last one before them.
use Rattle.std.proofs.Common.{◌≡◌, ◌≤◌, length, drop}
use Rattle.notes.specs.Text.{last_comma_from, last_comma}
use Rattle.notes_text.proofs.parse.last_comma.Given as goal

abbrev pub invariant-loop-i : goal.invariant-loop-i
invariant-loop-i l = (last_comma_from l.i l.last (drop l.i l.s) ≡ last_comma l.s) × (l.last ≤ length l.s)
