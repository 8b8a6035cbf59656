-- What an entry or a line gives back, as the definitions' reply: the answer, and the state with what is left in both pools.
-- Assumes nothing.
use Rattle.std.specs.Prelude.{List, ℕ}
use Rattle.spec.specs.Entries.{Reply}
use Rattle.spec.specs.Machine.{machine_of}
use Rattle.lines.specs.declared.Stepped.{Stepped}
-- a line gives what it may change of the state
unfoldable pub use Rattle.line_moves.specs.Moving.{changes, settled, refusal}
pub use Rattle.line_moves.specs.Moving.{moved_reply, Gives}

-- an entry gives the whole state
abbrev pub reply_of : Stepped → List ℕ → List ℕ → Reply
reply_of r ns bs = record { out = r.out; machine = machine_of r.state ns bs }
