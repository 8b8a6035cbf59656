-- Where it matters whether byte 10 closes a line that is too long: its rest is passed over up to byte 10 or to the end of the input. Assumes nothing.
use Rattle.std.specs.Prelude.{ℕ, ◌+◌, ◌≤◌, ◌≡◌, ◌⊎◌, List, [], ◌∷◌, ◌++◌, true, false}
use Rattle.session.specs.Grammar.{closed_line, open_line, split_lines}
use Rattle.partial_line.specs.PartialLines.{partial, line_bytes}
use Rattle.stdio.specs.declared.input.Given.{Given}
use Rattle.stdio.specs.declared.input.Given.TheVariants.{Part, Line, TooLong, Ended, Settled, ReadFailed, WriteFailed}
use Rattle.stdio.specs.declared.input.Input.{Input}
use Rattle.stdio.specs.Inputs.{most_calls, failed, with_given, pending, lines_left, bytes_left}

-- the bytes of the line that are at hand are passed over, and n calls are left
abbrev pub resumed : Input → ℕ → Input
resumed p n =
    record { at = p.at; end = p.end; reads = p.reads; number = p.number; left = n; line = partial p.line.bytes 0; given = Part }

unfoldable pub passed : Given → Input → ℕ → Input
passed Part t n = resumed t n
passed Line t n = with_given t Settled
passed TooLong t n = resumed t n
passed Settled t n = t
passed Ended t n = t
passed ReadFailed t n = t
passed WriteFailed t n = t

-- the line at hand is that of p again, of which the end was sought up to q
abbrev pub line_of : Input → Input → Input
line_of p q = record { at = q.at; end = q.end; reads = q.reads; number = p.number; left = 0; line = p.line; given = q.given }

abbrev pub Over : Given → Type 0
Over given = (given ≡ Settled) ⊎ ((given ≡ Ended) ⊎ (failed given ≡ true))

-- from p, at a line that is too long, to q, where it is closed (then this fixes the answer), or the input ended: `read` is what was read
pub record Closes (p : Input) (room : List ℕ) (q : Input) (room' : List ℕ) : Type 0 where
  pub read : List ℕ
  pub in_memory : p.reads ≡ false → (read ≡ []) × (room' ≡ room)
  pub rest : List ℕ
  pub closed : q.given ≡ Settled → (more : List ℕ)
      → lines_left p room (read ++ more) ≡ closed_line (line_bytes p.line ++ rest) ∷ split_lines [] (pending q room' ++ more)
  pub ended : q.given ≡ Ended → lines_left p room read ≡ open_line (line_bytes p.line ++ rest) ∷ []
  pub over : Over q.given
  pub never_fails : p.reads ≡ false → bytes_left p + 2 ≤ most_calls → failed q.given ≡ false
