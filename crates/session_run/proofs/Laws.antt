-- The beginning of a session, and what it prints at the end of its input: after a line that is too long or not closed (`ends_cut_off`), or not
-- (`ends_closed`). Assumes nothing.
use Prim.Native.Nat.{ℕ, ◌<◌}
use mathlib.Core.Path.{◌≡◌, refl, sym, ap, subst, ◌∙◌}
use mathlib.Core.List.{List, []}
use mathlib.Core.Bool.{true, false}
use native.Mathlib.Omega.{arith}
use borrow.Author.Tests.{lt-leb}
use lib.ListN.{length}
use Rattle.session.specs.Grammar.{closed_line, open_line, admissible}
use Rattle.session_state.specs.declared.Session.{Session}
use Rattle.session_state.specs.Handling.{new_session, LineEffect, line_effect, end_effect, lines_output}
use Rattle.partial_line.specs.PartialLines.{line_bytes}
use Rattle.session_lines.specs.KnownMemory.{Known, KnownIn}
use Rattle.session_lines.specs.LinesOutside.{outside_same, outside_last}
use Rattle.stdio.specs.declared.input.Input.{Input}
use Rattle.stdio.specs.Inputs.{cut_off}
use Rattle.stdio.specs.Readers.{last_lines}
use Rattle.session_run.specs.Running.{running, prints_on}

pub new_known : (s : Session) (ns bs : List ℕ) → s ≡ new_session → KnownIn true s ns bs
unfolding new_session Known
new_known s ns bs e = subst (λ (x : Session). KnownIn true x ns bs) (sym e) refl

module _ (s : Session) (ns bs : List ℕ) (p : Input) where
  pub ends_closed : cut_off p ≡ false → (end_effect s ns bs).prints ≡ prints_on (running s ns bs) (last_lines p)
  unfolding prints_on last_lines lines_output
  ends_closed e = rw e refl

  -- a line that is too long or not closed, as any that is too long
  pub ends_cut_off : cut_off p ≡ true → (long : List ℕ) → 41 ≡ length long
      → (line_effect s ns bs (closed_line long)).prints ≡ prints_on (running s ns bs) (last_lines p)
  unfolding prints_on last_lines admissible
  ends_cut_off e long l =
      let last = open_line (line_bytes p.line) in
      let longer : 40 < length long = omega arith in
      let same = outside_same last (closed_line long) refl (lt-leb _ _ longer) s ns bs in
      rw e (sym (outside_last last refl s ns bs [] ∙ ap (λ (d : LineEffect). d.prints) same))
