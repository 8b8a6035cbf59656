-- Laws that the proofs of the functions cite, in the form in which loops and branches use them. Assumes nothing.
use Prim.Native.Nat.{ℕ, ◌+◌, ◌<◌, ◌≤◌}
use native.Mathlib.Numerals.{add-one}
use mathlib.Core.Path.{◌≡◌}
use mathlib.Core.List.{List}
use lib.ListN.{length, get_or, drop, drop_of_length-le}
use lib.Seq.{drop-cons}
use Rattle.session.specs.Buffer.{Buffer, append}
use Rattle.session.specs.BufferLaws.{append_both}
use Rattle.plans.specs.declared.Figures.{Figures}
use Rattle.plan_text.specs.Text.{figures_line, figures_lines}

-- ---- figures printed one after the other

module _ (fs : List Figures) (i : ℕ) (t : Buffer) where
  pub figures_on : (d : Figures) → i < length fs
      → append (figures_lines (drop i fs)) t ≡ append (figures_lines (drop (i + 1) fs)) (append (figures_line (get_or fs i d)) t)
  unfolding figures_lines
  figures_on d l = rw (drop-cons fs i d l, add-one i) (append_both (figures_line (get_or fs i d)) _ t)

  pub figures_end : length fs ≤ i → append (figures_lines (drop i fs)) t ≡ t
  unfolding figures_lines append
  figures_end l = rw (drop_of_length-le fs l)
