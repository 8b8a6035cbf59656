-- Printing the calls of two lists in the order of some lanes, a call at a time. Assumes nothing.
use Rattle.std.specs.Prelude.{ℕ, ◌+◌, ◌<◌, ◌≤◌, ◌≡◌, refl, List, [], ◌∷◌, length, get_or, drop, Option, Some, None}
use Rattle.std.proofs.Common.{sym, add-one, arith}
use lib.ListN.{drop_of_length-le}
use lib.Seq.{drop-cons}
use Rattle.session.specs.Buffer.{Buffer, append}
use Rattle.session.specs.BufferLaws.{append_both}
use Rattle.notes.specs.declared.Note.{Note}
use Rattle.notes.specs.declared.Lane.{Lane}
use Rattle.notes.specs.declared.Lane.TheVariants.{First, Second}
use Rattle.notes.specs.Text.{note_line}
use Rattle.notes_text.specs.Printing.{line_of, lane_lines}

empty : (xs : List Note) → length xs ≡ 0 → xs ≡ []
empty [] h = refl
empty (x ∷ xs) h = absurd (omega arith)

module _ (ws : List (Option Lane)) (i : ℕ) (xs ys : List Note) (t : Buffer) where
  -- what is left to print from the lane i on
  abbrev lines_left : List ℕ
  lines_left = lane_lines (drop i ws) xs ys

  pub all_printed : length ws ≤ i → append lines_left t ≡ t
  unfolding lane_lines append
  all_printed h = rw (drop_of_length-le ws h)

  module _ (within : i < length ws) where
    here : {w : Option Lane} → get_or ws i None ≡ w → lines_left ≡ lane_lines (w ∷ drop (i + 1) ws) xs ys
    here e = rw (drop-cons ws i None within, e, add-one)

    pub none_printed : get_or ws i None ≡ None → append lines_left t ≡ t
    unfolding lane_lines append
    none_printed e = rw (here e)

    pub first_ended : get_or ws i None ≡ Some First → length xs ≡ 0 → append lines_left t ≡ t
    unfolding lane_lines line_of append
    first_ended e h = let none = empty xs h in rw (here e, none)

    pub second_ended : get_or ws i None ≡ Some Second → length ys ≡ 0 → append lines_left t ≡ t
    unfolding lane_lines line_of append
    second_ended e h = let none = empty ys h in rw (here e, none)

    pub first_printed : (x : Note) (us : List Note) → get_or ws i None ≡ Some First → xs ≡ x ∷ us
        → append (lane_lines (drop (i + 1) ws) us ys) (append (note_line 1 x) t) ≡ append lines_left t
    unfolding lane_lines line_of
    first_printed x us e h = rw (here e, h) (sym (append_both (note_line 1 x) _ t))

    pub second_printed : (y : Note) (vs : List Note) → get_or ws i None ≡ Some Second → ys ≡ y ∷ vs
        → append (lane_lines (drop (i + 1) ws) xs vs) (append (note_line 2 y) t) ≡ append lines_left t
    unfolding lane_lines line_of
    second_printed y vs e h = rw (here e, h) (sym (append_both (note_line 2 y) _ t))
