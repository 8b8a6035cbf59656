-- The calls of two lists in the order of some lanes, printed as far as the lists go: of an order's lanes this is `order_lines`.
-- Assumes nothing.
use Rattle.std.specs.Prelude.{ℕ, ◌≡◌, refl, List, [], ◌∷◌, ◌++◌, map, replicate, Option, Some, None}
use Rattle.std.proofs.Common.{ap}
use Rattle.notes.specs.declared.Note.{Note}
use Rattle.notes.specs.declared.Lane.{Lane as LaneTaken}
use Rattle.notes.specs.declared.Lane.TheVariants.{First, Second}
use Rattle.notes.specs.Orders.{Lane, from_first, from_second, Interleaves, none_left, taking}
use Rattle.notes.specs.Merge.{number_of, lane_of, lanes_of}
use Rattle.notes.specs.Text.{note_line, order_lines}

-- the lane's next call, if it has one, and what comes after it
unfoldable pub line_of : LaneTaken → List Note → (List Note → List ℕ) → List ℕ
line_of k [] on = []
line_of k (x ∷ xs) on = note_line (number_of k) x ++ on xs

unfoldable pub lane_lines : List (Option LaneTaken) → List Note → List Note → List ℕ
lane_lines [] xs ys = []
lane_lines (None ∷ ws) xs ys = []
lane_lines (Some First ∷ ws) xs ys = line_of First xs (λ us. lane_lines ws us ys)
lane_lines (Some Second ∷ ws) xs ys = line_of Second ys (λ vs. lane_lines ws xs vs)

-- nothing is left to print
pub no_lines : (ws : List (Option LaneTaken)) → lane_lines ws [] [] ≡ []
unfolding lane_lines line_of
no_lines [] = refl
no_lines (None ∷ ws) = refl
no_lines (Some First ∷ ws) = refl
no_lines (Some Second ∷ ws) = refl

lanes_lines : {xs ys zs : List Note} {L : List Lane} (n : ℕ) → Interleaves xs ys L zs
    → lane_lines (map lane_of L ++ replicate n None) xs ys ≡ order_lines L xs ys
unfolding lane_lines line_of order_lines
lanes_lines n none_left = no_lines (replicate n None)
lanes_lines n (taking {x = x} from_first i) = ap (λ (l : List ℕ). note_line 1 x ++ l) (lanes_lines n i)
lanes_lines n (taking {x = y} from_second i) = ap (λ (l : List ℕ). note_line 2 y ++ l) (lanes_lines n i)

pub words_lines : {xs ys zs : List Note} {L : List Lane} → Interleaves xs ys L zs → lane_lines (lanes_of L) xs ys ≡ order_lines L xs ys
unfolding lanes_of
words_lines i = lanes_lines _ i
