-- Line by line, an input of notes prints its transcript: `lines_print_transcript`. A seventh note of a lane, and those after it, change nothing but
-- that the list is longer. A line outside the grammar fixes the answer (`outside_decides`), and so does one that is too long or not closed
-- (`notes_outside`). Assumes nothing.
use Rattle.std.specs.Prelude.{◌≡◌, Bool, ◌||◌, ℕ, ◌+◌, ltb, set, if◌then◌else◌, Option, Some, None}
use Rattle.std.proofs.Math.Path.{refl}
use Rattle.std.proofs.Common.{sym, ◌∙◌, lt-ltb, le-ltb, ltb-true, ltb-false}
use mathlib.Core.List.{List, [], ◌∷◌, ◌++◌, append_assoc, append-nil}
use Rattle.std.proofs.Math.Bool.{true, false}
use Rattle.session.specs.Grammar.{InputLine, input_lines, admissible}
use Rattle.session.specs.Print.{refusal_line}
use Rattle.session.specs.KeptLists.{KeptIn, KeptAs, past, whole as all_kept, kept_as, keeps_one, keeps_past}
use Rattle.stdio.specs.declared.input.Input.{Input}
use Rattle.stdio.specs.Readers.{TakesLines, OutsideFixes, Countable}
use Rattle.stdio.specs.Runs.{Prints, exact}
use Rattle.laws.specs.Tests.{or_l, or_r}
use Rattle.notes.specs.declared.Note.{Note}
use Rattle.notes.specs.declared.Notes.{Notes}
use Rattle.notes.specs.declared.NoteLine.{NoteLine}
use Rattle.notes.specs.declared.NoteLine.TheVariants.{First, Second}
use Rattle.notes.specs.Merge.{unfit, merge, list_of}
use Rattle.notes.specs.Text.{parse_note_line, outcome_lines, merge_lines, add_first, first_notes, add_second, second_notes, is_note, all_notes}
use Rattle.notes.specs.Text.{notes_output, notes_transcript}
use Rattle.notes_text.specs.declared.reading.Reading.{Reading}
use Rattle.notes_text.specs.Reading.{notes_of, add_note, no_notes, new_reading, add_line, take_line, answer}

-- ---- a line outside the grammar

outside_kept : (r : Reading) → r.outside ≡ true → (n : Option NoteLine) → (add_line r n).outside ≡ true
unfolding add_line
outside_kept r e (Some (First x)) = e
outside_kept r e (Some (Second x)) = e
outside_kept r e None = refl

pub outside_refused : (r : Reading) → r.outside ≡ true → (ls : List InputLine) → answer r ls ≡ refusal_line 10
unfolding answer
outside_refused r e [] = rw e
outside_refused r e (l ∷ ls) = outside_refused (add_line r (parse_note_line l)) (outside_kept r e (parse_note_line l)) ls

-- the answer is fixed: "a line outside the grammar" goes before 13
pub outside_decides : (r : Reading) → r.outside ≡ true → (ls : List InputLine) → answer r ls ≡ answer r []
outside_decides r e ls = outside_refused r e ls ∙ sym (outside_refused r e [])

pub notes_takes : TakesLines answer take_line
unfolding answer take_line
notes_takes r l ls short = refl

cut_off_refused : (r : Reading) (l : InputLine) (ls : List InputLine) → admissible l ≡ false → answer r (l ∷ ls) ≡ refusal_line 10
unfolding answer add_line parse_note_line
cut_off_refused r l ls e = rw e (outside_refused (add_line r None) refl ls)

pub notes_outside : OutsideFixes answer
notes_outside r x y ls e f = cut_off_refused r x ls e ∙ sym (cut_off_refused r y [] f)

-- ---- a lane's notes, and what is kept of them

abbrev Keeps : Notes → List Note → Type 0
Keeps l xs = KeptIn 6 l.count l.note xs

keeps_none : Keeps no_notes []
unfolding no_notes
keeps_none = record { room = refl; counted = refl; same = refl }

keeps_more : (l : Notes) (xs : List Note) (x : Note) → Keeps l xs → Keeps (add_note l x) (xs ++ (x ∷ []))
unfolding add_note
keeps_more l xs x o = go (ltb l.count 6) refl
  where
    go : (b : Bool) → ltb l.count 6 ≡ b
        → Keeps (if b then notes_of (l.count + 1) (set l.note l.count x) else notes_of 7 l.note) (xs ++ (x ∷ []))
    go true e = keeps_one o x (ltb-true _ _ e)
    go false e = keeps_past o x (ltb-false _ _ e)

-- the same list, or both are too long
data Kept (l : Notes) (xs : List Note) : Type 0 where
  whole : list_of l ≡ xs → Kept l xs
  longer : unfit (list_of l) ≡ true → unfit xs ≡ true → Kept l xs

kept_list : (l : Notes) (xs : List Note) → Keeps l xs → Kept l xs
unfolding list_of unfit
kept_list l xs o = go (kept_as o)
  where
    go : KeptAs 6 l.count l.note xs → Kept l xs
    go (past h k) = longer (rw (lt-ltb _ _ h)) (rw (lt-ltb _ _ k))
    go (all_kept h e) = whole (rw (le-ltb _ _ h) e)

refused_lines : (xs ys : List Note) → (unfit xs || unfit ys) ≡ true → merge_lines xs ys ≡ refusal_line 13
unfolding merge_lines merge outcome_lines
refused_lines xs ys e = rw e

kept_lines : (a b : Notes) (xs ys : List Note) → Kept a xs → Kept b ys → merge_lines (list_of a) (list_of b) ≡ merge_lines xs ys
kept_lines a b xs ys (whole e) (whole f) = rw (e, f)
kept_lines a b xs ys (longer u v) q = refused_lines _ _ (or_l _ (unfit (list_of b)) u) ∙ sym (refused_lines xs ys (or_l _ (unfit ys) v))
kept_lines a b xs ys (whole e) (longer u v) =
    refused_lines _ _ (or_r (unfit (list_of a)) _ u) ∙ sym (refused_lines xs ys (or_r (unfit xs) _ v))

-- ---- an input in the middle of it

-- what is printed if these lines are still to come
unfoldable output_left : Bool → List Note → List Note → List InputLine → List ℕ
output_left outside xs ys ls =
    if outside then refusal_line 10
    else if all_notes ls then merge_lines (xs ++ first_notes ls) (ys ++ second_notes ls)
    else refusal_line 10

module _ (outside : Bool) (xs ys : List Note) (l : InputLine) (ls : List InputLine) where
  first_left : (x : Note) → parse_note_line l ≡ Some (First x) → output_left outside (xs ++ (x ∷ [])) ys ls ≡ output_left outside xs ys (l ∷ ls)
  unfolding output_left all_notes first_notes second_notes is_note add_first add_second
  first_left x e = rw (e, append_assoc xs (x ∷ []) (first_notes ls))

  second_left : (x : Note) → parse_note_line l ≡ Some (Second x) → output_left outside xs (ys ++ (x ∷ [])) ls ≡ output_left outside xs ys (l ∷ ls)
  unfolding output_left all_notes first_notes second_notes is_note add_first add_second
  second_left x e = rw (e, append_assoc ys (x ∷ []) (second_notes ls))

  outside_left : parse_note_line l ≡ None → output_left true xs ys ls ≡ output_left outside xs ys (l ∷ ls)
  unfolding output_left all_notes is_note
  outside_left e = rw e (go outside)
    where
      go : (b : Bool) → refusal_line 10 ≡ (if b then refusal_line 10 else refusal_line 10)
      go true = refl
      go false = refl

-- what is printed for these lines, whatever was read before them
abbrev PrintsLines : List InputLine → Type 0
PrintsLines ls =
    (r : Reading) (xs ys : List Note) → Keeps r.one xs → Keeps r.two ys → answer r ls ≡ output_left r.outside xs ys ls

answer_left : (ls : List InputLine) → PrintsLines ls
unfolding answer output_left all_notes first_notes second_notes add_line
answer_left [] r xs ys m n =
    let same = kept_lines r.one r.two xs ys (kept_list r.one xs m) (kept_list r.two ys n) in
    rw (append-nil xs, append-nil ys, same)
answer_left (l ∷ ls) r xs ys m n = go (answer_left ls) (parse_note_line l) refl
  where
    go : PrintsLines ls → (said : Option NoteLine) → parse_note_line l ≡ said → answer (add_line r said) ls ≡ output_left r.outside xs ys (l ∷ ls)
    go ih (Some (First y)) e =
        ih (add_line r (Some (First y))) (xs ++ (y ∷ [])) ys (keeps_more r.one xs y m) n ∙ first_left r.outside xs ys l ls y e
    go ih (Some (Second y)) e =
        ih (add_line r (Some (Second y))) xs (ys ++ (y ∷ [])) m (keeps_more r.two ys y n) ∙ second_left r.outside xs ys l ls y e
    go ih None e = ih (add_line r None) xs ys m n ∙ outside_left r.outside xs ys l ls e

pub lines_print_transcript : (input : List ℕ) → notes_transcript input ≡ answer new_reading (input_lines input)
unfolding new_reading notes_transcript notes_output output_left
lines_print_transcript input = sym (answer_left (input_lines input) new_reading [] [] keeps_none keeps_none)

-- of an input in memory `text` gives the transcript
pub notes_exact : (input : List ℕ) (p : Input) (text : List ℕ) → Countable input → Prints notes_transcript false input p text
    → notes_transcript input ≡ text
notes_exact = exact notes_transcript
