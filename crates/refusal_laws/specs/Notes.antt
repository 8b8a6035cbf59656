-- The refusals of two lanes' notes as text (paper 02, U8), of any bytes: a table of them, each with its condition, and that one is
-- printed exactly if the table has it (`notes_refused`). Assumes nothing.
use Rattle.std.specs.Prelude.{ℕ, ◌<◌, ◌≡◌, refl, Bool, true, false, ◌&&◌, ◌||◌, ◌⊎◌, ◌↔◌, get_or, Option, Some, None}
use Rattle.std.proofs.Common.{sym, ap, ◌∙◌, arith}
use mathlib.Core.List.{List, [], ◌∷◌}
use Rattle.std.proofs.Math.Logic.{inl, inr}
use Rattle.spec.specs.Lists.{every}
use Rattle.laws.specs.Tests.{tf, bool?, choose}
use Rattle.session.specs.Grammar.{InputLine, input_lines}
use Rattle.session.specs.Print.{refusal_line}
use Rattle.notes.specs.declared.Note.{Note}
use Rattle.notes.specs.declared.NoteLine.{NoteLine}
use Rattle.notes.specs.declared.NoteLine.TheVariants.{First, Second}
use Rattle.notes.specs.Orders.{Lane, first, second}
use Rattle.notes.specs.Merge.{Found, order, none, Outcome as Merged, searched, refused, unfit, merge, search_all}
use Rattle.notes.specs.Text.{parse_note_line, note_line, order_lines, outcome_lines, merge_lines, first_notes, second_notes, is_note, all_notes, notes_output}
use Rattle.notes.specs.Text.{notes_transcript}
use Rattle.notes.specs.Theorems.{Unfit, unfit_refused}
use Rattle.notes.proofs.Theorems.{refused_13}
use Rattle.refusal_laws.specs.Any.{Any, not_every}
use Rattle.refusal_laws.specs.LastLine.{Outcome, refuses, prints, refused_by, begins}

-- "a line outside the grammar, too long or not closed" (paper 01)
abbrev pub NoNote : InputLine → Type 0
NoNote l = parse_note_line l ≡ None

not_note : (x : Option NoteLine) → (is_note x ≡ false) ↔ (x ≡ None)
unfolding is_note
not_note (Some (First x)) = (λ e. absurd (tf refl e), λ e. let z : ◌≡◌ {A = ℕ} 0 1 = cc in absurd (omega arith))
not_note (Some (Second x)) = (λ e. absurd (tf refl e), λ e. let z : ◌≡◌ {A = ℕ} 0 1 = cc in absurd (omega arith))
not_note None = (λ e. refl, λ e. refl)

is_every : (ls : List InputLine) → all_notes ls ≡ every (λ l. is_note (parse_note_line l)) ls
unfolding all_notes every
is_every [] = refl
is_every (l ∷ ls) = ap (λ (b : Bool). is_note (parse_note_line l) && b) (is_every ls)

outside_iff : (ls : List InputLine) → (all_notes ls ≡ false) ↔ Any NoNote ls
outside_iff ls =
    let i = not_every (λ (l : InputLine). is_note (parse_note_line l)) NoNote (λ l. not_note (parse_note_line l)) ls in
    (λ e. i.0 (sym (is_every ls) ∙ e), λ a. is_every ls ∙ i.1 a)

-- an order and `none` begin with an `n`, or are empty
order_begins : (L : List Lane) (xs ys : List Note) → ¬ (get_or (order_lines L xs ys) 0 0 ≡ 114)
unfolding order_lines note_line
order_begins [] xs ys e = omega arith
order_begins (first ∷ L) [] ys e = omega arith
order_begins (first ∷ L) (x ∷ xs) ys e = let z : ◌≡◌ {A = ℕ} 110 114 = e in omega arith
order_begins (second ∷ L) xs [] e = omega arith
order_begins (second ∷ L) xs (y ∷ ys) e = let z : ◌≡◌ {A = ℕ} 110 114 = e in omega arith

found_begins : (f : Found) (xs ys : List Note) → ¬ (get_or (outcome_lines (searched f) xs ys) 0 0 ≡ 114)
unfolding outcome_lines
found_begins (order L) xs ys e = order_begins L xs ys e
found_begins none xs ys e = let z : ◌≡◌ {A = ℕ} 110 114 = e in omega arith

module _ (input : List ℕ) where
  abbrev ls : List InputLine
  ls = input_lines input

  pub data NotesRefused (r : ℕ) : Type 0 where
    -- a line outside the grammar, anywhere in the input
    is_10 : r ≡ 10 → Any NoNote (input_lines input) → NotesRefused r
    -- "13, a longer list or a resize in one"
    is_13 : r ≡ 13 → ¬ Any NoNote (input_lines input) → Unfit (first_notes (input_lines input)) ⊎ Unfit (second_notes (input_lines input)) → NotesRefused r

  outcome : Outcome NotesRefused (notes_transcript input)
  unfolding notes_transcript notes_output merge_lines merge outcome_lines
  outcome = go (bool? (all_notes ls))
    where
      xs : List Note
      xs = first_notes ls

      ys : List Note
      ys = second_notes ls

      go : (all_notes ls ≡ true) ⊎ (all_notes ls ≡ false) → Outcome NotesRefused (notes_output ls)
      go (inr e) = rw e (refuses 10 (omega arith) (is_10 refl ((outside_iff ls).0 e)))
      go (inl e) =
          rw e (choose (λ (o : Merged). Outcome NotesRefused (outcome_lines o xs ys)) (unfit xs || unfit ys) (refused 13) (searched (search_all xs ys))
          (λ u. refuses 13 (omega arith) (is_13 refl (λ a. tf e ((outside_iff ls).1 a)) ((refused_13 xs ys).0 (unfit_refused xs ys u))))
          (λ u. prints (begins (outcome_lines (searched (search_all xs ys)) xs ys) (found_begins (search_all xs ys) xs ys))))

  -- a refusal alone is printed exactly if the table has it: so no other
  pub notes_refused : (r : ℕ) → r < 100 → (notes_transcript input ≡ refusal_line r) ↔ NotesRefused r
  unfolding notes_transcript notes_output merge_lines outcome_lines
  notes_refused r b = (refused_by outcome r b, from)
    where
      from : NotesRefused r → notes_transcript input ≡ refusal_line r
      from (is_10 e a) = rw (e, (outside_iff ls).1 a)
      from (is_13 e n u) = elim (bool? (all_notes ls)) [
        | inl a ↦ rw (e, a, (refused_13 (first_notes ls) (second_notes ls)).1 u)
        | inr a ↦ absurd (n ((outside_iff ls).0 a))
      ]
