-- What is printed for an input of notes has at most 744 bytes, twelve lines of at most 62: `answer_bound`. Assumes nothing.
use Rattle.std.specs.Prelude.{ℕ, ◌*◌, ◌≤◌, ◌≡◌, ◌⊎◌, List, [], ◌∷◌, Bool, true, false, not, ◌||◌, ltb, if◌then◌else◌}
use native.Mathlib.Omega.{arith}
use Rattle.std.proofs.Math.Path.{refl}
use Rattle.std.proofs.Common.{inl, inr, ltb-false, length-append}
use Rattle.std.proofs.Math.ListN.{length}
use Rattle.spec.specs.declared.Call.{Call}
use Rattle.spec.specs.declared.Call.TheVariants.{Insert, Remove, Contains, Grow, Shrink}
use Rattle.spec.specs.Lists.{every}
use Rattle.spec.specs.History.{set_call}
use Rattle.session.specs.Grammar.{InputLine}
use Rattle.session.specs.Print.{refusal_line}
use Rattle.session.specs.OutputLengths.{decimal_length, word_length, refusal_length}
use Rattle.laws.specs.Tests.{bool?, or_none}
use Rattle.notes.specs.declared.Note.{Note}
use Rattle.notes.specs.Orders.{Lane, first, second}
use Rattle.notes.specs.Merge.{order, none, Outcome, searched, refused, unfit, merge, list_of}
use Rattle.notes.proofs.Search.{order_length}
use Rattle.notes.specs.Theorems.{unfit_refused}
use Rattle.notes.proofs.Theorems.{order_iff}
use Rattle.notes.specs.Text.{call_field, note_line, order_lines, outcome_lines, merge_lines, parse_note_line}
use Rattle.notes_text.specs.declared.reading.Reading.{Reading}
use Rattle.notes_text.specs.Reading.{add_line, answer}

field_length : (c : Call) (tag : ℕ) → length (call_field c tag) ≤ 30
unfolding call_field
field_length Insert tag = simp length-append (omega (arith, decimal_length tag))
field_length Remove tag = simp length-append (omega (arith, decimal_length tag))
field_length Contains tag = simp length-append (omega (arith, decimal_length tag))
field_length Grow tag = simp length-append (omega arith)
field_length Shrink tag = simp length-append (omega arith)

note_length : (k : ℕ) (x : Note) → length (note_line k x) ≤ 62
unfolding note_line
note_length k x = simp length-append (omega (arith, decimal_length k, field_length x.call x.tag, word_length x.answer))

lines_length : (L : List Lane) (xs ys : List Note) → length (order_lines L xs ys) ≤ 62 * length L
unfolding order_lines
lines_length [] xs ys = omega arith
lines_length (first ∷ L) [] ys = omega arith
lines_length (first ∷ L) (x ∷ xs) ys = simp length-append (omega (arith, note_length 1 x, lines_length L xs ys))
lines_length (second ∷ L) xs [] = omega arith
lines_length (second ∷ L) xs (y ∷ ys) = simp length-append (omega (arith, note_length 2 y, lines_length L xs ys))

short : (xs : List Note) → unfit xs ≡ false → length xs ≤ 6
unfolding unfit
short xs e = ltb-false 6 (length xs) (or_none (ltb 6 (length xs)) (not (every (λ (x : Note). set_call x.call) xs)) e).0

module _ (xs ys : List Note) where
  outcome_bound : (o : Outcome) → merge xs ys ≡ o → (unfit xs || unfit ys) ≡ false → length (outcome_lines o xs ys) ≤ 744
  unfolding outcome_lines
  outcome_bound (searched (order L)) e fit =
      let u = or_none (unfit xs) (unfit ys) fit in
      let m = order_length ((order_iff xs ys fit L).0 e).order.keeps in
      omega (arith, lines_length L xs ys, short xs u.0, short ys u.1)
  outcome_bound (searched none) e fit = omega arith
  outcome_bound (refused r) e fit = omega (arith, refusal_length r)

  merge_bound : length (merge_lines xs ys) ≤ 744
  unfolding merge_lines outcome_lines
  merge_bound = go (bool? (unfit xs || unfit ys))
    where
      go : ((unfit xs || unfit ys) ≡ true) ⊎ ((unfit xs || unfit ys) ≡ false) → length (merge_lines xs ys) ≤ 744
      go (inl u) = rw (unfit_refused xs ys u) (omega (arith, refusal_length 13))
      go (inr u) = outcome_bound (merge xs ys) refl u

pub answer_bound : (r : Reading) (ls : List InputLine) → length (answer r ls) ≤ 744
unfolding answer
answer_bound r [] = go r.outside
  where
    go : (b : Bool) → length (if b then refusal_line 10 else merge_lines (list_of r.one) (list_of r.two)) ≤ 744
    go true = omega (arith, refusal_length 10)
    go false = merge_bound (list_of r.one) (list_of r.two)
answer_bound r (l ∷ ls) = answer_bound (add_line r (parse_note_line l)) ls
