-- Laws of a line of notes that the proofs of the functions cite, in the form in which loops and branches use them. Assumes nothing.
use Rattle.std.specs.Prelude.{if◌then◌else◌, Option, None, Some}
use Prim.Native.Nat.{ℕ, suc, ◌+◌, ◌<◌, ◌≤◌}
use native.Mathlib.Numerals.{add-one}
use native.Mathlib.Omega.{arith}
use mathlib.Core.Path.{◌≡◌, refl, sym, ap, ◌∙◌}
use mathlib.Core.List.{List}
use mathlib.Core.Bool.{Bool, true, false}
use lib.Dec.{eqb}
use borrow.Author.Tests.{eq-eqb, ne_eqb}
use lib.ListN.{length, get_or, take, drop, drop_of_length-le}
use lib.Seq.{drop-cons}
use Rattle.session.specs.declared.EventLine.{EventLine}
use Rattle.session.specs.declared.EventLine.TheVariants.{Start, Step}
use Rattle.session.specs.Grammar.{starts_with, equals, parse_start}
use Rattle.spec.specs.declared.Answer.{Answer}
use Rattle.notes.specs.declared.NoteLine.{NoteLine}
use Rattle.notes.specs.Text.{parse_answer, last_comma_from, last_comma, noted, parse_noted}

-- ---- the last comma

module _ (s : List ℕ) (i best : ℕ) where
  pub comma_end : length s ≤ i → last_comma_from i best (drop i s) ≡ best
  unfolding last_comma_from
  comma_end h = rw (drop_of_length-le s h)

  -- byte i, whether it is a comma or not
  comma_step : i < length s → (b : Bool) → eqb (get_or s i 0) 44 ≡ b
      → last_comma_from i best (drop i s) ≡ last_comma_from (i + 1) (if b then i else best) (drop (i + 1) s)
  unfolding last_comma_from
  comma_step h b e =
      ap (last_comma_from i best) (drop-cons s i 0 h)
      ∙ ap (λ (c : Bool). last_comma_from (i + 1) (if c then i else best) (drop (suc i) s)) e
      ∙ ap (λ (n : ℕ). last_comma_from (i + 1) (if b then i else best) (drop n s)) (sym (add-one i))

  pub comma_here : i < length s → get_or s i 0 ≡ 44 → last_comma_from i best (drop i s) ≡ last_comma_from (i + 1) i (drop (i + 1) s)
  comma_here h e = comma_step h true (eq-eqb _ _ e)

  pub comma_elsewhere : i < length s → (get_or s i 0 ≡ 44 → ⊥) → last_comma_from i best (drop i s) ≡ last_comma_from (i + 1) best (drop (i + 1) s)
  comma_elsewhere h e = comma_step h false (ne_eqb _ _ e)

-- ---- what stands after the key

no_word : (e : Option EventLine) → noted e None ≡ None
unfolding noted
no_word (Some (Start k call tag)) = refl
no_word (Some (Step k)) = refl
no_word None = refl

module _ (s : List ℕ) (p : ℕ) (e : p ≡ last_comma s) where
  pub no_comma : length s ≤ p → None ≡ parse_noted s
  unfolding parse_noted parse_answer equals starts_with
  no_comma h = let g : length s ≤ p + 1 = omega arith in rw (← e, drop_of_length-le s g) (sym (no_word _))

  pub at_comma : (b : Option EventLine) (w : Option Answer) (r : Option NoteLine) → b ≡ parse_start (take p s) → w ≡ parse_answer (drop (p + 1) s)
      → r ≡ noted b w → r ≡ parse_noted s
  unfolding parse_noted
  at_comma b w r f g q = rw (← e, ← f, ← g) q
