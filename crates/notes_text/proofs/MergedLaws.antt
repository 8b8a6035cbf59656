-- What is printed for each verdict on two lists, and that lists with an order have at most six calls. Assumes nothing.
use Prim.Native.Nat.{ℕ, ◌≤◌}
use native.Mathlib.Omega.{arith}
use mathlib.Core.Path.{◌≡◌, refl, sym, ap, ◌∙◌}
use mathlib.Core.Logic.{◌⊎◌, inl, inr}
use mathlib.Core.List.{List}
use mathlib.Core.Bool.{true, false, ◌||◌}
use Rattle.session.specs.Print.{refusal_line}
use Rattle.laws.specs.Tests.{tf, bool?, or_none}
use borrow.Author.Tests.{ltb-true, ltb-false}
use lib.Dec.{ltb}
use lib.ListN.{take}
use Rattle.notes.specs.declared.Note.{Note}
use Rattle.notes.specs.declared.Notes.{Notes}
use Rattle.notes.specs.declared.Unfit.{Unfit}
use Rattle.notes.specs.declared.Lane.{Lane as LaneTaken}
use Rattle.notes.specs.Merge.{order, none, Outcome, searched, refused, unfit, merge, list_of, lanes_of, merged}
use Rattle.notes.specs.Theorems.{unfit_refused, only_13}
use Rattle.notes.proofs.Theorems.{order_iff}
use Rattle.notes.specs.Text.{none_line, outcome_lines, merge_lines}
use Rattle.merge.proofs.Laws.{list_short, list_long}
use Rattle.notes_text.specs.Printing.{lane_lines, words_lines}
use Rattle.std.specs.Prelude.{Option, Some, None, Ok, Err}

module _ (a b : Notes) where
  abbrev xs : List Note
  xs = list_of a

  abbrev ys : List Note
  ys = list_of b

  -- `none`, and a refusal
  pub none_printed : Ok None ≡ merged (merge xs ys) → merge_lines xs ys ≡ none_line
  unfolding merge_lines outcome_lines merged
  none_printed h = go (merge xs ys) h
    where
      go : (o : Outcome) → Ok None ≡ merged o → outcome_lines o xs ys ≡ none_line
      go (searched (order L)) q = let z : ◌≡◌ {A = ℕ} 0 1 = cc in absurd (omega arith)
      go (searched none) q = refl
      go (refused r) q = let z : ◌≡◌ {A = ℕ} 0 1 = cc in absurd (omega arith)

  pub refusal_printed : (e : Unfit) → Err e ≡ merged (merge xs ys) → merge_lines xs ys ≡ refusal_line 13
  unfolding merge_lines outcome_lines merged
  refusal_printed e h = go (merge xs ys) refl h
    where
      go : (o : Outcome) → merge xs ys ≡ o → Err e ≡ merged o → outcome_lines o xs ys ≡ refusal_line 13
      go (searched (order L)) p q = let z : ◌≡◌ {A = ℕ} 0 1 = cc in absurd (omega arith)
      go (searched none) p q = let z : ◌≡◌ {A = ℕ} 0 1 = cc in absurd (omega arith)
      go (refused r) p q = ap refusal_line (only_13 xs ys r p)

  -- an order
  module _ (w : List (Option LaneTaken)) (h : Ok (Some w) ≡ merged (merge xs ys)) where
    fits : (unfit xs || unfit ys) ≡ false
    unfolding merged
    fits = go (bool? (unfit xs || unfit ys))
      where
        go : ((unfit xs || unfit ys) ≡ true) ⊎ ((unfit xs || unfit ys) ≡ false) → (unfit xs || unfit ys) ≡ false
        go (inl u) =
            let e : Ok (Some w) ≡ merged (refused 13) = h ∙ ap merged (unfit_refused xs ys u) in
            let z : ◌≡◌ {A = ℕ} 0 1 = cc in absurd (omega arith)
        go (inr u) = u

    short : (l : Notes) → unfit (list_of l) ≡ false → l.count ≤ 6
    short l e = go (bool? (ltb 6 l.count))
      where
        go : (ltb 6 l.count ≡ true) ⊎ (ltb 6 l.count ≡ false) → l.count ≤ 6
        go (inl k) = absurd (tf (list_long l (ltb-true _ _ k)) e)
        go (inr k) = ltb-false _ _ k

    pub short_a : a.count ≤ 6
    short_a = short a (or_none (unfit xs) (unfit ys) fits).0

    pub short_b : b.count ≤ 6
    short_b = short b (or_none (unfit xs) (unfit ys) fits).1

    in_order : (o : Outcome) → merge xs ys ≡ o → Ok (Some w) ≡ merged o → outcome_lines o xs ys ≡ lane_lines w xs ys
    unfolding outcome_lines merged
    in_order (searched (order L)) q v =
        let same : w ≡ lanes_of L = cc in
        rw same (sym (words_lines ((order_iff xs ys fits L).0 q).order.keeps))
    in_order (searched none) q v = let z : ◌≡◌ {A = ℕ} 0 1 = cc in absurd (omega arith)
    in_order (refused r) q v = let z : ◌≡◌ {A = ℕ} 0 1 = cc in absurd (omega arith)

    pub order_printed : merge_lines xs ys ≡ lane_lines w (take a.count a.note) (take b.count b.note)
    unfolding merge_lines
    order_printed = in_order (merge xs ys) refl h ∙ rw (list_short a short_a, list_short b short_b)
