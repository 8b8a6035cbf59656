-- `merge::search` meets its contract. By the calls that are left, one fewer with each call of itself. Assumes nothing.
use mathlib.Core.Logic.{inl, inr}
use Rattle.std.proofs.Common.{List, ℕ}
use Rattle.notes.specs.declared.Note.{Note}
use Rattle.merge.specs.Trying.{Standing, StandsAt}
use Rattle.merge.proofs.SearchLaws.{Given, all_taken, by_first, by_second, by_neither}
use Rattle.merge.proofs.+search.Goals as goal
use Rattle.merge.proofs.+search.Goals.{then-right+in_default, else-right}

abbrev given : (a b : List Note) (i j : ℕ) → Standing a b i j → (S : List ℕ) → StandsAt a b i j S → Given
given a b i j at S st = record { a = a; b = b; i = i; j = j; at = at; S = S; stands = st }

pub returns-then-m-n : goal.returns-then-m-n
returns-then-m-n t c S st = all_taken (given c.args.a.now c.args.b.now c.args.i c.args.j c.requires S st) c.if-m-n.true

pub returns-in-Some : goal.returns-in-Some
returns-in-Some t c S st =
    rw c.with_lane.ensures
    (by_first (given c.args.a.now c.args.b.now c.args.i c.args.j c.requires S st) c.if-m-n.false c.right.result c.right.ensures c.if-right.true
    c.search.result c.search.ensures c.in-Some.order c.in-Some.is)

pub returns-in-Some-search : goal.returns-in-Some-search
returns-in-Some-search t c S st =
    rw c.with_lane-in-Some-search.ensures
    (by_second (given c.args.a.now c.args.b.now c.args.i c.args.j c.requires S st) c.if-m-n.false c.right.result c.right-2.result c.right.ensures
    (elim c.if-right.branch [
      | then-right+in_default w ↦ inr (w.if-right.true, w.search.result, w.search.ensures, w.in_default.is)
      | else-right w ↦ inl w.if-right.false
    ])
    c.right-2.ensures c.if-right-2.true c.search-then-right-2.result c.search-then-right-2.ensures c.in-Some-search.order c.in-Some-search.is)

pub returns-in_default-search : goal.returns-in_default-search
returns-in_default-search t c S st =
    by_neither (given c.args.a.now c.args.b.now c.args.i c.args.j c.requires S st) c.if-m-n.false c.right.result c.right-2.result c.right.ensures
    (elim c.if-right.branch [
      | then-right+in_default w ↦ inr (w.if-right.true, w.search.result, w.search.ensures, w.in_default.is)
      | else-right w ↦ inl w.if-right.false
    ])
    c.right-2.ensures (inr (c.if-right-2.true, c.search-then-right-2.result, c.search-then-right-2.ensures, c.in_default-search.is))

pub returns-else-right-2 : goal.returns-else-right-2
returns-else-right-2 t c S st =
    by_neither (given c.args.a.now c.args.b.now c.args.i c.args.j c.requires S st) c.if-m-n.false c.right.result c.right-2.result c.right.ensures
    (elim c.if-right.branch [
      | then-right+in_default w ↦ inr (w.if-right.true, w.search.result, w.search.ensures, w.in_default.is)
      | else-right w ↦ inl w.if-right.false
    ])
    c.right-2.ensures (inl c.if-right-2.false)
