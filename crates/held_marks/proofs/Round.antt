-- The search round: the first link that is not marked. Assumes nothing.
use mathlib.Core.Path.{◌≡◌, sym, ◌∙◌}
use mathlib.Core.List.{List, map}
use mathlib.Core.Bool.{Bool, true, false}
use Prim.Native.Nat.{ℕ, suc, ◌+◌, ◌-◌, ◌%◌, ◌<◌, ◌≤◌}
use native.Mathlib.Numerals.{add-one}
use native.Mathlib.Omega.{arith}
use lib.ListN.{length, get_or}
use Rattle.spec.specs.Lists.{member, range}
use Rattle.spec.specs.Words.{link}
use Rattle.spec.specs.Held.{first_free, cyclic_order}
use Rattle.held_marks.specs.Marks.{marked, Exactly}

minus : (m : List Bool) (k : ℕ) → marked m (k + 1) ≡ get_or m k false
minus m k = let e : k + 1 - 1 ≡ k = omega arith in rw e

module _ (ls : List ℕ) (n last : ℕ) where
  abbrev pub turn : ℕ → ℕ
  turn j = link ((last + j) % n)

  -- what the mark of a link says of it
  pub turn_marked : {m : List Bool} {b : Bool} (j : ℕ) → Exactly m ls → last < n → n ≤ length m → get_or m ((last + j) % n) false ≡ b
      → member (turn j) ls ≡ b
  turn_marked {m} j x h l e =
      let k : (last + j) % n < n = omega arith in
      sym (x.each (turn j) (omega arith) (omega arith)) ∙ minus m ((last + j) % n) ∙ e

  pub free_start : cyclic_order n last ≡ map turn (range 1 (n + 1 - 1))
  unfolding cyclic_order
  free_start = let e : n + 1 - 1 ≡ n = omega arith in rw e

  pub free_end : (j : ℕ) → n < j → first_free ls (map turn (range j (n + 1 - j))) ≡ 0
  unfolding first_free range
  free_end j h = let e : n + 1 - j ≡ 0 = omega arith in rw e

  module _ (j : ℕ) (h : j ≤ n) where
    step : n + 1 - j ≡ suc (n + 1 - (j + 1))
    step = omega arith

    pub free_on : member (turn j) ls ≡ true → first_free ls (map turn (range j (n + 1 - j))) ≡ first_free ls (map turn (range (j + 1) (n + 1 - (j + 1))))
    unfolding first_free range
    free_on e = rw (step, e, add-one j)

    pub free_here : member (turn j) ls ≡ false → first_free ls (map turn (range j (n + 1 - j))) ≡ turn j
    unfolding first_free range
    free_here e = rw (step, e)
