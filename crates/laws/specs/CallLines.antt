-- The lines of a call: where a line leads, is a line of the same call; and every line of a call is one of the 24. Assumes nothing.
use Prim.Native.Nat.{ℕ, zero, suc}
use Rattle.std.specs.Prelude.{◌≡◌, refl, List, [], ◌∷◌, Bool, true, false, not, ◌&&◌, ◌||◌, eqb}
use Rattle.std.proofs.Common.{inl, inr, eqb-true}
use Rattle.spec.specs.Lists.{member, every}
use Rattle.spec.specs.Sound.{fill_lines, lines_of, resizes}
use Rattle.laws.specs.Tests.{tf, and3, or_e}
use Rattle.laws.specs.Lists.{member_cons, no_member, every_head, every_tail}

-- ---- from line to line

unfoldable pub update_lines : List ℕ
update_lines = 32 ∷ 33 ∷ 36 ∷ 39 ∷ 40 ∷ 43 ∷ 44 ∷ 46 ∷ 47 ∷ 48 ∷ 52 ∷ 49 ∷ 50 ∷ 51 ∷ []

unfoldable pub lookup_lines : List ℕ
lookup_lines = 12 ∷ 13 ∷ 15 ∷ 16 ∷ 17 ∷ 18 ∷ []

unfoldable pub resize_lines : List ℕ
resize_lines = 20 ∷ 24 ∷ 27 ∷ 28 ∷ 39 ∷ 40 ∷ 43 ∷ 44 ∷ 46 ∷ 47 ∷ 48 ∷ 52 ∷ 49 ∷ 50 ∷ 51 ∷ []

-- whatever call has line a has line b
unfoldable pub follows : ℕ → ℕ → Bool
follows a b =
    (not (member a update_lines) || member b update_lines) && (not (member a lookup_lines) || member b lookup_lines)
    && (not (member a resize_lines) || member b resize_lines)

implied : (a b : Bool) → (not a || b) ≡ true → a ≡ true → b ≡ true
implied true b e h = e
implied false b e h = absurd (tf h refl)

module _ (a b : ℕ) where
  follow_tests : follows a b ≡ true
      → ((not (member a update_lines) || member b update_lines) ≡ true) × ((not (member a lookup_lines) || member b lookup_lines) ≡ true) ×
      ((not (member a resize_lines) || member b resize_lines) ≡ true)
  unfolding follows
  follow_tests e = and3 _ _ _ e

  pub next_of_call : (call : ℕ) → follows a b ≡ true → member a (lines_of call) ≡ true → member b (lines_of call) ≡ true
  unfolding lines_of fill_lines update_lines lookup_lines resize_lines
  next_of_call zero e h = absurd (no_member a h)
  next_of_call (suc zero) e h = implied (member a update_lines) _ (follow_tests e).0 h
  next_of_call (suc (suc zero)) e h = implied (member a update_lines) _ (follow_tests e).0 h
  next_of_call (suc (suc (suc zero))) e h = implied (member a lookup_lines) _ (follow_tests e).1 h
  next_of_call (suc (suc (suc (suc zero)))) e h = implied (member a resize_lines) _ (follow_tests e).2 h
  next_of_call (suc (suc (suc (suc (suc zero))))) e h = implied (member a resize_lines) _ (follow_tests e).2 h
  next_of_call (suc (suc (suc (suc (suc (suc n)))))) e h = absurd (no_member a h)

pub lines_24 : (call : ℕ) → resizes call ≡ true → member 24 (lines_of call) ≡ true
unfolding lines_of fill_lines member
lines_24 call e = elim (or_e (eqb call 4) (eqb call 5) e) [ inl p ↦ rw (eqb-true call 4 p) | inr p ↦ rw (eqb-true call 5 p) ]

pub lines_36 : (call : ℕ) → member 51 (lines_of call) ≡ true → resizes call ≡ false → member 36 (lines_of call) ≡ true
unfolding lines_of fill_lines member
lines_36 zero h e = absurd (tf h refl)
lines_36 (suc zero) h e = refl
lines_36 (suc (suc zero)) h e = refl
lines_36 (suc (suc (suc zero))) h e = absurd (tf h refl)
lines_36 (suc (suc (suc (suc zero)))) h e = absurd (tf refl e)
lines_36 (suc (suc (suc (suc (suc zero))))) h e = absurd (tf refl e)
lines_36 (suc (suc (suc (suc (suc (suc n)))))) h e = absurd (tf h refl)

-- every line of a call is one of these
unfoldable pub every_line : List ℕ
every_line = 12 ∷ 13 ∷ 15 ∷ 16 ∷ 17 ∷ 18 ∷ 20 ∷ 24 ∷ 27 ∷ 28 ∷ 32 ∷ 33 ∷ 36 ∷ 39 ∷ 40 ∷ 43 ∷ 44 ∷ 46 ∷ 47 ∷ 48 ∷ 52 ∷ 49 ∷ 50 ∷ 51 ∷ []

abbrev pub All : (ℕ → Type 0) → List ℕ → Type 0
All P [] = Unit {0}
All P (x ∷ l) = P x × All P l

pub pick_one : (P : ℕ → Type 0) (l : List ℕ) → All P l → (n : ℕ) → member n l ≡ true → P n
pick_one P [] a n e = absurd (no_member n e)
pick_one P (x ∷ l) a n e = elim (member_cons n x l e) [ inl p ↦ rw p a.0 | inr p ↦ pick_one P l a.1 n p ]

part_of : (l m : List ℕ) → every (λ x. member x m) l ≡ true → (n : ℕ) → member n l ≡ true → member n m ≡ true
part_of [] m h n e = absurd (no_member n e)
part_of (x ∷ l) m h n e =
    elim (member_cons n x l e) [ inl p ↦ rw p (every_head (λ x. member x m) x l h) | inr p ↦ part_of l m (every_tail (λ x. member x m) x l h) n p ]

pub one_of_all : (n call : ℕ) → member n (lines_of call) ≡ true → member n every_line ≡ true
unfolding lines_of fill_lines every_line every member
one_of_all n zero e = absurd (no_member n e)
one_of_all n (suc zero) e = part_of (lines_of 1) every_line refl n e
one_of_all n (suc (suc zero)) e = part_of (lines_of 2) every_line refl n e
one_of_all n (suc (suc (suc zero))) e = part_of (lines_of 3) every_line refl n e
one_of_all n (suc (suc (suc (suc zero)))) e = part_of (lines_of 4) every_line refl n e
one_of_all n (suc (suc (suc (suc (suc zero))))) e = part_of (lines_of 5) every_line refl n e
one_of_all n (suc (suc (suc (suc (suc (suc m)))))) e = absurd (no_member n e)
