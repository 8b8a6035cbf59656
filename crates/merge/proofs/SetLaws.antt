-- What the plain set answers goes by whether the tag is inside, and after a call that was answered rightly a tag is inside by what was
-- before and by whether the call turned it. With fewer than 64 tags no insert is full. Assumes nothing.
use Prim.Native.Nat.{ℕ, ◌+◌, ◌≤◌, ◌<◌}
use native.Mathlib.Omega.{arith}
use mathlib.Core.Path.{◌≡◌, refl, sym}
use mathlib.Core.Logic.{◌⊎◌, inl, inr}
use mathlib.Core.List.{List}
use mathlib.Core.Bool.{Bool, true, false, ◌&&◌}
use borrow.Author.Tests.{eqb-true, eqb-false, eq-eqb, ne_eqb}
use lib.Dec.{eqb}
use lib.ListN.{length}
use Rattle.spec.specs.declared.Answer.TheVariants.{Yes, No}
use Rattle.spec.specs.declared.Call.{Call}
use Rattle.spec.specs.declared.Call.TheVariants.{Insert, Remove, Contains, Grow, Shrink}
use Rattle.spec.specs.Lists.{member, add_tag, remove_tag}
use Rattle.spec.specs.Numbers.{answer_number}
use Rattle.spec.specs.Plain.{found_answer, inserted, plain_insert, plain_remove, plain_contains, plain}
use Rattle.laws.specs.Tests.{bool?}
use Rattle.laws.specs.Answers.{insert_no, insert_yes}
use Rattle.laws.specs.Ascending.{Rising, member_add, member_remove, length_add, length_remove}
use Rattle.merge.specs.Inside.{said, moves, differ}

module _ (S : List ℕ) (t : ℕ) where
  insert_there : member t S ≡ true → plain S Insert t ≡ record { answer = No; tags = S }
  unfolding plain plain_insert inserted
  insert_there e = rw (insert_no (length S) (member t S) e)

  insert_new : length S < 64 → member t S ≡ false → plain S Insert t ≡ record { answer = Yes; tags = add_tag t S }
  unfolding plain plain_insert inserted
  insert_new h e = rw (insert_yes (length S) (member t S) h e)

  pub answers : (c : Call) → length S < 64 → (plain S c t).answer ≡ said c (member t S)
  unfolding plain plain_remove plain_contains
  answers Insert h = go (bool? (member t S))
    where
      go : (member t S ≡ true) ⊎ (member t S ≡ false) → (plain S Insert t).answer ≡ said Insert (member t S)
      go (inl e) = rw (insert_there e, e)
      go (inr e) = rw (insert_new h e, e)
  answers Remove h = refl
  answers Contains h = refl
  answers Grow h = refl
  answers Shrink h = refl

  -- one tag more at most
  pub grows : (c : Call) → length S < 64 → length (plain S c t).tags ≤ length S + 1
  unfolding plain plain_remove plain_contains
  grows Insert h = go (bool? (member t S))
    where
      go : (member t S ≡ true) ⊎ (member t S ≡ false) → length (plain S Insert t).tags ≤ length S + 1
      go (inl e) = rw (insert_there e) (omega arith)
      go (inr e) = rw (insert_new h e) (length_add t S)
  grows Remove h = let l = length_remove t S in omega arith
  grows Contains h = omega arith
  grows Grow h = omega arith
  grows Shrink h = omega arith

  module _ (k : ℕ) where
    -- the call turns the tag k
    abbrev turned : Call → Bool
    turned c = eqb t k && (eqb (answer_number (said c (member t S))) 1 && moves c)

    other : eqb t k ≡ false → eqb k t ≡ false
    other e = ne_eqb k t (λ q. eqb-false t k e (sym q))

    kept : (a b : Bool) → b ≡ differ (a && false) b
    kept true b = refl
    kept false b = refl

    pub members : (c : Call) → Rising S → length S < 64 → member k (plain S c t).tags ≡ differ (turned c) (member k S)
    unfolding plain plain_remove plain_contains
    members Insert r h = go (bool? (member t S)) (bool? (eqb t k))
      where
        go : (member t S ≡ true) ⊎ (member t S ≡ false) → (eqb t k ≡ true) ⊎ (eqb t k ≡ false)
            → member k (plain S Insert t).tags ≡ differ (turned Insert) (member k S)
        go (inl e) s = rw (insert_there e, e) (kept (eqb t k) (member k S))
        go (inr e) (inl s) =
            let same : t ≡ k = eqb-true t k s in
            rw (insert_new h e, member_add k t S, eq-eqb k t (sym same), s, e, ← same, e)
        go (inr e) (inr s) = rw (insert_new h e, member_add k t S, other s, s)
    members Remove r h = go (bool? (member t S)) (bool? (eqb t k))
      where
        go : (member t S ≡ true) ⊎ (member t S ≡ false) → (eqb t k ≡ true) ⊎ (eqb t k ≡ false)
            → member k (remove_tag t S) ≡ differ (turned Remove) (member k S)
        go (inl e) (inl s) =
            let same : t ≡ k = eqb-true t k s in
            rw (member_remove k t S r, eq-eqb k t (sym same), s, e, ← same, e)
        go (inr e) (inl s) =
            let same : t ≡ k = eqb-true t k s in
            rw (member_remove k t S r, eq-eqb k t (sym same), s, e, ← same, e)
        go m (inr s) = rw (member_remove k t S r, other s, s)
    members Contains r h = go (eqb t k) (eqb (answer_number (found_answer (member t S))) 1)
      where
        go : (a b : Bool) → member k S ≡ differ (a && (b && false)) (member k S)
        go true true = refl
        go true false = refl
        go false b = refl
    members Grow r h = kept (eqb t k) (member k S)
    members Shrink r h = kept (eqb t k) (member k S)
