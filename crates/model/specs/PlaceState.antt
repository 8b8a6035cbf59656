-- The three states of a node's place: empty, with a bucket that may change, with a frozen bucket. Assumes nothing.
use Rattle.std.specs.Prelude.{◌≡◌, refl, ◌⊎◌, ℕ}
use Rattle.std.proofs.Common.{inl, inr, arith}

-- the state of a place
pub data PlaceState : Type 0 where
  empty changeable frozen : PlaceState

pub data Filled : PlaceState → Type 0 where
  of_changeable : Filled changeable
  of_frozen : Filled frozen

pub data Seen (p : PlaceState) : Type 0 where
  is_empty : p ≡ empty → Seen p
  is_changeable : p ≡ changeable → Seen p
  is_frozen : p ≡ frozen → Seen p

pub seen : (p : PlaceState) → Seen p
seen empty = is_empty refl
seen changeable = is_changeable refl
seen frozen = is_frozen refl

pub filled_not_empty : {p : PlaceState} → Filled p → ¬ (p ≡ empty)
filled_not_empty of_changeable e = let z : ◌≡◌ {A = ℕ} 0 1 = cc in omega arith
filled_not_empty of_frozen e = let z : ◌≡◌ {A = ℕ} 0 1 = cc in omega arith

pub not_both : {p : PlaceState} → p ≡ changeable → p ≡ frozen → ⊥
not_both e f = let z : ◌≡◌ {A = ℕ} 0 1 = cc in omega arith

pub filled_changeable : {p : PlaceState} → p ≡ changeable → Filled p
filled_changeable e = rw e of_changeable

pub filled_frozen : {p : PlaceState} → p ≡ frozen → Filled p
filled_frozen e = rw e of_frozen

pub filled? : (p : PlaceState) → (p ≡ empty) ⊎ Filled p
filled? empty = inl refl
filled? changeable = inr of_changeable
filled? frozen = inr of_frozen
