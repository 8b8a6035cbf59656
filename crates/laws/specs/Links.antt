-- A link is empty, or it names a record. Assumes nothing.
use Rattle.std.specs.Prelude.{ℕ, ◌-◌, ◌≡◌, true, false, eqb}
use Rattle.std.proofs.Common.{arith, eqb-true, eq-eqb, ne_eqb}
use Rattle.std.proofs.lemmas.Bool.{eqb-false, not-true, not-false}
use Rattle.spec.specs.Words.{link, filled}

-- ---- links

-- a filled link is some record's
pub filled_link : (l : ℕ) → ¬ (l ≡ 0) → (k : ℕ) × (l ≡ link k)
filled_link l n = (l - 1, omega arith)

pub filled_true : (l : ℕ) → filled l ≡ true → ¬ (l ≡ 0)
filled_true l e = eqb-false l 0 (not-true (eqb l 0) e)

pub filled_false : (l : ℕ) → filled l ≡ false → l ≡ 0
filled_false l e = eqb-true l 0 (not-false (eqb l 0) e)

pub true_filled : (l : ℕ) → ¬ (l ≡ 0) → filled l ≡ true
true_filled l d = rw (ne_eqb l 0 d)

pub false_filled : (l : ℕ) → l ≡ 0 → filled l ≡ false
false_filled l d = rw (eq-eqb l 0 d)
