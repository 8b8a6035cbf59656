-- The total of numbers, one for each task below n. Assumes nothing.
use Rattle.std.specs.Prelude.{ℕ, zero, suc, ◌+◌, ◌*◌, ◌≤◌, ◌<◌, ◌≡◌}
use Rattle.std.proofs.Math.Decide.{ℕ_discrete}
use Rattle.std.proofs.Common.{arith}

unfoldable pub total : (ℕ → ℕ) → ℕ → ℕ
total f zero = 0
total f (suc n) = f n + total f n

pub total_most : (f : ℕ → ℕ) (m n : ℕ) → ((q : ℕ) → q < n → f q ≤ m) → total f n ≤ m * n
unfolding total
total_most f m zero h = omega arith
total_most f m (suc n) h = let a = h n (omega arith) in let b = total_most f m n (λ q lt. h q (omega arith)) in omega arith

pub total_le : (f g : ℕ → ℕ) → ((q : ℕ) → f q ≤ g q) → (n : ℕ) → total f n ≤ total g n
unfolding total
total_le f g h zero = omega arith
total_le f g h (suc n) = let a = h n in let b = total_le f g h n in omega arith

-- with one number less
pub total_less : (f g : ℕ → ℕ) → ((q : ℕ) → f q ≤ g q) → (p : ℕ) → f p < g p → (n : ℕ) → p < n → total f n < total g n
unfolding total
total_less f g h p less zero lt = absurd (omega arith)
total_less f g h p less (suc n) lt = go (ℕ_discrete p n) (total_less f g h p less n)
  where
    go : Dec (p ≡ n) → (p < n → total f n < total g n) → f n + total f n < g n + total g n
    go (yes e) ih =
        let rest = total_le f g h n in
        let here : f n < g n = rw e at less in
        omega arith
    go (no d) ih = let rest = ih (omega arith) in let here = h n in omega arith

-- no number is more than the total
pub total_has : (f : ℕ → ℕ) (p n : ℕ) → p < n → f p ≤ total f n
unfolding total
total_has f p zero lt = absurd (omega arith)
total_has f p (suc n) lt = go (ℕ_discrete p n) (total_has f p n)
  where
    go : Dec (p ≡ n) → (p < n → f p ≤ total f n) → f p ≤ f n + total f n
    go (yes e) ih = rw e (omega arith)
    go (no d) ih = let rest = ih (omega arith) in omega arith
