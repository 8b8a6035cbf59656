-- A tag's place number in a node and in one twice as large: the smaller one's is the rest of the larger one's. Assumes nothing.
use Rattle.std.specs.Prelude.{◌≡◌, ◌⊎◌, ℕ, ◌+◌, ◌-◌, ◌*◌, ◌%◌, ◌≤◌, ◌<◌}
use Rattle.std.proofs.Common.{sym, ◌∙◌, inl, inr, mod-lt, mod-eq_of_lt, arith}
use Rattle.std.proofs.Math.Nat.{mod-mod_of_dvd, mod-eq-sub-mod, dvd-mul_left}
use Rattle.std.proofs.Math.Decide.{dec_lt}

-- ---- a tag's places in a node and in one twice as large
pub mod_grown : (k t s : ℕ) → t ≡ 2 * s → k % t % s ≡ k % s
mod_grown k t s e = rw e (mod-mod_of_dvd s k (dvd-mul_left s 2))

pub mod_shrunk : (k t s : ℕ) → 0 < t → s ≡ 2 * t → (k % s ≡ k % t) ⊎ (k % s ≡ k % t + t)
mod_shrunk k t s pos e = go (dec_lt (k % s) t)
  where
    small : k % s < s
    small = mod-lt k (omega arith)

    same : k % s % t ≡ k % t
    same = mod_grown k s t e

    go : Dec (k % s < t) → (k % s ≡ k % t) ⊎ (k % s ≡ k % t + t)
    go (yes lt) = inl (sym (mod-eq_of_lt lt) ∙ same)
    go (no ge) =
        let le : t ≤ k % s = omega arith in
        let sm = small in
        let d : (k % s - t) % t ≡ k % s - t = mod-eq_of_lt (omega arith) in
        let e₂ : k % t ≡ k % s - t = sym same ∙ mod-eq-sub-mod le ∙ d in
        inr (omega arith)
