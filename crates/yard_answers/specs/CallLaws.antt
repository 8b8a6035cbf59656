-- What every call for C shares: the words that it may go by, a state's and as many for the answer as it has; a show's one word; and that an opening which
-- gives no refusal gives 0. `fits` says which words a state has. Assumes nothing.
use Rattle.std.specs.Prelude.{ℕ, ◌≤◌, ◌≡◌, refl, Bool, true, ◌&&◌, List, [], ◌∷◌, eqb, length, set}
use Rattle.std.proofs.Common.{sym, ap, ◌∙◌, arith, eqb-true, eq-eqb}
use Rattle.laws.specs.Tests.{and2, and_i}
use Rattle.yard_answers.specs.Answers.{open_number}

pub record Ready (fits : List ℕ → Bool) (w out : List ℕ) (n : ℕ) : Type 0 where
  pub is_state : fits w ≡ true
  pub room : length out ≡ n

module _ (fits : List ℕ → Bool) (w out : List ℕ) (n : ℕ) (b : Bool) (e : b ≡ fits w) where
  pub tested : {t : Bool} → (b && eqb (length out) n) ≡ t → (fits w && eqb (length out) n) ≡ t
  tested h = ap (λ (x : Bool). x && eqb (length out) n) (sym e) ∙ h

  pub ready : (b && eqb (length out) n) ≡ true → Ready fits w out n
  ready h = let p = and2 (fits w) (eqb (length out) n) (tested h) in record { is_state = p.0; room = eqb-true (length out) n p.1 }

pub ready_test : {fits : List ℕ → Bool} {w out : List ℕ} {n : ℕ} → Ready fits w out n → (fits w && eqb (length out) n) ≡ true
ready_test {fits} {w} {out} {n} h = and_i (fits w) (eqb (length out) n) h.is_state (eq-eqb (length out) n h.room)

pub one_word : (v : List ℕ) (n : ℕ) → length v ≡ 1 → set v 0 n ≡ n ∷ []
one_word [] n e = absurd (omega arith)
one_word (x ∷ []) n e = refl
one_word (x ∷ (z ∷ zs)) n e = absurd (omega arith)

pub opens_with_0 : (r : ℕ) → 256 ≤ open_number r → ¬ (r ≡ 0)
unfolding open_number
opens_with_0 r h e = let z : 256 ≤ 0 = rw e at h in omega arith
