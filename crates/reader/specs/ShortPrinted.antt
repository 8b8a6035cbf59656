-- A line that is printed has at most 41 bytes with the one that closes it, since the numbers in it are of 32 bits, and own steps of 16. Assumes nothing.
use Rattle.std.specs.Prelude.{◌≡◌, refl, [], ◌∷◌, ◌++◌, Bool, true, false, ℕ, zero, suc, ◌+◌, ◌*◌, ◌/◌, ◌%◌, ◌<◌, ◌≤◌, ltb, length, if◌then◌else◌, Some, None, Ok, Err}
use Rattle.std.proofs.Common.{arith, ltb-false}
use Rattle.std.proofs.Math.ListN.{length-append}
use Rattle.spec.specs.declared.Refusal.{Refusal}
use Rattle.spec.specs.declared.Answer.{Answer}
use Rattle.spec.specs.declared.Progress.TheVariants.{At, End}
use Rattle.spec.specs.Numbers.{refusal_number}
use Rattle.session.specs.OutputLengths.{decimal_length, refusal_length, word_length}
use Rattle.recording.specs.declared.ReaderPhase.{ReaderPhase}
use Rattle.recording.specs.declared.ReaderPhase.TheVariants.{Due, Event as EventDue, Printed, Listed, Decided}
use Rattle.session.specs.Print.{decimal_digits, decimal, occupancy_field, output_line}

-- of the line that a reader awaits, where it is printed
unfoldable pub printed_length : ReaderPhase → ℕ
printed_length (Due due) = 0
printed_length EventDue = 0
printed_length (Printed k o) = length (output_line k o)
printed_length (Listed k) = 0
printed_length (Decided v) = 0

-- 10 to the power of q
unfoldable tenfold : ℕ → ℕ
tenfold zero = 1
tenfold (suc q) = 10 * tenfold q

digits_few : (p q n : ℕ) → n < tenfold (suc q) → length (decimal_digits p n) ≤ suc q
unfolding decimal_digits tenfold
digits_few zero q n h = omega arith
digits_few (suc p) q n h = go q h (ltb n 10) refl (λ r k. digits_few p r (n / 10) k)
  where
    go : (m : ℕ) → n < tenfold (suc m) → (b : Bool) → ltb n 10 ≡ b
        → ((r : ℕ) → n / 10 < tenfold (suc r) → length (decimal_digits p (n / 10)) ≤ suc r)
        → length (if b then ((48 + n) ∷ []) else (decimal_digits p (n / 10) ++ ((48 + n % 10) ∷ []))) ≤ suc m
    go m k true e ih = omega arith
    go zero k false e ih = let g = ltb-false n 10 e in absurd (omega arith)
    go (suc m) k false e ih = let g = ih m (omega arith) in simp length-append (omega arith)

decimal_ten : (n : ℕ) → n ≤ 4294967295 → length (decimal n) ≤ 10
unfolding decimal tenfold
decimal_ten n h = digits_few 20 9 n (omega arith)

decimal_five : (n : ℕ) → n ≤ 65535 → length (decimal n) ≤ 5
unfolding decimal tenfold
decimal_five n h = digits_few 20 4 n (omega arith)

module _ (k : ℕ) (few : k ≤ 4294967295) where
  pub at_short : (l : ℕ) → length (output_line k (Ok (At l))) ≤ 41
  unfolding output_line
  at_short l = simp length-append (omega (arith, decimal_ten k few, decimal_length l))

  pub refuse_short : (r : Refusal) → length (output_line k (Err r)) ≤ 41
  unfolding output_line
  refuse_short r = omega (arith, refusal_length (refusal_number r))

  module _ (a : Answer) (own : ℕ) (steps : own ≤ 65535) where
    pub end_short : length (output_line k (Ok (End a own None))) ≤ 41
    unfolding output_line occupancy_field
    end_short = simp length-append (omega (arith, decimal_ten k few, word_length a, decimal_five own steps))

    pub end_full_short : (n : ℕ) → n ≤ 4294967295 → length (output_line k (Ok (End a own (Some n)))) ≤ 41
    unfolding output_line occupancy_field
    end_full_short n h = simp length-append (omega (arith, decimal_ten k few, word_length a, decimal_five own steps, decimal_ten n h))
