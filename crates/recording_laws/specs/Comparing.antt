-- A closed line passes a comparison exactly if it is the line that the machine prints: `compare_view`, and back `compare_same`,
-- `compare_other`, `compare_unclosed`. For bytes that start with others and are no longer are those others. Assumes nothing.
use Rattle.std.specs.Prelude.{◌≡◌, refl, List, [], ◌∷◌, true, false, not, ℕ, eqb, length}
use Rattle.std.proofs.Common.{ap, ◌∙◌, arith, eq-eqb, eqb-true}
use Rattle.std.proofs.lemmas.Bool.{not-true, not-false}
use Rattle.laws.specs.Tests.{tf, and2, and_i, choose}
use Rattle.session.specs.Grammar.{InputLine, starts_with, equals}
use Rattle.recording.specs.Recording.{close}
use Rattle.recording.specs.declared.Verdict.TheVariants.{Differs, Refusal}
use Rattle.recording.specs.Verdict.{Compared, as_printed, fails, compare_line}

starts_with_itself : (s : List ℕ) → starts_with s s ≡ true
unfolding starts_with
starts_with_itself [] = refl
starts_with_itself (x ∷ s) = and_i (eqb x x) (starts_with s s) (eq-eqb x x refl) (starts_with_itself s)

as_long : (word s : List ℕ) → length s ≡ length word → starts_with word s ≡ true → s ≡ word
unfolding starts_with
as_long [] [] l e = refl
as_long [] (x ∷ s) l e = absurd (omega arith)
as_long (k ∷ word) [] l e = absurd (omega arith)
as_long (k ∷ word) (x ∷ s) l e =
    let h = and2 (eqb x k) (starts_with word s) e in
    let p : x ≡ k = eqb-true x k h.0 in
    let q : s ≡ word = as_long word s (omega arith) h.1 in
    cc

equal_bytes : (word s : List ℕ) → equals word s ≡ true → s ≡ word
unfolding equals
equal_bytes word s e =
    let h = and2 (eqb (length s) (length word)) (starts_with word s) e in
    as_long word s (eqb-true _ _ h.0) h.1

equals_itself : (s : List ℕ) → equals s s ≡ true
unfolding equals
equals_itself s = and_i (eqb (length s) (length s)) (starts_with s s) (eq-eqb (length s) (length s) refl) (starts_with_itself s)

-- ---- a line

-- a comparison by its outcome: line n, where `printed` is printed
pub data CompareView (n : ℕ) (printed : List ℕ) (l : InputLine) : Compared → Type 0 where
  unclosed : l.closed ≡ false → CompareView n printed l (fails (Refusal 10))
  the_line : l.closed ≡ true → close l.bytes ≡ printed → CompareView n printed l as_printed
  other : l.closed ≡ true → ¬ (close l.bytes ≡ printed) → CompareView n printed l (fails (Differs n))

pub compare_view : (n : ℕ) (printed : List ℕ) (l : InputLine) → CompareView n printed l (compare_line n printed l)
unfolding compare_line
compare_view n printed l =
    choose View (not l.closed) _ _ (λ c. unclosed (not-true _ c)) (λ c.
    choose View (equals printed (close l.bytes)) _ _ (λ e. the_line (not-false _ c) (equal_bytes printed (close l.bytes) e)) (λ e.
    other (not-false _ c) (λ q. tf (ap (equals printed) q ∙ equals_itself printed) e)))
  where
    View : Compared → Type 0
    View = CompareView n printed l

-- and back
module _ (n : ℕ) (printed : List ℕ) (l : InputLine) where
  -- "on one line 10 goes before a difference"
  pub compare_unclosed : l.closed ≡ false → compare_line n printed l ≡ fails (Refusal 10)
  unfolding compare_line
  compare_unclosed c = rw c

  pub compare_same : l.closed ≡ true → printed ≡ close l.bytes → compare_line n printed l ≡ as_printed
  unfolding compare_line
  compare_same c e = rw (c, e, equals_itself (close l.bytes))

  pub compare_other : l.closed ≡ true → ¬ (close l.bytes ≡ printed) → compare_line n printed l ≡ fails (Differs n)
  unfolding compare_line
  compare_other c d = rw c (choose (λ (x : Compared). x ≡ fails (Differs n)) (equals printed (close l.bytes)) _ _ (λ e.
      absurd (d (equal_bytes printed (close l.bytes) e))) (λ e. refl))
