-- Lines, closed and joined, are read back as those lines: `first_line`, `lines_again`; no line of an input holds byte 10:
-- `lines_plain`; and there are no more lines than bytes: `lines_few`. For a line ends at the first byte 10, which is no part of it. Assumes nothing.
use Rattle.std.specs.Prelude.{◌≡◌, refl, List, [], ◌∷◌, ◌++◌, map, Bool, true, false, not, ℕ, suc, ◌+◌, ◌≤◌, eqb, length, if◌then◌else◌}
use Rattle.std.proofs.Common.{sym, ap, ◌∙◌, append_assoc, append-nil, arith, length-append}
use Rattle.std.proofs.Math.Decide.{ℕ_discrete}
use Rattle.std.proofs.lemmas.Bool.{eqb-false, not-true}
use Rattle.std.proofs.Math.Seq.{append_snoc}
use Rattle.spec.specs.Lists.{every, concat_map}
use Rattle.laws.specs.Tests.{and2, and_i}
use Rattle.session.specs.Keys.{newline}
use Rattle.session.specs.Grammar.{InputLine, closed_line, open_line, split_lines, input_lines}
use Rattle.recording.specs.Recording.{Role, close, input_again, bytes_of}

-- ---- bytes without byte 10

unfoldable pub without_newline : List ℕ → Bool
without_newline s = every (λ (x : ℕ). not (eqb x newline)) s

pub plain_append : (s t : List ℕ) → without_newline s ≡ true → without_newline t ≡ true → without_newline (s ++ t) ≡ true
unfolding without_newline every
plain_append [] t p q = q
plain_append (x ∷ s) t p q =
    let h = and2 (not (eqb x newline)) (without_newline s) p in
    and_i (not (eqb x newline)) (without_newline (s ++ t)) h.0 (plain_append s t h.1 q)

plain_byte : (x : ℕ) → eqb x newline ≡ false → without_newline (x ∷ []) ≡ true
unfolding without_newline every
plain_byte x e = rw e

-- ---- joined lines are read back

split_first : (b begun rest : List ℕ) → without_newline b ≡ true
    → split_lines begun (b ++ newline ∷ rest) ≡ closed_line (begun ++ b) ∷ split_lines [] rest
unfolding without_newline every split_lines
split_first [] begun rest p = ap (λ (w : List ℕ). closed_line w ∷ split_lines [] rest) (sym (append-nil begun))
split_first (x ∷ b) begun rest p =
    let h = and2 (not (eqb x newline)) (without_newline b) p in
    rw (not-true (eqb x newline) h.0)
    (split_first b (begun ++ (x ∷ [])) rest h.1
    ∙ ap (λ (w : List ℕ). closed_line w ∷ split_lines [] rest) (append_snoc begun x b))

pub first_line : (b rest : List ℕ) → without_newline b ≡ true → input_lines (close b ++ rest) ≡ closed_line b ∷ input_lines rest
unfolding input_lines
first_line b rest p = ap (split_lines []) (append_snoc b newline rest) ∙ split_first b [] rest p

-- a closed line is its bytes, closed
pub closed_again : (l : InputLine) → l.closed ≡ true → closed_line l.bytes ≡ l
closed_again l e = ap (λ (b : Bool). record { bytes = l.bytes; closed = b }) (sym e)

-- lines that can be written again
pub data Clean : List InputLine → Type 0 where
  none_clean : Clean []
  line_clean : {l : InputLine} {ls : List InputLine} → l.closed ≡ true → without_newline l.bytes ≡ true → Clean ls → Clean (l ∷ ls)

abbrev pub again : Role → List InputLine → List ℕ
again role ls = bytes_of (map (input_again role) ls)

pub lines_again : (role : Role) {ls : List InputLine} → Clean ls → (rest : List ℕ) → input_lines (again role ls ++ rest) ≡ ls ++ input_lines rest
unfolding bytes_of concat_map input_again
lines_again role none_clean rest = refl
lines_again role (line_clean {l = l} {ls = ls} c p q) rest =
    ap input_lines (append_assoc (close l.bytes) (again role ls) rest)
    ∙ first_line l.bytes (again role ls ++ rest) p
    ∙ ap (λ (m : InputLine). m ∷ input_lines (again role ls ++ rest)) (closed_again l c)
    ∙ ap (λ (ms : List InputLine). l ∷ ms) (lines_again role q rest)

-- ---- no line of an input holds byte 10

unfoldable pub plain_line : InputLine → Bool
plain_line l = without_newline l.bytes

split_plain : (input begun : List ℕ) → without_newline begun ≡ true → every plain_line (split_lines begun input) ≡ true
unfolding plain_line split_lines every without_newline
split_plain [] begun p = go (eqb (length begun) 0)
  where
    go : (b : Bool) → every plain_line (if b then [] else (open_line begun ∷ [])) ≡ true
    go true = refl
    go false = and_i (without_newline begun) true p refl
split_plain (x ∷ input) begun p = go (eqb x newline) refl (split_plain input [] refl) (split_plain input (begun ++ (x ∷ [])))
  where
    go : (b : Bool) → eqb x newline ≡ b → every plain_line (split_lines [] input) ≡ true
        → (without_newline (begun ++ (x ∷ [])) ≡ true → every plain_line (split_lines (begun ++ (x ∷ [])) input) ≡ true)
        → every plain_line (if b then (closed_line begun ∷ split_lines [] input) else split_lines (begun ++ (x ∷ [])) input) ≡ true
    go true e next same = and_i (without_newline begun) (every plain_line (split_lines [] input)) p next
    go false e next same = same (plain_append begun (x ∷ []) p (plain_byte x e))

pub lines_plain : (input : List ℕ) → every plain_line (input_lines input) ≡ true
unfolding input_lines without_newline every
lines_plain input = split_plain input [] refl

-- ---- an input has no more lines than bytes

split_few : (input begun : List ℕ) → length (split_lines begun input) ≤ length begun + length input
unfolding split_lines
split_few [] begun = go (eqb (length begun) 0) refl
  where
    go : (b : Bool) → eqb (length begun) 0 ≡ b → length {A = InputLine} (if b then [] else (open_line begun ∷ [])) ≤ length begun + 0
    go true e = omega arith
    go false e =
        let d : length begun ≡ 0 → ⊥ = eqb-false _ _ e in
        let s : 1 ≤ length begun = elim (ℕ_discrete (length begun) 0) [ yes q ↦ absurd (d q) | no q ↦ omega arith ] in
        omega arith
split_few (x ∷ input) begun = go (eqb x newline) (split_few input []) (split_few input (begun ++ (x ∷ [])))
  where
    go : (b : Bool) → length (split_lines [] input) ≤ 0 + length input
        → length (split_lines (begun ++ (x ∷ [])) input) ≤ length (begun ++ (x ∷ [])) + length input
        → length (if b then (closed_line begun ∷ split_lines [] input) else split_lines (begun ++ (x ∷ [])) input) ≤ length begun + suc (length input)
    go true next same = omega arith
    go false next same = omega (arith, length-append begun (x ∷ []))

pub lines_few : (input : List ℕ) → length (input_lines input) ≤ length input
unfolding input_lines
lines_few input = omega (arith, split_few input [])
