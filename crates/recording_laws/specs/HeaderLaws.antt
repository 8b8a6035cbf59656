-- What the other proofs need of a header line: `header_known`, by what it comes to; of one that starts with `size=`, `size_step`. And that
-- the header is the one that a session reads: `as_session`. Session's `header_step` is opened here and in its `LineLaws` alone. Assumes nothing.
use Rattle.std.specs.Prelude.{◌≡◌, refl, List, [], ◌∷◌, Bool, true, false, ◌&&◌, ℕ, suc, ◌≤◌, eqb, leb, length, if◌then◌else◌, Option, Some, None}
use Rattle.std.proofs.Common.{sym, ap, ◌∙◌, arith, eqb-true, ne_eqb, leb-true}
use Rattle.laws.specs.Tests.{and_left, and_right}
use Rattle.session.specs.declared.Header.{Header}
use Rattle.session.specs.declared.HeaderLine.{HeaderLine}
use Rattle.session.specs.declared.HeaderLine.TheVariants.{Tasks, Nodes, Buckets, Version, Blank}
use Rattle.session.specs.declared.HeaderStep.{HeaderStep}
use Rattle.session.specs.declared.HeaderStep.TheVariants.{Next, Complete, Absent, Missing}
use Rattle.session.specs.Keys.{size_key}
use Rattle.session.specs.Grammar.{InputLine, starts_with, equals, parse_keyed_number, admissible, parse_header_line, parse_fixed_line}
use Rattle.session.specs.Header.{empty_header, line_number, with_number, optional, number_step, other_step, header_step}
use Rattle.session.specs.Header.{HeaderRead, complete, incomplete}
use Rattle.session.specs.Header.{after_step as session-step, read_from, read_header}
use Rattle.session.specs.LineLaws.{no_header_line, outside_number}
use Rattle.recording.specs.Header.{HeaderTaken, taken, not_taken, with_line, after_step, take_from, take_header}

-- how many header lines stand before this one
unfoldable pub lines_before : HeaderLine → ℕ
lines_before Tasks = 0
lines_before Nodes = 1
lines_before Buckets = 2
lines_before Version = 3
lines_before Blank = 4

pub few_before : (due : HeaderLine) → lines_before due ≤ 4
unfolding lines_before
few_before Tasks = omega arith
few_before Nodes = omega arith
few_before Buckets = omega arith
few_before Version = omega arith
few_before Blank = omega arith

-- a line that is taken is closed, and not too long
pub record TakenLine (l : InputLine) : Type 0 where
  pub closed : l.closed ≡ true
  pub short : length l.bytes ≤ 40

-- what is known of line l by what it comes to where `due` is due, after header h
pub data HeaderKnown (due : HeaderLine) (h : Header) (l : InputLine) : HeaderStep → Type 0 where
  goes_on : {due' : HeaderLine} {h' : Header} → TakenLine l → lines_before due' ≡ suc (lines_before due) → HeaderKnown due h l (Next due' h')
  last_taken : {h' : Header} → TakenLine l → HeaderKnown due h l (Complete h')
  left_out : optional due ≡ true → HeaderKnown due h l (Absent h)
  missing : optional due ≡ false → HeaderKnown due h l Missing

-- ---- a line

number_taken : (due : HeaderLine) (l : InputLine) (n : ℕ) → line_number due l ≡ Some n → TakenLine l
unfolding admissible
number_taken due l n e = go (admissible l) refl
  where
    go : (b : Bool) → admissible l ≡ b → TakenLine l
    go true p =
        record {
          closed = and_left l.closed (leb (length l.bytes) 40) p;
          short = leb-true (length l.bytes) 40 (and_right l.closed (leb (length l.bytes) 40) p);
        }
    go false p = let q = outside_number due l p in let z : ◌≡◌ {A = ℕ} 0 1 = cc in absurd (omega arith)

with_known : (due : HeaderLine) (h : Header) (l : InputLine) (n : ℕ) → TakenLine l → HeaderKnown due h l (with_number due h n)
unfolding with_number lines_before
with_known Tasks h l n t = goes_on t refl
with_known Nodes h l n t = goes_on t refl
with_known Buckets h l n t = goes_on t refl
with_known Version h l n t = goes_on t refl
with_known Blank h l n t = last_taken t

-- the version's line is left out
without_version : (h : Header) (l : InputLine) → HeaderKnown Version h l (number_step Blank h (line_number Blank l) (Absent h))
unfolding number_step with_number optional
without_version h l = go (line_number Blank l) refl
  where
    go : (x : Option ℕ) → line_number Blank l ≡ x → HeaderKnown Version h l (number_step Blank h x (Absent h))
    go (Some n) e = last_taken (number_taken Blank l n e)
    go None e = left_out refl

other_known : (due : HeaderLine) (h : Header) (l : InputLine) → HeaderKnown due h l (other_step due h l)
unfolding other_step optional
other_known Tasks h l = missing refl
other_known Nodes h l = missing refl
other_known Buckets h l = missing refl
other_known Version h l = without_version h l
other_known Blank h l = left_out refl

pub header_known : (due : HeaderLine) (h : Header) (l : InputLine) → HeaderKnown due h l (header_step due h l)
unfolding header_step number_step
header_known due h l = go (line_number due l) refl
  where
    go : (x : Option ℕ) → line_number due l ≡ x → HeaderKnown due h l (number_step due h x (other_step due h l))
    go (Some n) e = with_known due h l n (number_taken due l n e)
    go None e = other_known due h l

-- ---- a line that starts with `size=`

-- that byte string begins with 115, and this key with another byte
other_key : (a : ℕ) (key s : List ℕ) → (a ≡ 115 → ⊥) → starts_with size_key s ≡ true → starts_with (a ∷ key) s ≡ false
unfolding starts_with
other_key a key [] d e = refl
other_key a key (b ∷ s) d e =
    let p : b ≡ 115 = eqb-true b 115 (and_left (eqb b 115) (starts_with (105 ∷ 122 ∷ 101 ∷ 61 ∷ []) s) e) in
    let q : b ≡ a → ⊥ = λ r. d (sym r ∙ p) in
    rw (ne_eqb b a q)

either_way : (b : Bool) {A : Type 0} (x : A) → (if b then x else x) ≡ x
either_way true x = refl
either_way false x = refl

no_number : (a : ℕ) (key : List ℕ) (l : InputLine) → (a ≡ 115 → ⊥) → starts_with size_key l.bytes ≡ true → parse_header_line (a ∷ key) l ≡ None
unfolding parse_header_line parse_keyed_number
no_number a key l d e = rw (other_key a key l.bytes d e) (either_way (admissible l) None)

-- is of no header line's form
size_number : (d : HeaderLine) (l : InputLine) → starts_with size_key l.bytes ≡ true → line_number d l ≡ None
unfolding line_number parse_fixed_line equals
size_number Tasks l e = no_number 116 _ l (λ q. omega arith) e
size_number Nodes l e = no_number 110 _ l (λ q. omega arith) e
size_number Buckets l e = no_number 98 _ l (λ q. omega arith) e
size_number Version l e = no_number 118 _ l (λ q. omega arith) e
size_number Blank l e = rw (other_key 98 _ l.bytes (λ q. omega arith) e) (neither (admissible l) (eqb (length l.bytes) 8))
  where
    neither : (a b : Bool) → ◌≡◌ {A = Option ℕ} (if a && (b && false) then Some 0 else None) None
    neither true true = refl
    neither true false = refl
    neither false b = refl

pub size_step : (due : HeaderLine) (h : Header) (l : InputLine) → optional due ≡ true → starts_with size_key l.bytes ≡ true → header_step due h l ≡ Absent h
size_step due h l o e = no_header_line due h l (λ d. size_number d l e) ∙ ap (λ (b : Bool). if b then Absent h else Missing) o

-- ---- the header that a session reads

-- a session gives 10 for a missing header line too
unfoldable pub session_header : HeaderTaken → HeaderRead
session_header (taken own h rest) = complete h rest
session_header (not_taken r) = incomplete

with_line_same : (l : InputLine) (t : HeaderTaken) → session_header (with_line l t) ≡ session_header t
unfolding session_header with_line
with_line_same l (taken own h rest) = refl
with_line_same l (not_taken r) = refl

from_as_session : (ls : List InputLine) (due : HeaderLine) (h : Header) → read_from ls due h ≡ session_header (take_from ls due h)
unfolding read_from take_from session-step after_step session_header
from_as_session [] due h = go (optional due)
  where
    go : (b : Bool) → (if b then complete h [] else incomplete) ≡ session_header (if b then taken [] h [] else not_taken 12)
    go true = refl
    go false = refl
from_as_session (l ∷ ls) due h = go (header_step due h l) (λ due' h'. from_as_session ls due' h')
  where
    go : (x : HeaderStep) → ((due' : HeaderLine) (h' : Header) → read_from ls due' h' ≡ session_header (take_from ls due' h'))
        → session-step x (λ due' h'. read_from ls due' h') l ls ≡ session_header (after_step x (λ due' h'. take_from ls due' h') l ls)
    go (Next due' h') ih = ih due' h' ∙ sym (with_line_same l (take_from ls due' h'))
    go (Complete h') ih = refl
    go (Absent h') ih = refl
    go Missing ih = refl

pub as_session : (ls : List InputLine) → read_header ls ≡ session_header (take_header ls)
unfolding read_header take_header
as_session ls = from_as_session ls Tasks empty_header
