-- A closed line of more than 40 bytes fixes the answer, since no line that a machine prints has more than 40 before the one that closes it; and its first
-- bytes say what it gives: `long_closed`. Assumes nothing.
use mathlib.Core.Path.{◌≡◌, refl, sym, ap, ◌∙◌}
use mathlib.Core.List.{List, [], ◌∷◌, ◌++◌}
use mathlib.Core.Bool.{Bool, true, false, ◌&&◌}
use Prim.Native.Nat.{ℕ, ◌+◌, ◌<◌, ◌≤◌}
use native.Mathlib.Omega.{arith}
use borrow.Author.Tests.{lt-leb}
use lib.Dec.{eqb}
use lib.ListN.{length, drop, length-append}
use Rattle.spec.specs.Machine.{Machine}
use Rattle.session.specs.declared.Header.{Header}
use Rattle.session.specs.declared.HeaderLine.{HeaderLine}
use Rattle.session.specs.Keys.{newline, size_key}
use Rattle.session.specs.Grammar.{InputLine, closed_line, starts_with, admissible}
use Rattle.session.specs.Header.{optional, header_step}
use Rattle.session.specs.LineLaws.{outside_event}
use Rattle.session.proofs.LineLaws.{outside_step}
use Rattle.session.specs.Print.{output_line}
use Rattle.session.specs.Transcript.{session_opening}
use Rattle.recording.specs.declared.ReaderPhase.{ReaderPhase}
use Rattle.recording.specs.declared.ReaderPhase.TheVariants.{Due, Event as EventDue, Printed, Listed, Decided}
use Rattle.recording.specs.declared.Verdict.{Verdict}
use Rattle.recording.specs.declared.Verdict.TheVariants.{Differs, Refusal}
use Rattle.recording.specs.Recording.{RecordedLine, listing}
use Rattle.recording.specs.Verdict.{Compared, fails, compare_line, past_listing, event_turn, turn}
use Rattle.recording.specs.Reader.{Reader, reader, decided, after_comparing, compare_listed, read_listed, read_turn, read_opened, read_header_line}
use Rattle.recording.specs.Reader.{read_phase, read_line, read_lines}
use Rattle.recording_laws.specs.Comparing.{compare_other}
use Rattle.reader.specs.AsDefined.{stays}
use Rattle.reader.specs.ShortPrinted.{printed_length}
use Rattle.reader.proofs.Places.{PlaceIn, no_line, a_line, place_in}

outside : (w : List ℕ) → 40 < length w → admissible (closed_line w) ≡ false
unfolding admissible
outside w h = lt-leb _ _ h

compare_long : (n : ℕ) (printed w : List ℕ) → length printed ≤ 41 → 40 < length w → compare_line n printed (closed_line w) ≡ fails (Differs n)
compare_long n printed w few h =
    compare_other n printed (closed_line w) refl (λ q. omega (arith, length-append w (newline ∷ []), ap length q))

-- what such a line gives goes by whether it starts with `size=`
record Fixes (size : Bool) (f : InputLine → Reader) : Type 0 where
  answer : Verdict
  fixed : (w : List ℕ) → 40 < length w → starts_with size_key w ≡ size → (f (closed_line w)).phase ≡ Decided answer

listed_fixes : (size : Bool) (k : ℕ) (e : Reader) → Fixes size (read_listed k e)
unfolding read_listed compare_listed past_listing after_comparing decided
listed_fixes size k e = record { answer = Differs e.number; fixed = λ w h s. go w h (drop k (listing e.machine)) (place_in e.machine k) }
  where
    go : (w : List ℕ) → 40 < length w → (rs : List RecordedLine) → PlaceIn k rs → (compare_listed k rs e (closed_line w)).phase ≡ Decided (Differs e.number)
    go w h [] no_line = refl
    go w h (p ∷ ps) (a_line t u short) =
        ap (λ (c : Compared). (after_comparing c (Listed (k + 1)) e).phase) (compare_long e.number p.written w short h)

turn_fixes : (size : Bool) (e : Reader) → Fixes size (λ x. read_turn (turn x) e x)
unfolding turn read_turn event_turn decided
turn_fixes true e = let f = listed_fixes true 0 e in record { answer = f.answer; fixed = λ w h s. rw s (f.fixed w h s) }
turn_fixes false e = record { answer = Refusal 10; fixed = λ w h s. rw (s, outside_event (closed_line w) (outside w h)) refl }

module _ (size : Bool) (h : Header) (y : Machine) (n : ℕ) where
  header_fixes : (due : HeaderLine) → Fixes size (λ x. read_header_line (header_step due h x) (reader (Due due) h y n) x)
  unfolding read_header_line read_opened decided
  header_fixes due = go (optional due) refl (eqb (session_opening h).refusal 0) refl
    where
      go : (b : Bool) → optional due ≡ b → (a : Bool) → eqb (session_opening h).refusal 0 ≡ a
          → Fixes size (λ x. read_header_line (header_step due h x) (reader (Due due) h y n) x)
      go true e true z =
          let f = turn_fixes size (reader EventDue h (session_opening h).machine n) in
          record { answer = f.answer; fixed = λ w l s. rw (outside_step due h (closed_line w) (outside w l), e, z) (f.fixed w l s) }
      go true e false z =
          record {
            answer = Refusal (session_opening h).refusal;
            fixed = λ w l s. rw (outside_step due h (closed_line w) (outside w l), e, z) refl;
          }
      go false e a z = record { answer = Refusal 10; fixed = λ w l s. rw (outside_step due h (closed_line w) (outside w l), e) refl }

  phase_fixes : (p : ReaderPhase) → printed_length p ≤ 41 → Fixes size (read_line (reader p h y n))
  unfolding read_line read_phase printed_length after_comparing decided
  phase_fixes (Due due) few = header_fixes due
  phase_fixes EventDue few = turn_fixes size (reader EventDue h y n)
  phase_fixes (Printed k o) few =
      record {
        answer = Differs n;
        fixed = λ w l s. ap (λ (c : Compared). (after_comparing c EventDue (reader (Printed k o) h y n)).phase) (compare_long n (output_line k o) w few l);
      }
  phase_fixes (Listed k) few = listed_fixes size k (reader (Listed k) h y n)
  phase_fixes (Decided v) few = record { answer = v; fixed = λ w l s. refl }

same_start : (key l rest : List ℕ) → length key ≤ length l → starts_with key (l ++ rest) ≡ starts_with key l
unfolding starts_with
same_start [] l rest h = refl
same_start (k ∷ ks) [] rest h = absurd (omega arith)
same_start (k ∷ ks) (x ∷ l) rest h = ap (λ (b : Bool). eqb x k && b) (same_start ks l rest (omega arith))

-- whatever bytes and lines follow
pub long_closed : (e : Reader) (l rest : List ℕ) (ls : List InputLine) → 40 < length l → printed_length e.phase ≤ 41
    → read_lines e (closed_line (l ++ rest) ∷ ls) ≡ read_lines e (closed_line l ∷ [])
unfolding read_lines
long_closed e l rest ls h few =
    let f = phase_fixes (starts_with size_key l) e.header e.machine e.number e.phase few in
    stays _ _ ls (f.fixed (l ++ rest) (omega (arith, length-append l rest)) (same_start size_key l rest (omega arith)))
    ∙ sym (stays _ _ [] (f.fixed l h refl))
