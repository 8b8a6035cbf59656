-- Laws that the proofs of the functions cite, over plain lists and numbers: what is written before what the session prints, and by
-- where the session stands. Assumes nothing.
use mathlib.Core.Path.{◌≡◌, refl, sym, ap, subst, ◌∙◌}
use mathlib.Core.List.{List, [], ◌++◌, append-nil}
use mathlib.Core.Bool.{Bool, true, false}
use Prim.Native.Nat.{ℕ, ◌+◌, ◌-◌, ◌≤◌}
use native.Mathlib.Omega.{arith}
use lib.ListN.{length, take, drop}
use Rattle.session.specs.Buffer.{Buffer, buffer, append}
use Rattle.session.specs.BufferLaws.{append_both, append_within}
use Rattle.session_bytes.proofs.Laws.{length_kept, ends_within}
use Rattle.session.specs.Grammar.{InputLine, parse_event_line}
use Rattle.session.specs.Transcript.{is_event}
use Rattle.session_state.specs.declared.Phase.{Phase}
use Rattle.session_state.specs.declared.Session.{Session}
use Rattle.session_state.specs.declared.Handled.{Handled}
use Rattle.session_state.specs.Handling.{handled, LineEffect, LineHandled, silent, line_effect, end_effect}
use Rattle.session_lines.proofs.Laws.{BySaid}
use Rattle.session_lines.specs.BufferParts.{rest_length, appends_on}
use Rattle.recording.specs.Recording.{close}
use Rattle.recorder_lines.specs.declared.KeptLines.{KeptLines}
use Rattle.recorder_lines.specs.KeptLines.{kept_bytes}
use Rattle.recorder.specs.LentRecorder.{after_bytes, recorded_event, first_recorded, recorded_opening, recorded_header, recorded_phase, recorded_line}

-- ---- lines that are written again

-- bytes, and what is printed after them in the part of the buffer behind them
module _ (bytes before first : List ℕ) (a : ℕ) (fits : a ≤ length first) (wrote : buffer first a ≡ append bytes (buffer before 0)) where
  pub written_after : (d : LineEffect) (t : Handled) (ns bs tail : List ℕ) → LineHandled d t ns bs (take (length first - a) (drop a first)) tail
      → LineHandled (after_bytes bytes d) (handled t.session (a + t.printed)) ns bs before
      (take a first ++ (tail ++ drop (length first - a) (drop a first)))
  unfolding after_bytes
  written_after d t ns bs tail h =
      record {
        next = h.next;
        nodes = h.nodes;
        buckets = h.buckets;
        wrote = appends_on bytes d.prints before first tail a t.printed fits wrote h.wrote;
      }

-- both end within the buffer
pub both_within : (bytes before prints first tail : List ℕ) (a n : ℕ)
    → buffer tail n ≡ append prints (buffer (take (length first - a) (drop a first)) 0) → buffer first a ≡ append bytes (buffer before 0)
    → a + n ≤ length before
both_within bytes before prints first tail a n e f =
    omega (
      arith,
      ends_within bytes before first a f,
      length_kept bytes before first a f,
      append_within prints _ tail n e,
      rest_length first a,
    )

-- bytes, and a line after them
pub line_after : (bytes line before : List ℕ) (t u : Buffer) → t ≡ append bytes (buffer before 0) → u ≡ append (close line) t
    → u ≡ append (bytes ++ (close line ++ [])) (buffer before 0)
line_after bytes line before t u p q =
    q ∙ ap (append (close line)) p ∙ sym (append_both bytes (close line) (buffer before 0))
    ∙ ap (λ (w : List ℕ). append (bytes ++ w) (buffer before 0)) (sym (append-nil (close line)))

-- ---- an event's line, and the end

module _ (l : InputLine) (s : Session) (ns bs : List ℕ) (r : Handled) (n' b' before after : List ℕ) where
  pub event_is : is_event (parse_event_line l) ≡ true → LineHandled (after_bytes (close l.bytes) (line_effect s ns bs l)) r n' b' before after
      → LineHandled (recorded_event l s ns bs) r n' b' before after
  unfolding recorded_event
  event_is e h = rw e h

  pub no_event : is_event (parse_event_line l) ≡ false → LineHandled (end_effect s ns bs) r n' b' before after
      → LineHandled (recorded_event l s ns bs) r n' b' before after
  unfolding recorded_event
  no_event e h = rw e h

-- ---- a line where a header line is due, by what it says

abbrev pub after_kept : KeptLines → InputLine → Bool → Session → List ℕ → List ℕ → LineEffect
after_kept k l own s ns bs = after_bytes (kept_bytes k) (first_recorded own l s ns bs)

pub recorded_said : (k : KeptLines) (l : InputLine) (s : Session) (ns bs : List ℕ)
    → BySaid (after_kept k l true) (after_kept k l false) s ns bs (λ a. recorded_header a k l s ns bs)
unfolding recorded_header recorded_opening silent
recorded_said k l s ns bs = record { next = λ due h. refl; complete = λ h. refl; absent = λ h. refl; missing = refl }

-- by where the session stands
pub stands_at : (p : Phase) (l : InputLine) (k : KeptLines) (s : Session) (ns bs : List ℕ) (r : Handled) (n' b' before after : List ℕ) → s.phase ≡ p
    → LineHandled (recorded_phase p k l s ns bs) r n' b' before after → LineHandled (recorded_line l k s ns bs) r n' b' before after
unfolding recorded_line
stands_at p l k s ns bs r n' b' before after e h =
    subst (λ (q : Phase). LineHandled (recorded_phase q k l s ns bs) r n' b' before after) (sym e) h
