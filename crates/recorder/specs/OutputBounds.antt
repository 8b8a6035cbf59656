-- How many bytes are written at most: `longest_pair` for each line of an input, and once `longest_last`, the kept header lines and the final
-- listing, whenever these come. So a caller can lend room for all of it: `line_bound`, `end_bound`. Assumes nothing.
use Rattle.std.proofs.Math.Path.{◌≡◌, refl}
use Rattle.std.proofs.Common.{sym, ap, subst, ◌∙◌, leb-true, length-take}
use Rattle.std.specs.Prelude.{List, [], ◌++◌, Bool, ℕ, ◌+◌, ◌≤◌, eqb, leb, if◌then◌else◌, Option, Some, None}
use Rattle.std.proofs.Math.Bool.{true, false}
use native.Mathlib.Omega.{arith}
use Rattle.std.proofs.Math.ListN.{length, length-append}
use Rattle.spec.specs.declared.State.{State}
use Rattle.spec.specs.Entries.{Opened, opening}
use Rattle.laws.specs.Tests.{and_right}
use Rattle.session.specs.declared.EventLine.{EventLine}
use Rattle.session.specs.declared.EventLine.TheVariants.{Start, Step}
use Rattle.session.specs.declared.Header.{Header}
use Rattle.session.specs.declared.HeaderLine.{HeaderLine}
use Rattle.session.specs.declared.HeaderStep.{HeaderStep}
use Rattle.session.specs.Grammar.{InputLine, admissible, parse_event_line}
use Rattle.session.specs.Header.{optional}
use Rattle.session.specs.LineLaws.{outside_event}
use Rattle.session.specs.Print.{refusal_line}
use Rattle.session.specs.OutputLengths.{longest_line, longest_end, refusal_length}
use Rattle.session.specs.Transcript.{is_event}
use Rattle.session_pools.specs.PoolParts.{node_part, bucket_part}
use Rattle.session_state.specs.declared.Phase.{Phase}
use Rattle.session_state.specs.declared.Phase.TheVariants.{Due, Events, Stopped}
use Rattle.session_state.specs.declared.Session.{Session}
use Rattle.session_state.specs.Handling.{session, LineEffect, pools_kept, stopped, silent, with_machine, opened_then, open_then, reply_effect}
use Rattle.session_state.specs.Handling.{event_effect, listing_effect, phase_effect, line_effect, phase_end, end_effect}
use Rattle.session_lines.specs.OutputBounds as session-bounds
use Rattle.recording.specs.Recording.{close}
use Rattle.recording.specs.Recorder.{longest_header}
use Rattle.recording_laws.specs.HeaderLaws.{TakenLine, HeaderKnown, goes_on, last_taken, left_out, missing, header_known}
use Rattle.recorder_lines.specs.declared.KeptLines.{KeptLines}
use Rattle.recorder_lines.specs.KeptLines.{kept_bytes}
use Rattle.recorder.specs.LentRecorder.{after_bytes, recorded_event, first_recorded, recorded_opening, recorded_header, recorded_phase, recorded_line}
use Rattle.recorder.specs.LentRecorder.{recorded_end, Lent, line_of, end_of}

-- an event's line, closed, and its output line
abbrev pub longest_pair : ℕ
longest_pair = 114

-- the kept header lines, and the final listing
abbrev pub longest_last : ℕ
longest_last = 1816

-- ---- a line: what it has written, and what may still come once

unfoldable pub still_due : Phase → ℕ
still_due (Due due) = longest_last
still_due Events = longest_end
still_due Stopped = 0

pub due_most : (p : Phase) → still_due p ≤ longest_last
unfolding still_due
due_most (Due due) = omega arith
due_most Events = omega arith
due_most Stopped = omega arith

abbrev Spends : LineEffect → ℕ → Type 0
Spends d most = length d.prints + still_due d.session.phase ≤ most

-- the bytes of an event's line
event_short : (l : InputLine) → is_event (parse_event_line l) ≡ true → length (close l.bytes) ≤ 41
unfolding is_event admissible
event_short l e = go (admissible l) refl
  where
    go : (b : Bool) → admissible l ≡ b → length (close l.bytes) ≤ 41
    go true a =
        let f : length l.bytes ≤ 40 = leb-true _ _ (and_right l.closed (leb (length l.bytes) 40) a) in
        simp length-append (omega arith)
    go false a =
        let z : false ≡ true = ap is_event (sym (outside_event l a)) ∙ e in
        let w : ◌≡◌ {A = ℕ} 0 1 = cc in
        absurd (omega arith)

module _ (h : Header) (m : State) (ns bs : List ℕ) where
  abbrev s : Session
  s = session Events h m

  event_goes_on : (x : Option EventLine) → is_event x ≡ true → still_due (event_effect x s ns bs).session.phase ≡ longest_end
  unfolding is_event event_effect reply_effect with_machine still_due
  event_goes_on (Some (Start k call tag)) e = refl
  event_goes_on (Some (Step k)) e = refl
  event_goes_on None e = let w : ◌≡◌ {A = ℕ} 0 1 = cc in absurd (omega arith)

  end_spends : Spends (end_effect s ns bs) longest_end
  unfolding end_effect phase_end listing_effect pools_kept still_due
  end_spends = omega (arith, session-bounds.end_bound s ns bs)

  event_spends : (l : InputLine) → Spends (recorded_event l s ns bs) (longest_end + longest_pair)
  unfolding recorded_event after_bytes line_effect phase_effect
  event_spends l = go (is_event (parse_event_line l)) refl
    where
      go : (b : Bool) → is_event (parse_event_line l) ≡ b
          → Spends (if b then after_bytes (close l.bytes) (line_effect s ns bs l) else end_effect s ns bs) (longest_end + longest_pair)
      go true e =
          let d = event_effect (parse_event_line l) s ns bs in
          let line : length (close l.bytes) ≤ 41 = event_short l e in
          let printed : length d.prints ≤ longest_line = session-bounds.line_bound s ns bs l in
          let on : still_due d.session.phase ≡ longest_end = event_goes_on (parse_event_line l) e in
          let both : length (close l.bytes ++ d.prints) ≡ length (close l.bytes) + length d.prints = length-append (close l.bytes) d.prints in
          let all : length (close l.bytes ++ d.prints) + still_due d.session.phase ≤ longest_end + longest_pair = omega arith in
          all
      go false e = omega (arith, end_spends)

-- the opening, and what is done next where it is accepted
module _ (h : Header) (k : KeptLines) (room : length k.bytes ≡ longest_header) (next : Session → List ℕ → List ℕ → LineEffect) (most : ℕ)
    (each : (m : State) (ns bs : List ℕ) → Spends (next (session Events h m) ns bs) most) where
  kept_short : length (kept_bytes k) ≤ longest_header
  kept_short = omega (arith, length-take k.len k.bytes, room)

  open_spends : (ns bs : List ℕ) → Spends (open_then h ns bs (λ s n b. after_bytes (kept_bytes k) (next s n b))) (longest_header + most)
  unfolding open_then opened_then with_machine after_bytes still_due
  open_spends ns bs = go (eqb o.refusal 0)
    where
      o : Opened
      o = opening h.config (node_part h ns) (bucket_part h bs)

      made : LineEffect
      made = with_machine Events [] o.machine h ns bs

      go : (a : Bool) → Spends (if a then after_bytes (kept_bytes k) (next made.session made.nodes made.buckets)
          else with_machine Stopped (refusal_line o.refusal) o.machine h ns bs) (longest_header + most)
      go true = simp length-append (omega (arith, kept_short, each o.machine.state made.nodes made.buckets))
      go false = omega (arith, refusal_length o.refusal)

-- the header's last line
own_spends : (h : Header) (l : InputLine) → TakenLine l → (m : State) (ns bs : List ℕ)
    → Spends (first_recorded true l (session Events h m) ns bs) (longest_end + longest_pair)
unfolding first_recorded after_bytes silent pools_kept still_due
own_spends h l t m ns bs = simp length-append (omega (arith, t.short))

-- a line where a header line is due
header_spends : (due : HeaderLine) (h : Header) (l : InputLine) (x : HeaderStep) → HeaderKnown due h l x → (k : KeptLines) (s : Session) (ns bs : List ℕ)
    → length k.bytes ≡ longest_header → Spends (recorded_header x k l s ns bs) (longest_last + longest_pair)
unfolding recorded_header recorded_opening first_recorded pools_kept stopped still_due
header_spends due h l x (goes_on t e) k s ns bs room = omega arith
header_spends due h l x (last_taken {h' = h'} t) k s ns bs room =
    omega (arith, open_spends h' k room (first_recorded true l) (longest_end + longest_pair) (own_spends h' l t) ns bs)
header_spends due h l x (left_out e) k s ns bs room =
    omega (arith, open_spends h k room (first_recorded false l) (longest_end + longest_pair) (λ m n b. event_spends h m n b l) ns bs)
header_spends due h l x (missing e) k s ns bs room = omega (arith, refusal_length 10)

line_spends : (p : Phase) (k : KeptLines) (l : InputLine) (s : Session) (ns bs : List ℕ) → s.phase ≡ p → length k.bytes ≡ longest_header
    → Spends (recorded_phase p k l s ns bs) (still_due p + longest_pair)
unfolding recorded_phase silent pools_kept still_due
line_spends (Due due) k l s ns bs e room = header_spends due s.header l _ (header_known due s.header l) k s ns bs room
line_spends Events k l s ns bs e room =
    let same : session Events s.header s.state ≡ s = ap (λ (q : Phase). session q s.header s.state) (sym e) in
    subst (λ (t : Session). Spends (recorded_event l t ns bs) (longest_end + longest_pair)) same (event_spends s.header s.state ns bs l)
line_spends Stopped k l s ns bs e room = omega (arith, ap still_due e)

pub line_bound : (s : Lent) (l : InputLine) → length s.recorder.kept.bytes ≡ longest_header
    → length (line_of s l).prints + still_due (line_of s l).session.phase ≤ still_due s.recorder.session.phase + longest_pair
unfolding recorded_line
line_bound s l room =
    line_spends s.recorder.session.phase s.recorder.kept l s.recorder.session s.nodes s.buckets refl room

-- ---- the end of the input

phase_end_bound : (p : Phase) (k : KeptLines) (s : Session) (ns bs : List ℕ) → length k.bytes ≡ longest_header
    → length (recorded_end p k s ns bs).prints ≤ still_due p
unfolding recorded_end silent pools_kept stopped still_due
phase_end_bound (Due due) k s ns bs room = go (optional due)
  where
    h : Header
    h = s.header

    go : (a : Bool)
        → length (if a then open_then h ns bs (λ s' n b. after_bytes (kept_bytes k) (end_effect s' n b)) else pools_kept (stopped s 10) ns bs).prints
        ≤ longest_last
    go true = omega (arith, open_spends h k room end_effect longest_end (end_spends h) ns bs)
    go false = omega (arith, refusal_length 10)
phase_end_bound Events k s ns bs room = session-bounds.end_bound s ns bs
phase_end_bound Stopped k s ns bs room = omega arith

pub end_bound : (s : Lent) → length s.recorder.kept.bytes ≡ longest_header → length (end_of s).prints ≤ still_due s.recorder.session.phase
end_bound s room = phase_end_bound s.recorder.session.phase s.recorder.kept s.recorder.session s.nodes s.buckets room
