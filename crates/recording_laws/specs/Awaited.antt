-- Each line of a recording is the one that its reader waits for, where the reader's machine is the recorder's: `event_awaited`,
-- `output_awaited`, `listing_read`. Assumes nothing.
use Rattle.std.specs.Prelude.{◌≡◌, List, [], ◌∷◌, true, ℕ, suc, ◌+◌, length, drop, replicate, Ok}
use Rattle.std.proofs.Math.Path.{refl, ap}
use Rattle.std.proofs.Common.{◌∙◌}
use Rattle.spec.specs.Outputs.{Output}
use Rattle.spec.specs.Lists.{every}
use Rattle.spec.specs.Machine.{Machine}
use Rattle.spec.specs.Listed.{listed}
use Rattle.spec.specs.Entries.{list}
use Rattle.spec.specs.Schedule.{Event, event}
use Rattle.laws.specs.Tests.{tf}
use Rattle.session.specs.declared.Header.{Header}
use Rattle.session.specs.Keys.{size_key, tags_key, tag_key}
use Rattle.session.specs.Grammar.{InputLine, closed_line, starts_with}
use Rattle.session.specs.Print.{key_line, output_line}
use Rattle.session.specs.Transcript.{task_in}
use Rattle.recording.specs.declared.ReaderPhase.TheVariants.{Event as EventDue, Printed, Listed}
use Rattle.recording.specs.Recording.{event_role, output_role, size_role, RecordedLine, recorded_line, input_again, tag_listing, listing_of, listing}
use Rattle.recording.specs.Verdict.{Turn, runs, lists, turn}
use Rattle.recording.specs.Reader.{reader, moved, after_comparing, compare_listed, read_listed, run_event, read_turn, read_phase, read_line}
use Rattle.recording_laws.specs.ReaderVerdict.{rest_of}
use Rattle.recording_laws.specs.ClosedLines.{without_newline}
use Rattle.recording_laws.specs.PrintedLines.{ClosedBytes, key_closed, key_closed_line, output_closed}
use Rattle.recording_laws.specs.Comparing.{compare_same, compare_other}
use Rattle.recording_laws.specs.ReadToEnd.{only_compared, Awaits, ReadToEnd, at_end, after_line}

-- ---- an event's line, and its output line

module _ (h : Header) (y : Machine) (n : ℕ) where
  pub event_awaited : (l : InputLine) (e : Event) → without_newline l.bytes ≡ true → closed_line l.bytes ≡ l → turn l ≡ runs e
      → Awaits (reader EventDue h y n) (input_again event_role l) (reader (Printed (task_in e) (event y e).out) h (event y e).machine (suc n))
  unfolding input_again read_line read_phase read_turn run_event moved only_compared
  event_awaited l e p c u =
      let s = reader EventDue h y n in
      record {
        bytes = record { line = l.bytes; plain = p; closed = refl };
        goes_on = ap (λ (m : InputLine). read_turn (turn m) s m) c ∙ ap (λ (t : Turn). read_turn t s l) u;
        counted = refl;
        other = λ o. absurd (tf o refl);
      }

  pub output_awaited : (k : ℕ) (o : Output) → Awaits (reader (Printed k o) h y n) (recorded_line output_role (output_line k o)) (reader EventDue h y (suc n))
  unfolding read_line read_phase after_comparing moved
  output_awaited k o =
      let c = output_closed k o in
      record {
        bytes = c;
        goes_on = rw (compare_same n (output_line k o) (closed_line c.line) refl c.closed);
        counted = refl;
        other = λ x line d. rw (compare_other n (output_line k o) (closed_line line) refl d);
      }

-- ---- the listing

data Closed : List RecordedLine → Type 0 where
  none_open : Closed []
  line_closed : {r : RecordedLine} {rs : List RecordedLine} → ClosedBytes r.written → Closed rs → Closed (r ∷ rs)

tags_closed : (ts : List ℕ) → Closed (tag_listing ts)
unfolding tag_listing without_newline every
tags_closed [] = none_open
tags_closed (t ∷ ts) = line_closed (key_closed tag_key t refl) (tags_closed ts)

module _ (h : Header) (y : Machine) where
  line_awaited : (n k : ℕ) (r : RecordedLine) (rs : List RecordedLine) → drop k (listing y) ≡ r ∷ rs → ClosedBytes r.written
      → Awaits (reader (Listed k) h y n) r (reader (Listed (k + 1)) h y (suc n))
  unfolding read_line read_phase read_listed compare_listed after_comparing moved
  line_awaited n k r rs e c =
      record {
        bytes = c;
        goes_on = rw (e, compare_same n r.written (closed_line c.line) refl c.closed);
        counted = refl;
        other = λ x line d. rw (e, compare_other n r.written (closed_line line) refl d);
      }

  lines_read : (n k : ℕ) {rs : List RecordedLine} → Closed rs → drop k (listing y) ≡ rs → ReadToEnd (reader (Listed k) h y n) rs
  lines_read n k none_open e = at_end e
  lines_read n k (line_closed {r = r} {rs = rs} c d) e = after_line (line_awaited n k r rs e c) (lines_read (suc n) (k + 1) d (rest_of k (listing y) r rs e))

  size_awaited : (n v : ℕ) (rs : List RecordedLine) → listing y ≡ recorded_line size_role (key_line size_key v) ∷ rs
      → Awaits (reader EventDue h y n) (recorded_line size_role (key_line size_key v)) (reader (Listed 1) h y (suc n))
  unfolding read_line read_phase read_turn read_listed compare_listed after_comparing moved turn starts_with only_compared without_newline every
  size_awaited n v rs e =
      let c = key_closed size_key v refl in
      let l : turn (closed_line c.line) ≡ lists = rw (key_closed_line size_key v refl) in
      record {
        bytes = c;
        goes_on = rw (l, e, compare_same n (key_line size_key v) (closed_line c.line) refl c.closed);
        counted = refl;
        other = λ o. absurd (tf o refl);
      }

  -- where a list call gives a count
  pub listing_read : (n m : ℕ) → (list y (replicate 64 0)).says ≡ Ok m → ReadToEnd (reader EventDue h y n) (listing y)
  unfolding listing listing_of without_newline every
  listing_read n m e =
      let f = ap (listing_of y) e in
      let closed = line_closed (key_closed tags_key (length (listed y)) refl) (tags_closed (listed y)) in
      rw e (after_line (size_awaited n _ _ f) (lines_read (suc n) 1 closed (ap (drop 1) f)))
