-- Given one line after the other, and ended, the recorder writes the recording, and where there is none what the session prints:
-- `recorder_writes`, which is a refusal's line, `refused_line`. By induction over the lines, since a run is its first event and the run after
-- it; and no more than four header lines are kept, which have room. Assumes nothing.
use Rattle.std.specs.Prelude.{◌≡◌, Bool, true, false, eqb, length, take, replicate, if◌then◌else◌, Option, Some, None}
use Rattle.std.proofs.Math.Path.{refl, sym, ap}
use Rattle.std.proofs.Common.{◌∙◌, arith, length-append, take_all}
use mathlib.Core.List.{List, [], ◌∷◌, ◌++◌, map, append_assoc, append-nil}
use Prim.Native.Nat.{ℕ, suc, ◌*◌, ◌≤◌}
use Rattle.spec.specs.Lists.{concat_map}
use Rattle.spec.specs.Machine.{Machine}
use Rattle.spec.specs.Entries.{Opened, list}
use Rattle.spec.specs.Schedule.{Event, starts, steps, event}
use Rattle.session.specs.declared.EventLine.{EventLine}
use Rattle.session.specs.declared.EventLine.TheVariants.{Start, Step}
use Rattle.session.specs.declared.Header.{Header}
use Rattle.session.specs.declared.HeaderLine.{HeaderLine}
use Rattle.session.specs.declared.HeaderLine.TheVariants.{Tasks}
use Rattle.session.specs.declared.HeaderStep.{HeaderStep}
use Rattle.session.specs.Grammar.{InputLine, input_lines, parse_event_line}
use Rattle.session.specs.Header.{empty_header, optional, header_step, complete, incomplete, after_step as session-step, read_from, read_header}
use Rattle.session.specs.Print.{refusal_line}
use Rattle.session.specs.Transcript.{add_event, events, final_listing, event_lines, session_opening, opened_lines, header_lines, lines_transcript, transcript}
use Rattle.recording.specs.declared.RecorderPhase.TheVariants.{Header as HeaderDue, Events, Ended}
use Rattle.recording.specs.Header.{HeaderTaken, taken, not_taken, with_line, after_step, take_from, take_header}
use Rattle.recording_laws.specs.HeaderLaws.{lines_before, few_before, TakenLine, HeaderKnown, goes_on, last_taken, left_out, missing, header_known}
use Rattle.recording_laws.specs.HeaderLaws.{session_header, as_session}
use Rattle.recording_laws.specs.ListingLines.{listing_bytes}
use Rattle.recording_laws.specs.RecordedEvents.{none_recorded, event_recorded, listing_at_once}
use Rattle.recording.specs.Recording.{header_role, RecordedLine, close, input_again, bytes_of, listing, recorded_events, Recorded, recorded, not_recorded}
use Rattle.recording.specs.Recording.{opened_recording, header_recording, recorded_lines, lines_of, recording}
use Rattle.recording.specs.Verdict.{printed_for}
use Rattle.recording.specs.Reader.{no_machine}
use Rattle.recording.specs.Recorder.{Recorder, recorder, new_recorder, longest_header, RecorderEffect, recorder_effect, record_last, write_listing}
use Rattle.recording.specs.Recorder.{write_pair, record_event, after_kept, record_opened, record_header_line, record_phase, record_line, record_phase_end}
use Rattle.recording.specs.Recorder.{record_end, record_lines, recorded_or, recorder_output}

-- what an effect writes, and then these lines
abbrev with_rest : RecorderEffect → List InputLine → List ℕ
with_rest d ls = d.writes ++ record_lines d.next ls

pub bytes_append : (rs ss : List RecordedLine) → bytes_of (rs ++ ss) ≡ bytes_of rs ++ bytes_of ss
unfolding bytes_of concat_map
bytes_append [] ss = refl
bytes_append (r ∷ rs) ss = ap (λ (b : List ℕ). r.written ++ b) (bytes_append rs ss) ∙ sym (append_assoc r.written (bytes_of rs) (bytes_of ss))

-- ---- the events

module _ (h : Header) (kept : List ℕ) where
  ended_silent : (y : Machine) (ls : List InputLine) → record_lines (recorder Ended h y kept) ls ≡ []
  unfolding record_lines record_line record_phase record_end record_phase_end
  ended_silent y [] = refl
  ended_silent y (l ∷ ls) = ended_silent y ls

  ended_last : (y : Machine) (bytes : List ℕ) (ls : List InputLine) → bytes ++ record_lines (recorder Ended h y kept) ls ≡ bytes
  ended_last y bytes ls = ap (λ (b : List ℕ). bytes ++ b) (ended_silent y ls) ∙ append-nil bytes

  -- the listing is the last that is written
  listing_last : (y : Machine) (ls : List InputLine) → with_rest (write_listing (recorder Events h y kept)) ls ≡ bytes_of (listing y)
  unfolding write_listing record_last
  listing_last y ls = ended_last y (final_listing y (list y (replicate 64 0)).says) ls ∙ sym (listing_bytes y)

  events_written : (ls : List InputLine) (y : Machine) → record_lines (recorder Events h y kept) ls ≡ bytes_of (recorded_events y ls)
  unfolding record_lines record_line record_phase record_end record_phase_end record_event write_pair write_listing record_last bytes_of concat_map
      input_again add_event
  events_written [] y = sym (listing_bytes y) ∙ ap bytes_of (sym (none_recorded y))
  events_written (l ∷ ls) y = go (λ z. events_written ls z) (parse_event_line l) refl
    where
      after : Option EventLine → List ℕ
      after x = with_rest (record_event x (recorder Events h y kept) l) ls

      pair : ((z : Machine) → record_lines (recorder Events h z kept) ls ≡ bytes_of (recorded_events z ls)) → (e : Event) (x : Option EventLine)
          → parse_event_line l ≡ x → after x ≡ with_rest (write_pair e (recorder Events h y kept) l) ls → add_event x (events ls) ≡ e ∷ events ls
          → record_lines (recorder Events h y kept) (l ∷ ls) ≡ bytes_of (recorded_events y (l ∷ ls))
      pair ih e x p f q =
          let z = (event y e).machine in
          ap after p ∙ f
          ∙ append_assoc (close l.bytes) (printed_for y e) (record_lines (recorder Events h z kept) ls)
          ∙ ap (λ (b : List ℕ). close l.bytes ++ (printed_for y e ++ b)) (ih z)
          ∙ ap bytes_of (sym (event_recorded y l ls e x p q))

      go : ((z : Machine) → record_lines (recorder Events h z kept) ls ≡ bytes_of (recorded_events z ls)) → (x : Option EventLine) → parse_event_line l ≡ x
          → record_lines (recorder Events h y kept) (l ∷ ls) ≡ bytes_of (recorded_events y (l ∷ ls))
      go ih (Some (Start k call tag)) p = pair ih (starts k call tag) (Some (Start k call tag)) p refl refl
      go ih (Some (Step k)) p = pair ih (steps k) (Some (Step k)) p refl refl
      go ih None p = ap after p ∙ listing_last y ls ∙ ap bytes_of (sym (listing_at_once y l ls p))

-- ---- the opening

-- these bytes, and then what is recorded; the refusal where nothing is
unfoldable with_kept : List ℕ → Recorded → List ℕ → List ℕ
with_kept kept (recorded rs) refusal = kept ++ bytes_of rs
with_kept kept not_recorded refusal = refusal

module _ (o : Opened) (h : Header) (kept : List ℕ) (ls : List InputLine) where
  -- where the opening is accepted, `next` and then these lines give the header lines `own`, and the recorded events of `rest`
  opened_written : (next : Recorder → RecorderEffect) (own rest : List InputLine)
      → with_rest (next (recorder Events h o.machine kept)) ls ≡ bytes_of (map (input_again header_role) own ++ recorded_events o.machine rest)
      → with_rest (record_opened o h kept next) ls ≡ with_kept kept (opened_recording o own rest) (opened_lines o rest)
  unfolding record_opened after_kept record_last opened_recording opened_lines with_kept
  opened_written next own rest e = go (eqb o.refusal 0)
    where
      r : Recorder
      r = recorder Events h o.machine kept

      go : (b : Bool) → with_rest (if b then after_kept r (next r) else record_last r (refusal_line o.refusal)) ls
          ≡ with_kept kept (if b then recorded (map (input_again header_role) own ++ recorded_events o.machine rest) else not_recorded)
          (if b then event_lines o.machine rest else refusal_line o.refusal)
      go true = append_assoc kept (next r).writes (record_lines (next r).next ls) ∙ ap (λ (b : List ℕ). kept ++ b) e
      go false = ended_last h kept o.machine (refusal_line o.refusal) ls

module _ (o : Opened) (h : Header) (kept : List ℕ) where
  -- no line behind the header
  opened_ends : (record_opened o h kept write_listing).writes ≡ with_kept kept (opened_recording o [] []) (opened_lines o [])
  unfolding record_opened after_kept record_last write_listing opened_recording opened_lines with_kept
  opened_ends = go (eqb o.refusal 0)
    where
      r : Recorder
      r = recorder Events h o.machine kept

      go : (b : Bool) → (if b then after_kept r (write_listing r) else record_last r (refusal_line o.refusal)).writes
          ≡ with_kept kept (if b then recorded (recorded_events o.machine []) else not_recorded)
          (if b then event_lines o.machine [] else refusal_line o.refusal)
      go true = ap (λ (b : List ℕ). kept ++ b) (sym (listing_bytes o.machine) ∙ ap bytes_of (sym (none_recorded o.machine)))
      go false = refl

-- ---- the header, and the whole

one_more : (kept : List ℕ) (l : InputLine) (t : HeaderTaken) (refusal : List ℕ)
    → with_kept (kept ++ close l.bytes) (header_recording t) refusal ≡ with_kept kept (header_recording (with_line l t)) refusal
unfolding header_recording with_line opened_recording with_kept bytes_of concat_map input_again
one_more kept l (taken own h ls) refusal = go (eqb (session_opening h).refusal 0)
  where
    lines : List RecordedLine
    lines = map (input_again header_role) own ++ recorded_events (session_opening h).machine ls

    go : (b : Bool) → with_kept (kept ++ close l.bytes) (if b then recorded lines else not_recorded) refusal
        ≡ with_kept kept (if b then recorded (input_again header_role l ∷ lines) else not_recorded) refusal
    go true = append_assoc kept (close l.bytes) (bytes_of lines)
    go false = refl
one_more kept l (not_taken r) refusal = refl

-- one more header line has room
kept_whole : (kept : List ℕ) (l : InputLine) (due due' : HeaderLine) → length kept ≤ 41 * lines_before due → TakenLine l
    → lines_before due' ≡ suc (lines_before due)
    → (take longest_header (kept ++ close l.bytes) ≡ kept ++ close l.bytes) × (length (kept ++ close l.bytes) ≤ 41 * lines_before due')
kept_whole kept l due due' few t e =
    let c : length (close l.bytes) ≤ 41 = simp length-append (omega (arith, t.short)) in
    let k : length (kept ++ close l.bytes) ≤ 41 * lines_before due' = simp length-append (omega arith) in
    (take_all longest_header (kept ++ close l.bytes) (omega (arith, few_before due')), k)

header_written : (ls : List InputLine) (due : HeaderLine) (h : Header) (y : Machine) (kept : List ℕ) → length kept ≤ 41 * lines_before due
    → record_lines (recorder (HeaderDue due) h y kept) ls ≡ with_kept kept (header_recording (take_from ls due h)) (header_lines (read_from ls due h))
unfolding record_lines record_line record_phase record_end record_phase_end record_header_line record_last header_recording header_lines with_kept take_from
    after_step read_from session-step bytes_of concat_map input_again
header_written [] due h y kept few = go (optional due)
  where
    r : Recorder
    r = recorder (HeaderDue due) h y kept

    go : (b : Bool) → (if b then record_opened (session_opening h) h kept write_listing else record_last r (refusal_line 10)).writes
        ≡ with_kept kept (header_recording (if b then taken [] h [] else not_taken 12)) (header_lines (if b then complete h [] else incomplete))
    go true = opened_ends (session_opening h) h kept
    go false = refl
header_written (l ∷ ls) due h y kept few =
    go (λ due' h' kept' few'. header_written ls due' h' y kept' few') (header_step due h l) (header_known due h l)
  where
    r : Recorder
    r = recorder (HeaderDue due) h y kept

    go : ((due' : HeaderLine) (h' : Header) (kept' : List ℕ) → length kept' ≤ 41 * lines_before due'
        → record_lines (recorder (HeaderDue due') h' y kept') ls
        ≡ with_kept kept' (header_recording (take_from ls due' h')) (header_lines (read_from ls due' h')))
        → (d : HeaderStep) → HeaderKnown due h l d
        → with_rest (record_header_line d r l) ls
        ≡ with_kept kept (header_recording (after_step d (λ due' h'. take_from ls due' h') l ls))
        (header_lines (session-step d (λ due' h'. read_from ls due' h') l ls))
    go ih d (goes_on {due' = due'} {h' = h'} t e) =
        let k = kept_whole kept l due due' few t e in
        ap (λ (b : List ℕ). record_lines (recorder (HeaderDue due') h' y b) ls) k.0
        ∙ ih due' h' (kept ++ close l.bytes) k.1
        ∙ one_more kept l (take_from ls due' h') (header_lines (read_from ls due' h'))
    go ih d (last_taken {h' = h'} t) =
        let o = session_opening h' in
        opened_written o h' kept ls (λ s. recorder_effect s (close l.bytes)) (l ∷ []) ls
        (ap (λ (b : List ℕ). close l.bytes ++ b) (events_written h' kept ls o.machine))
    go ih d (left_out e) =
        let o = session_opening h in
        opened_written o h kept ls (λ s. record_event (parse_event_line l) s l) [] (l ∷ ls) (events_written h kept (l ∷ ls) o.machine)
    go ih d (missing e) = ended_last h kept y (refusal_line 10) ls

without_kept : (x : Recorded) (refusal : List ℕ) → with_kept [] x refusal ≡ recorded_or x refusal
unfolding with_kept recorded_or bytes_of concat_map
without_kept (recorded rs) refusal = refl
without_kept not_recorded refusal = refl

pub recorder_writes : (input : List ℕ) → record_lines new_recorder (input_lines input) ≡ recorder_output input
unfolding new_recorder recorder_output recorded_lines take_header lines_before transcript lines_transcript read_header
recorder_writes input =
    header_written (input_lines input) Tasks empty_header no_machine [] (omega arith)
    ∙ without_kept (header_recording (take_header (input_lines input))) (transcript input)

-- ---- and that is the recording, or a refusal's line

pub recorded_output : (input : List ℕ) (rs : List RecordedLine) → recorded_lines input ≡ recorded rs → recorder_output input ≡ recording input
unfolding recorder_output recorded_or recording lines_of
recorded_output input rs e = rw e

pub record RefusalAlone (bytes : List ℕ) : Type 0 where
  pub refusal : ℕ
  pub line : bytes ≡ refusal_line refusal

taken_refused : (t : HeaderTaken) → header_recording t ≡ not_recorded → RefusalAlone (header_lines (session_header t))
unfolding header_recording opened_recording header_lines opened_lines session_header
taken_refused (taken own h ls) e = go (eqb (session_opening h).refusal 0) e
  where
    o : Opened
    o = session_opening h

    go : (b : Bool) → (if b then recorded (map (input_again header_role) own ++ recorded_events o.machine ls) else not_recorded) ≡ not_recorded
        → RefusalAlone (if b then event_lines o.machine ls else refusal_line o.refusal)
    go true q = let z : ◌≡◌ {A = ℕ} 0 1 = cc in absurd (omega arith)
    go false q = record { refusal = o.refusal; line = refl }
taken_refused (not_taken r) e = record { refusal = 10; line = refl }

pub refused_line : (input : List ℕ) → recorded_lines input ≡ not_recorded → RefusalAlone (recorder_output input)
unfolding recorder_output recorded_or recorded_lines transcript lines_transcript
refused_line input e = rw (e, as_session (input_lines input)) (taken_refused (take_header (input_lines input)) e)
