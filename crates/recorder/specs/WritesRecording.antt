-- Over lent pools of at least 64 nodes and 200 buckets, whatever they hold, what is written for an input is its recording, and where there
-- is none the session's refusal: `writes_recording`. The recorder over lent pools stands where that of the definition does, line by
-- line. Assumes nothing.
use Rattle.std.specs.Prelude.{◌≡◌, Bool, ℕ, ◌≤◌, length, if◌then◌else◌, Option, Some, None}
use Rattle.std.proofs.Math.Path.{refl, ap}
use Rattle.std.proofs.Common.{sym, subst, ◌∙◌, arith}
use mathlib.Core.List.{List, [], ◌∷◌, ◌++◌, append-nil}
use Rattle.std.proofs.Math.Bool.{true, false}
use borrow.Author.Tests.{eq-eqb, ne_eqb, eqb-true, eqb-false}
use Rattle.std.proofs.Math.Dec.{eqb}
use Rattle.spec.specs.declared.State.{State}
use Rattle.spec.specs.Machine.{Machine}
use Rattle.spec.specs.Entries.{Opened, opening}
use Rattle.spec.specs.Schedule.{Event, starts, steps, event}
use Rattle.session.specs.declared.EventLine.{EventLine}
use Rattle.session.specs.declared.EventLine.TheVariants.{Start, Step}
use Rattle.session.specs.declared.Header.{Header}
use Rattle.session.specs.declared.HeaderLine.{HeaderLine}
use Rattle.session.specs.declared.HeaderStep.{HeaderStep}
use Rattle.session.specs.declared.HeaderStep.TheVariants.{Next, Complete, Absent, Missing}
use Rattle.session.specs.Grammar.{InputLine, input_lines, parse_event_line}
use Rattle.session.specs.Header.{optional, header_step}
use Rattle.session.specs.Print.{refusal_line, output_line}
use Rattle.session.specs.Transcript.{is_event, task_in, pool_words, session_opening}
use Rattle.session_pools.specs.PoolParts.{node_extent, bucket_extent, node_part, bucket_part}
use Rattle.session_state.specs.declared.Phase.TheVariants.{Due, Events, Stopped}
use Rattle.session_state.specs.declared.Session.{Session}
use Rattle.session_state.specs.Handling.{session, new_session, LineEffect, pools_kept, stopped, silent, session_machine, with_machine, opened_then, open_then}
use Rattle.session_state.specs.Handling.{reply_effect, event_effect, listing_effect, phase_effect, line_effect, phase_end, end_effect}
use Rattle.session_lines.specs.PoolLengths.{event_lengths}
use Rattle.session_lines.specs.Openings.{part_length, part_words, machine_back, Alike, opening_same, opening_lengths}
use Rattle.recording.specs.declared.RecorderPhase.TheVariants.{Header as HeaderDue, Events as EventsDue, Ended}
use Rattle.recording.specs.Recording.{close}
use Rattle.recording.specs.Verdict.{printed_for}
use Rattle.recording.specs.Recorder as defined
use Rattle.recording.specs.Recorder.{RecorderEffect, recorder_effect, record_last, write_listing, write_pair, record_event, after_kept, record_opened}
use Rattle.recording.specs.Recorder.{record_header_line, record_phase, record_phase_end, recorder_output}
use Rattle.recording_laws.specs.RecorderRecords.{recorder_writes}
use Rattle.recorder_lines.specs.declared.KeptLines.{KeptLines}
use Rattle.recorder_lines.specs.KeptLines.{kept_bytes, keep_line, kept_after}
use Rattle.recorder_lines.specs.KeptBytes.{KeptIs, kept_none, kept_more}
use Rattle.recorder.specs.LentRecorder.{after_bytes, recorded_event, first_recorded, recorded_opening, recorded_header, recorded_phase, recorded_line}
use Rattle.recorder.specs.LentRecorder.{recorded_end, new_recorder, Lent, lent, line_of, after_line, recorded_from}

-- ---- where the recorder over lent pools stands, and where that of the definition does

pub data Stands : Session → KeptLines → List ℕ → List ℕ → defined.Recorder → Type 0 where
  in_header : {due : HeaderLine} {h : Header} {m : State} {k : KeptLines} {ns bs kept : List ℕ} {y : Machine}
      → 2176 ≤ length ns → 13200 ≤ length bs → KeptIs k kept → Stands (session (Due due) h m) k ns bs (defined.recorder (HeaderDue due) h y kept)
  in_events : {h : Header} {m : State} {k : KeptLines} {ns bs kept : List ℕ} {y : Machine}
      → session_machine (session Events h m) ns bs ≡ y → Stands (session Events h m) k ns bs (defined.recorder EventsDue h y kept)
  at_end : {h h' : Header} {m : State} {k : KeptLines} {ns bs kept : List ℕ} {y : Machine}
      → Stands (session Stopped h m) k ns bs (defined.recorder Ended h' y kept)

-- an effect over lent pools, with what is kept then, is that of the definition
record Follows (d : LineEffect) (k : KeptLines) (e : RecorderEffect) : Type 0 where
  writes : d.prints ≡ e.writes
  stands : Stands d.session k d.nodes d.buckets e.next

-- these bytes first, in both
bytes_first : (xs ys : List ℕ) (d : LineEffect) (k : KeptLines) (e : RecorderEffect) → xs ≡ ys → Follows d k e
    → Follows (after_bytes xs d) k (recorder_effect e.next (ys ++ e.writes))
unfolding after_bytes
bytes_first xs ys d k e p f =
    record { writes = ap (λ (w : List ℕ). w ++ d.prints) p ∙ ap (λ (w : List ℕ). ys ++ w) f.writes; stands = f.stands }

-- ---- the events

module _ (h : Header) (m : State) (ns bs kept : List ℕ) (k : KeptLines) where
  abbrev s : Session
  s = session Events h m

  abbrev y : Machine
  y = session_machine s ns bs

  abbrev q : defined.Recorder
  q = defined.recorder EventsDue h y kept

  pair_follows : (l : InputLine) (e : Event) (task : ℕ) → task ≡ task_in e
      → Follows (after_bytes (close l.bytes) (reply_effect task (event y e) s ns bs)) k (write_pair e q l)
  unfolding write_pair printed_for reply_effect with_machine after_bytes
  pair_follows l e task t =
      let r = event y e in
      let out = output_line task r.out in
      record {
        writes = ap (λ (n : ℕ). close l.bytes ++ output_line n r.out) t;
        stands =
            in_events
            (machine_back Events out r.machine h ns bs ((event_lengths y e).nodes ∙ part_length 34 64 h.nodes ns)
            ((event_lengths y e).buckets ∙ part_length 66 200 h.buckets bs));
      }

  listing_follows : Follows (end_effect s ns bs) k (write_listing q)
  unfolding end_effect phase_end listing_effect pools_kept write_listing record_last
  listing_follows = record { writes = refl; stands = at_end }

  event_follows : (l : InputLine) → Follows (recorded_event l s ns bs) k (record_event (parse_event_line l) q l)
  unfolding recorded_event line_effect phase_effect is_event event_effect event record_event task_in
  event_follows l = go (parse_event_line l)
    where
      go : (x : Option EventLine)
          → Follows (if is_event x then after_bytes (close l.bytes) (event_effect x s ns bs) else end_effect s ns bs) k (record_event x q l)
      go (Some (Start task call tag)) = pair_follows l (starts task call tag) task refl
      go (Some (Step task)) = pair_follows l (steps task) task refl
      go None = listing_follows

-- ---- the opening

-- what is done next where the opening is accepted, over lent pools and in the definition
abbrev NextFollows : Header → List ℕ → KeptLines → (Session → List ℕ → List ℕ → LineEffect) → (defined.Recorder → RecorderEffect) → Type 0
NextFollows h kept k next next' =
    (m : State) (ns bs : List ℕ)
    → Follows (next (session Events h m) ns bs) k (next' (defined.recorder EventsDue h (session_machine (session Events h m) ns bs) kept))

module _ (h : Header) (ns bs kept : List ℕ) (own k : KeptLines) (same : kept_bytes own ≡ kept)
    (next : Session → List ℕ → List ℕ → LineEffect) (next' : defined.Recorder → RecorderEffect) (follows : NextFollows h kept k next next') where
  abbrev then_next : Session → List ℕ → List ℕ → LineEffect
  then_next s n b = after_bytes (kept_bytes own) (next s n b)

  opened_follows : (o o' : Opened) → Alike o o' → length o.machine.nodes ≡ node_extent h ns → length o.machine.buckets ≡ bucket_extent h bs
      → Follows (opened_then o h ns bs then_next) k (record_opened o' h kept next')
  unfolding opened_then record_opened after_kept record_last with_machine
  opened_follows o o' alike en eb = go (eqb o.refusal 0) refl
    where
      go : (a : Bool) → eqb o.refusal 0 ≡ a → Follows (opened_then o h ns bs then_next) k (record_opened o' h kept next')
      go true t =
          let z = eqb-true o.refusal 0 t in
          let e = machine_back Events [] o.machine h ns bs en eb ∙ alike.machine z in
          let d = with_machine Events [] o.machine h ns bs in
          rw (t, eq-eqb _ _ (sym alike.refusal ∙ z))
          (bytes_first (kept_bytes own) kept _ k _ same
          (subst (λ (y : Machine). Follows (next d.session d.nodes d.buckets) k (next' (defined.recorder EventsDue h y kept))) e
          (follows o.machine.state d.nodes d.buckets)))
      go false t =
          let n = eqb-false o.refusal 0 t in
          rw (t, ne_eqb _ _ (λ e. n (alike.refusal ∙ e))) (record { writes = ap refusal_line alike.refusal; stands = at_end })

  open_follows : 2176 ≤ length ns → 13200 ≤ length bs → Follows (open_then h ns bs then_next) k (record_opened (session_opening h) h kept next')
  unfolding open_then session_opening
  open_follows nodes_fit buckets_fit =
      let g = h.config in
      let lent = opening g (node_part h ns) (bucket_part h bs) in
      let whole = opening g (pool_words 34 64 h.nodes) (pool_words 66 200 h.buckets) in
      let long = opening_lengths g (node_part h ns) (bucket_part h bs) in
      let same_nodes = part_words 34 64 h.nodes ns nodes_fit (λ l. omega arith) in
      let same-buckets = part_words 66 200 h.buckets bs buckets_fit (λ l. omega arith) in
      opened_follows lent whole (opening_same g _ _ _ _ same_nodes same-buckets)
      (long.nodes ∙ part_length 34 64 h.nodes ns) (long.buckets ∙ part_length 66 200 h.buckets bs)

-- the header's last line
own_follows : (h : Header) (kept : List ℕ) (k : KeptLines) (l : InputLine)
    → NextFollows h kept k (first_recorded true l) (λ s. recorder_effect s (close l.bytes))
unfolding first_recorded after_bytes silent pools_kept
own_follows h kept k l m ns bs = record { writes = append-nil (close l.bytes); stands = in_events refl }

-- ---- a line, and the end, where a header line is due

module _ (due : HeaderLine) (h : Header) (m : State) (k : KeptLines) (ns bs kept : List ℕ) (y : Machine)
    (nodes_fit : 2176 ≤ length ns) (buckets_fit : 13200 ≤ length bs) (is : KeptIs k kept) where
  abbrev p : Session
  p = session (Due due) h m

  abbrev r : defined.Recorder
  r = defined.recorder (HeaderDue due) h y kept

  header_follows : (l : InputLine) (x : HeaderStep) → Follows (recorded_header x k l p ns bs) (keep_line k l.bytes) (record_header_line x r l)
  unfolding recorded_header recorded_opening first_recorded record_header_line pools_kept stopped record_last
  header_follows l (Next due' h') = record { writes = refl; stands = in_header nodes_fit buckets_fit (kept_more k kept l.bytes is) }
  header_follows l (Complete h') =
      let after = keep_line k l.bytes in
      open_follows h' ns bs kept k after is.same (first_recorded true l) _ (own_follows h' kept after l) nodes_fit buckets_fit
  header_follows l (Absent h') =
      let after = keep_line k l.bytes in
      open_follows h' ns bs kept k after is.same (first_recorded false l) (λ s. record_event (parse_event_line l) s l)
      (λ m' ns' bs'. event_follows h' m' ns' bs' kept after l) nodes_fit buckets_fit
  header_follows l Missing = record { writes = refl; stands = at_end }

  header_ends : Follows (recorded_end (Due due) k p ns bs) k (record_phase_end (HeaderDue due) r)
  unfolding recorded_end record_phase_end pools_kept stopped record_last
  header_ends = go (optional due)
    where
      go : (a : Bool)
          → Follows (if a then open_then h ns bs (λ s n b. after_bytes (kept_bytes k) (end_effect s n b)) else pools_kept (stopped p 10) ns bs) k
          (if a then record_opened (session_opening h) h kept write_listing else record_last r (refusal_line 10))
      go true = open_follows h ns bs kept k k is.same end_effect write_listing (λ m' ns' bs'. listing_follows h m' ns' bs' kept k) nodes_fit buckets_fit
      go false = record { writes = refl; stands = at_end }

-- ---- a line, and the end

line_follows : (s : Session) (k : KeptLines) (ns bs : List ℕ) (q : defined.Recorder) → Stands s k ns bs q → (l : InputLine)
    → Follows (recorded_phase s.phase k l s ns bs) (kept_after s.phase k l.bytes) (defined.record_line q l)
unfolding recorded_phase kept_after defined.record_line record_phase silent pools_kept
line_follows s k ns bs q (in_header {due = due} {h = h} {m = m} {kept = kept} {y = y} f g is) l =
    header_follows due h m k ns bs kept y f g is l (header_step due h l)
line_follows s k ns bs q (in_events {h = h} {m = m} {kept = kept} e) l =
    subst (λ (z : Machine). Follows (recorded_event l s ns bs) k (record_event (parse_event_line l) (defined.recorder EventsDue h z kept) l)) e
    (event_follows h m ns bs kept k l)
line_follows s k ns bs q at_end l = record { writes = refl; stands = at_end }

end_follows : (s : Session) (k : KeptLines) (ns bs : List ℕ) (q : defined.Recorder) → Stands s k ns bs q
    → Follows (recorded_end s.phase k s ns bs) k (defined.record_end q)
unfolding recorded_end defined.record_end record_phase_end silent pools_kept
end_follows s k ns bs q (in_header {due = due} {h = h} {m = m} {kept = kept} {y = y} f g is) = header_ends due h m k ns bs kept y f g is
end_follows s k ns bs q (in_events {h = h} {m = m} {kept = kept} e) =
    subst (λ (z : Machine). Follows (end_effect s ns bs) k (write_listing (defined.recorder EventsDue h z kept))) e (listing_follows h m ns bs kept k)
end_follows s k ns bs q at_end = record { writes = refl; stands = at_end }

-- ---- the lines, one after the other

lines_follow : (ls : List InputLine) (s : Lent) (q : defined.Recorder) → Stands s.recorder.session s.recorder.kept s.nodes s.buckets q
    → recorded_from s ls ≡ defined.record_lines q ls
unfolding recorded_from after_line recorded_line defined.record_lines
lines_follow [] s q f = (end_follows s.recorder.session s.recorder.kept s.nodes s.buckets q f).writes
lines_follow (l ∷ ls) s q f =
    let d = line_follows s.recorder.session s.recorder.kept s.nodes s.buckets q f l in
    let e = defined.record_line q l in
    ap (λ (w : List ℕ). (line_of s l).prints ++ w) (lines_follow ls (after_line s l) e.next d.stands)
    ∙ ap (λ (w : List ℕ). w ++ defined.record_lines e.next ls) d.writes

-- ---- a whole input

pub writes_recording : (ns bs : List ℕ) → 2176 ≤ length ns → 13200 ≤ length bs → (input : List ℕ)
    → recorder_output input ≡ recorded_from (lent new_recorder ns bs) (input_lines input)
unfolding new_recorder new_session defined.new_recorder
writes_recording ns bs nodes_fit buckets_fit input =
    sym (lines_follow (input_lines input) (lent new_recorder ns bs) defined.new_recorder (in_header nodes_fit buckets_fit kept_none) ∙ recorder_writes input)
