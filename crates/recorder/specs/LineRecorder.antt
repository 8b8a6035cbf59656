-- The recorder as a reader of lines (stdio, Readers): a line that is too long or not closed is as the end of the input, `recorder_fixes`. Once the
-- session has stopped nothing more is written, `recorder_decides`, so that no more need be read. Assumes nothing.
use Rattle.std.specs.Prelude.{ℕ, ◌<◌, ◌≡◌, refl, List, [], ◌∷◌, ◌++◌, Bool, true, false, eqb, length, if◌then◌else◌, Option}
use Rattle.std.proofs.Common.{sym, ap, ◌∙◌, append-nil}
use Rattle.std.proofs.lemmas.Bool.{lt-leb}
use Rattle.spec.specs.Entries.{Opened, opening}
use Rattle.session.specs.declared.EventLine.{EventLine}
use Rattle.session.specs.declared.HeaderStep.TheVariants.{Absent, Missing}
use Rattle.session.specs.Grammar.{InputLine, closed_line, open_line, admissible}
use Rattle.session.specs.Header.{optional}
use Rattle.session.specs.LineLaws.{outside_event}
use Rattle.session.proofs.LineLaws.{outside_step}
use Rattle.session.specs.Print.{refusal_line}
use Rattle.session.specs.Transcript.{is_event}
use Rattle.session_pools.specs.PoolParts.{node_part, bucket_part}
use Rattle.session_state.specs.declared.Phase.{Phase}
use Rattle.session_state.specs.declared.Phase.TheVariants.{Due, Events, Stopped}
use Rattle.session_state.specs.declared.Session.{Session}
use Rattle.session_state.specs.Handling.{LineEffect, pools_kept, stopped, silent, with_machine, opened_then, open_then, listing_effect, line_effect, phase_end}
use Rattle.session_state.specs.Handling.{end_effect, has_stopped, is_stopped}
use Rattle.partial_line.specs.PartialLines.{line_bytes}
use Rattle.stdio.specs.declared.input.Input.{Input}
use Rattle.stdio.specs.Inputs.{cut_off}
use Rattle.stdio.specs.Readers.{OutsideFixes, last_lines}
use Rattle.recording.specs.Recording.{close}
use Rattle.recorder_lines.specs.declared.KeptLines.{KeptLines}
use Rattle.recorder_lines.specs.KeptLines.{kept_bytes}
use Rattle.recorder.specs.LentRecorder.{after_bytes, recorded_event, first_recorded, recorded_opening, recorded_header, recorded_phase, recorded_line}
use Rattle.recorder.specs.LentRecorder.{recorded_end, Lent, line_of, end_of, after_line, recorded_from}

-- ---- a line that is too long or not closed is left out: it is as the end

outside_recorded : (p : Phase) (k : KeptLines) (l : InputLine) (s : Session) (ns bs : List ℕ) → admissible l ≡ false
    → recorded_phase p k l s ns bs ≡ recorded_end p k s ns bs
unfolding recorded_phase recorded_end recorded_header recorded_opening first_recorded recorded_event is_event
outside_recorded (Due due) k l s ns bs e = rw (outside_step due s.header l e) (go (optional due))
  where
    after : Option EventLine → LineEffect
    after x =
        open_then s.header ns bs
        (λ s' n b. after_bytes (kept_bytes k) (if is_event x then after_bytes (close l.bytes) (line_effect s' n b l) else end_effect s' n b))

    go : (b : Bool) → recorded_header (if b then Absent s.header else Missing) k l s ns bs
        ≡ (if b then open_then s.header ns bs (λ s' n b. after_bytes (kept_bytes k) (end_effect s' n b)) else pools_kept (stopped s 10) ns bs)
    go true = ap after (outside_event l e)
    go false = refl
outside_recorded Events k l s ns bs e = rw (outside_event l e)
outside_recorded Stopped k l s ns bs e = refl

pub outside_line : (s : Lent) (l : InputLine) → admissible l ≡ false → line_of s l ≡ end_of s
unfolding recorded_line
outside_line s l e = outside_recorded s.recorder.session.phase s.recorder.kept l s.recorder.session s.nodes s.buckets e

pub long_outside : (l : List ℕ) → 40 < length l → admissible (closed_line l) ≡ false
unfolding admissible
long_outside l h = lt-leb _ _ h

-- ---- after the end the session has stopped

end_stopped : (q : Phase) (k : KeptLines) (s : Session) (ns bs : List ℕ) → s.phase ≡ q → (recorded_end q k s ns bs).session.phase ≡ Stopped
unfolding recorded_end open_then opened_then after_bytes end_effect phase_end listing_effect pools_kept stopped with_machine silent
end_stopped (Due due) k s ns bs e = go (optional due)
  where
    o : Opened
    o = opening s.header.config (node_part s.header ns) (bucket_part s.header bs)

    made : LineEffect
    made = with_machine Events [] o.machine s.header ns bs

    opened : (b : Bool)
        → (if b then after_bytes (kept_bytes k) (end_effect made.session made.nodes made.buckets)
        else with_machine Stopped (refusal_line o.refusal) o.machine s.header ns bs).session.phase ≡ Stopped
    opened true = refl
    opened false = refl

    go : (a : Bool)
        → (if a then open_then s.header ns bs (λ s' n b. after_bytes (kept_bytes k) (end_effect s' n b)) else pools_kept (stopped s 10) ns bs).session.phase ≡ Stopped
    go true = opened (eqb o.refusal 0)
    go false = refl
end_stopped Events k s ns bs e = ap (λ (q : Phase). (phase_end q s ns bs).session.phase) e
end_stopped Stopped k s ns bs e = e

-- ---- a session that has stopped: nothing more is written, whatever follows

stopped_writes : (ls : List InputLine) (s : Lent) → s.recorder.session.phase ≡ Stopped → recorded_from s ls ≡ []
unfolding recorded_from recorded_end after_line recorded_line recorded_phase silent pools_kept
stopped_writes [] s e = ap (λ (q : Phase). (recorded_end q s.recorder.kept s.recorder.session s.nodes s.buckets).prints) e
stopped_writes (l ∷ ls) s e =
    let same : line_of s l ≡ silent s.recorder.session s.nodes s.buckets =
    ap (λ (q : Phase). recorded_phase q s.recorder.kept l s.recorder.session s.nodes s.buckets) e in
    ap (λ (d : LineEffect). d.prints ++ recorded_from (after_line s l) ls) same
    ∙ stopped_writes ls (after_line s l) (ap (λ (d : LineEffect). d.session.phase) same ∙ e)

pub recorder_decides : (s : Lent) → has_stopped s.recorder.session.phase ≡ true → (ls : List InputLine) → recorded_from s ls ≡ recorded_from s []
recorder_decides s h ls = let e = is_stopped s.recorder.session.phase h in stopped_writes ls s e ∙ sym (stopped_writes [] s e)

-- ---- the reader of lines

outside_writes : (s : Lent) (l : InputLine) → admissible l ≡ false → (ls : List InputLine) → recorded_from s (l ∷ ls) ≡ (end_of s).prints
unfolding recorded_from after_line
outside_writes s l e ls =
    let o = outside_line s l e in
    let stops = ap (λ (d : LineEffect). d.session.phase) o
    ∙ end_stopped s.recorder.session.phase s.recorder.kept s.recorder.session s.nodes s.buckets refl in
    ap (λ (w : List ℕ). (line_of s l).prints ++ w) (stopped_writes ls (after_line s l) stops)
    ∙ append-nil (line_of s l).prints ∙ ap (λ (d : LineEffect). d.prints) o

pub recorder_fixes : OutsideFixes recorded_from
recorder_fixes s x y ls ex ey = outside_writes s x ex ls ∙ sym (outside_writes s y ey [])

-- at the end, its last line closed or not
pub recorder_ends : (s : Lent) (q : Input) → recorded_from s (last_lines q) ≡ (end_of s).prints
unfolding recorded_from last_lines admissible
recorder_ends s q = go (cut_off q)
  where
    go : (b : Bool) → recorded_from s (if b then (open_line (line_bytes q.line) ∷ []) else []) ≡ (end_of s).prints
    go true = outside_writes s (open_line (line_bytes q.line)) refl []
    go false = refl
