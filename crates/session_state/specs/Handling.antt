-- What one line does to a session whose pools are lent whole, and what the end of the input prints: the definitions that the
-- code is held to. That they print the paper's transcript is shown in session_lines, PrintsTranscript. Assumes nothing.
use Rattle.std.specs.Prelude.{ℕ, ◌≡◌, refl, List, [], ◌∷◌, ◌++◌, Bool, true, false, eqb, drop, replicate, if◌then◌else◌, Option, Some, None}
use Rattle.std.proofs.Common.{arith}
use Rattle.spec.specs.declared.State.{State}
use Rattle.spec.specs.Machine.{Machine, machine_of, zero_config, state_of}
use Rattle.spec.specs.Entries.{Opened, opening, Reply, start, step, list}
use Rattle.session.specs.declared.EventLine.{EventLine}
use Rattle.session.specs.declared.EventLine.TheVariants.{Start, Step}
use Rattle.session.specs.declared.Header.{Header}
use Rattle.session.specs.declared.HeaderLine.TheVariants.{Tasks}
use Rattle.session.specs.declared.HeaderStep.{HeaderStep}
use Rattle.session.specs.declared.HeaderStep.TheVariants.{Next, Complete, Absent, Missing}
use Rattle.session.specs.Grammar.{InputLine, parse_event_line}
use Rattle.session.specs.Header.{empty_header, optional, header_step}
use Rattle.session.specs.Print.{refusal_line, output_line}
use Rattle.session.specs.Buffer.{buffer, append}
use Rattle.session.specs.Transcript.{final_listing}
use Rattle.session_pools.specs.PoolParts.{node_extent, bucket_extent, node_part, bucket_part}
use Rattle.session_state.specs.declared.Phase.{Phase}
use Rattle.session_state.specs.declared.Phase.TheVariants.{Due, Events, Stopped}
use Rattle.session_state.specs.declared.Session.{Session}
use Rattle.session_state.specs.declared.Handled.{Handled}

abbrev pub session : Phase → Header → State → Session
session phase h m = record { phase = phase; header = h; state = m }

-- no line is read yet
unfoldable pub new_session : Session
new_session = session (Due Tasks) empty_header (state_of zero_config 0 0)

unfoldable pub reads_events : Phase → Bool
reads_events (Due due) = false
reads_events Events = true
reads_events Stopped = false

unfoldable pub has_stopped : Phase → Bool
has_stopped (Due due) = false
has_stopped Events = false
has_stopped Stopped = true

pub is_stopped : (p : Phase) → has_stopped p ≡ true → p ≡ Stopped
unfolding has_stopped
is_stopped (Due due) h = let z : ◌≡◌ {A = ℕ} 0 1 = cc in absurd (omega arith)
is_stopped Events h = let z : ◌≡◌ {A = ℕ} 0 1 = cc in absurd (omega arith)
is_stopped Stopped h = refl

abbrev pub handled : Session → ℕ → Handled
handled s n = record { session = s; printed = n }

-- ---- what a line does, and what it prints

-- with no word of a pool changed
pub record SessionEffect : Type 0 where
  pub session : Session
  pub prints : List ℕ

pub record LineEffect : Type 0 where
  pub session : Session
  pub nodes : List ℕ
  pub buckets : List ℕ
  pub prints : List ℕ

unfoldable pub pools_kept : SessionEffect → List ℕ → List ℕ → LineEffect
pools_kept d ns bs = record { session = d.session; nodes = ns; buckets = bs; prints = d.prints }

-- these are the last bytes that the session prints
abbrev pub prints_last : Session → List ℕ → SessionEffect
prints_last s prints = record { session = session Stopped s.header s.state; prints = prints }

-- "After 10, or a refused opening, it prints nothing more."
unfoldable pub stopped : Session → ℕ → SessionEffect
stopped s r = prints_last s (refusal_line r)

-- ---- the machine in the session's part of the lent pools

abbrev pub session_machine : Session → List ℕ → List ℕ → Machine
session_machine s ns bs = machine_of s.state (node_part s.header ns) (bucket_part s.header bs)

-- the machine that an entry left, in the place of the session's; words past its part are kept
unfoldable pub with_machine : Phase → List ℕ → Machine → Header → List ℕ → List ℕ → LineEffect
with_machine phase prints y h ns bs =
    record {
      session = session phase h y.state;
      nodes = y.nodes ++ drop (node_extent h ns) ns;
      buckets = y.buckets ++ drop (bucket_extent h bs) bs;
      prints = prints;
    }

-- ---- the opening

-- nothing is done
unfoldable pub silent : Session → List ℕ → List ℕ → LineEffect
silent s ns bs = pools_kept (record { session = s; prints = [] }) ns bs

-- the opening, and where it was accepted what is done next
unfoldable pub opened_then : Opened → Header → List ℕ → List ℕ → (Session → List ℕ → List ℕ → LineEffect) → LineEffect
opened_then o h ns bs next =
    let d = with_machine Events [] o.machine h ns bs in
    if eqb o.refusal 0 then next d.session d.nodes d.buckets
    else with_machine Stopped (refusal_line o.refusal) o.machine h ns bs

unfoldable pub open_then : Header → List ℕ → List ℕ → (Session → List ℕ → List ℕ → LineEffect) → LineEffect
open_then h ns bs next = opened_then (opening h.config (node_part h ns) (bucket_part h bs)) h ns bs next

-- ---- the events

-- task k's start or step had this reply
unfoldable pub reply_effect : ℕ → Reply → Session → List ℕ → List ℕ → LineEffect
reply_effect k r s ns bs = with_machine Events (output_line k r.out) r.machine s.header ns bs

unfoldable pub event_effect : Option EventLine → Session → List ℕ → List ℕ → LineEffect
event_effect (Some (Start k call tag)) s ns bs = reply_effect k (start (session_machine s ns bs) k call tag) s ns bs
event_effect (Some (Step k)) s ns bs = reply_effect k (step (session_machine s ns bs) k) s ns bs
event_effect None s ns bs = pools_kept (stopped s 10) ns bs

-- the final listing
abbrev pub final_output : Session → List ℕ → List ℕ → List ℕ
final_output s ns bs = final_listing (session_machine s ns bs) (list (session_machine s ns bs) (replicate 64 0)).says

unfoldable pub listing_effect : Session → List ℕ → List ℕ → LineEffect
listing_effect s ns bs = pools_kept (prints_last s (final_output s ns bs)) ns bs

-- ---- a line, by where the session stands

-- what a line says where a header line is due, and what it asks for if it is an event's: "a line not of a header line's form .. is
-- judged only after the opening"
unfoldable pub header_effect : HeaderStep → Option EventLine → Session → List ℕ → List ℕ → LineEffect
header_effect (Next due h) x s ns bs = pools_kept (record { session = session (Due due) h s.state; prints = [] }) ns bs
header_effect (Complete h) x s ns bs = open_then h ns bs silent
header_effect (Absent h) x s ns bs = open_then h ns bs (event_effect x)
header_effect Missing x s ns bs = pools_kept (stopped s 10) ns bs

unfoldable pub phase_effect : Phase → Session → List ℕ → List ℕ → InputLine → LineEffect
phase_effect (Due due) s ns bs l = header_effect (header_step due s.header l) (parse_event_line l) s ns bs
phase_effect Events s ns bs l = event_effect (parse_event_line l) s ns bs
phase_effect Stopped s ns bs l = silent s ns bs

unfoldable pub line_effect : Session → List ℕ → List ℕ → InputLine → LineEffect
line_effect s ns bs l = phase_effect s.phase s ns bs l

-- ---- the end of an input whose lines are all closed

-- "Input without three full header lines is 10", else the final listing, after the opening where that is not made yet
unfoldable pub phase_end : Phase → Session → List ℕ → List ℕ → LineEffect
phase_end (Due due) s ns bs =
    if optional due then open_then s.header ns bs listing_effect else pools_kept (stopped s 10) ns bs
phase_end Events s ns bs = listing_effect s ns bs
phase_end Stopped s ns bs = silent s ns bs

unfoldable pub end_effect : Session → List ℕ → List ℕ → LineEffect
end_effect s ns bs = phase_end s.phase s ns bs

-- the lines of an input, one after the other, and its end
unfoldable pub lines_output : Session → List ℕ → List ℕ → List InputLine → List ℕ
lines_output s ns bs [] = (end_effect s ns bs).prints
lines_output s ns bs (l ∷ ls) =
    let d = line_effect s ns bs l in
    d.prints ++ lines_output d.session d.nodes d.buckets ls

-- ---- what the code is held to: the session that it gives, what it leaves in the pools, and what it appended to the buffer that
-- held `before` and then holds `after`

pub record SessionHandled (d : SessionEffect) (r : Handled) (before after : List ℕ) : Type 0 where
  pub next : r.session ≡ d.session
  pub wrote : buffer after r.printed ≡ append d.prints (buffer before 0)

pub record LineHandled (d : LineEffect) (r : Handled) (ns bs before after : List ℕ) : Type 0 where
  pub next : r.session ≡ d.session
  pub nodes : ns ≡ d.nodes
  pub buckets : bs ≡ d.buckets
  pub wrote : buffer after r.printed ≡ append d.prints (buffer before 0)
