-- What is known of memory between two lines, so that no event scans it: where events are read `ok` says whether it is sound, and before the opening
-- it is true, since an accepted opening leaves sound memory. No line changes it: `line_known`. Assumes nothing.
use Rattle.std.specs.Prelude.{ℕ, ◌≡◌, Bool, false, eqb, if◌then◌else◌, Option, Some, None}
use Rattle.std.proofs.Math.Path.{refl, sym, ap, subst}
use Rattle.std.proofs.Common.{◌∙◌, eqb-true}
use mathlib.Core.List.{List, []}
use Rattle.std.proofs.Math.Bool.{true}
use Rattle.spec.specs.declared.State.{State}
use Rattle.spec.specs.Machine.{Machine}
use Rattle.spec.specs.Sound.{sound}
use Rattle.spec.specs.Entries.{Opened, opening}
use Rattle.spec.specs.Schedule.{Event, starts, steps, event}
use Rattle.laws.specs.Tests.{tf}
use Rattle.laws.specs.OpeningSound.{opening_sound}
use Rattle.known_memory.specs.EventSound.{event_sound}
use Rattle.session.specs.declared.EventLine.{EventLine}
use Rattle.session.specs.declared.EventLine.TheVariants.{Start, Step}
use Rattle.session.specs.declared.Header.{Header}
use Rattle.session.specs.declared.HeaderStep.{HeaderStep}
use Rattle.session.specs.declared.HeaderStep.TheVariants.{Next, Complete, Absent, Missing}
use Rattle.session.specs.Grammar.{InputLine, parse_event_line}
use Rattle.session.specs.Header.{header_step}
use Rattle.session.specs.Print.{refusal_line, output_line}
use Rattle.session_machine.specs.declared.Stage.{Stage}
use Rattle.session_machine.specs.declared.Stage.TheVariants.{NextDue, OpenedBy, OpenedBefore, OpeningRefused, Incomplete}
use Rattle.session_machine.specs.Parts.{part_machine}
use Rattle.session_machine.specs.Stages.{part_opening, Reached, opened_stage, header_stage}
use Rattle.session_pools.specs.PoolParts.{node_part, bucket_part}
use Rattle.session_state.specs.declared.Phase.{Phase}
use Rattle.session_state.specs.declared.Phase.TheVariants.{Due, Events, Stopped}
use Rattle.session_state.specs.declared.Session.{Session}
use Rattle.session_state.specs.Handling.{session, reads_events, LineEffect, pools_kept, stopped, silent, session_machine, with_machine, opened_then}
use Rattle.session_state.specs.Handling.{open_then, reply_effect, event_effect, header_effect, phase_effect, line_effect}
use Rattle.session_lines.specs.PoolLengths.{event_lengths}
use Rattle.session_lines.specs.Openings.{part_length, machine_back, opening_lengths}

unfoldable pub Known : Bool → Phase → Machine → Type 0
Known ok (Due due) y = ok ≡ true
Known ok Events y = ok ≡ sound y
Known ok Stopped y = ok ≡ ok

abbrev pub KnownIn : Bool → Session → List ℕ → List ℕ → Type 0
KnownIn ok s ns bs = Known ok s.phase (session_machine s ns bs)

-- of what a line leaves
abbrev pub KnownAfter : Bool → LineEffect → Type 0
KnownAfter ok d = KnownIn ok d.session d.nodes d.buckets

-- ---- where events are read, and where they are not

module _ (ok : Bool) (p : Phase) (y : Machine) where
  pub known_reading : reads_events p ≡ true → ok ≡ sound y → Known ok p y
  unfolding reads_events Known
  known_reading e f = go p e
    where
      go : (q : Phase) → reads_events q ≡ true → Known ok q y
      go (Due due) e = absurd (tf e refl)
      go Events e = f
      go Stopped e = absurd (tf e refl)

pub known_events : (ok : Bool) (p : Phase) (y : Machine) → p ≡ Events → Known ok p y → ok ≡ sound y
unfolding Known
known_events ok p y e k = subst (λ (q : Phase). Known ok q y) e k

pub known_unread : (p : Phase) (y : Machine) → reads_events p ≡ false → Known true p y
unfolding reads_events Known
known_unread (Due due) y e = refl
known_unread Events y e = absurd (tf refl e)
known_unread Stopped y e = refl

-- a session that is as a line leaves it
pub known_as : (ok : Bool) (d : LineEffect) {s : Session} {ns bs : List ℕ} → s ≡ d.session → ns ≡ d.nodes → bs ≡ d.buckets
    → KnownAfter ok d → KnownIn ok s ns bs
known_as ok d {s} {ns} {bs} es en eb k =
    subst (λ (x : Session). KnownIn ok x ns bs) (sym es)
    (subst (λ (w : List ℕ). KnownIn ok d.session w bs) (sym en) (subst (λ (w : List ℕ). KnownIn ok d.session d.nodes w) (sym eb) k))

-- ---- an opening

module _ (h : Header) (ns bs : List ℕ) where
  abbrev opened_machine : Machine
  opened_machine = let y = (part_opening h ns bs).machine in part_machine y.state h y.nodes y.buckets

  opened_sound : (part_opening h ns bs).refusal ≡ 0 → true ≡ sound opened_machine
  unfolding part_opening with_machine
  opened_sound z =
      let o = opening h.config (node_part h ns) (bucket_part h bs) in
      let long = opening_lengths h.config (node_part h ns) (bucket_part h bs) in
      let back = machine_back Events [] o.machine h ns bs (long.nodes ∙ part_length 34 64 h.nodes ns)
      (long.buckets ∙ part_length 66 200 h.buckets bs) in
      sym (opening_sound h.config (node_part h ns) (bucket_part h bs) z) ∙ ap sound (sym back)

-- by the stage that a line reaches where a header line is due
unfoldable pub SoundAt : Stage → Reached → Type 0
SoundAt (NextDue due) t = t ≡ t
SoundAt OpenedBy t = true ≡ sound (part_machine t.state t.header t.nodes t.buckets)
SoundAt OpenedBefore t = true ≡ sound (part_machine t.state t.header t.nodes t.buckets)
SoundAt (OpeningRefused n) t = t ≡ t
SoundAt Incomplete t = t ≡ t

stage_sound : (a : HeaderStep) (h : Header) (m : State) (ns bs : List ℕ) → let t = header_stage a h m ns bs in SoundAt t.stage t
unfolding header_stage opened_stage SoundAt
stage_sound (Next due h') h m ns bs = refl
stage_sound (Complete h') h m ns bs = go (eqb (part_opening h' ns bs).refusal 0) refl
  where
    go : (a : Bool) → eqb (part_opening h' ns bs).refusal 0 ≡ a
        → SoundAt (if a then OpenedBy else OpeningRefused (part_opening h' ns bs).refusal) (opened_stage OpenedBy h' (part_opening h' ns bs))
    go true q = opened_sound h' ns bs (eqb-true _ 0 q)
    go false q = refl
stage_sound (Absent h') h m ns bs = go (eqb (part_opening h' ns bs).refusal 0) refl
  where
    go : (a : Bool) → eqb (part_opening h' ns bs).refusal 0 ≡ a
        → SoundAt (if a then OpenedBefore else OpeningRefused (part_opening h' ns bs).refusal) (opened_stage OpenedBefore h' (part_opening h' ns bs))
    go true q = opened_sound h' ns bs (eqb-true _ 0 q)
    go false q = refl
stage_sound Missing h m ns bs = refl

pub reached_sound : (a : HeaderStep) (h : Header) (m : State) (ns bs : List ℕ) {t : Reached} {g : Stage} → t ≡ header_stage a h m ns bs → t.stage ≡ g
    → SoundAt g t
reached_sound a h m ns bs {t} e f =
    subst (λ (k : Stage). SoundAt k t) f (subst (λ (r : Reached). SoundAt r.stage r) (sym e) (stage_sound a h m ns bs))

-- ---- a line

module _ (ok : Bool) where
  reply_known : (s : Session) (ns bs : List ℕ) (e : Event) (k : ℕ) → ok ≡ sound (session_machine s ns bs)
      → KnownAfter ok (reply_effect k (event (session_machine s ns bs) e) s ns bs)
  unfolding reply_effect with_machine Known
  reply_known s ns bs e k f =
      let y = session_machine s ns bs in
      let h = s.header in
      let back = machine_back Events (output_line k (event y e).out) (event y e).machine h ns bs
      ((event_lengths y e).nodes ∙ part_length 34 64 h.nodes ns) ((event_lengths y e).buckets ∙ part_length 66 200 h.buckets bs) in
      f ∙ sym (event_sound y e) ∙ ap sound (sym back)

  event_known : (x : Option EventLine) (s : Session) (ns bs : List ℕ) → ok ≡ sound (session_machine s ns bs) → KnownAfter ok (event_effect x s ns bs)
  unfolding event_effect event pools_kept stopped Known
  event_known (Some (Start k call tag)) s ns bs f = reply_known s ns bs (starts k call tag) k f
  event_known (Some (Step k)) s ns bs f = reply_known s ns bs (steps k) k f
  event_known None s ns bs f = refl

  module _ (h : Header) (ns bs : List ℕ) (next : Session → List ℕ → List ℕ → LineEffect)
      (goes_on : (m : State) (w v : List ℕ) → ok ≡ sound (session_machine (session Events h m) w v) → KnownAfter ok (next (session Events h m) w v)) where
    pub open_known : ok ≡ true → KnownAfter ok (open_then h ns bs next)
    unfolding open_then opened_then with_machine part_opening Known
    open_known e = go (eqb o.refusal 0) refl
      where
        o : Opened
        o = opening h.config (node_part h ns) (bucket_part h bs)

        d : LineEffect
        d = with_machine Events [] o.machine h ns bs

        go : (a : Bool) → eqb o.refusal 0 ≡ a
            → KnownAfter ok (if a then next d.session d.nodes d.buckets else with_machine Stopped (refusal_line o.refusal) o.machine h ns bs)
        go true q = goes_on o.machine.state d.nodes d.buckets (e ∙ opened_sound h ns bs (eqb-true o.refusal 0 q))
        go false q = refl

  header_known : (a : HeaderStep) (x : Option EventLine) (s : Session) (ns bs : List ℕ) → ok ≡ true → KnownAfter ok (header_effect a x s ns bs)
  unfolding header_effect silent pools_kept stopped Known
  header_known (Next due h) x s ns bs e = e
  header_known (Complete h) x s ns bs e = open_known h ns bs silent (λ m w v f. f) e
  header_known (Absent h) x s ns bs e = open_known h ns bs (event_effect x) (λ m w v f. event_known x (session Events h m) w v f) e
  header_known Missing x s ns bs e = refl

  phase_known : (p : Phase) (s : Session) (ns bs : List ℕ) (l : InputLine) → s.phase ≡ p → Known ok p (session_machine s ns bs)
      → KnownAfter ok (phase_effect p s ns bs l)
  unfolding phase_effect silent pools_kept Known
  phase_known (Due due) s ns bs l q e = header_known (header_step due s.header l) (parse_event_line l) s ns bs e
  phase_known Events s ns bs l q e = event_known (parse_event_line l) s ns bs e
  phase_known Stopped s ns bs l q e = subst (λ (p : Phase). Known ok p (session_machine s ns bs)) (sym q) refl

  pub line_known : (s : Session) (ns bs : List ℕ) (l : InputLine) → KnownIn ok s ns bs → KnownAfter ok (line_effect s ns bs l)
  unfolding line_effect
  line_known s ns bs l e = phase_known s.phase s ns bs l refl e
