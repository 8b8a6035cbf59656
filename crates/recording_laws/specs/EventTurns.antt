-- A line that is an event's in a session is closed, and an event's for the reader too: `event_turned`. For no event line starts with
-- `size=`. Assumes nothing.
use Rattle.std.specs.Prelude.{◌≡◌, refl, List, [], ◌∷◌, Bool, true, false, ◌&&◌, ℕ, eqb, leb, length, if◌then◌else◌, Option, None}
use Rattle.std.proofs.Common.{sym, ap, ◌∙◌, arith, eqb-true, ne_eqb}
use Rattle.laws.specs.Tests.{tf, and_left, and_right, and_never}
use Rattle.session.specs.declared.EventLine.{EventLine}
use Rattle.session.specs.Keys.{size_key}
use Rattle.session.specs.Grammar.{InputLine, closed_line, starts_with, parse_event, admissible, parse_event_line}
use Rattle.session.specs.Transcript.{is_event}
use Rattle.recording_laws.specs.ClosedLines.{closed_again}
use Rattle.recording.specs.Verdict.{event_turn, turn}

-- `step=` and `start=` begin with the bytes 115, 116, and `size=` with 115, 105
other_key : (key s : List ℕ) → starts_with size_key s ≡ true → starts_with (115 ∷ 116 ∷ key) s ≡ false
unfolding starts_with
other_key key [] e = refl
other_key key (a ∷ []) e = absurd (tf (and_right (eqb a 115) false e) refl)
other_key key (a ∷ b ∷ s) e =
    let h = and_left (eqb b 105) (starts_with (122 ∷ 101 ∷ 61 ∷ []) s) (and_right (eqb a 115) (eqb b 105 && starts_with (122 ∷ 101 ∷ 61 ∷ []) s) e) in
    let i : b ≡ 105 = eqb-true b 105 h in
    let d : b ≡ 116 → ⊥ = λ q. omega arith in
    and_never (eqb a 115) (eqb b 116 && starts_with key s) (λ c. rw (ne_eqb b 116 d))

size_outside : (s : List ℕ) → starts_with size_key s ≡ true → parse_event s ≡ None
unfolding parse_event
size_outside s e = rw (other_key (101 ∷ 112 ∷ 61 ∷ []) s e, other_key (97 ∷ 114 ∷ 116 ∷ 61 ∷ []) s e)

pub record EventTurned (l : InputLine) (x : Option EventLine) : Type 0 where
  pub closed : closed_line l.bytes ≡ l
  pub turned : turn l ≡ event_turn x

no_event : {A : Type 0} {x : Option EventLine} → None ≡ x → is_event x ≡ true → A
unfolding is_event
no_event p e = absurd (tf (ap is_event p ∙ e) refl)

pub event_turned : (l : InputLine) (x : Option EventLine) → parse_event_line l ≡ x → is_event x ≡ true → EventTurned l x
unfolding parse_event_line admissible turn
event_turned l x p e = go (admissible l) refl p
  where
    go : (b : Bool) → admissible l ≡ b → (if b then parse_event l.bytes else None) ≡ x → EventTurned l x
    go true a q = record { closed = closed_again l (closed_of a); turned = sized (starts_with size_key l.bytes) refl }
      where
        closed_of : admissible l ≡ true → l.closed ≡ true
        closed_of h = and_left l.closed (leb (length l.bytes) 40) h

        sized : (c : Bool) → starts_with size_key l.bytes ≡ c → turn l ≡ event_turn x
        sized true h = no_event (sym (size_outside l.bytes h) ∙ q) e
        sized false h = rw (closed_of a, h, and_right l.closed (leb (length l.bytes) 40) a) (ap event_turn q)
    go false a q = no_event q e
