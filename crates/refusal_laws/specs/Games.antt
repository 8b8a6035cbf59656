-- The refusals of lane against office as text (paper 02, U14), of any bytes: a table of them, each with its condition, and that one is printed exactly
-- if the table has it (`game_refused`). When a verdict is 8 or 16 is said in `game/Theorems`. Assumes nothing.
use Rattle.std.specs.Prelude.{ℕ, ◌<◌, ◌≡◌, Bool, true, false, ◌↔◌, eqb, get_or, if◌then◌else◌, Option, Some, None}
use Rattle.std.proofs.Math.Path.{refl}
use Rattle.std.proofs.Common.{ap, arith}
use mathlib.Core.List.{List, [], ◌∷◌}
use borrow.Author.Tests.{eqb-true, eqb-false, eq-eqb, ne_eqb}
use Rattle.spec.specs.Schedule.{Event, run}
use Rattle.session.specs.declared.EventLine.{EventLine}
use Rattle.session.specs.declared.EventLine.TheVariants.{Start, Step}
use Rattle.session.specs.Grammar.{InputLine, input_lines, parse_event_line}
use Rattle.session.specs.Header.{HeaderRead, complete, incomplete, read_header}
use Rattle.session.specs.Print.{refusal_line}
use Rattle.recording_laws.specs.OpeningConditions.{HeaderRefused, header_refused}
use Rattle.mattered_laws.specs.Refusals.{Headed, opened, Opens}
use Rattle.game.specs.declared.LanesMove.TheVariants.{StepTask0, StepTask1, LanesPass}
use Rattle.game.specs.declared.Verdict.{Verdict}
use Rattle.game.specs.declared.Verdict.TheVariants.{LanesWin, OfficeHolds, Refused}
use Rattle.game.specs.Game.{winning_move, plies, verdict}
use Rattle.game.specs.Text.{move_word, verdict_line, parse_game_line, Asked, asks, outside, first_event, event_then, game_then, line_then, asked}
use Rattle.game.specs.Text.{game_line, opened_line, header_line, lines_answer, game_answer}
use Rattle.game.specs.Theorems.{VerdictOf, spoilt, none_here, played, verdict_outcome}
use Rattle.game.proofs.Theorems.{never_refused}
use Rattle.refusal_laws.specs.LastLine.{Outcome, refuses, prints, refused_by, begins}
use Rattle.refusal_laws.specs.Sessions.{NoEvent, opening_number}

-- ---- lines that ask for no game

pub data NoGameAsked : List InputLine → Type 0 where
  -- there is no game's line
  missing : NoGameAsked []
  -- a line before it is outside the grammar: neither a game's nor an event's
  line_outside : {l : InputLine} {ls : List InputLine} → parse_game_line l ≡ None → NoEvent l → NoGameAsked (l ∷ ls)
  -- one stands behind it
  line_behind : {n : ℕ} {l k : InputLine} {ls : List InputLine} → parse_game_line l ≡ Some n → NoGameAsked (l ∷ k ∷ ls)
  later : {l : InputLine} {ls : List InputLine} → parse_game_line l ≡ None → NoGameAsked ls → NoGameAsked (l ∷ ls)

other : {A : Type 0} → ◌≡◌ {A = ℕ} 0 1 → A
other z = absurd (omega arith)

not_asked : (ls : List InputLine) → asked ls ≡ outside → NoGameAsked ls
unfolding asked line_then event_then first_event game_then
not_asked [] e = missing
not_asked (l ∷ ls) e = at_line (parse_game_line l) refl e (not_asked ls)
  where
    at_event : parse_game_line l ≡ None → (x : Option EventLine) → parse_event_line l ≡ x → (a : Asked) → asked ls ≡ a → event_then x a ≡ outside
        → (asked ls ≡ outside → NoGameAsked ls) → NoGameAsked (l ∷ ls)
    at_event g x q outside p t ih = later g (ih p)
    at_event g None q (asks es n) p t ih = line_outside g q
    at_event g (Some (Start k call tag)) q (asks es n) p t ih = other cc
    at_event g (Some (Step k)) q (asks es n) p t ih = other cc

    behind : {n : ℕ} → parse_game_line l ≡ Some n → (ks : List InputLine) → game_then n ks ≡ outside → NoGameAsked (l ∷ ks)
    behind q [] t = other cc
    behind q (k ∷ ks) t = line_behind q

    at_line : (d : Option ℕ) → parse_game_line l ≡ d → line_then d l ls (asked ls) ≡ outside → (asked ls ≡ outside → NoGameAsked ls) → NoGameAsked (l ∷ ls)
    at_line (Some n) q t ih = behind q ls t
    at_line None q t ih = at_event q (parse_event_line l) refl (asked ls) refl t ih

then_outside : (x : Option EventLine) → event_then x outside ≡ outside
unfolding event_then first_event
then_outside (Some (Start k call tag)) = refl
then_outside (Some (Step k)) = refl
then_outside None = refl

asked_none : {ls : List InputLine} → NoGameAsked ls → asked ls ≡ outside
unfolding asked line_then event_then game_then
asked_none missing = refl
asked_none (line_outside g q) = rw (g, q)
asked_none (line_behind q) = rw q
asked_none (later {l = l} g a) = rw (g, asked_none a) (then_outside (parse_event_line l))

-- a move and `office` begin with another byte than a refusal
move_begins : (v : Verdict) → ((r : ℕ) → ¬ (v ≡ Refused r)) → ¬ (get_or (verdict_line v) 0 0 ≡ 114)
unfolding verdict_line move_word
move_begins (LanesWin StepTask0) d e = let z : ◌≡◌ {A = ℕ} 108 114 = e in omega arith
move_begins (LanesWin StepTask1) d e = let z : ◌≡◌ {A = ℕ} 108 114 = e in omega arith
move_begins (LanesWin LanesPass) d e = let z : ◌≡◌ {A = ℕ} 108 114 = e in omega arith
move_begins OfficeHolds d e = let z : ◌≡◌ {A = ℕ} 111 114 = e in omega arith
move_begins (Refused r) d e = d r refl

-- ---- the table

module _ (input : List ℕ) where
  pub data GameRefused (r : ℕ) : Type 0 where
    -- "Input without three full header lines is 10."
    headless : r ≡ 10 → read_header (input_lines input) ≡ incomplete → GameRefused r
    -- the opening's 1, 2, 3 and 11, by the header's numbers, whatever stands behind it
    not_opening : (h : Headed input) → HeaderRefused h.header r → GameRefused r
    -- "10, a line outside the grammar, too long or not closed": no events and then one game
    no_game : r ≡ 10 → (h : Headed input) → Opens h → NoGameAsked h.rest → GameRefused r
    -- 8 and 16, after the events and for the N that are asked for
    by_verdict : (h : Headed input) → Opens h → (es : List Event) (n : ℕ) → asked h.rest ≡ asks es n
        → verdict n (run (opened h).machine es).machine ≡ Refused r → GameRefused r

  outcome : Outcome GameRefused (game_answer input)
  unfolding game_answer lines_answer header_line opened_line game_line verdict_line
  outcome = at_header (read_header (input_lines input)) refl
    where
      at_verdict : (h : Headed input) → Opens h → (es : List Event) (n : ℕ) → asked h.rest ≡ asks es n
          → {v : Verdict} → VerdictOf n (run (opened h).machine es).machine v → verdict n (run (opened h).machine es).machine ≡ v
          → Outcome GameRefused (verdict_line v)
      at_verdict h z es n a (spoilt p) q = refuses 8 (omega arith) (by_verdict h z es n a q)
      at_verdict h z es n a (none_here p g) q = refuses 16 (omega arith) (by_verdict h z es n a q)
      at_verdict h z es n a (played p g) q =
          let y = (run (opened h).machine es).machine in
          prints (begins _ (move_begins (winning_move (plies n) y) (never_refused (plies n) y)))

      at_lines : (h : Headed input) → Opens h → (k : Asked) → asked h.rest ≡ k → Outcome GameRefused (game_line (opened h).machine k)
      at_lines h z outside a = refuses 10 (omega arith) (no_game refl h z (not_asked h.rest a))
      at_lines h z (asks es n) a = at_verdict h z es n a (verdict_outcome n (run (opened h).machine es).machine) refl

      at_opening : (h : Headed input) → (c : Bool) → eqb (opened h).refusal 0 ≡ c
          → Outcome GameRefused (if c then game_line (opened h).machine (asked h.rest) else refusal_line (opened h).refusal)
      at_opening h true q = at_lines h (eqb-true _ _ q) (asked h.rest) refl
      at_opening h false q =
          let x = (header_refused h.header (opened h).refusal (eqb-false _ _ q)).0 refl in
          let n = opening_number x in
          refuses (opened h).refusal (omega arith) (not_opening h x)

      at_header : (k : HeaderRead) → read_header (input_lines input) ≡ k → Outcome GameRefused (header_line k)
      at_header incomplete q = refuses 10 (omega arith) (headless refl q)
      at_header (complete g ls) q =
          let h : Headed input = record { header = g; rest = ls; read = q } in
          at_opening h (eqb (opened h).refusal 0) refl

  -- a refusal is printed exactly if the table has it: so no other
  pub game_refused : (r : ℕ) → r < 100 → (game_answer input ≡ refusal_line r) ↔ GameRefused r
  unfolding game_answer lines_answer header_line opened_line game_line verdict_line
  game_refused r b = (refused_by outcome r b, from)
    where
      from : GameRefused r → game_answer input ≡ refusal_line r
      from (headless e q) = rw e (ap header_line q)
      from (not_opening h x) = let d = (opening_number x).1 in rw (h.read, (header_refused h.header r d).1 x, ne_eqb _ _ d)
      from (no_game e h z a) = rw (e, h.read, eq-eqb _ _ z, asked_none a)
      from (by_verdict h z es n a v) = rw (h.read, eq-eqb _ _ z, a, v)
