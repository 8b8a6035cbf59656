-- An input of the game, one line at a time over lent pools, and its end: the definitions that the code is held to. That they give the
-- answer of Text (game) is shown in LinesAnswer. Assumes nothing.
use Rattle.std.specs.Prelude.{ℕ, ◌≡◌, List, [], Bool, not, ◌||◌, eqb, if◌then◌else◌, Option, Some, None}
use Rattle.spec.specs.Entries.{opening}
use Rattle.session.specs.declared.Header.{Header}
use Rattle.session.specs.declared.HeaderStep.{HeaderStep}
use Rattle.session.specs.declared.HeaderStep.TheVariants.{Next, Complete, Absent, Missing}
use Rattle.session.specs.Buffer.{buffer, append}
use Rattle.session.specs.Grammar.{InputLine}
use Rattle.session.specs.Header.{optional, header_step}
use Rattle.session.specs.Print.{refusal_line}
use Rattle.session_pools.specs.PoolParts.{node_part, bucket_part}
use Rattle.session_state.specs.declared.Phase.{Phase}
use Rattle.session_state.specs.declared.Phase.TheVariants.{Due, Events, Stopped}
use Rattle.session_state.specs.declared.Session.{Session}
use Rattle.session_state.specs.Handling.{session, new_session, reads_events, LineEffect, session_machine, with_machine, line_effect}
use Rattle.game.specs.Game.{verdict}
use Rattle.game.specs.Text.{verdict_line, parse_game_line}
use Rattle.std.specs.declared.option.Option.{Option}
use Rattle.std.specs.declared.option.Option.TheVariants.{Some, None}
use Rattle.game_text.specs.declared.Standing.{Standing}

abbrev pub standing : Session → ℕ → Option ℕ → Standing
standing s r a = record { session = s; refused = r; asked = a }

unfoldable pub new_standing : Standing
new_standing = standing new_session 0 None

unfoldable pub refused_with : ℕ → Standing → Standing
refused_with r t = standing t.session r t.asked

-- where the input stands, and what the lent pools hold
pub record Place : Type 0 where
  pub standing : Standing
  pub nodes : List ℕ
  pub buckets : List ℕ

abbrev pub place : Standing → List ℕ → List ℕ → Place
place t ns bs = record { standing = t; nodes = ns; buckets = bs }

abbrev pub refusing : ℕ → Place → Place
refusing r p = place (refused_with r p.standing) p.nodes p.buckets

-- ---- a line

-- the opening over the session's part of the pools
unfoldable pub opened : Header → List ℕ → List ℕ → Place
opened h ns bs =
    let o = opening h.config (node_part h ns) (bucket_part h bs) in
    let d = with_machine Events [] o.machine h ns bs in
    place (standing d.session o.refusal None) d.nodes d.buckets

-- a line that the session handled: where it reads no more events the line was outside the grammar
unfoldable pub after_event : LineEffect → Place
after_event d = place (standing d.session (if reads_events d.session.phase then 0 else 10) None) d.nodes d.buckets

unfoldable pub take_event : Place → InputLine → Place
take_event p l = after_event (line_effect p.standing.session p.nodes p.buckets l)

-- a line after the header: N of a game's line, or an event's
unfoldable pub take_unasked : Option ℕ → Place → InputLine → Place
take_unasked (Some n) p l = place (standing p.standing.session 0 (Some n)) p.nodes p.buckets
take_unasked None p l = take_event p l

unfoldable pub take_asked : Option ℕ → Place → InputLine → Place
take_asked None p l = take_unasked (parse_game_line l) p l
take_asked (Some n) p l = refusing 10 p

unfoldable pub take_turn : Place → InputLine → Place
take_turn p l = take_asked p.standing.asked p l

-- a line where a header line is due
unfoldable pub if_opened : Place → InputLine → Place
if_opened p l = if eqb p.standing.refused 0 then take_turn p l else p

unfoldable pub header_taken : HeaderStep → Place → InputLine → Place
header_taken (Next due h) p l = place (standing (session (Due due) h p.standing.session.state) 0 None) p.nodes p.buckets
header_taken (Complete h) p l = opened h p.nodes p.buckets
header_taken (Absent h) p l = if_opened (opened h p.nodes p.buckets) l
header_taken Missing p l = refusing 10 p

-- by where the session stands; after a refusal nothing is read
unfoldable pub phase_taken : Phase → Place → InputLine → Place
phase_taken (Due due) p l = header_taken (header_step due p.standing.session.header l) p l
phase_taken Events p l = take_turn p l
phase_taken Stopped p l = refusing 10 p

unfoldable pub on_line : Place → InputLine → Place
on_line p l = if eqb p.standing.refused 0 then phase_taken p.standing.session.phase p l else p

-- ---- the end of the input

unfoldable pub asked_at_end : Bool → Standing → Option ℕ
asked_at_end closed t = if not closed || not (eqb t.refused 0) then None else t.asked

-- the opening's refusal, or else 10
unfoldable pub judged : ℕ → ℕ
judged why = if eqb why 0 then 10 else why

-- the number with which an input without a game is refused, by where the session stands. Where a header line that may be left out is due, the
-- opening is judged and not made: nothing would be played after it
unfoldable pub phase_refusal : Phase → Place → ℕ
phase_refusal (Due due) p =
    let h = p.standing.session.header in
    if optional due then judged (opening h.config (node_part h p.nodes) (bucket_part h p.buckets)).refusal else 10
phase_refusal Events p = 10
phase_refusal Stopped p = 10

unfoldable pub end_refusal : Place → ℕ
end_refusal p = if eqb p.standing.refused 0 then phase_refusal p.standing.session.phase p else p.standing.refused

-- the game's answer, or the refusal
unfoldable pub end_line : Option ℕ → Place → List ℕ
end_line (Some n) p = verdict_line (verdict n (session_machine p.standing.session p.nodes p.buckets))
end_line None p = refusal_line (end_refusal p)

-- what is printed at the end, and what the lent pools hold
pub record Ending : Type 0 where
  pub nodes : List ℕ
  pub buckets : List ℕ
  pub prints : List ℕ

-- the end keeps every word of both pools
unfoldable pub ends_as : Option ℕ → Place → Ending
ends_as a p = record { nodes = p.nodes; buckets = p.buckets; prints = end_line a p }

-- ---- what the code is held to: what it gives, what it leaves in the pools, and what it appended to the buffer that held `before` and then
-- holds `after`

pub record StandsAt (p : Place) (t : Standing) (ns bs : List ℕ) : Type 0 where
  pub next : t ≡ p.standing
  pub nodes : ns ≡ p.nodes
  pub buckets : bs ≡ p.buckets

pub record EndsAt (e : Ending) (count : ℕ) (ns bs before after : List ℕ) : Type 0 where
  pub nodes : ns ≡ e.nodes
  pub buckets : bs ≡ e.buckets
  pub wrote : buffer after count ≡ append e.prints (buffer before 0)
