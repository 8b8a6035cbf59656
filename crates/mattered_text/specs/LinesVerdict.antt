-- Taken one after the other, with at least 1,024 words for events, whatever these hold, the lines of a session give its verdict:
-- `lines_give_verdict`. Assumes nothing.
use Rattle.std.specs.Prelude.{ℕ, ◌+◌, ◌≤◌, min, ◌≡◌, Bool, not, ◌&&◌, eqb, length, if◌then◌else◌, Option, Some, None}
use Rattle.std.proofs.Math.Path.{refl, ap}
use Rattle.std.proofs.Common.{sym, ◌∙◌, arith}
use mathlib.Core.List.{List, [], ◌∷◌, ◌++◌, append_assoc, append-nil}
use Rattle.std.proofs.Math.Bool.{true, false}
use Rattle.std.proofs.lemmas.Bool.{not-true}
use Rattle.spec.specs.declared.Call.{Call}
use Rattle.spec.specs.declared.Call.TheVariants.{Insert, Remove, Contains, Grow, Shrink}
use Rattle.spec.specs.Numbers.{call_number}
use Rattle.spec.specs.Entries.{Opened}
use Rattle.spec.specs.Schedule.{Event, starts, steps}
use Rattle.schedule_events.specs.Events.{event_of, events_of}
use Rattle.session.specs.declared.EventLine.{EventLine}
use Rattle.session.specs.declared.EventLine.TheVariants.{Start, Step}
use Rattle.session.specs.declared.Header.{Header}
use Rattle.session.specs.declared.HeaderLine.{HeaderLine}
use Rattle.session.specs.declared.HeaderLine.TheVariants.{Tasks}
use Rattle.session.specs.declared.HeaderStep.{HeaderStep}
use Rattle.session.specs.declared.HeaderStep.TheVariants.{Next, Complete, Absent, Missing}
use Rattle.session.specs.Grammar.{InputLine, parse_event_line}
use Rattle.session.specs.Header.{empty_header, optional, header_step, complete, incomplete, after_step, read_from, read_header}
use Rattle.session.specs.Transcript.{add_event, events, is_event, all_events, session_opening}
use Rattle.session_state.specs.declared.Phase.TheVariants.{Due, Events, Stopped}
use Rattle.mattered.specs.declared.Verdict.{Verdict}
use Rattle.mattered.specs.declared.Verdict.TheVariants.{Refused}
use Rattle.mattered.specs.SessionVerdict.{events_verdict, events_lines_verdict, opened_verdict, header_verdict, lines_verdict}
use Rattle.mattered_run.specs.Judged.{opened_events_verdict}
use Rattle.mattered_standing.specs.Standings.{standing, new_standing, after_event, after_header}
use Rattle.mattered_text.specs.Reading.{Place, place, event_words, stored, after_line, on_line}
use Rattle.mattered_text.specs.Reading.{header_complete, opened_says, said_at_end}
use Rattle.mattered_text.specs.KeptEvents.{words_length, Keeps, keeps_none, keeps_more, kept_verdict}

unfoldable pub after_lines : Place → List InputLine → Place
after_lines p [] = p
after_lines p (l ∷ ls) = after_lines (on_line p l) ls

-- ---- what is said after an opening

-- the lines after the header, all of them
says_lines : (o : Opened) (ls : List InputLine) → opened_says o (not (all_events ls)) (events ls) ≡ opened_verdict o ls
unfolding opened_says opened_events_verdict opened_verdict events_lines_verdict
says_lines o ls = go (all_events ls) (eqb o.refusal 0)
  where
    go : (a b : Bool)
        → (if not a then (if b then Refused 10 else Refused o.refusal) else if b then events_verdict o.machine (events ls) else Refused o.refusal)
        ≡ (if b then (if a then events_verdict o.machine (events ls) else Refused 10) else Refused o.refusal)
    go true true = refl
    go true false = refl
    go false true = refl
    go false false = refl

-- what is said of kept events
says_kept : (o : Opened) (n : ℕ) (w : List ℕ) (es : List Event) → Keeps n w es → opened_says o false (events_of n w) ≡ opened_says o false es
unfolding opened_says opened_events_verdict
says_kept o n w es k = ap (λ (v : Verdict). if eqb o.refusal 0 then v else Refused o.refusal) (kept_verdict o.machine n w es k)

-- the words of a start are that start's
start_words : (k : ℕ) (call : Call) (tag : ℕ) → event_of (call_number call) k tag ≡ starts k call tag
unfolding event_of
start_words k Insert tag = refl
start_words k Remove tag = refl
start_words k Contains tag = refl
start_words k Grow tag = refl
start_words k Shrink tag = refl

step_words : (k : ℕ) → event_of 0 k 0 ≡ steps k
unfolding event_of
step_words k = refl

abbrev pub answered : Place → List InputLine → Verdict
answered p ls = said_at_end true (after_lines p ls)

-- ---- the lines after the header

module _ (h : Header) where
  abbrev opened : Opened
  opened = session_opening h

  -- one was outside the grammar
  pub outside_answered : (ls : List InputLine) (n : ℕ) (w : List ℕ) → answered (place (standing Events h true n) w) ls ≡ opened_says opened true []
  unfolding after_lines on_line after_line after_event is_event said_at_end header_complete opened_says
  outside_answered [] n w = refl
  outside_answered (l ∷ ls) n w = go (λ m v. outside_answered ls m v) (parse_event_line l)
    where
      go : ((m : ℕ) (v : List ℕ) → answered (place (standing Events h true m) v) ls ≡ opened_says opened true []) → (x : Option EventLine)
          → answered (place (after_event (is_event x) h true n) (stored w n (event_words x))) ls ≡ opened_says opened true []
      go ih (Some (Start k call tag)) = ih _ _
      go ih (Some (Step k)) = ih _ _
      go ih None = ih _ _

  -- the opening was refused
  module _ (r : not (eqb opened.refusal 0) ≡ true) where
    pub refused_answered : (ls : List InputLine) (outside : Bool) (n : ℕ) (w : List ℕ)
        → answered (place (standing Events h outside n) w) ls ≡ Refused opened.refusal
    unfolding after_lines on_line after_line after_event said_at_end header_complete opened_says opened_events_verdict
    refused_answered [] true n w = rw (not-true (eqb opened.refusal 0) r)
    refused_answered [] false n w = rw (not-true (eqb opened.refusal 0) r)
    refused_answered (l ∷ ls) outside n w = go (λ o m v. refused_answered ls o m v) (is_event (parse_event_line l))
      where
        x : Option EventLine
        x = parse_event_line l

        go : ((o : Bool) (m : ℕ) (v : List ℕ) → answered (place (standing Events h o m) v) ls ≡ Refused opened.refusal) → (b : Bool)
            → answered (place (after_event b h outside n) (stored w n (event_words x))) ls ≡ Refused opened.refusal
        go ih true = ih _ _ _
        go ih false = ih _ _ _

  -- none was so far
  abbrev Answers : List InputLine → Type 0
  Answers ls =
      (n : ℕ) (w : List ℕ) (es : List Event) → Keeps n w es
      → answered (place (standing Events h false n) w) ls ≡ opened_says opened (not (all_events ls)) (es ++ events ls)

  module _ (ls : List InputLine) (ih : Answers ls) (n : ℕ) (w : List ℕ) (es : List Event) (k : Keeps n w es) where
    event_answered : (a b c : ℕ) (e : Event) → event_of a b c ≡ e
        → answered (place (standing Events h false (min 257 (n + 1))) (stored w n (a ∷ b ∷ c ∷ 0 ∷ []))) ls
        ≡ opened_says opened (not (all_events ls)) (es ++ (e ∷ events ls))
    event_answered a b c e same =
        ih (min 257 (n + 1)) _ (es ++ (event_of a b c ∷ [])) (keeps_more n w es k a b c)
        ∙ ap (opened_says opened (not (all_events ls))) (append_assoc es (event_of a b c ∷ []) (events ls))
        ∙ ap (λ (x : Event). opened_says opened (not (all_events ls)) (es ++ (x ∷ events ls))) same

    line_answered : (x : Option EventLine)
        → answered (place (after_event (is_event x) h false n) (stored w n (event_words x))) ls
        ≡ opened_says opened (not (is_event x && all_events ls)) (es ++ add_event x (events ls))
    unfolding after_event event_words opened_says is_event add_event
    line_answered (Some (Start t call tag)) = event_answered (call_number call) t tag (starts t call tag) (start_words t call tag)
    line_answered (Some (Step t)) = event_answered 0 t 0 (steps t) (step_words t)
    line_answered None = outside_answered ls n _

  events_answered : (ls : List InputLine) → Answers ls
  unfolding after_lines on_line after_line said_at_end header_complete all_events events
  events_answered [] n w es k = says_kept opened n w es k ∙ ap (opened_says opened false) (sym (append-nil es))
  events_answered (l ∷ ls) n w es k = line_answered ls (events_answered ls) n w es k (parse_event_line l)

-- ---- the header, whichever line is due: what its next line says decides

opened_answered : (h : Header) (ls : List InputLine) (w : List ℕ) → 1024 ≤ length w
    → answered (place (standing Events h false 0) w) ls ≡ opened_verdict (session_opening h) ls
opened_answered h ls w fits = events_answered h ls 0 w [] (keeps_none w fits) ∙ says_lines (session_opening h) ls

-- whatever was counted and kept
pub stopped_answered : (h : Header) (ls : List InputLine) (outside : Bool) (n : ℕ) (w : List ℕ)
    → answered (place (standing Stopped h outside n) w) ls ≡ Refused 10
unfolding after_lines on_line after_line said_at_end header_complete
stopped_answered h [] outside n w = refl
stopped_answered h (l ∷ ls) outside n w = stopped_answered h ls outside n _

-- what is said of header lines
abbrev Headed : List InputLine → Type 0
Headed ls =
    (due : HeaderLine) (h : Header) (w : List ℕ) → 1024 ≤ length w → answered (place (standing (Due due) h false 0) w) ls ≡ header_verdict (read_from ls due h)

header_answered : (ls : List InputLine) → Headed ls
unfolding after_lines on_line after_line after_header said_at_end header_complete read_from after_step header_verdict
header_answered [] due h w fits = go (optional due)
  where
    go : (b : Bool) → (if b then opened_says (session_opening h) false (events_of 0 w) else Refused 10)
        ≡ header_verdict (if b then complete h [] else incomplete)
    go true = opened_answered h [] w fits
    go false = refl
header_answered (l ∷ ls) due h w fits = go (header_answered ls) (header_step due h l)
  where
    x : Option EventLine
    x = parse_event_line l

    next : List ℕ
    next = stored w 0 (event_words x)

    next_fits : 1024 ≤ length next
    next_fits = omega (arith, words_length w 0 x, fits)

    go : Headed ls → (a : HeaderStep)
        → answered (place (after_header a h (is_event x)) next) ls ≡ header_verdict (after_step a (λ due' h'. read_from ls due' h') l ls)
    go ih (Next due' h') = ih due' h' next next_fits
    go ih (Complete h') = opened_answered h' ls next next_fits
    go ih (Absent h') = opened_answered h' (l ∷ ls) w fits
    go ih Missing = stopped_answered h ls false 0 next

pub lines_give_verdict : (w : List ℕ) → 1024 ≤ length w → (ls : List InputLine) → answered (place new_standing w) ls ≡ lines_verdict ls
unfolding new_standing lines_verdict read_header
lines_give_verdict w fits ls = header_answered ls Tasks empty_header w fits
