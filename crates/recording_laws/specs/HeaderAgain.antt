-- A header's lines, with other lines behind them, are taken again as the same header: `header_again`. Where the last header line was
-- left out, the line behind must not be that line: it is the one that stood there, or starts with `size=`, or there is none. Assumes nothing.
use Rattle.std.specs.Prelude.{◌≡◌, refl, List, [], ◌∷◌, ◌++◌, Bool, true, false, ℕ, if◌then◌else◌}
use Rattle.std.proofs.Common.{sym, ap, ◌∙◌, arith}
use Rattle.spec.specs.Lists.{every}
use Rattle.laws.specs.Tests.{and2}
use Rattle.session.specs.declared.Header.{Header}
use Rattle.session.specs.declared.HeaderLine.{HeaderLine}
use Rattle.session.specs.declared.HeaderLine.TheVariants.{Tasks}
use Rattle.session.specs.declared.HeaderStep.{HeaderStep}
use Rattle.session.specs.declared.HeaderStep.TheVariants.{Next, Absent}
use Rattle.session.specs.Keys.{size_key}
use Rattle.session.specs.Grammar.{InputLine, input_lines, starts_with}
use Rattle.session.specs.Header.{empty_header, optional, header_step}
use Rattle.recording.specs.Header.{HeaderTaken, taken, not_taken, with_line, after_step, take_from, take_header}
use Rattle.recording_laws.specs.HeaderLaws.{HeaderKnown, goes_on, last_taken, left_out, missing, header_known, size_step}
use Rattle.recording_laws.specs.ClosedLines.{Clean, none_clean, line_clean, plain_line, lines_plain}

-- lines ms may stand in the place of `rest`, which stood behind the header
pub data Behind (rest : List InputLine) : List InputLine → Type 0 where
  no_line : Behind rest []
  same_line : {l : InputLine} {ls ms : List InputLine} → rest ≡ l ∷ ls → Behind rest (l ∷ ms)
  size_line : {l : InputLine} {ms : List InputLine} → starts_with size_key l.bytes ≡ true → Behind rest (l ∷ ms)

pub record HeaderAgain (ls : List InputLine) (due : HeaderLine) (h : Header) (own : List InputLine) (h' : Header) (rest : List InputLine) : Type 0 where
  pub joined : ls ≡ own ++ rest
  pub clean : Clean own
  pub plain : every plain_line rest ≡ true
  pub again : (ms : List InputLine) → Behind rest ms → take_from (own ++ ms) due h ≡ taken own h' ms

pub data TakenAs (ls : List InputLine) (due : HeaderLine) (h : Header) : HeaderTaken → Type 0 where
  is_taken : {own : List InputLine} {h' : Header} {rest : List InputLine} → HeaderAgain ls due h own h' rest → TakenAs ls due h (taken own h' rest)
  is_none : {r : ℕ} → TakenAs ls due h (not_taken r)

-- ---- the header ends where the line due is left out

module _ (due : HeaderLine) (h : Header) (o : optional due ≡ true) where
  none_again : take_from [] due h ≡ taken [] h []
  unfolding take_from
  none_again = rw o

  line_again : (l : InputLine) (ls : List InputLine) → header_step due h l ≡ Absent h → take_from (l ∷ ls) due h ≡ taken [] h (l ∷ ls)
  unfolding take_from after_step
  line_again l ls e = rw e

  -- `rest` stood there, where nothing says that its first line is the line due
  left_out_again : (rest : List InputLine) → ((l : InputLine) (ls : List InputLine) → rest ≡ l ∷ ls → header_step due h l ≡ Absent h)
      → (ms : List InputLine) → Behind rest ms → take_from ms due h ≡ taken [] h ms
  left_out_again rest stood ms no_line = none_again
  left_out_again rest stood ms (same_line {l = l} {ls = ls} {ms = later} e) = line_again l later (stood l ls e)
  left_out_again rest stood ms (size_line {l = l} {ms = later} e) = line_again l later (size_step due h l o e)

-- ---- a header's lines

first_again : {l m : InputLine} {ls ms : List InputLine} → l ∷ ls ≡ m ∷ ms → l ≡ m
first_again e = cc

end_again : (due : HeaderLine) (h : Header) (b : Bool) → optional due ≡ b → TakenAs [] due h (if b then taken [] h [] else not_taken 12)
unfolding every
end_again due h true o =
    is_taken (record {
      joined = refl;
      clean = none_clean;
      plain = refl;
      again = left_out_again due h o [] (λ l ls e. absurd (no_lines e));
    })
  where
    no_lines : {l : InputLine} {ls : List InputLine} → [] ≡ l ∷ ls → ⊥
    no_lines e = let z : ◌≡◌ {A = ℕ} 0 1 = cc in omega arith
end_again due h false o = is_none

header_from : (ls : List InputLine) → every plain_line ls ≡ true → (due : HeaderLine) (h : Header) → TakenAs ls due h (take_from ls due h)
unfolding every take_from after_step with_line plain_line
header_from [] p due h = end_again due h (optional due) refl
header_from (l ∷ ls) p due h = go (λ due' h'. header_from ls q.1 due' h') (header_step due h l) refl (header_known due h l)
  where
    q : (plain_line l ≡ true) × (every plain_line ls ≡ true)
    q = and2 (plain_line l) (every plain_line ls) p

    -- what line l and the lines after it come to, for any lines in the place of those
    after : HeaderStep → List InputLine → HeaderTaken
    after d ms = after_step d (λ due' h'. take_from ms due' h') l ms

    longer : (due' : HeaderLine) (h' : Header) → header_step due h l ≡ Next due' h' → l.closed ≡ true → (t : HeaderTaken) → TakenAs ls due' h' t
        → TakenAs (l ∷ ls) due h (with_line l t)
    longer due' h' s c t (is_taken {own = own} {h' = k} a) =
        is_taken (record {
          joined = ap (λ (ms : List InputLine). l ∷ ms) a.joined;
          clean = line_clean c q.0 a.clean;
          plain = a.plain;
          again = λ ms b. ap (λ (d : HeaderStep). after d (own ++ ms)) s ∙ ap (with_line l) (a.again ms b);
        })
    longer due' h' s c t is_none = is_none

    go : ((due' : HeaderLine) (h' : Header) → TakenAs ls due' h' (take_from ls due' h')) → (d : HeaderStep) → header_step due h l ≡ d
        → HeaderKnown due h l d → TakenAs (l ∷ ls) due h (after d ls)
    go ih d s (goes_on {due' = due'} {h' = h'} t e) = longer due' h' s t.closed (take_from ls due' h') (ih due' h')
    go ih d s (last_taken t) =
        is_taken (record {
          joined = refl;
          clean = line_clean t.closed q.0 none_clean;
          plain = q.1;
          again = λ ms b. ap (λ (x : HeaderStep). after x ms) s;
        })
    go ih d s (left_out o) =
        is_taken (record {
          joined = refl;
          clean = none_clean;
          plain = p;
          again = left_out_again due h o (l ∷ ls) (λ m ms e. ap (header_step due h) (sym (first_again e)) ∙ s);
        })
    go ih d s (missing o) = is_none

pub header_again : (input : List ℕ) → TakenAs (input_lines input) Tasks empty_header (take_header (input_lines input))
unfolding take_header
header_again input = header_from (input_lines input) (lines_plain input) Tasks empty_header
