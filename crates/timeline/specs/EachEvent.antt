-- Each event has its row, accepted or refused, and each row is one line: `event_row` says which, `row_is_one_line` that it has one byte 10, and
-- `as_many_rows` that so many events print as many lines. Assumes nothing.
use Rattle.std.specs.Prelude.{◌≡◌, List, [], ◌∷◌, ◌++◌, Bool, true, false, ℕ, zero, suc, ◌+◌, ◌/◌, ◌%◌, min, eqb, ltb, length, get_or, if◌then◌else◌, Option, Some, None, Ok, Err}
use Rattle.std.proofs.Math.Path.{refl, ap, subst}
use Rattle.std.proofs.Common.{sym, ◌∙◌, arith, ne_eqb}
use Rattle.spec.specs.declared.Answer.{Answer}
use Rattle.spec.specs.declared.Answer.TheVariants.{Yes, No, Full, Done, Lost, Limit}
use Rattle.spec.specs.declared.Call.{Call}
use Rattle.spec.specs.Outputs.{Output}
use Rattle.spec.specs.declared.Progress.TheVariants.{At, End}
use Rattle.spec.specs.declared.State.{State}
use Rattle.spec.specs.declared.Task.{Task}
use Rattle.spec.specs.Machine.{idle}
use Rattle.spec.specs.Schedule.{Event, starts, steps, event}
use Rattle.spec.specs.Numbers.{refusal_number}
use Rattle.laws.specs.Tests.{tf, and_left, and_right}
use Rattle.session.specs.declared.EventLine.{EventLine}
use Rattle.session.specs.declared.EventLine.TheVariants.{Start, Step}
use Rattle.session.specs.Grammar.{InputLine, parse_event_line}
use Rattle.session.specs.Keys.{newline, comma}
use Rattle.session.specs.Print.{decimal_digits, decimal, key_line, answer_word, occupancy_field, refusal_line, output_line}
use Rattle.session.specs.Transcript.{is_event, all_events, task_in}
use Rattle.session_state.specs.declared.Phase.{Phase}
use Rattle.session_state.specs.declared.Phase.TheVariants.{Events}
use Rattle.session_state.specs.declared.Session.{Session}
use Rattle.session_state.specs.Handling.{reads_events, session_machine, with_machine, reply_effect, event_effect, phase_effect, line_effect}
use Rattle.timeline.specs.declared.Timeline.{Timeline}
use Rattle.timeline_rows.specs.Rows.{blank, figure, number_field, mark, stands_first, stands_second, column, task_columns, row_columns, row}
use Rattle.timeline_rows.specs.Columns.{one_more, counted, columns_of, heading_of}
use Rattle.timeline.specs.Lines.{front, count_after, TimelineEffect, after_line, timeline_line}

-- ---- lines are counted by their closing bytes

unfoldable pub newlines : List ℕ → ℕ
newlines [] = 0
newlines (x ∷ xs) = (if eqb x newline then 1 else 0) + newlines xs

newlines_both : (xs ys : List ℕ) → newlines (xs ++ ys) ≡ newlines xs + newlines ys
unfolding newlines
newlines_both [] ys = omega arith
newlines_both (x ∷ xs) ys =
    let n : ℕ = if eqb x newline then 1 else 0 in
    let e : newlines (xs ++ ys) ≡ newlines xs + newlines ys = newlines_both xs ys in
    let z : n + (newlines xs + newlines ys) ≡ n + newlines xs + newlines ys = omega arith in
    ap (λ (m : ℕ). n + m) e ∙ z

none_more : (x : ℕ) (xs : List ℕ) → eqb x newline ≡ false → newlines xs ≡ 0 → newlines (x ∷ xs) ≡ 0
unfolding newlines
none_more x xs e h = rw (e, h)

-- ---- a row's columns have none

figure_plain : (n : ℕ) → eqb (figure n) newline ≡ false
unfolding figure
figure_plain n = go (eqb n 0)
  where
    go : (b : Bool) → eqb (if b then blank else 48 + n % 10) newline ≡ false
    go true = refl
    go false = ne_eqb (48 + n % 10) newline (λ e. omega (arith, e))

mark_plain : (named : Bool) → eqb (mark named) newline ≡ false
unfolding mark
mark_plain true = refl
mark_plain false = refl

first_plain : (c : Task) → eqb (stands_first c) newline ≡ false
unfolding stands_first
first_plain c = go c.running
  where
    go : (b : Bool) → eqb (if b then figure (c.line / 10) else 46) newline ≡ false
    go true = figure_plain (c.line / 10)
    go false = refl

second_plain : (c : Task) → eqb (stands_second c) newline ≡ false
unfolding stands_second
second_plain c = go c.running
  where
    go : (b : Bool) → eqb (if b then figure c.line else blank) newline ≡ false
    go true = figure_plain c.line
    go false = refl

column_plain : (named : Bool) (c : Task) → newlines (column named c) ≡ 0
unfolding column newlines
column_plain named c = rw (mark_plain named, first_plain c, second_plain c)

columns_plain : (n j k : ℕ) (ts : List Task) → newlines (task_columns n j k ts) ≡ 0
unfolding task_columns newlines
columns_plain zero j k ts = refl
columns_plain (suc n) j k ts =
    let c = column (eqb j k) (get_or ts j idle) in
    newlines_both c (task_columns n (j + 1) k ts) ∙ omega (arith, column_plain (eqb j k) (get_or ts j idle), columns_plain n (j + 1) k ts)

number_plain : (n : ℕ) → newlines (number_field n) ≡ 0
unfolding number_field newlines
number_plain n =
    rw (figure_plain (n / 100000), figure_plain (n / 10000), figure_plain (n / 1000), figure_plain (n / 100), figure_plain (n / 10), figure_plain n)

-- ---- the session's line has one, at its end

digits_plain : (p n : ℕ) → newlines (decimal_digits p n) ≡ 0
unfolding decimal_digits newlines
digits_plain zero n = refl
digits_plain (suc p) n = go (digits_plain p (n / 10)) (ltb n 10) refl
  where
    front_digits : List ℕ
    front_digits = decimal_digits p (n / 10)

    last_digit : (d : ℕ) → newlines ((48 + d) ∷ []) ≡ 0
    last_digit d = none_more (48 + d) [] (ne_eqb (48 + d) newline (λ e. omega (arith, e))) refl

    go : newlines front_digits ≡ 0 → (b : Bool) → ltb n 10 ≡ b
        → newlines (if b then ((48 + n) ∷ []) else (front_digits ++ ((48 + n % 10) ∷ []))) ≡ 0
    go ih true e = last_digit n
    go ih false e = newlines_both front_digits ((48 + n % 10) ∷ []) ∙ omega (arith, ih, last_digit (n % 10))

decimal_plain : (n : ℕ) → newlines (decimal n) ≡ 0
unfolding decimal
decimal_plain n = digits_plain 20 n

word_plain : (a : Answer) → newlines (answer_word a) ≡ 0
unfolding answer_word newlines
word_plain Yes = refl
word_plain No = refl
word_plain Full = refl
word_plain Done = refl
word_plain Lost = refl
word_plain Limit = refl

field_plain : (full : Option ℕ) → newlines (occupancy_field full) ≡ 0
unfolding occupancy_field newlines
field_plain None = refl
field_plain (Some n) = newlines_both (comma ∷ []) (decimal n) ∙ omega (arith, decimal_plain n)

output_one_line : (k : ℕ) (o : Output) → newlines (output_line k o) ≡ 1
unfolding output_line refusal_line key_line newlines
output_one_line k (Ok (At l)) = simp newlines_both (omega (arith, decimal_plain k, decimal_plain l))
output_one_line k (Ok (End a own full)) =
    simp newlines_both (omega (arith, decimal_plain k, word_plain a, decimal_plain own, field_plain full))
output_one_line k (Err r) = simp newlines_both (omega (arith, decimal_plain (refusal_number r)))

pub row_is_one_line : (n tasks k : ℕ) (s : State) (o : Output) → newlines (row n tasks k s o) ≡ 1
unfolding row row_columns
row_is_one_line n tasks k s o =
    simp newlines_both (omega (arith, number_plain n, columns_plain (min tasks 8) 0 k s.task, output_one_line k o))

-- ---- an event's line

-- the row of event n: the session stands at s with these pools
unfoldable pub event_row : ℕ → Session → List ℕ → List ℕ → Event → List ℕ
event_row n s ns bs e = row n s.header.config.tasks (task_in e) s.state (event (session_machine s ns bs) e).out

-- a line printed the row of event e, and events are read on
pub record HasRow (t : Timeline) (ns bs : List ℕ) (e : Event) (d : TimelineEffect) : Type 0 where
  pub prints : d.prints ≡ event_row (one_more t.events) t.session ns bs e
  pub reading : d.timeline.session.phase ≡ Events
  pub events : d.timeline.events ≡ one_more t.events

module _ (t : Timeline) (ns bs : List ℕ) (l : InputLine) (reading : t.session.phase ≡ Events) where
  session_reads : line_effect t.session ns bs l ≡ event_effect (parse_event_line l) t.session ns bs
  unfolding line_effect phase_effect
  session_reads = ap (λ (p : Phase). phase_effect p t.session ns bs l) reading

  is_reading : reads_events t.session.phase ≡ true
  unfolding reads_events
  is_reading = ap reads_events reading

  -- no first row: the set was open before
  no_heading : (cols rest : List ℕ) (after : Session) → (heading_of (reads_events t.session.phase) after ++ cols) ++ rest ≡ cols ++ rest
  unfolding heading_of
  no_heading cols rest after = ap (λ (b : Bool). (heading_of b after ++ cols) ++ rest) is_reading

  pub start_row : (k : ℕ) (call : Call) (tag : ℕ) → parse_event_line l ≡ Some (Start k call tag)
      → HasRow t ns bs (starts k call tag) (timeline_line t ns bs l)
  unfolding timeline_line after_line event_effect reply_effect with_machine front count_after counted columns_of reads_events event_row row event task_in
  start_row k call tag e =
      let eq = ap (after_line (parse_event_line l) t) session_reads ∙ ap (λ (x : Option EventLine). after_line x t (event_effect x t.session ns bs)) e in
      let d = after_line (Some (Start k call tag)) t (event_effect (Some (Start k call tag)) t.session ns bs) in
      subst (HasRow t ns bs (starts k call tag)) (sym eq) (record { prints = no_heading _ _ _; reading = refl; events = refl })

  pub step_row : (k : ℕ) → parse_event_line l ≡ Some (Step k) → HasRow t ns bs (steps k) (timeline_line t ns bs l)
  unfolding timeline_line after_line event_effect reply_effect with_machine front count_after counted columns_of reads_events event_row row event task_in
  step_row k e =
      let eq = ap (after_line (parse_event_line l) t) session_reads ∙ ap (λ (x : Option EventLine). after_line x t (event_effect x t.session ns bs)) e in
      subst (HasRow t ns bs (steps k)) (sym eq) (record { prints = no_heading _ _ _; reading = refl; events = refl })

-- ---- the lines of an input

-- what they print, before the end of the input
unfoldable pub timeline_rows : Timeline → List ℕ → List ℕ → List InputLine → List ℕ
timeline_rows t ns bs [] = []
timeline_rows t ns bs (l ∷ ls) =
    let d = timeline_line t ns bs l in
    d.prints ++ timeline_rows d.timeline d.nodes d.buckets ls

-- a line that prints a row, and as many lines after it as there are events
row_and_rest : (t : Timeline) (ns bs rest : List ℕ) (e : Event) (d : TimelineEffect) (n : ℕ) → HasRow t ns bs e d → newlines rest ≡ n
    → newlines (d.prints ++ rest) ≡ suc n
unfolding event_row
row_and_rest t ns bs rest e d n h r =
    newlines_both d.prints rest ∙ omega (arith, ap newlines h.prints ∙ row_is_one_line _ _ _ _ _, r)

pub as_many_rows : (ls : List InputLine) (t : Timeline) (ns bs : List ℕ) → t.session.phase ≡ Events → all_events ls ≡ true
    → newlines (timeline_rows t ns bs ls) ≡ length ls
unfolding timeline_rows all_events is_event newlines
as_many_rows [] t ns bs p a = refl
as_many_rows (l ∷ ls) t ns bs p a =
    let d = timeline_line t ns bs l in
    let here = is_event (parse_event_line l) in
    go (parse_event_line l) refl (and_left here (all_events ls) a)
    (λ r. as_many_rows ls d.timeline d.nodes d.buckets r (and_right here (all_events ls) a))
  where
    d : TimelineEffect
    d = timeline_line t ns bs l

    rest : List ℕ
    rest = timeline_rows d.timeline d.nodes d.buckets ls

    go : (x : Option EventLine) → parse_event_line l ≡ x → is_event x ≡ true → (d.timeline.session.phase ≡ Events → newlines rest ≡ length ls)
        → newlines (d.prints ++ rest) ≡ suc (length ls)
    go (Some (Start k call tag)) e b ih =
        let h = start_row t ns bs l p k call tag e in
        row_and_rest t ns bs rest (starts k call tag) d (length ls) h (ih h.reading)
    go (Some (Step k)) e b ih =
        let h = step_row t ns bs l p k e in
        row_and_rest t ns bs rest (steps k) d (length ls) h (ih h.reading)
    go None e b ih = absurd (tf b refl)
