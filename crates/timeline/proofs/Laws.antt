-- Laws of the rows that the proofs of the functions cite, in the form in which loops and branches use them. Assumes nothing.
use Rattle.std.specs.Prelude.{Option}
use mathlib.Core.Path.{◌≡◌, refl, ap, subst, ◌∙◌}
use mathlib.Core.List.{List, [], ◌++◌}
use mathlib.Core.Bool.{Bool, true, false}
use Prim.Native.Nat.{ℕ, suc, ◌+◌, ◌-◌, ◌<◌, ◌≤◌, min}
use native.Mathlib.Omega.{arith}
use borrow.Author.Tests.{lt-leb}
use lib.Dec.{eqb}
use lib.ListN.{length, get_or, take}
use Rattle.spec.specs.declared.Task.{Task}
use Rattle.spec.specs.Machine.{idle}
use Rattle.session.specs.declared.EventLine.{EventLine}
use Rattle.session.specs.Buffer.{Buffer, buffer, append}
use Rattle.session.specs.BufferLaws.{append_both, append_written, append_within, written_whole}
use Rattle.session.specs.Grammar.{InputLine, closed_line, open_line, admissible, parse_event_line}
use Rattle.session_state.specs.declared.Session.{Session}
use Rattle.session_state.specs.declared.Handled.{Handled}
use Rattle.session_state.specs.Handling.{LineEffect, LineHandled, line_effect, end_effect}
use Rattle.session_lines.specs.LinesOutside.{outside_same}
use Rattle.session_lines.specs.OutputBounds.{line_bound}
use Rattle.session_bytes.proofs.Laws.{append_2}
use Rattle.timeline.specs.declared.Timeline.{Timeline}
use Rattle.timeline.specs.declared.Taken.{Taken}
use Rattle.timeline.specs.Lines.{timeline, taken, front, count_after, after_line, timeline_line, timeline_end, TakenAs, EndedBy}
use Rattle.timeline_rows.specs.Rows.{column, task_columns, task_name, task_names, event_word, answer_word, heading}

-- ---- the columns from task j on, of the n tasks that have one

pub columns_on : (n j k : ℕ) (ts : List Task) (t : Buffer) → j < n
    → append (task_columns (n - j) j k ts) t ≡ append (task_columns (n - (j + 1)) (j + 1) k ts) (append (column (eqb j k) (get_or ts j idle)) t)
unfolding task_columns
columns_on n j k ts t h =
    let e : n - j ≡ suc (n - (j + 1)) = omega arith in
    rw e (append_both _ _ t)

pub columns_end : (n j k : ℕ) (ts : List Task) (t : Buffer) → n ≤ j → append (task_columns (n - j) j k ts) t ≡ t
unfolding task_columns append
columns_end n j k ts t h =
    let e : n - j ≡ 0 = omega arith in
    rw e

pub ruleset columns = (columns_on, columns_end)

-- ---- likewise the names in the first row

pub names_on : (n j : ℕ) (t : Buffer) → j < n
    → append (task_names (n - j) j) t ≡ append (task_names (n - (j + 1)) (j + 1)) (append (task_name j) t)
unfolding task_names
names_on n j t h =
    let e : n - j ≡ suc (n - (j + 1)) = omega arith in
    rw e (append_both _ _ t)

pub names_end : (n j : ℕ) (t : Buffer) → n ≤ j → append (task_names (n - j) j) t ≡ t
unfolding task_names append
names_end n j t h =
    let e : n - j ≡ 0 = omega arith in
    rw e

pub ruleset names = (names_on, names_end)

pub heading_parts : (tasks : ℕ) (t : Buffer) → append (heading tasks) t ≡ append answer_word (append (task_names (min tasks 8) 0) (append event_word t))
unfolding heading
heading_parts tasks t =
    append_both (event_word ++ task_names (min tasks 8) 0) answer_word t
    ∙ ap (append answer_word) (append_both event_word (task_names (min tasks 8) 0) t)

-- ---- a line

module _ (t : Timeline) (ns bs : List ℕ) (l : InputLine) (d : Handled) (n' b' w w' : List ℕ)
    (h : LineHandled (line_effect t.session ns bs l) d n' b' w w') (room : length w ≡ 128) where
  -- what the session prints is kept whole
  printed_whole : take d.printed w' ≡ (line_effect t.session ns bs l).prints
  printed_whole =
      let p = (line_effect t.session ns bs l).prints in
      (written_whole p w w' d.printed (append_written p w w' d.printed h.wrote) (omega (arith, line_bound t.session ns bs l, room))).1

  pub printed_within : d.printed ≤ 128
  printed_within = omega (arith, append_within _ w w' d.printed h.wrote, room)

  -- the row's columns, and then that
  pub takes : (x : Option EventLine) (before middle after : List ℕ) (f e k : ℕ) (r : Taken) → x ≡ parse_event_line l
      → buffer middle f ≡ append (front x t d.session) (buffer before 0) → buffer after e ≡ append (take d.printed w') (buffer middle f)
      → k ≡ count_after x t d.session → r ≡ taken (timeline d.session k) e
      → TakenAs (timeline_line t ns bs l) r n' b' before after
  unfolding timeline_line after_line
  takes x before middle after f e k r same fronts copied counts gives =
      let p = line_effect t.session ns bs l in
      record {
        next = ap (λ (q : Taken). q.timeline) gives ∙ cc (counts, h.next, same);
        nodes = h.nodes;
        buckets = h.buckets;
        wrote = ap (λ (q : Taken). buffer after q.printed) gives
            ∙ append_2 (front x t d.session) (take d.printed w') (buffer before 0) (buffer middle f) (buffer after e) fronts copied
            ∙ ap (λ (q : List ℕ). append (front x t d.session ++ q) (buffer before 0)) printed_whole
            ∙ ap (λ (s : Session). append (front x t s ++ p.prints) (buffer before 0)) h.next
            ∙ ap (λ (y : Option EventLine). append (front y t p.session ++ p.prints) (buffer before 0)) same;
      }

-- ---- the end of the input

module _ (t : Timeline) (ns bs : List ℕ) (closed : Bool) (d : Handled) (n' b' before after : List ℕ) where
  pub ends_closed : closed ≡ true → LineHandled (end_effect t.session ns bs) d n' b' before after
      → EndedBy (timeline_end t closed ns bs) d.printed n' b' before after
  unfolding timeline_end
  ends_closed e h = rw e (record { nodes = h.nodes; buckets = h.buckets; wrote = h.wrote })

  -- a last line that is not closed is as one that is too long
  pub ends_open : (long : List ℕ) → closed ≡ false → 40 < length long → LineHandled (line_effect t.session ns bs (closed_line long)) d n' b' before after
      → EndedBy (timeline_end t closed ns bs) d.printed n' b' before after
  unfolding timeline_end admissible
  ends_open long e l h =
      let same = outside_same (closed_line long) (open_line []) (lt-leb _ _ l) refl t.session ns bs in
      let g = subst (λ (q : LineEffect). LineHandled q d n' b' before after) same h in
      rw e (record { nodes = g.nodes; buckets = g.buckets; wrote = g.wrote })
