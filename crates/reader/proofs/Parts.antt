-- What the functions leave in the lent pools, over plain lists and numbers: a reader of the definitions put back where no word is changed, after
-- a line that is compared, and after an event. Assumes nothing.
use Rattle.std.specs.Prelude.{if◌then◌else◌}
use mathlib.Core.Path.{◌≡◌, refl, sym, ap, subst, ◌∙◌}
use mathlib.Core.List.{List}
use mathlib.Core.Bool.{Bool, true, false}
use Prim.Native.Nat.{ℕ, suc, ◌≤◌, min}
use native.Mathlib.Omega.{arith}
use lib.ListN.{take-append-drop}
use Rattle.spec.specs.Outputs.{Output}
use Rattle.spec.specs.declared.State.{State}
use Rattle.spec.specs.Schedule.{Event, event}
use Rattle.lines.specs.declared.Stepped.{Stepped}
use Rattle.session.specs.Grammar.{closed_line, equals}
use Rattle.session.specs.Transcript.{task_in}
use Rattle.session_pools.specs.PoolParts.{node_extent, bucket_extent}
use Rattle.session_machine.specs.Parts.{part_machine, Replied}
use Rattle.recording.specs.declared.ReaderPhase.{ReaderPhase}
use Rattle.recording.specs.declared.ReaderPhase.TheVariants.{Printed, Decided}
use Rattle.recording.specs.declared.Verdict.{Verdict}
use Rattle.recording.specs.declared.Verdict.TheVariants.{Differs}
use Rattle.recording.specs.Recording.{close}
use Rattle.recording.specs.Verdict.{as_printed, fails, compare_line}
use Rattle.recording.specs.Reader.{reader, moved, decided as decided-by, after_comparing as compared-by, run_event}
use Rattle.reader_state.specs.declared.Reader.{Reader}
use Rattle.reader_state.specs.Standing.{most_lines, next_number, reader_of, with_part, LineRead, line_read, put_back, decided, after_comparing, ReadAs}

-- ---- no word is changed

pub read_as : (d : LineRead) (r r' : Reader) (ns bs : List ℕ) → r ≡ r' → ReadAs d r' ns bs → ReadAs d r ns bs
read_as d r r' ns bs e h = subst (λ (x : Reader). ReadAs d x ns bs) (sym e) h

pub kept_as : (r : Reader) (ns bs : List ℕ) → ReadAs (line_read r ns bs) r ns bs
kept_as r ns bs = record { next = refl; nodes = refl; buckets = refl }

module _ (r : Reader) (ns bs : List ℕ) where
  words_kept : (phase : ReaderPhase) (n n' : ℕ) → n' ≡ min n most_lines
      → ReadAs (put_back (reader phase r.header (with_part r ns bs).machine n) ns bs) (reader_of phase r.header r.state n') ns bs
  unfolding put_back with_part
  words_kept phase n n' e =
      record {
        next = ap (reader_of phase r.header r.state) e;
        nodes = sym (take-append-drop (node_extent r.header ns) ns);
        buckets = sym (take-append-drop (bucket_extent r.header bs) bs);
      }

  moved_back : (phase : ReaderPhase) → ReadAs (put_back (moved phase (with_part r ns bs).machine (with_part r ns bs)) ns bs)
      (reader_of phase r.header r.state (next_number r.number)) ns bs
  unfolding moved with_part next_number
  moved_back phase = words_kept phase (suc r.number) (next_number r.number) refl

  module _ (fits : r.number ≤ most_lines) where
    -- the answer is given
    pub decided_back : (v : Verdict) → ReadAs (put_back (decided-by v (with_part r ns bs)) ns bs) (decided v r) ns bs
    unfolding decided-by decided with_part
    decided_back v = words_kept (Decided v) r.number r.number (omega arith)

    -- a line that is compared with p
    pub compared_back : (p l : List ℕ) (phase : ReaderPhase)
        → ReadAs (put_back (compared-by (compare_line r.number p (closed_line l)) phase (with_part r ns bs)) ns bs)
        (after_comparing (equals p (close l)) phase r) ns bs
    unfolding compare_line compared-by after_comparing
    compared_back p l phase = go (equals p (close l))
      where
        go : (b : Bool) → ReadAs (put_back (compared-by (if b then as_printed else fails (Differs r.number)) phase (with_part r ns bs)) ns bs)
            (if b then reader_of phase r.header r.state (next_number r.number) else decided (Differs r.number) r) ns bs
        go true = moved_back phase
        go false = decided_back (Differs r.number)

-- ---- an event, and what it answers
pub runs : (r : Reader) (ns bs : List ℕ) (e : Event) (d : Stepped) (n' b' : List ℕ) (number : ℕ)
    → Replied (event (part_machine r.state r.header ns bs) e) d r.header ns bs n' b' → number ≡ next_number r.number
    → ReadAs (put_back (run_event e (with_part r ns bs)) ns bs) (reader_of (Printed (task_in e) d.out) r.header d.state number) n' b'
unfolding run_event moved with_part next_number put_back
runs r ns bs e d n' b' number p f =
    let y = event (part_machine r.state r.header ns bs) e in
    record {
      next =
          ap (λ (o : Output). reader_of (Printed (task_in e) o) r.header d.state number) p.out
          ∙ ap (λ (m : State). reader_of (Printed (task_in e) y.out) r.header m number) p.state
          ∙ ap (reader_of (Printed (task_in e) y.out) r.header y.machine.state) f;
      nodes = p.nodes;
      buckets = p.buckets;
    }
