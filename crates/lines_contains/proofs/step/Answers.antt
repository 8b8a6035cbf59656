use Rattle.std.proofs.Common.{◌≡◌, ℕ, Bool, true, false, [], ◌∷◌, refl, sym, arith}
use Rattle.std.specs.Prelude.{if◌then◌else◌}
use Rattle.spec.specs.declared.Task.{Task}
use Rattle.spec.specs.Lists.{member}
use Rattle.spec.specs.Machine.{Machine, with_line, with_i, with_b}
use Rattle.spec.specs.Words.{filled}
use Rattle.spec.specs.Listed.{place_for}
use Rattle.spec.specs.Lines.{moves, line_12, line_13, line_16, line_17}
use Rattle.spec.specs.Entries.{step_running}
use Rattle.laws.specs.StepAt.{through, step_table, tested, tested_at, accepted}
use Rattle.lines.proofs.Running.{numbers, linked}
use Rattle.lines.proofs.Giving.{gives_as}
use Rattle.lines_contains.specs.Reads.{reads_bucket}
use Rattle.lines_contains.proofs.step.Goals as goal

-- lines 13, 16 and 17 as reads of a bucket's place
module _ (y : Machine) (c : Task) where
  reads : (node found missing : ℕ)
      → let b = place_for y node c.tag in reads_bucket y c node found c.i missing ≡ moves (with_line (if filled b then found else missing) (with_b b c))
  unfolding reads_bucket with_i with_b
  reads node found missing = go (filled (place_for y node c.tag))
    where
      go : (t : Bool) → let b = place_for y node c.tag in
          (if t then moves (with_line found (with_b b c)) else moves (with_line missing (with_i c.i (with_b b c))))
          ≡ moves (with_line (if t then found else missing) (with_b b c))
      go true = refl
      go false = refl

  same : (t : Bool) (l : ℕ) → (if t then l else l) ≡ l
  same true l = refl
  same false l = refl

  read-13 : c.line ≡ 13 → (k : ℕ) → tested (through c.t ∷ []) y k c (reads_bucket y c c.t 18 c.i 15) ≡ step_running y k c
  unfolding step_table line_13
  read-13 at k = rw (reads c.t 18 15) (sym (tested_at y c 13 at k refl))

  read-16 : c.line ≡ 16 → (k : ℕ) → tested (through c.s ∷ []) y k c (reads_bucket y c c.s 18 c.i 18) ≡ step_running y k c
  unfolding step_table line_16
  read-16 at k = rw (reads c.s 18 18, same (filled (place_for y c.s c.tag)) 18) (sym (tested_at y c 16 at k refl))

  read-17 : c.line ≡ 17 → (k : ℕ) → tested (through c.t ∷ []) y k c (reads_bucket y c c.t 18 c.i 18) ≡ step_running y k c
  unfolding step_table line_17
  read-17 at k = rw (reads c.t 18 18, same (filled (place_for y c.t c.tag)) 18) (sym (tested_at y c 17 at k refl))

-- ---- what each line asks

pub read_head-requires : goal.read_head-requires
read_head-requires c = let n = numbers c.requires in (n.number, n.head)

pub read_bucket-requires : goal.read_bucket-requires
read_bucket-requires c = (numbers c.requires).number

pub line15-requires : goal.line15-requires
line15-requires c = ((numbers c.requires).number, c.in-15.is)

pub read_bucket-requires-in-16 : goal.read_bucket-requires-in-16
read_bucket-requires-in-16 c = (numbers c.requires).number

pub read_bucket-requires-in-17 : goal.read_bucket-requires-in-17
read_bucket-requires-in-17 c = (numbers c.requires).number

-- the last is line 18, since no other of the procedure is left
pub line18-requires : goal.line18-requires
unfolding member
line18-requires c =
    let runs = c.requires in
    let l = linked runs _ runs.task.b in
    let at : c.args.c.line ≡ 18 = grind (arith, runs.at_line) in
    ((numbers runs).number, at, l.most, l.fits, l.good)

-- ---- what it gives

pub returns-in-12 : goal.returns-in-12
unfolding step_table line_12
returns-in-12 c = gives_as (sym (accepted _ _ 12 c.in-12.is _ tt tt)) (c.read_head.ensures _ _)

pub returns-in-13 : goal.returns-in-13
returns-in-13 c = gives_as (read-13 _ _ c.in-13.is _) (c.read_bucket.ensures _)

pub returns-in-16 : goal.returns-in-16
returns-in-16 c = gives_as (read-16 _ _ c.in-16.is _) (c.read_bucket-in-16.ensures _)

pub returns-in-17 : goal.returns-in-17
returns-in-17 c = gives_as (read-17 _ _ c.in-17.is _) (c.read_bucket-in-17.ensures _)
