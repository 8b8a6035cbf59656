-- `lines_gather::line49` meets its contract: refused through an empty place, for a 65th tag and where every bucket is held; else the new
-- bucket is stored. Assumes nothing.
use Rattle.std.proofs.Common.{◌≡◌, ◌≤◌, ◌-◌, ◌*◌, refl, sym, ap, ◌∙◌, arith, List, ℕ}
use Rattle.std.specs.Prelude.{Some, None}
use Rattle.spec.specs.declared.Task.{Task}
use Rattle.spec.specs.declared.State.{State}
use Rattle.spec.specs.Machine.{with_line, with_new_bucket, with_state, with_buckets, with_last_bucket, state_last_bucket, machine_of}
use Rattle.spec.specs.Words.{overwrite, apply, link}
use Rattle.spec.specs.Held.{free_bucket}
use Rattle.spec.specs.Lines.{moves, gathered, line_49}
use Rattle.spec.specs.Entries.{Reply, accept}
use Rattle.laws.specs.StepAt.{AllPass, here, next, tests_at, step_table}
use Rattle.pool.proofs.Facts.{numbers_of, link_of}
use Rattle.pool.proofs.At.{store_here}
use Rattle.held.proofs.Taking.{bucket_sound}
use Rattle.lines.proofs.Settling.{over_last_bucket}
use Rattle.lines.proofs.Taking.{free_bucket_in}
use Rattle.lines.proofs.Giving.{refuses_8, refuses_7, goes}
use Rattle.lines_gather.specs.Made.{Makes}
use Rattle.lines_gather.proofs.line49.Goals as goal
use Rattle.lines_gather.proofs.line49.Goals.{then-c-eq0-via-then-c-eq0, then-c-eq0-via-else-c-eq0+then-c-eq0-2}

-- the task goes on with this bucket taken, by its number, and these words in the pool
abbrev takes : State → ℕ → Task → List ℕ → ℕ → List ℕ → Reply
takes s k c ns n v = accept (machine_of (state_last_bucket n s) ns v) k c.own (moves (with_line 50 (with_new_bucket (link n) c)))

pub returns-then-c-eq0 : goal.returns-then-c-eq0
unfolding step_table
returns-then-c-eq0 c = elim c.then-c-eq0.branch [
  | then-c-eq0-via-then-c-eq0 w ↦ refuses_8 _ _ 49 c.requires.1 (here w.if-c-eq0.true) c.refused.ensures
  | then-c-eq0-via-else-c-eq0+then-c-eq0-2 w ↦ refuses_8 _ _ 49 c.requires.1 (next (here w.if-c-eq0-2.true)) c.refused.ensures
]

pub new_bucket_of-requires : goal.new_bucket_of-requires
new_bucket_of-requires c =
    let a = c.args in
    let y = machine_of a.s a.ns.now a.bs.now in
    let there = c.if-c-eq0-2.false in
    let m = link_of y c.requires.2 a.c.m c.requires.3 in
    let n = link_of y c.requires.2 a.c.n c.requires.4 in
    (omega (arith, there), m.most, n.most, m.fits, n.fits, m.good (omega (arith, there)), n.good)

pub returns-in_default : goal.returns-in_default
unfolding step_table
returns-in_default c =
    let a = c.args in
    let over : Makes None (gathered (machine_of a.s a.ns.now a.bs.now) a.c) = c.in_default.ensures a.s refl in
    refuses_8 (machine_of a.s a.ns.now a.bs.now) a.c 49 c.requires.1 (next (next (here over))) c.refused-in_default.ensures

pub returns-in_default-free_bucket_of : goal.returns-in_default-free_bucket_of
unfolding step_table
returns-in_default-free_bucket_of c =
    let a = c.args in
    let y = machine_of a.s a.ns.now a.bs.now in
    let made : Makes (Some c.in-Some.made) (gathered y a.c) = c.in-Some.ensures a.s refl in
    let passed : AllPass (tests_at 49 y a.c) = (c.if-c-eq0.false, (c.if-c-eq0-2.false, made.0)) in
    let free = c.in_default-free_bucket_of.ensures a.bs.now ∙ bucket_sound y c.requires.2 in
    refuses_7 y a.c 49 c.requires.1 passed (here (sym free)) c.refused-in_default-free_bucket_of.ensures

-- a link is at most the number of buckets
pub overflow_add-new_bucket : goal.overflow_add-new_bucket
overflow_add-new_bucket c =
    let a = c.args in
    let y = machine_of a.s a.ns.now a.bs.now in
    let is = c.in-Some-free_bucket_of.ensures a.bs.now ∙ bucket_sound y c.requires.2 in
    let numbers = numbers_of y c.requires.2 in
    let low = free_bucket_in y (omega arith) in
    omega (arith, is, low)

pub returns : goal.returns
unfolding step_table line_49 accept apply with_last_bucket with_buckets with_state state_last_bucket with_new_bucket
returns c =
    let a = c.args in
    let y = machine_of a.s a.ns.now a.bs.now in
    let made : Makes (Some c.in-Some.made) (gathered y a.c) = c.in-Some.ensures a.s refl in
    let passed : AllPass (tests_at 49 y a.c) = (c.if-c-eq0.false, (c.if-c-eq0-2.false, made.0)) in
    let free : ℕ = c.in-Some-free_bucket_of.f in
    let is : link free ≡ free_bucket y = c.in-Some-free_bucket_of.ensures a.bs.now ∙ bucket_sound y c.requires.2 in
    let number_is : link free - 1 ≡ free = omega arith in
    let numbers = numbers_of y c.requires.2 in
    let low : link free ≤ a.s.buckets = rw is (free_bucket_in y (omega arith)) in
    let stored = c.store_at.ensures ∙ store_here a.bs.now free (omega (arith, low)) _ ∙ ap (overwrite a.bs.now (66 * free)) made.1 in
    goes y a.c 49 c.requires.1 passed (λ z. absurd (omega (arith, is, z))) c.go.ensures.1
    (over_last_bucket free a.s a.k c.go.result _ _ c.go.ensures.1
    (c.go.ensures.0 _ c.store_at.new.pool ∙ ap (λ (v : List ℕ). takes a.s a.k a.c a.ns.now free v) stored)
    ∙ rw (← is, number_is))
