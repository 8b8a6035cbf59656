-- `line_readers::text` meets its contract: each turn of the loop is one of any reader's (Loops of stdio), and it prints at its end. Assumes nothing.
use Rattle.std.proofs.Math.Path.{refl, sym}
use Rattle.std.proofs.Common.{rules, ◌∙◌}
use native.Mathlib.Omega.{arith}
use Rattle.session.specs.BufferLaws.{append_within}
use Rattle.stdio.specs.Loops.{begins, turn, turn_left}
use Rattle.stdio.specs.Runs.{prints_at_end}
use Rattle.line_readers.proofs.text.Goals as goal

pub loop-p-init : goal.loop-p-init
loop-p-init g c =
    let a = c.args in
    let R = g.R.LineReader in
    (begins R.answer _ _ (R.stands a.begin a.first.now a.second.now) _ _ c.begin-p.ensures refl, search rules)

pub next_line-q-requires : goal.next_line-q-requires
next_line-q-requires g c = c.loop-p.invariant.0.fits

pub loop-p-smaller : goal.loop-p-smaller
loop-p-smaller g c = turn_left _ _ _ _ _ _ c.loop-p-test.true c.next_line-q.ensures c.settle-p.ensures

pub loop-p-preserved : goal.loop-p-preserved
loop-p-preserved g c =
    let R = g.R.LineReader in (
      turn R.answer _ _ _ R.next g.met.R.LineReader.takes _ _ _ _ _ _ _ _ c.loop-p.invariant.0 c.loop-p-test.true c.next_line-q.ensures
          c.take_given-r.ensures (λ e. g.met.R.LineReader.decided _ _ _ (sym c.is_decided.ensures ∙ e)) c.settle-p.ensures,
      search rules,
    )

pub returns : goal.returns
returns g c =
    let l = c.loop-p in
    let f = c.finish-len in
    let fits = g.met.R.LineReader.short (g.R.LineReader.stands l.r l.first l.second) l.p in record {
      prints =
          prints_at_end g.R.LineReader.answer _ _ _ g.met.R.LineReader.outside _ _ _ l.invariant.1 c.loop-p-test.false l.invariant.0 _ _ _ f.ensures
          (omega (arith, fits, c.requires));
      len_in_bounds = omega (arith, append_within _ _ _ _ f.ensures);
    }
