-- `line_printers::read` meets its contract: each turn of the loop takes what a call gave (Streams of stdio). Assumes nothing.
use Rattle.std.proofs.Math.Path.{refl, sym, subst}
use Rattle.std.proofs.Common.{rules, ◌≤◌, ◌+◌, ◌*◌, ◌∙◌, length, if◌then◌else◌}
use native.Mathlib.Omega.{arith}
use Rattle.stdio.specs.Inputs.{is_line}
use Rattle.stdio.specs.Readers.{after_call}
use Rattle.stdio.specs.Loops.{turn_left}
use Rattle.stdio.specs.Passing.{passed_left}
use Rattle.stdio.specs.Streams.{printed_by, stream_begins, room_for_call, stream_turn}
use Rattle.line_printers.proofs.Laws.{known_given, spent_by}
use Rattle.line_printers.proofs.read.Goals as goal

pub loop-p-init : goal.loop-p-init
loop-p-init g c =
    let a = c.args in
    let R = g.R.LinePrinter in
    let x₀ = R.stands a.begin a.first.now a.second.now in (
      stream_begins R.prints_on R.next R.prints g.met.R.LinePrinter.lines R.each R.last a.reads a.room.now x₀ (R.once x₀) (g.met.R.LinePrinter.few x₀)
          _ _ a.out.now c.begin-p.ensures refl c.requires.room,
      c.requires.known,
      refl,
      refl,
      search rules,
    )

pub next_line-q-requires : goal.next_line-q-requires
next_line-q-requires g c = c.loop-p.invariant.0.follows.fits

pub take_given-t-requires : goal.take_given-t-requires
take_given-t-requires g c =
    let l = c.loop-p in
    let n = c.next_line-q in
    let R = g.R.LinePrinter in
    let s = R.stands l.r l.first l.second in
    let lent : R.each * length n.new.room + R.last ≤ length l.out = rw (n.auto.room ∙ l.invariant.2, l.invariant.3) c.requires.room in
    let fits =
    room_for_call R.prints_on R.next R.prints g.met.R.LinePrinter.lines R.each R.last c.args.reads c.args.room.now _ _
    (R.once (after_call R.next s n.result)) l.p l.room s l.due l.out l.invariant.0 c.loop-p-test.true n.result _ n.ensures lent
    (spent_by R.prints_on R.next R.prints s n.result R.knows l.invariant.1 R.each R.once g.met.R.LinePrinter.spends) in
    record { known = l.invariant.1; room = omega (arith, fits) }

pub pass_on-w-requires : goal.pass_on-w-requires
pass_on-w-requires g c =
    let l = c.loop-p in
    let n = c.next_line-q in
    let t = c.take_given-t in
    let R = g.R.LinePrinter in
    let s = R.stands l.r l.first l.second in
    let lent : R.each * length n.new.room + R.last ≤ length l.out = rw (n.auto.room ∙ l.invariant.2, l.invariant.3) c.requires.room in
    let fits =
    room_for_call R.prints_on R.next R.prints g.met.R.LinePrinter.lines R.each R.last c.args.reads c.args.room.now _ _
    (R.once (after_call R.next s n.result)) l.p l.room s l.due l.out l.invariant.0 c.loop-p-test.true n.result _ n.ensures lent
    (spent_by R.prints_on R.next R.prints s n.result R.knows l.invariant.1 R.each R.once g.met.R.LinePrinter.spends) in
    omega (arith, t.ensures.counted, fits, t.auto.out)

pub loop-p-smaller : goal.loop-p-smaller
loop-p-smaller g c =
    let less = turn_left _ _ _ _ _ _ c.loop-p-test.true c.next_line-q.ensures c.settle-d.ensures in
    omega (arith, less, passed_left _ _ _ c.pass_on-w.ensures)

pub loop-p-preserved : goal.loop-p-preserved
loop-p-preserved g c =
    let a = c.args in
    let l = c.loop-p in
    let t = c.take_given-t in
    let n = c.next_line-q in
    let R = g.R.LinePrinter in
    let s = R.stands l.r l.first l.second in
    let s' = R.stands t.result.state t.new.first t.new.second in
    let kept = n.auto.room ∙ l.invariant.2 in
    let lent : R.each * length n.new.room + R.last ≤ length l.out = rw (kept, l.invariant.3) c.requires.room in
    let stood = sym t.ensures.stands in
    let spent = subst (λ x. length (printed_by R.prints_on R.next R.prints s n.result) + R.once x ≤ R.once s + (if is_line n.result.given then R.each else 0))
    stood (spent_by R.prints_on R.next R.prints s n.result R.knows l.invariant.1 R.each R.once g.met.R.LinePrinter.spends) in (
      stream_turn R.prints_on R.next R.prints g.met.R.LinePrinter.lines R.each R.last a.reads a.room.now _ _ (R.once s') l.p l.room s l.due l.out
          l.invariant.0 c.loop-p-test.true n.result _ n.ensures s' t.result.printed _ t.ensures t.auto.out lent (g.met.R.LinePrinter.few s') spent
          c.is_decided.result (λ e ls. g.met.R.LinePrinter.decided _ _ _ (sym c.is_decided.ensures ∙ e) ls)
          c.settle-d.result c.settle-d.ensures c.pass_on-w.result c.pass_on-w.ensures,
      subst R.knows stood (known_given R.prints_on R.next R.prints s n.result R.knows l.invariant.1 g.met.R.LinePrinter.known),
      kept,
      t.auto.out ∙ l.invariant.3,
      search rules,
    )

pub returns : goal.returns
returns g c =
    let l = c.loop-p in
    record { streamed = l.invariant.0; known = (l.invariant.1, c.loop-p-test.false, l.invariant.4) }
