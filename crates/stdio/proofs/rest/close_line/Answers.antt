-- `stdio::rest::close_line` meets its contract. Each call passes over a part of the line. Assumes nothing.
use Rattle.std.proofs.Math.Path.{refl, sym, ap, subst}
use Rattle.std.proofs.Common.{◌∙◌}
use native.Mathlib.Omega.{arith}
use Rattle.stdio.specs.declared.input.Input.{Input}
use Rattle.stdio.specs.LongLines.{Closes}
use Rattle.stdio.proofs.Closing.{Passing, passing_none, passing_call, passing_less, closes_at}
use Rattle.stdio.proofs.rest.close_line.Goals as goal

pub loop-q-init : goal.loop-q-init
loop-q-init g c =
    let a = c.args in
    let pre = c.requires in (
      subst (λ (q : Input). Passing a.p a.room.now q a.room.now) (sym c.resume-q.ensures)
          (passing_none a.p a.room.now _ pre.0 pre.1 (omega arith) (omega arith)),
      refl,
    )

pub next_line-t-requires : goal.next_line-t-requires
next_line-t-requires g c = c.loop-q.invariant.0.fits

pub loop-q-smaller : goal.loop-q-smaller
loop-q-smaller g c =
    let z = passing_less c.next_line-t.result _ c.next_line-t.ensures.fewer in
    let e = ap (λ (q : Input). q.left) c.pass-q.ensures in
    omega (arith, e, c.loop-q-test.true, z)

pub loop-q-preserved : goal.loop-q-preserved
loop-q-preserved g c =
    let a = c.args in
    let l = c.loop-q in
    let t = c.next_line-t in (
      passing_call a.p a.room.now c.requires.2 l.q l.room l.invariant.0 c.loop-q-test.true t.result _ t.ensures _ refl _ c.pass-q.ensures,
      t.auto.room ∙ l.invariant.1,
    )

pub returns : goal.returns
returns g c =
    let a = c.args in
    let l = c.loop-q in
    subst (λ (q : Input). Closes a.p a.room.now q l.room) (sym c.back.ensures)
    (closes_at a.p a.room.now l.q l.room c.loop-q-test.false l.invariant.0)
