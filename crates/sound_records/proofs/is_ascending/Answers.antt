use Rattle.std.proofs.Common.{◌≡◌, sym, ap, ◌∙◌, arith, ℕ, eqb}
use Rattle.sound_records.proofs.Counts.{falls, falls_pass, falls_fail, falls_end, ascending_falls}
use Rattle.sound_records.proofs.is_ascending.Goals as goal
use Rattle.sound_records.proofs.is_ascending.Goals.{then-s-i, else-s-i}

pub loop-i-preserved : goal.loop-i-preserved
loop-i-preserved c =
    let s = c.args.s.now in
    let i = c.loop-i.i in
    elim c.if-s-i.branch [
      | then-s-i w ↦ (omega arith, omega (arith, falls_fail s i (omega arith) (omega arith) w.if-s-i.true))
      | else-s-i w ↦ (omega arith, omega (arith, falls_pass s i (omega arith) (omega arith) w.if-s-i.false))
    ]

pub returns : goal.returns
returns c =
    let s = c.args.s.now in
    let e : c.loop-i.bad ≡ falls s = omega (arith, falls_end s c.loop-i.i (omega arith)) in
    ap (λ (x : ℕ). eqb x 0) e ∙ sym (ascending_falls s)
