use Rattle.std.proofs.Common.{rules, arith, ◌≡◌, ◌∙◌, length, sym}
use Rattle.pool.proofs.Laws.{length_mapped}
use Rattle.coop_spec.specs.Sound.{sound_operation}
use Rattle.coop_sound.proofs.Laws.{every_on, every_no, every_end}
use Rattle.coop_sound.proofs.operations_ok.Goals as goal

pub returns-then-not-operation_ok : goal.returns-then-not-operation_ok
returns-then-not-operation_ok c =
    let ops = c.args.s.operation in
    let long : length ops ≡ 64 = search (rules, length_mapped) in
    sym (c.loop-op.invariant ∙ every_no sound_operation ops c.loop-op.op-index _ (omega arith) (sym c.if-not-operation_ok.ensures))

pub loop-op-preserved : goal.loop-op-preserved
loop-op-preserved c =
    let ops = c.args.s.operation in
    let long : length ops ≡ 64 = search (rules, length_mapped) in
    c.loop-op.invariant ∙ every_on sound_operation ops c.loop-op.op-index _ (omega arith) (sym c.if-not-operation_ok.ensures)

pub returns : goal.returns
returns c =
    let ops = c.args.s.operation in
    let long : length ops ≡ 64 = search (rules, length_mapped) in
    sym (c.loop-op.invariant ∙ every_end sound_operation ops c.loop-op.op-index (omega arith))
