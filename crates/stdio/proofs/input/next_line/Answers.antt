-- Bytes at hand, or a read.
use Rattle.std.proofs.Common.{refl, sym, ap, ◌∙◌, not, arith}
use Rattle.stdio.specs.Loops.{never}
use Rattle.stdio.proofs.Laws.{gives_at_hand, gives_read, gives_ended, gives_failed, gives_no_more}
use Rattle.stdio.proofs.input.next_line.Goals as goal

pub returns-then-p-lt2 : goal.returns-then-p-lt2
returns-then-p-lt2 g c = gives_no_more c.args.p c.args.room.now _ c.begun.ensures _ c.over.result c.requires c.if-p-lt2.true c.over.ensures

pub returns-then-p : goal.returns-then-p
returns-then-p g c =
    gives_at_hand c.args.p c.args.room.now _ c.begun.ensures _ c.taken.result c.if-p.true refl (omega (arith, c.if-p-lt2.false)) c.taken.ensures

pub returns-then-not-p : goal.returns-then-not-p
returns-then-not-p g c =
    gives_ended c.args.p c.args.room.now _ c.begun.ensures _ _ c.over-then-not-p.result (omega (arith, c.if-p-lt2.false)) c.if-p.false (λ z. refl)
    c.over-then-not-p.ensures

pub returns-in-Err : goal.returns-in-Err
returns-in-Err g c =
    gives_failed c.args.p c.args.room.now _ c.begun.ensures _ _ c.over-in-Err.result c.if-p.false c.if-not-p.false c.over-in-Err.ensures

pub returns-in-Ok-eq0 : goal.returns-in-Ok-eq0
returns-in-Ok-eq0 g c =
    gives_ended c.args.p c.args.room.now _ c.begun.ensures _ _ c.over-in-Ok-eq0.result (omega (arith, c.if-p-lt2.false)) c.if-p.false
    (λ z. never (sym c.if-not-p.false ∙ ap not z)) c.over-in-Ok-eq0.ensures

pub returns-in-Ok : goal.returns-in-Ok
returns-in-Ok g c =
    gives_read c.args.p c.args.room.now _ c.begun.ensures _ _ _ c.taken-in-Ok.result refl (omega (arith, c.if-p-lt2.false)) c.if-p.false
    c.if-not-p.false c.taken-in-Ok.ensures
