-- The scan over the part of the pools.
use Rattle.std.proofs.Common.{ap, ◌∙◌}
use Rattle.spec.specs.Sound.{sound}
use Rattle.soundness.proofs.Laws.{told_is_some}
use Rattle.session_machine.proofs.Laws.{same_part}
use Rattle.session_machine.proofs.is_sound.Goals as goal

pub returns : goal.returns
returns c =
    let p = c.args in
    let a = c.node_extent-a in
    let b = c.bucket_extent-b in
    c.is_some.ensures ∙ told_is_some _ _ c.check.ensures
    ∙ ap sound (same_part p.h p.ns.now p.bs.now a.result b.result a.ensures.0 b.ensures.0 p.m)
