-- The version's own tags, which ascend.
use Rattle.std.proofs.Common.{◌∙◌}
use Rattle.pool.proofs.At.{found_at}
use Rattle.coop_pool.proofs.has.Goals as goal

pub returns : goal.returns
returns c =
    let a = c.args in
    let v = c.requires in
    c.has_at.ensures ∙ found_at a.vs.now a.k v.few v.fits a.tag v.up
