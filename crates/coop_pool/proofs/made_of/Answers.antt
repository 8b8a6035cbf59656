-- Of the version's own tags.
use Rattle.std.proofs.Common.{◌∙◌, ap}
use Rattle.coop_pool.specs.Versions.{made}
use Rattle.coop_pool.proofs.Own.{few_own, own_ascend, own_tags}
use Rattle.coop_pool.proofs.made_of.Goals as goal

pub made_by-requires : goal.made_by-requires
made_by-requires c =
    let a = c.args in
    let v = c.requires in
    rw (own_tags a.vs.now a.k v c.load.result c.load.ensures) (few_own a.vs.now a.k v, own_ascend a.vs.now a.k v)

pub returns : goal.returns
returns c = let a = c.args in c.made_by.ensures ∙ ap (made a.op) (own_tags a.vs.now a.k c.requires c.load.result c.load.ensures)
