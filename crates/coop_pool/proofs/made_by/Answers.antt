-- What the operation makes of a changeable bucket with the same tags.
use Rattle.std.proofs.Common.{◌∙◌, ap}
use Rattle.bucket.specs.Bucket.{tags_in}
use Rattle.coop_pool.proofs.Making.{made_from, makes}
use Rattle.coop_pool.proofs.made_by.Goals as goal

pub returns : goal.returns
returns c =
    let m = makes c.args.op (tags_in c.args.b.words) c.requires.0 c.requires.1 c.opened.result c.opened.ensures in
    c.freeze.ensures ∙ (ap made_from c.changed_by.ensures ∙ m)
