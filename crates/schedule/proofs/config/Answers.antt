-- T, then the version given, then the rule.
use Rattle.std.proofs.Common.{ap, ◌∙◌, not, eqb}
use Rattle.spec.specs.declared.Config.{Config}
use Rattle.spec.specs.Machine.{with_version, with_zero_withdrawn}
use Rattle.schedule.proofs.config.Goals as goal

pub returns : goal.returns
returns c =
    let a = c.args in
    let ruled : Config → Config = λ g. with_zero_withdrawn (not (eqb a.withdrawn 0)) g in
    let versioned = c.with_version-g.ensures ∙ ap (λ (g : Config). with_version a.version g) c.config.ensures in
    c.with_zero_withdrawn.ensures ∙ ap ruled versioned
