-- The words are stored in the version's place, and the state names it.
use Rattle.std.proofs.Common.{◌*◌, ◌∙◌, ℕ, List, ap}
use Rattle.spec.specs.Words.{overwrite}
use Rattle.pool.proofs.At.{store_here}
use Rattle.coop_spec.specs.Machine.{machine_of, with_node, with_versions}
use Rattle.coop_spec.specs.Words.{apply}
use Rattle.coop_pool.proofs.install.Goals as goal

pub returns : goal.returns
unfolding apply with_versions
returns c =
    let a = c.args in
    let vs = a.vs.now in
    λ ts e.
    let words = c.store_at.ensures ∙ store_here vs a.k c.requires a.v ∙ ap (λ (l : List ℕ). overwrite vs (66 * a.k) l) e in
    c.with_node.ensures _ ∙ ap (λ (l : List ℕ). with_node a.k (machine_of a.s l)) words
